-- The pieces of a here document are of whole characters where its body is.
use Rattle.std.proofs.Common.{◌≡◌, refl, ℕ, ◌<◌, Bool, true, false, ◌==◌, if◌then◌else◌, List, [], ◌∷◌, ◌++◌, append-nil, arith}
use Rattle.std.specs.Prelude.{IsUtf8}
use Rattle.std.specs.List.{list_all}
use Rattle.std.specs.Str.{chars, is_utf8}
use Rattle.std.proofs.lemmas.Bool.{and_parts, and_from}
use Rattle.std.proofs.lemmas.Bool.Decides.{nat_tests}
use Rattle.std.proofs.lemmas.Str.{IsUtf8-append, IsUtf8-nil, is_utf8-from_IsUtf8, scalars-chars}
use lib.Utf8.{encode, scalar, scalars}
use Rattle.rc_model.specs.Syntax.Tokens.{is_name_char}
use Rattle.rc_model.specs.Syntax.Tree.{Node, Many, none, more, snoc}
use Rattle.rc_model.specs.Syntax.Tree as t
use Rattle.rc_model.specs.Syntax.HereDocs.{PieceSoFar, Plain, Dollar, Naming, with_text, piece_begun_by, begun_after, ended_by, with_last, pieces_from, pieces_of}
use Rattle.rc_model.specs.Handed.TreeSpelling.{has_characters, all_in_many}
use Rattle.law_image.proofs.Texts.{ascii}

-- so is each of several
abbrev pub all_have : {s : t.Sort} → Many s → Bool
all_have ns = all_in_many is_utf8 (λ n. true) ns

one_char : (c : ℕ) → scalar c ≡ true → IsUtf8 (encode c)
one_char c z = (c ∷ [], (and_from (scalar c) true z refl, append-nil (encode c)))

name_char : (c : ℕ) → is_name_char c ≡ true → c < 128
name_char c e = grind (arith, nat_tests)

-- a name that isn't quoted
pub name_utf8 : (name : List ℕ) → list_all is_name_char name ≡ true → IsUtf8 name
name_utf8 [] h = IsUtf8-nil
name_utf8 (c ∷ cs) h =
    let k = and_parts (is_name_char c) (list_all is_name_char cs) h in
    IsUtf8-append (c ∷ []) cs (ascii c (name_char c k.0)) (name_utf8 cs k.1)

-- the text of what has begun
abbrev IsBegunWhole : PieceSoFar → Type 0
IsBegunWhole (Plain text) = IsUtf8 text
IsBegunWhole (Dollar text) = IsUtf8 text
IsBegunWhole (Naming name) = IsUtf8 name

begun_either : (q : Bool) (a b : PieceSoFar) → IsBegunWhole a → IsBegunWhole b → IsBegunWhole (if q then a else b)
begun_either true a b v w = v
begun_either false a b v w = w

begun_by_whole : (c : ℕ) → scalar c ≡ true → IsBegunWhole (piece_begun_by c)
begun_by_whole c z = begun_either (c == 36) (Dollar []) (Plain (encode c)) IsUtf8-nil (one_char c z)

with_dollar : (text rest : List ℕ) → IsUtf8 text → IsUtf8 rest → IsUtf8 (text ++ 36 ∷ rest)
with_dollar text rest v w = IsUtf8-append text (36 ∷ rest) v (IsUtf8-append (36 ∷ []) rest (ascii 36 (omega arith)) w)

after_whole : (b : PieceSoFar) (c : ℕ) → IsBegunWhole b → scalar c ≡ true → IsBegunWhole (begun_after b c)
after_whole (Plain text) c w z = begun_either (c == 36) (Dollar text) (Plain (text ++ encode c)) w (IsUtf8-append text (encode c) w (one_char c z))
after_whole (Dollar text) c w z =
    begun_either (is_name_char c) (Naming (encode c)) (if c == 36 then Plain (text ++ 36 ∷ []) else Plain (text ++ 36 ∷ encode c)) (one_char c z)
    (begun_either (c == 36) (Plain (text ++ 36 ∷ [])) (Plain (text ++ 36 ∷ encode c)) (with_dollar text [] w IsUtf8-nil) (with_dollar text (encode c) w (one_char c z)))
after_whole (Naming name) c w z =
    begun_either (is_name_char c) (Naming (name ++ encode c)) (if c == 94 then Plain [] else piece_begun_by c) (IsUtf8-append name (encode c) w (one_char c z))
    (begun_either (c == 94) (Plain []) (piece_begun_by c) IsUtf8-nil (begun_by_whole c z))

whole_snoc : (ps : Many t.piece) (p : Node t.piece) → all_have ps ≡ true → has_characters p ≡ true → all_have (snoc ps p) ≡ true
whole_snoc none p v w = and_from (has_characters p) true w refl
whole_snoc (more q qs) p v w = let x = and_parts (has_characters q) (all_have qs) v in and_from (has_characters q) (all_have (snoc qs p)) x.0 (whole_snoc qs p x.1 w)

whole_either : (q : Bool) (as' bs : Many t.piece) → all_have as' ≡ true → all_have bs ≡ true → all_have (if q then as' else bs) ≡ true
whole_either true as' bs v w = v
whole_either false as' bs v w = w

with_text_whole : (ps : Many t.piece) (text : List ℕ) → all_have ps ≡ true → IsUtf8 text → all_have (with_text ps text) ≡ true
with_text_whole ps [] v w = v
with_text_whole ps (b ∷ bs) v w = whole_snoc ps (t.Text (b ∷ bs)) v (is_utf8-from_IsUtf8 (b ∷ bs) w)

with_name_whole : (ps : Many t.piece) (name : List ℕ) → all_have ps ≡ true → IsUtf8 name → all_have (snoc ps (t.Name name)) ≡ true
with_name_whole ps name v w = whole_snoc ps (t.Name name) v (is_utf8-from_IsUtf8 name w)

ended_by_whole : (b : PieceSoFar) (c : ℕ) (ps : Many t.piece) → IsBegunWhole b → all_have ps ≡ true → all_have (ended_by b c ps) ≡ true
ended_by_whole (Plain text) c ps w v = v
ended_by_whole (Dollar text) c ps w v = whole_either (is_name_char c) (with_text ps text) ps (with_text_whole ps text v w) v
ended_by_whole (Naming name) c ps w v = whole_either (is_name_char c) ps (snoc ps (t.Name name)) v (with_name_whole ps name v w)

with_last_whole : (b : PieceSoFar) (ps : Many t.piece) → IsBegunWhole b → all_have ps ≡ true → all_have (with_last b ps) ≡ true
with_last_whole (Plain text) ps w v = with_text_whole ps text v w
with_last_whole (Dollar text) ps w v = with_text_whole ps (text ++ 36 ∷ []) v (with_dollar text [] w IsUtf8-nil)
with_last_whole (Naming name) ps w v = with_name_whole ps name v w

from_whole : (b : PieceSoFar) (ps : Many t.piece) (cs : List ℕ) → IsBegunWhole b → all_have ps ≡ true → scalars cs ≡ true → all_have (pieces_from b ps cs) ≡ true
from_whole b ps [] w v z = with_last_whole b ps w v
from_whole b ps (c ∷ cs) w v z =
    let p = and_parts (scalar c) (scalars cs) z in
    from_whole (begun_after b c) (ended_by b c ps) cs (after_whole b c w p.0) (ended_by_whole b c ps w v) p.1

pub pieces_whole : (quoted : Bool) (body : List ℕ) → IsUtf8 body → all_have (pieces_of quoted body) ≡ true
pieces_whole true body x = with_text_whole none body refl x
pieces_whole false body x = from_whole (Plain []) none (chars body) IsUtf8-nil refl (scalars-chars body x)
