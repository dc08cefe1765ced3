-- The pieces of a here document are sound where its body is a text.
use Rattle.std.proofs.Common.{◌≡◌, refl, ℕ, Bool, true, false, not, ◌==◌, if◌then◌else◌, List, [], ◌∷◌, ◌++◌}
use Rattle.std.specs.Str.{chars}
use Rattle.std.proofs.lemmas.Bool.{and_parts, and_from}
use lib.Utf8.{encode}
use Rattle.rc_model.specs.Syntax.Text.{without_zero}
use Rattle.rc_model.specs.Syntax.Tokens.{is_name_char}
use Rattle.rc_model.specs.Syntax.Tree.{Node, Many, none, more, snoc}
use Rattle.rc_model.specs.Syntax.Tree as t
use Rattle.rc_model.specs.Syntax.WellFormed.{is_sound, are_sound}
use Rattle.rc_model.specs.Syntax.HereDocs.{PieceSoFar, Plain, Dollar, Naming, with_text, piece_begun_by, begun_after, ended_by, with_last, pieces_from, pieces_of}
use Rattle.rc_model.specs.Mirrors.Spelling.{IsText}
use Rattle.law_syntax.proofs.Zeros.{clean_append, clean_char, clean_text}

-- the text of what has begun has no byte 0
abbrev IsClean : PieceSoFar → Type 0
IsClean (Plain text) = without_zero text ≡ true
IsClean (Dollar text) = without_zero text ≡ true
IsClean (Naming name) = without_zero name ≡ true

clean_either : (q : Bool) (a b : PieceSoFar) → IsClean a → IsClean b → IsClean (if q then a else b)
clean_either true a b v w = v
clean_either false a b v w = w

begun_by_clean : (c : ℕ) → not (c == 0) ≡ true → IsClean (piece_begun_by c)
begun_by_clean c z = clean_either (c == 36) (Dollar []) (Plain (encode c)) refl (clean_char c z)

after_clean : (b : PieceSoFar) (c : ℕ) → IsClean b → not (c == 0) ≡ true → IsClean (begun_after b c)
after_clean (Plain text) c w z = clean_either (c == 36) (Dollar text) (Plain (text ++ encode c)) w (clean_append text (encode c) w (clean_char c z))
after_clean (Dollar text) c w z =
    clean_either (is_name_char c) (Naming (encode c)) (if c == 36 then Plain (text ++ 36 ∷ []) else Plain (text ++ 36 ∷ encode c)) (clean_char c z)
    (clean_either (c == 36) (Plain (text ++ 36 ∷ [])) (Plain (text ++ 36 ∷ encode c)) (clean_append text (36 ∷ []) w refl)
    (clean_append text (36 ∷ encode c) w (clean_char c z)))
after_clean (Naming name) c w z =
    clean_either (is_name_char c) (Naming (name ++ encode c)) (if c == 94 then Plain [] else piece_begun_by c) (clean_append name (encode c) w (clean_char c z))
    (clean_either (c == 94) (Plain []) (piece_begun_by c) refl (begun_by_clean c z))

sound_snoc : (ps : Many t.piece) (p : Node t.piece) → are_sound ps ≡ true → is_sound p ≡ true → are_sound (snoc ps p) ≡ true
sound_snoc none p v w = and_from (is_sound p) true w refl
sound_snoc (more q qs) p v w = let x = and_parts (is_sound q) (are_sound qs) v in and_from (is_sound q) (are_sound (snoc qs p)) x.0 (sound_snoc qs p x.1 w)

sound_either : (q : Bool) (as' bs : Many t.piece) → are_sound as' ≡ true → are_sound bs ≡ true → are_sound (if q then as' else bs) ≡ true
sound_either true as' bs v w = v
sound_either false as' bs v w = w

with_text_sound : (ps : Many t.piece) (text : List ℕ) → are_sound ps ≡ true → without_zero text ≡ true → are_sound (with_text ps text) ≡ true
with_text_sound ps [] v w = v
with_text_sound ps (b ∷ bs) v w = sound_snoc ps (t.Text (b ∷ bs)) v w

ended_by_sound : (b : PieceSoFar) (c : ℕ) (ps : Many t.piece) → IsClean b → are_sound ps ≡ true → are_sound (ended_by b c ps) ≡ true
ended_by_sound (Plain text) c ps w v = v
ended_by_sound (Dollar text) c ps w v = sound_either (is_name_char c) (with_text ps text) ps (with_text_sound ps text v w) v
ended_by_sound (Naming name) c ps w v = sound_either (is_name_char c) ps (snoc ps (t.Name name)) v (sound_snoc ps (t.Name name) v w)

with_last_sound : (b : PieceSoFar) (ps : Many t.piece) → IsClean b → are_sound ps ≡ true → are_sound (with_last b ps) ≡ true
with_last_sound (Plain text) ps w v = with_text_sound ps text v w
with_last_sound (Dollar text) ps w v = with_text_sound ps (text ++ 36 ∷ []) v (clean_append text (36 ∷ []) w refl)
with_last_sound (Naming name) ps w v = sound_snoc ps (t.Name name) v w

from_sound : (b : PieceSoFar) (ps : Many t.piece) (cs : List ℕ) → IsClean b → are_sound ps ≡ true → without_zero cs ≡ true → are_sound (pieces_from b ps cs) ≡ true
from_sound b ps [] w v z = with_last_sound b ps w v
from_sound b ps (c ∷ cs) w v z =
    let p = and_parts (not (c == 0)) (without_zero cs) z in
    from_sound (begun_after b c) (ended_by b c ps) cs (after_clean b c w p.0) (ended_by_sound b c ps w v) p.1

pub pieces_sound : (quoted : Bool) (body : List ℕ) → IsText body → are_sound (pieces_of quoted body) ≡ true
pieces_sound true body x = with_text_sound none body refl (clean_text body x)
pieces_sound false body x = from_sound (Plain []) none (chars body) refl refl x.1
