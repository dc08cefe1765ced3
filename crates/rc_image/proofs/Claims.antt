-- The words of an image that are read.
use Rattle.std.proofs.Common.{◌≡◌, refl, ap, sym, subst, ◌∙◌, ℕ, suc, ◌+◌, ◌-◌, ◌*◌, ◌^◌, ◌<◌, ◌≤◌, ◌⊎◌, inl, inr, Bool, true, false, ◌&&◌, if◌then◌else◌, List, ◌∷◌, length, take, drop, map, min, codes, string_bytes, string_eq, Option, Some, None, Result, Ok, Err, arith}
use Rattle.std.specs.List.{concat}
use Rattle.std.specs.Str.{bytes_eq}
use Rattle.std.specs.Cmp.Lexicographic.{pointwise}
use Rattle.std.specs.Cmp.Derive.Mapped.{pointwise-map}
use Rattle.std.specs.declared.alloc.Global.{Global}
use Rattle.std.specs.declared.string.String.{String}
use Rattle.std.proofs.lemmas.Bool.{cases_lt, le-leb, lt-leb}
use Rattle.std.proofs.lemmas.Grind.{common_steps}
use Rattle.std.proofs.lemmas.List.{length-map, take-map, take_min}
use Rattle.rc_model.specs.declared.fault.InputError.TheVariants as error
use Rattle.rc_model.specs.Run.Numbers.{digits_value}
use Rattle.rc_model.specs.Syntax.Text.{begins_with}
use Rattle.rc_model.specs.Syntax.Tree.{Node, cmd}
use Rattle.rc_model.specs.Handed.Pieces.{longest_word, words_of}
use Rattle.rc_model.specs.Handed.TreeReading.{read_spelling, read_tree, beginning_fault}
use Rattle.rc_model.specs.Handed.WordsReading.{Taken, counted, from_one, from_pieces, are_these, read_pieces}
use Rattle.rc_model.specs.Syntax.Faults.{Fails}
use Rattle.rc_spelling.proofs.Digits.{grows}
use Rattle.rc_spelling.specs.Faults.{ImageError}
use Rattle.rc_image.specs.Images.{Refuses, written, in_one, in_pieces, fault_here}
use Rattle.rc_model.specs.declared.fault.ImageFault.{ImageFault}
use Rattle.rc_model.specs.declared.fault.ImageFault.TheVariants as image_fault

-- a number that is too large stays so
capped : (ds : List ℕ) (x most : ℕ) → most < x → min (digits_value (min x most) ds) most ≡ min (digits_value x ds) most
capped ds x most l =
    let low : most ≤ digits_value (min x most) ds = omega (arith, grows ds (min x most)) in
    let high : most ≤ digits_value x ds = omega (arith, grows ds x) in
    omega arith

below : (ds : List ℕ) (x most : ℕ) → x ≤ most → min (digits_value (min x most) ds) most ≡ min (digits_value x ds) most
below ds x most l = let e : min x most ≡ x = omega arith in ap (λ k. min (digits_value k ds) most) e

either : (ds : List ℕ) (x most : ℕ) → (most < x) ⊎ (x ≤ most) → min (digits_value (min x most) ds) most ≡ min (digits_value x ds) most
either ds x most (inl l) = capped ds x most l
either ds x most (inr l) = below ds x most l

-- one more digit
pub one_digit : (x d next most : ℕ) (ds : List ℕ) → next ≡ min (min (x * 10) most + (d - 48)) most →
    min (digits_value next ds) most ≡ min (digits_value x (d ∷ ds)) most
one_digit x d next most ds e =
    let n : next ≡ min (x * 10 + (d - 48)) most = omega arith in
    ap (λ k. min (digits_value k ds) most) n ∙ either ds (x * 10 + (d - 48)) most (cases_lt most (x * 10 + (d - 48)))

-- ** words that are read

pub these_some : (w : String Global) (words others pieces : List (String Global)) (first : List ℕ) (r : Bool) → words ≡ w ∷ others →
    bytes_eq (string_bytes w) first ≡ true → r ≡ pointwise string_eq others pieces →
    r ≡ pointwise bytes_eq (map string_bytes words) (first ∷ map string_bytes pieces)
these_some w words others pieces first r e h k =
    k ∙ sym (pointwise-map (λ (s : String Global). string_bytes s) bytes_eq others pieces)
    ∙ ap (λ t. t && pointwise bytes_eq (map string_bytes others) (map string_bytes pieces)) (sym h)
    ∙ ap (λ ws. pointwise bytes_eq (map string_bytes ws) (first ∷ map string_bytes pieces)) (sym e)

pub ruleset these = (these_some, common_steps)

fails_counted : (n : ℕ) (e : ImageError) (read : Result (Node cmd) ImageFault) → Fails e read → Fails e (counted n read)
fails_counted n (error.Fault f) read h = ap (counted n) h
fails_counted n error.NoMemory read h = tt

-- in one word
pub one_long : (word : List ℕ) → 100000 < length word → in_one word ≡ Err image_fault.BadLength
unfolding in_one
one_long word h = ap (λ (t : Bool). if t then counted 1 (read_tree word) else Err image_fault.BadLength) (lt-leb (length word) longest_word h)

one_read : (word : List ℕ) → length word ≤ 100000 → in_one word ≡ counted 1 (read_tree word)
unfolding in_one
one_read word h = ap (λ (t : Bool). if t then counted 1 (read_tree word) else Err image_fault.BadLength) (le-leb (length word) longest_word h)

pub one_is : (word : List ℕ) (c : Node cmd) → length word ≤ 100000 → read_tree word ≡ Ok c → in_one word ≡ Ok (c, 1)
one_is word c h e = one_read word h ∙ ap (counted 1) e

pub one_fails : (e : ImageError) (word : List ℕ) → length word ≤ 100000 → Fails e (read_tree word) → Fails e (in_one word)
one_fails e word h k = subst (Fails e) (sym (one_read word h)) (fails_counted 1 e (read_tree word) k)

pub ruleset ones = (one_long, one_is, one_fails, common_steps)

-- in pieces
abbrev recorded : List ℕ → List (List ℕ) → Bool → Taken
recorded text pieces t = if t then counted (suc (length pieces)) (read_spelling text) else Err image_fault.BadLength

in_pieces_is : (first text : List ℕ) (pieces : List (List ℕ)) (t : Bool) → text ≡ concat pieces → are_these (written text) (first ∷ pieces) ≡ t →
    in_pieces first pieces ≡ recorded text pieces t
unfolding in_pieces written
in_pieces_is first text pieces t e h =
    ap (λ x. recorded x pieces (are_these (words_of longest_word x) (first ∷ pieces))) (sym e) ∙ ap (recorded text pieces) h

are_by : (o : Option (List (List ℕ))) (words all : List (List ℕ)) (t : Bool) → o ≡ Some words → t ≡ pointwise bytes_eq words all → are_these o all ≡ t
are_by o words all t e h = ap (λ x. are_these x all) e ∙ sym h

pub several_other : (first text : List ℕ) (pieces words : List (List ℕ)) (t : Bool) → text ≡ concat pieces → written text ≡ Some words →
    t ≡ pointwise bytes_eq words (first ∷ pieces) → t ≡ false → in_pieces first pieces ≡ Err image_fault.BadLength
several_other first text pieces words t e w h f = in_pieces_is first text pieces t e (are_by (written text) words (first ∷ pieces) t w h) ∙ ap (recorded text pieces) f

several_read : (first text : List ℕ) (pieces words : List (List ℕ)) (t : Bool) → text ≡ concat pieces → written text ≡ Some words →
    t ≡ pointwise bytes_eq words (first ∷ pieces) → t ≡ true → in_pieces first pieces ≡ counted (suc (length pieces)) (read_spelling text)
several_read first text pieces words t e w h f = in_pieces_is first text pieces t e (are_by (written text) words (first ∷ pieces) t w h) ∙ ap (recorded text pieces) f

pub several_is : (first text : List ℕ) (pieces : List (String Global)) (words : List (List ℕ)) (t : Bool) (c : Node cmd) → text ≡ concat (map string_bytes pieces) →
    written text ≡ Some words → t ≡ pointwise bytes_eq words (first ∷ map string_bytes pieces) → t ≡ true → read_spelling text ≡ Ok c →
    in_pieces first (map string_bytes pieces) ≡ Ok (c, length pieces + 1)
several_is first text pieces words t c e w h f r =
    several_read first text (map string_bytes pieces) words t e w h f ∙ ap (counted (suc (length (map string_bytes pieces)))) r
    ∙ ap (λ (n : ℕ). Ok (c, n)) (one_more pieces)
  where
    one_more : (ps : List (String Global)) → suc (length (map string_bytes ps)) ≡ length ps + 1
    one_more ps = let e : length (map string_bytes ps) ≡ length ps = length-map ps (λ (p : String Global). string_bytes p) in omega arith

pub several_fails : (e : ImageError) (first text : List ℕ) (pieces words : List (List ℕ)) (t : Bool) → text ≡ concat pieces →
    written text ≡ Some words → t ≡ pointwise bytes_eq words (first ∷ pieces) → t ≡ true → Fails e (read_spelling text) →
    Fails e (in_pieces first pieces)
several_fails e first text pieces words t c w h f r =
    subst (Fails e) (sym (several_read first text pieces words t c w h f)) (fails_counted (suc (length pieces)) e (read_spelling text) r)

pub several_none : (first text : List ℕ) (pieces : List (List ℕ)) → text ≡ concat pieces → written text ≡ None → in_pieces first pieces ≡ Err image_fault.BadLength
several_none first text pieces e w = in_pieces_is first text pieces false e (ap (λ o. are_these o (first ∷ pieces)) w)

refused : (e : ImageError) (o : Option (List (List ℕ))) → (e ≡ error.NoMemory → ⊥) → Refuses e o → o ≡ None
refused (error.Fault image_fault.TooLarge) o h r = r
refused (error.Fault image_fault.BadTag) o h r = absurd r
refused (error.Fault image_fault.BadLength) o h r = absurd r
refused (error.Fault image_fault.Trailing) o h r = absurd r
refused (error.Fault image_fault.TooDeep) o h r = absurd r
refused (error.Fault image_fault.Version) o h r = absurd r
refused error.NoMemory o h r = absurd (h refl)

pub several_refused : (e : ImageError) (first text : List ℕ) (pieces : List (List ℕ)) → text ≡ concat pieces → (e ≡ error.NoMemory → ⊥) →
    Refuses e (written text) → in_pieces first pieces ≡ Err image_fault.BadLength
several_refused e first text pieces c h r = several_none first text pieces c (refused e (written text) h r)

pub ruleset severals = (several_other, several_is, several_fails, several_refused, common_steps)

-- the first word
abbrev by_mark : List ℕ → List (List ℕ) → Bool → Bool → Taken
by_mark first rest one two =
    if one then from_one longest_word first
    else if two then from_pieces longest_word first (take (digits_value 0 (drop 4 first)) rest)
    else Err (beginning_fault first)

marked : (first : List ℕ) (rest : List (List ℕ)) (one two : Bool) → begins_with (codes "rc1;") first ≡ one → begins_with (codes "rc2;") first ≡ two →
    read_pieces (first ∷ rest) ≡ by_mark first rest one two
marked first rest one two e h = ap (λ o. by_mark first rest o (begins_with (codes "rc2;") first)) e ∙ ap (by_mark first rest one) h

pub reads_one : (words rest : List (String Global)) (first : String Global) → words ≡ first ∷ rest → begins_with (codes "rc1;") (string_bytes first) ≡ true →
    read_pieces (map string_bytes words) ≡ in_one (string_bytes first)
unfolding in_one
reads_one words rest first e h =
    ap (λ ws. read_pieces (map string_bytes ws)) e ∙ marked (string_bytes first) (map string_bytes rest) true (begins_with (codes "rc2;") (string_bytes first)) h refl

pub reads_other : (words rest : List (String Global)) (first : String Global) → words ≡ first ∷ rest → begins_with (codes "rc1;") (string_bytes first) ≡ false →
    begins_with (codes "rc2;") (string_bytes first) ≡ false → read_pieces (map string_bytes words) ≡ Err (fault_here (string_bytes first))
unfolding fault_here
reads_other words rest first e h k =
    ap (λ ws. read_pieces (map string_bytes ws)) e ∙ marked (string_bytes first) (map string_bytes rest) false false h k

enough : (n claim size : ℕ) → size ≤ 2 ^ 64 - 1 → claim ≡ min n (2 ^ 64 - 1) → min claim size ≡ min n size
enough n claim size l e = omega arith

pub reads_several : (words rest pieces : List (String Global)) (first : String Global) (digits : List ℕ) (claim count : ℕ) → words ≡ first ∷ rest →
    begins_with (codes "rc1;") (string_bytes first) ≡ false → begins_with (codes "rc2;") (string_bytes first) ≡ true → digits ≡ drop 4 (string_bytes first) →
    claim ≡ min (digits_value 0 digits) (2 ^ 64 - 1) → length rest ≤ 2 ^ 64 - 1 → count ≡ min claim (length rest) → pieces ≡ take count rest →
    read_pieces (map string_bytes words) ≡ in_pieces (string_bytes first) (map string_bytes pieces)
unfolding in_pieces
reads_several words rest pieces first digits claim count e h k d c l n p =
    ap (λ ws. read_pieces (map string_bytes ws)) e ∙ marked (string_bytes first) (map string_bytes rest) false true h k
    ∙ ap (from_pieces longest_word (string_bytes first)) (ap (λ ds. take (digits_value 0 ds) (map string_bytes rest)) (sym d)
    ∙ take-map (λ (s : String Global). string_bytes s) (digits_value 0 digits) rest
    ∙ ap (λ (ps : List (String Global)). map string_bytes ps) (sym (p ∙ ap (λ z. take z rest) (n ∙ enough (digits_value 0 digits) claim (length rest) l c)
    ∙ take_min (digits_value 0 digits) rest)))
