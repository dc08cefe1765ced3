-- How an image begins.
use Rattle.std.proofs.Common.{◌≡◌, refl, ap, sym, ◌∙◌, ℕ, ◌<◌, ◌≤◌, Bool, true, false, ◌==◌, ◌&&◌, if◌then◌else◌, List, [], ◌∷◌, ◌++◌, length, drop, codes, nat_le, None, Err, arith}
use Rattle.std.specs.Bool.{MatchBool}
use Rattle.std.specs.Str.Pattern.{HasPrefixMatch, FindsTextPrefix}
use Rattle.std.proofs.lemmas.Bool.{le-leb, lt-leb, eqb-true, eq-eqb, and_parts, false_from_ne_true}
use Rattle.std.proofs.lemmas.Grind.{common_steps}
use Rattle.rc_model.specs.Syntax.Text.{begins_with}
use Rattle.rc_model.specs.Run.Numbers.{digits_value, greatest_number}
use Rattle.rc_model.specs.Handed.TreeSpelling.{is_numeral}
use Rattle.rc_model.specs.Handed.TreeReading.{digit_run, past_digits, is_count, other_version, beginning_fault, read_spelling, read_tree}
use Rattle.rc_spelling.specs.Steps.{number_here, value_from, after_digits}
use Rattle.rc_image.specs.Images.{version_here, fault_here}
use Rattle.rc_model.specs.declared.fault.ImageFault.TheVariants.{BadTag, Version}

first_false : (c e o : Bool) → c ≡ false → ((c && e) && o) ≡ false
first_false true e o h = cc
first_false false e o h = refl

second_false : (c e o : Bool) → e ≡ false → ((c && e) && o) ≡ false
second_false true true o h = cc
second_false true false o h = refl
second_false false e o h = refl

last_left : (c e o : Bool) → c ≡ true → e ≡ true → ((c && e) && o) ≡ o
last_left true true o h k = refl
last_left true false o h k = cc
last_left false e o h k = cc

pub version_bad : (bytes : List ℕ) → number_here bytes ≡ false → version_here bytes ≡ false
unfolding version_here number_here
version_bad bytes h = first_false (is_numeral (digit_run bytes)) (nat_le (digits_value 0 (digit_run bytes)) greatest_number) (other_version (past_digits bytes)) h

pub version_large : (bytes : List ℕ) → greatest_number < value_from 0 bytes → version_here bytes ≡ false
unfolding version_here value_from
version_large bytes h = second_false (is_numeral (digit_run bytes)) (nat_le (digits_value 0 (digit_run bytes)) greatest_number) (other_version (past_digits bytes))
    (lt-leb (digits_value 0 (digit_run bytes)) greatest_number h)

version_is : (bytes rest : List ℕ) → number_here bytes ≡ true → value_from 0 bytes ≤ greatest_number → rest ≡ after_digits bytes →
    version_here bytes ≡ other_version rest
unfolding version_here number_here value_from after_digits
version_is bytes rest h k e =
    last_left (is_numeral (digit_run bytes)) (nat_le (digits_value 0 (digit_run bytes)) greatest_number) (other_version (past_digits bytes))
    h (le-leb (digits_value 0 (digit_run bytes)) greatest_number k)
    ∙ ap other_version (sym e)

other_none : (rest : List ℕ) → length rest ≡ 0 → other_version rest ≡ false
other_none [] h = refl
other_none (b ∷ bs) h = absurd (omega arith)

pub version_none : (bytes rest : List ℕ) → number_here bytes ≡ true → value_from 0 bytes ≤ greatest_number → rest ≡ after_digits bytes → length rest ≡ 0 →
    version_here bytes ≡ false
version_none bytes rest h k e l = version_is bytes rest h k e ∙ other_none rest l

pub version_some : (b : ℕ) (bytes rest after : List ℕ) → number_here bytes ≡ true → value_from 0 bytes ≤ greatest_number → rest ≡ after_digits bytes → rest ≡ b ∷ after →
    version_here bytes ≡ (b == 59)
version_some b bytes rest after h k e l = version_is bytes rest h k e ∙ ap other_version l

pub ruleset versions = (version_bad, version_large, version_none, version_some, common_steps)

-- whether a text begins with another
pub begun_split : (mark text : List ℕ) → begins_with mark text ≡ true → text ≡ mark ++ drop (length mark) text
begun_split [] text h = refl
begun_split (b ∷ bs) [] h = cc
begun_split (b ∷ bs) (c ∷ text) h =
    let p = and_parts (b == c) (begins_with bs text) h in
    ap (λ t. c ∷ t) (begun_split bs text p.1) ∙ ap (λ x. x ∷ bs ++ drop (length bs) text) (sym (eqb-true b c p.0))

pub not_begun : (mark text : List ℕ) → ((rest : List ℕ) → text ≡ mark ++ rest → ⊥) → begins_with mark text ≡ false
not_begun mark text h = false_from_ne_true (begins_with mark text) (λ b. h (drop (length mark) text) (begun_split mark text b))

pub begun_by : (mark rest : List ℕ) → begins_with mark (mark ++ rest) ≡ true
begun_by [] rest = refl
begun_by (b ∷ bs) rest = ap (λ t. t && begins_with bs (bs ++ rest)) (eq-eqb b b refl) ∙ begun_by bs rest

pub begins_by : (r : Bool) (mark text : List ℕ) → MatchBool r (HasPrefixMatch (FindsTextPrefix mark) text) (FindsTextPrefix mark text None) → r ≡ begins_with mark text
begins_by true mark text h = sym (ap (begins_with mark) h.1.1 ∙ begun_by mark (drop h.0 text))
begins_by false mark text h = sym (not_begun mark text h)

-- what follows a mark
pub from_mark : (mark text rest : List ℕ) (n : ℕ) → text ≡ mark ++ drop n text → rest ≡ drop n text → text ≡ mark ++ rest
from_mark mark text rest n e r = e ∙ ap (λ t. mark ++ t) (sym r)

-- the fault of a beginning
pub fault_other : (text : List ℕ) → ((rest : List ℕ) → text ≡ codes "rc" ++ rest → ⊥) → fault_here text ≡ BadTag
unfolding fault_here
fault_other text h =
    ap (λ (c : Bool). if c && (is_count (digit_run (drop 2 text)) && other_version (past_digits (drop 2 text))) then Version else BadTag)
    (not_begun (codes "rc") text h)

pub fault_none : (text rest : List ℕ) (n : ℕ) → text ≡ codes "rc" ++ drop n text → rest ≡ drop n text → version_here rest ≡ false → fault_here text ≡ BadTag
unfolding version_here fault_here
fault_none text rest n e r h = ap beginning_fault (from_mark (codes "rc") text rest n e r) ∙ ap (λ (v : Bool). if v then Version else BadTag) h

pub fault_version : (text rest : List ℕ) (n : ℕ) → text ≡ codes "rc" ++ drop n text → rest ≡ drop n text → version_here rest ≡ true → fault_here text ≡ Version
unfolding version_here fault_here
fault_version text rest n e r h = ap beginning_fault (from_mark (codes "rc") text rest n e r) ∙ ap (λ (v : Bool). if v then Version else BadTag) h

pub ruleset faults = (fault_none, fault_version, common_steps)

-- what an image is read as
pub image_other : (text : List ℕ) → ((rest : List ℕ) → text ≡ codes "rc1;" ++ rest → ⊥) → read_tree text ≡ Err (fault_here text)
unfolding fault_here
image_other text h = ap (λ (c : Bool). if c then read_spelling (drop 4 text) else Err (beginning_fault text)) (not_begun (codes "rc1;") text h)

pub image_is : (text rest : List ℕ) (n : ℕ) → text ≡ codes "rc1;" ++ drop n text → rest ≡ drop n text → read_tree text ≡ read_spelling rest
image_is text rest n e r = ap read_tree (from_mark (codes "rc1;") text rest n e r)

pub ruleset images = (image_is, common_steps)
