-- The characters of literal words.
use Rattle.std.proofs.Common.{◌≡◌, ℕ, Bool, true, false, not, ◌||◌, ◌&&◌, List, [], ◌∷◌, ◌++◌, map, refl, ap, ◌∙◌, subst, Option, Some, None, Result, Ok, Err, OnErr, OnOk, IfOk, IfSome}
use Rattle.std.proofs.lemmas.List.{map-append}
use Rattle.std.specs.List.{list_any}
use Rattle.std.specs.Str.{chars}
use Rattle.rc_model.specs.Syntax.Words.{has_pattern, is_pattern, is_pattern_char, written}
use Rattle.rc_text.specs.declared.words.literal.Ch.{Ch}
use Rattle.rc_text.specs.Literals.{mark_of, marks}

-- characters that are all marked, or all not
abbrev pub marked_by : Bool → ℕ → Ch
marked_by b c = record { c = c; pat = b }

pub marks_of : (b : Bool) (cs : List ℕ) → marks (map (marked_by b) cs) ≡ map (λ c. (c, b)) cs
marks_of b [] = refl
marks_of b (c ∷ cs) = ap (λ ms. (c, b) ∷ ms) (marks_of b cs)

-- characters with a mark are added
pub marks_added : (b : Bool) (old new : List Ch) (cs : List ℕ) → new ≡ old ++ map (marked_by b) cs → marks new ≡ marks old ++ map (λ c. (c, b)) cs
marks_added b old new cs h = ap marks h ∙ map-append mark_of old (map (marked_by b) cs) ∙ ap (λ ms. marks old ++ ms) (marks_of b cs)

-- a test of the characters with their marks
pub list_any_marks : (p : ℕ × Bool → Bool) (chs : List Ch) → list_any p (marks chs) ≡ list_any (λ ch. p (mark_of ch)) chs
list_any_marks p [] = refl
list_any_marks p (ch ∷ chs) = ap (λ b. p (mark_of ch) || b) (list_any_marks p chs)

-- what holds of a call that went well
pub at_ok : {E P : Type 0} {r : Result (Unit {0}) E} {u : Unit {0}} → r ≡ Ok u → OnOk r P → P
at_ok {P = P} e h = subst (λ r. OnOk r P) e h

pub on_ok : {E P Q : Type 0} (r : Result (Unit {0}) E) → (P → Q) → OnOk r P → OnOk r Q
on_ok (Ok u) f h = f h
on_ok (Err e) f h = tt

pub if_ok : {A E : Type 0} {P Q : A → Type 0} (r : Result A E) → ((a : A) → P a → Q a) → IfOk r P → IfOk r Q
if_ok (Ok a) f h = f a h
if_ok (Err e) f h = tt

pub if_some : {A : Type 0} {P Q : A → Type 0} (o : Option A) → ((a : A) → P a → Q a) → IfSome o P → IfSome o Q
if_some (Some a) f h = f a h
if_some None f h = tt

-- what follows from what a call did if it went well, and from what it kept if not
pub either_way : {A E P Q R : Type 0} (r : Result A E) → (P → R) → (Q → R) → OnOk r P → OnErr r Q → R
either_way (Ok a) f g h k = f h
either_way (Err e) f g h k = g k

-- pattern characters of marked texts, and of texts with no marks
pub marked_patterns : (cs : List ℕ) → list_any is_pattern (map (λ c. (c, true)) cs) ≡ list_any is_pattern_char cs
marked_patterns [] = refl
marked_patterns (c ∷ cs) = ap (λ b. is_pattern_char c || b) (marked_patterns cs)

pub unmarked_patterns : (cs : List ℕ) → list_any is_pattern (map (λ c. (c, false)) cs) ≡ false
unmarked_patterns [] = refl
unmarked_patterns (c ∷ cs) = unmarked_patterns cs

-- the pattern characters of a text as it is written
pub patterns_of : (text : List ℕ) (quoted : Bool) → has_pattern (written text quoted) ≡ not quoted && list_any is_pattern_char (chars text)
patterns_of text true = unmarked_patterns (chars text)
patterns_of text false = marked_patterns (chars text)
