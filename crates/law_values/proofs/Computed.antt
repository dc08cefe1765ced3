-- The relation and the matcher that computes are the same.
use Rattle.std.proofs.Common.{◌≡◌, ℕ, zero, suc, ◌<◌, Bool, true, false, cond, eqb, List, [], ◌∷◌, ◌++◌, length, Option, Some, None, refl, sym, ap}
use Rattle.std.proofs.Common.{◌∙◌, ◌⊎◌, inl, inr, append_assoc, arith, eq-eqb, ◌&&◌, ◌||◌, not}
use Rattle.std.specs.Prelude.{◌↔◌}
use Rattle.std.specs.List.{list_all}
use Rattle.std.proofs.lemmas.Bool.{eqb-true, or_right, and_parts}
use Rattle.std.proofs.lemmas.List.{append-nil}
use Rattle.rc_model.specs.Syntax.Words.{Word, has_pattern}
use Rattle.rc_model.specs.Run.Patterns.{Pattern, This, AnyOne, AnyRun, OneOf, Unclosed, Outside, Inside, is_marked, holds, closed_class, parts_from, stands_for, any_run, parts_match, is_dots, matches}
use Rattle.rc_model.specs.Run.Matching.{Role, Star, Question, Open, Plain, role, is_close, Fits, end, star, Matches}
use Rattle.rc_model.specs.Mirrors.Greedy.{class_holds, class_with, class_end, class_after, one_by, after_one}
use Rattle.law_values.proofs.Steps.{FitsLater, FitsOne, Fits-cons, Fits-nil, after_one-Fits, after_one-shorter}

-- what the parts of a word begin with, by the kind of its first character
abbrev pub by_kind : Role → ℕ → Word → List Pattern
by_kind Star x w = AnyRun ∷ parts_from Outside w
by_kind Question x w = AnyOne ∷ parts_from Outside w
by_kind Open x w = parts_from (Inside []) w
by_kind Plain x w = This x ∷ parts_from Outside w

abbrev kind_by : Bool → Bool → Bool → Role
kind_by a b d = cond a Star (cond b Question (cond d Open Plain))

no_such : {A : Type 0} → true ≡ false → A
no_such h = absurd cc

parts_by : (a b d : Bool) (x : ℕ) (w : Word) → (a ≡ true → d ≡ false) → (b ≡ true → d ≡ false) →
    cond a (AnyRun ∷ []) (cond b (AnyOne ∷ []) (cond d [] (This x ∷ []))) ++ parts_from (cond d (Inside []) Outside) w ≡ by_kind (kind_by a b d) x w
parts_by true b true x w h k = no_such (h refl)
parts_by true b false x w h k = refl
parts_by false true true x w h k = no_such (k refl)
parts_by false true false x w h k = refl
parts_by false false true x w h k = refl
parts_by false false false x w h k = refl

and_false : (b : Bool) → (b && false) ≡ false
and_false true = refl
and_false false = refl

pub not_both : (c d : ℕ) (m : ℕ × Bool) → eqb c d ≡ false → is_marked c m ≡ true → is_marked d m ≡ false
not_both c d m h k =
    let x = eqb-true m.0 c (and_parts m.1 (eqb m.0 c) k).1 in
    ap (λ z. m.1 && eqb z d) x ∙ ap (λ z. m.1 && z) h ∙ and_false m.1

pub parts_cons : (m : ℕ × Bool) (w : Word) → parts_from Outside (m ∷ w) ≡ by_kind (role m) m.0 w
parts_cons m w = parts_by (is_marked 42 m) (is_marked 63 m) (is_marked 91 m) m.0 w (not_both 42 91 m refl) (not_both 63 91 m refl)

-- the parts from inside a class on
abbrev pub inside_parts : Word → Option (Word × Word) → List Pattern
inside_parts ms None = Unclosed ∷ []
inside_parts ms (Some p) = closed_class (ms ++ p.0) ∷ parts_from Outside p.1

inside_with : (ms : Word) (m : ℕ × Bool) (o : Option (Word × Word)) → inside_parts (ms ++ m ∷ []) o ≡ inside_parts ms (class_with m o)
inside_with ms m None = refl
inside_with ms m (Some p) = ap (λ z. closed_class z ∷ parts_from Outside p.1) (append_assoc ms (m ∷ []) p.0)

inside_by : (ms : Word) (m : ℕ × Bool) (w : Word) (b : Bool) → parts_from (Inside (ms ++ m ∷ [])) w ≡ inside_parts (ms ++ m ∷ []) (class_end w) →
    cond b (closed_class ms ∷ []) [] ++ parts_from (cond b Outside (Inside (ms ++ m ∷ []))) w ≡ inside_parts ms (cond b (Some ([], w)) (class_with m (class_end w)))
inside_by ms m w true h = ap (λ z. closed_class z ∷ parts_from Outside w) (sym (append-nil ms))
inside_by ms m w false h = h ∙ inside_with ms m (class_end w)

pub parts_inside : (w ms : Word) → parts_from (Inside ms) w ≡ inside_parts ms (class_end w)
parts_inside [] ms = refl
parts_inside (m ∷ w) ms = inside_by ms m w (is_close m) (parts_inside w (ms ++ m ∷ []))

-- what is left matches the rest
abbrev then_match : Bool → List ℕ → Option Word → Bool
then_match e t None = false
then_match e t (Some v) = parts_match e (parts_from Outside v) t

guard : (e : Bool) (t : List ℕ) (v : Word) (b : Bool) → (b && parts_match e (parts_from Outside v) t) ≡ then_match e t (cond b (Some v) None)
guard e t v true = refl
guard e t v false = refl

guard_2 : (e : Bool) (t : List ℕ) (v : Word) (a b : Bool) → ((b && a) && parts_match e (parts_from Outside v) t) ≡ then_match e t (cond a (cond b (Some v) None) None)
guard_2 e t v true true = refl
guard_2 e t v true false = refl
guard_2 e t v false true = refl
guard_2 e t v false false = refl

class_by : (e : Bool) (m : ℕ × Bool) (ms : Word) (v : Word) (c : ℕ) (t : List ℕ) (b : Bool) →
    parts_match e (cond b (OneOf ms true) (OneOf (m ∷ ms) false) ∷ parts_from Outside v) (c ∷ t)
    ≡ then_match e t (cond (cond b (not (holds ms c)) (holds (m ∷ ms) c)) (cond (stands_for e c) (Some v) None) None)
class_by e m ms v c t true = guard_2 e t v (not (holds ms c)) (stands_for e c)
class_by e m ms v c t false = guard_2 e t v (holds (m ∷ ms) c) (stands_for e c)

class_parts : (e : Bool) (ms : Word) (v : Word) (c : ℕ) (t : List ℕ) →
    parts_match e (closed_class ms ∷ parts_from Outside v) (c ∷ t) ≡ then_match e t (cond (class_holds ms c) (cond (stands_for e c) (Some v) None) None)
class_parts e [] v c t = guard_2 e t v false (stands_for e c)
class_parts e (m ∷ ms) v c t = class_by e m ms v c t (is_marked 126 m)

class_none : (e : Bool) (m : ℕ × Bool) (ms : Word) (ps : List Pattern) (b : Bool) → parts_match e (cond b (OneOf ms true) (OneOf (m ∷ ms) false) ∷ ps) [] ≡ false
class_none e m ms ps true = refl
class_none e m ms ps false = refl

members_none : (e : Bool) (ms : Word) (ps : List Pattern) → parts_match e (closed_class ms ∷ ps) [] ≡ false
members_none e [] ps = refl
members_none e (m ∷ ms) ps = class_none e m ms ps (is_marked 126 m)

inside_one : (e : Bool) (o : Option (Word × Word)) (c : ℕ) (t : List ℕ) → parts_match e (inside_parts [] o) (c ∷ t) ≡ then_match e t (class_after e o c)
inside_one e None c t = refl
inside_one e (Some p) c t = class_parts e p.0 p.1 c t

inside_none : (e : Bool) (o : Option (Word × Word)) → parts_match e (inside_parts [] o) [] ≡ false
inside_none e None = refl
inside_none e (Some p) = members_none e p.0 (parts_from Outside p.1)

eqb_by : (a b : ℕ) (x y : Bool) → eqb a b ≡ x → eqb b a ≡ y → x ≡ y
eqb_by a b true true h k = refl
eqb_by a b true false h k = no_such (sym (eq-eqb b a (sym (eqb-true a b h))) ∙ k)
eqb_by a b false true h k = no_such (sym (eq-eqb a b (sym (eqb-true b a k))) ∙ h)
eqb_by a b false false h k = refl

eqb-sym : (a b : ℕ) → eqb a b ≡ eqb b a
eqb-sym a b = eqb_by a b (eqb a b) (eqb b a) refl refl

-- a first part that is no star takes one character
one_parts : (e : Bool) (k : Role) (x : ℕ) (w : Word) (c : ℕ) (t : List ℕ) → (k ≡ Star → ⊥) → parts_match e (by_kind k x w) (c ∷ t) ≡ then_match e t (one_by e k x w c)
one_parts e Star x w c t n = absurd (n refl)
one_parts e Question x w c t n = guard e t w (stands_for e c)
one_parts e Open x w c t n = ap (λ z. parts_match e z (c ∷ t)) (parts_inside w []) ∙ inside_one e (class_end w) c t
one_parts e Plain x w c t n = ap (λ b. b && parts_match e (parts_from Outside w) t) (eqb-sym c x) ∙ guard e t w (eqb x c)

none_parts : (e : Bool) (k : Role) (x : ℕ) (w : Word) → (k ≡ Star → ⊥) → parts_match e (by_kind k x w) [] ≡ false
none_parts e Star x w n = absurd (n refl)
none_parts e Question x w n = refl
none_parts e Open x w n = ap (λ z. parts_match e z []) (parts_inside w []) ∙ inside_none e (class_end w)
none_parts e Plain x w n = refl

-- a run, and what follows it
run_true : (e : Bool) (go : List ℕ → Bool) (front rest : List ℕ) → list_all (stands_for e) front ≡ true → go rest ≡ true → any_run e go (front ++ rest) ≡ true
run_true e go [] [] h g = g
run_true e go [] (c ∷ cs) h g = ap (λ b. b || (stands_for e c && any_run e go cs)) g
run_true e go (c ∷ front) rest h g =
    let b = and_parts (stands_for e c) (list_all (stands_for e) front) h in
    or_right (go (c ∷ (front ++ rest))) (stands_for e c && any_run e go (front ++ rest)) (ap (λ z. z && any_run e go (front ++ rest)) b.0 ∙ run_true e go front rest b.1 g)

abbrev Front : Bool → (List ℕ → Bool) → List ℕ → Type 0
Front e go t = (front rest : List ℕ) × (list_all (stands_for e) front ≡ true) × (t ≡ front ++ rest) × (go rest ≡ true)

run_more : (e : Bool) (go : List ℕ → Bool) (c : ℕ) (cs : List ℕ) → stands_for e c ≡ true → Front e go cs → Front e go (c ∷ cs)
run_more e go c cs h f = (c ∷ f.0, f.1, ap (λ b. b && list_all (stands_for e) f.0) h ∙ f.2, ap (λ z. c ∷ z) f.3, f.4)

run_by : (e : Bool) (go : List ℕ → Bool) (c : ℕ) (cs : List ℕ) → (any_run e go cs ≡ true → Front e go cs) → (a : Bool) → go (c ∷ cs) ≡ a
    → (a || (stands_for e c && any_run e go cs)) ≡ true → Front e go (c ∷ cs)
run_by e go c cs f true g h = ([], c ∷ cs, refl, refl, g)
run_by e go c cs f false g h = let b = and_parts (stands_for e c) (any_run e go cs) h in run_more e go c cs b.0 (f b.1)

run_front : (e : Bool) (go : List ℕ → Bool) (t : List ℕ) → any_run e go t ≡ true → Front e go t
run_front e go [] h = ([], [], refl, refl, h)
run_front e go (c ∷ cs) h = run_by e go c cs (run_front e go cs) (go (c ∷ cs)) refl h

abbrev Sound : ℕ → Bool → Type 0
Sound n e = (v : Word) (t : List ℕ) → length v < n → parts_match e (parts_from Outside v) t ≡ true → Fits e v t

then_true : (e : Bool) (t : List ℕ) (o : Option Word) → then_match e t o ≡ true → (v : Word) × (o ≡ Some v) × (parts_match e (parts_from Outside v) t ≡ true)
then_true e t None h = absurd cc
then_true e t (Some v) h = (v, refl, h)

sound_one : (n : ℕ) (e : Bool) (m : ℕ × Bool) (w : Word) (t : List ℕ) (k : Role) → role m ≡ k → (k ≡ Star → ⊥) → length w < n → Sound n e → parts_match e (by_kind k m.0 w) t ≡ true → Fits e (m ∷ w) t
sound_one n e m w [] k q s l hyp h = no_such (sym h ∙ none_parts e k m.0 w s)
sound_one n e m w (c ∷ u) k q s l hyp h =
    let o = then_true e u (one_by e k m.0 w c) (sym (one_parts e k m.0 w c u s) ∙ h) in
    let p : after_one e (m ∷ w) c ≡ Some o.0 = ap (λ z. one_by e z m.0 w c) q ∙ o.1 in
    let short = after_one-shorter e (m ∷ w) c o.0 p in
    after_one-Fits e (m ∷ w) c o.0 u p (hyp o.0 u (omega arith) o.2)

sound_by : (n : ℕ) (e : Bool) (m : ℕ × Bool) (w : Word) (t : List ℕ) (k : Role) → role m ≡ k → length w < n → Sound n e → parts_match e (by_kind k m.0 w) t ≡ true → Fits e (m ∷ w) t
sound_by n e m w t Star q l hyp h = let f = run_front e (parts_match e (parts_from Outside w)) t h in star m w t f.0 f.1 q f.2 f.3 (hyp w f.1 l f.4)
sound_by n e m w t Question q l hyp h = sound_one n e m w t Question q (λ z. cc) l hyp h
sound_by n e m w t Open q l hyp h = sound_one n e m w t Open q (λ z. cc) l hyp h
sound_by n e m w t Plain q l hyp h = sound_one n e m w t Plain q (λ z. cc) l hyp h

sound : (n : ℕ) (e : Bool) → Sound n e
sound zero e v t l h = absurd (omega arith)
sound (suc n) e [] [] l h = end
sound (suc n) e [] (c ∷ t) l h = no_such (sym h)
sound (suc n) e (m ∷ w) t l h = sound_by n e m w t (role m) refl (omega arith) (sound n e) (ap (λ z. parts_match e z t) (sym (parts_cons m w)) ∙ h)

abbrev Complete : ℕ → Bool → Type 0
Complete n e = (v : Word) (t : List ℕ) → length v < n → Fits e v t → parts_match e (parts_from Outside v) t ≡ true

complete_by : (n : ℕ) (e : Bool) (m : ℕ × Bool) (w : Word) (t : List ℕ) → length w < n → Complete n e
    → ((role m ≡ Star) × FitsLater e w t) ⊎ FitsOne e (m ∷ w) t → parts_match e (by_kind (role m) m.0 w) t ≡ true
complete_by n e m w t l hyp (inl x) =
    ap (λ k. parts_match e (by_kind k m.0 w) t) x.0 ∙ ap (any_run e (parts_match e (parts_from Outside w))) x.1.3
    ∙ run_true e (parts_match e (parts_from Outside w)) x.1.0 x.1.1 x.1.2 (hyp w x.1.1 l x.1.4)
complete_by n e m w t l hyp (inr o) =
    let short = after_one-shorter e (m ∷ w) o.0 o.2 o.4 in
    ap (parts_match e (by_kind (role m) m.0 w)) o.3
    ∙ one_parts e (role m) m.0 w o.0 o.1 (λ k. let z : None ≡ Some o.2 = ap (λ z. one_by e z m.0 w o.0) (sym k) ∙ o.4 in cc)
    ∙ ap (then_match e o.1) o.4 ∙ hyp o.2 o.1 (omega arith) o.5

complete : (n : ℕ) (e : Bool) → Complete n e
complete zero e v t l f = absurd (omega arith)
complete (suc n) e [] t l f = ap (parts_match e []) (Fits-nil f)
complete (suc n) e (m ∷ w) t l f = ap (λ z. parts_match e z t) (parts_cons m w) ∙ complete_by n e m w t (omega arith) (complete n e) (Fits-cons f)

pub parts_match-Fits : (e : Bool) (w : Word) (t : List ℕ) → parts_match e (parts_from Outside w) t ≡ true → Fits e w t
parts_match-Fits e w t h = sound (suc (length w)) e w t (omega arith) h

pub Fits-parts_match : (e : Bool) (w : Word) (t : List ℕ) → Fits e w t → parts_match e (parts_from Outside w) t ≡ true
Fits-parts_match e w t f = complete (suc (length w)) e w t (omega arith) f

guarded : (e p d m : Bool) → cond (e && (p && d)) false m ≡ true → (m ≡ true) × (e ≡ true → p ≡ true → d ≡ false)
guarded true true true m h = no_such (sym h)
guarded true true false m h = (h, λ x y. refl)
guarded true false d m h = (h, λ x y. no_such (sym y))
guarded false p d m h = (h, λ x y. no_such (sym x))

guards : (e p d m : Bool) → m ≡ true → (e ≡ true → p ≡ true → d ≡ false) → cond (e && (p && d)) false m ≡ true
guards true true true m h k = no_such (k refl refl)
guards true true false m h k = h
guards true false d m h k = h
guards false p d m h k = h

pub matches-is : (e : Bool) (w : Word) (t : List ℕ) → (matches w t e ≡ true) ↔ Matches e w t
unfolding matches
matches-is e w t = (
  (λ h. let g = guarded e (has_pattern w) (is_dots t) (parts_match e (parts_from Outside w) t) h in record { fits = parts_match-Fits e w t g.0; spelled_out = g.1 }),
  (λ m. guards e (has_pattern w) (is_dots t) (parts_match e (parts_from Outside w) t) (Fits-parts_match e w t m.fits) m.spelled_out),
)
