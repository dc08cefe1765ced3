-- How a pattern is matched from left to right, with one star to go back to.
use Rattle.std.proofs.Common.{◌≡◌, ℕ, suc, ◌<◌, ◌≤◌, Bool, true, false, cond, eqb, List, [], ◌∷◌, ◌++◌, length, Option, Some, None, refl, sym, ap}
use Rattle.std.proofs.Common.{subst, ◌∙◌, ◌⊎◌, inl, inr, append_assoc, arith, eq-eqb, ◌&&◌, not}
use Rattle.std.specs.List.{list_all}
use Rattle.std.proofs.lemmas.Bool.{eqb-true, and_parts, not-true}
use Rattle.std.proofs.lemmas.List.{length-append}
use Rattle.std.proofs.lemmas.Option.{same_Some, cond_some}
use Rattle.rc_model.specs.Run.Patterns.{stands_for}
use Rattle.rc_model.specs.Run.Matching.{Role, Star, Question, Open, Plain, role, is_close, Fits, end, itself, question, star, class}
use Rattle.rc_model.specs.Mirrors.Greedy.{class_holds, class_with, class_end, class_after, one_by, after_one}
use Rattle.law_values.proofs.Classes.{IsHeld-test, test-IsHeld}

-- the word fits what follows some front of the text
abbrev pub FitsLater : Bool → List (ℕ × Bool) → List ℕ → Type 0
FitsLater e w t = (front rest : List ℕ) × (list_all (stands_for e) front ≡ true) × (t ≡ front ++ rest) × Fits e w rest

abbrev pub FitsOne : Bool → List (ℕ × Bool) → List ℕ → Type 0
FitsOne e w t = (c : ℕ) × (rest : List ℕ) × (v : List (ℕ × Bool)) × (t ≡ c ∷ rest) × (after_one e w c ≡ Some v) × Fits e v rest

pub no_way : {A : Type 0} → false ≡ true → A
no_way h = absurd cc

class_end-found : (members : List (ℕ × Bool)) (close : ℕ × Bool) (word : List (ℕ × Bool)) → list_all (λ x. not (is_close x)) members ≡ true
    → is_close close ≡ true → class_end (members ++ close ∷ word) ≡ Some (members, word)
class_end-found [] close word h k = ap (λ b. cond b (Some ([], word)) (class_with close (class_end word))) k
class_end-found (m ∷ ms) close word h k =
    let both = and_parts (not (is_close m)) (list_all (λ x. not (is_close x)) ms) h in
    ap (λ b. cond b (Some ([], ms ++ close ∷ word)) (class_with m (class_end (ms ++ close ∷ word)))) (not-true (is_close m) both.0)
    ∙ ap (class_with m) (class_end-found ms close word both.1 k)

-- what the class is, where it has an end
pub record IsClass (w : List (ℕ × Bool)) (p : List (ℕ × Bool) × List (ℕ × Bool)) : Type 0 where
  pub close : ℕ × Bool
  pub parts : w ≡ p.0 ++ close ∷ p.1
  pub inside : list_all (λ x. not (is_close x)) p.0 ≡ true
  pub closes : is_close close ≡ true

IsClass-with : (m : ℕ × Bool) (w : List (ℕ × Bool)) (o : Option (List (ℕ × Bool) × List (ℕ × Bool))) (p : List (ℕ × Bool) × List (ℕ × Bool)) → is_close m ≡ false →
    ((q : List (ℕ × Bool) × List (ℕ × Bool)) → o ≡ Some q → IsClass w q) → class_with m o ≡ Some p → IsClass (m ∷ w) p
IsClass-with m w None p n hyp h = cc
IsClass-with m w (Some q) p n hyp h =
    let r = hyp q refl in
    let whole : IsClass (m ∷ w) (m ∷ q.0, q.1) = record {
      close = r.close;
      parts = ap (λ t. m ∷ t) r.parts;
      inside = ap (λ b. not b && list_all (λ x. not (is_close x)) q.0) n ∙ r.inside;
      closes = r.closes;
    } in
    let same : (m ∷ q.0, q.1) ≡ p = same_Some _ _ h in
    subst (λ z. IsClass (m ∷ w) z) same whole

class_at : (m : ℕ × Bool) (w : List (ℕ × Bool)) (b : Bool) (p : List (ℕ × Bool) × List (ℕ × Bool)) → is_close m ≡ b → ((q : List (ℕ × Bool) × List (ℕ × Bool)) → class_end w ≡ Some q → IsClass w q) →
    cond b (Some ([], w)) (class_with m (class_end w)) ≡ Some p → IsClass (m ∷ w) p
class_at m w true p k hyp h =
    let whole : IsClass (m ∷ w) ([], w) = record { close = m; parts = refl; inside = refl; closes = k } in
    let same : ([], w) ≡ p = same_Some _ _ h in
    subst (λ z. IsClass (m ∷ w) z) same whole
class_at m w false p k hyp h = IsClass-with m w (class_end w) p k hyp h

pub class_end-IsClass : (w : List (ℕ × Bool)) (p : List (ℕ × Bool) × List (ℕ × Bool)) → class_end w ≡ Some p → IsClass w p
class_end-IsClass [] p h = cc
class_end-IsClass (m ∷ w) p h = class_at m w (is_close m) p refl (class_end-IsClass w) h

pub Fits-nil : {e : Bool} {t : List ℕ} → Fits e [] t → t ≡ []
Fits-nil end = refl

pub Fits-cons : {e : Bool} {m : ℕ × Bool} {w : List (ℕ × Bool)} {t : List ℕ} → Fits e (m ∷ w) t → ((role m ≡ Star) × FitsLater e w t) ⊎ FitsOne e (m ∷ w) t
Fits-cons {e} (itself m w c t k q f) = inr (c, t, w, refl, ap (λ x. one_by e x m.0 w c) k ∙ ap (λ b. cond b (Some w) None) (eq-eqb m.0 c q), f)
Fits-cons {e} (question m w c t k q f) = inr (c, t, w, refl, ap (λ x. one_by e x m.0 w c) k ∙ ap (λ b. cond b (Some w) None) q, f)
Fits-cons {e} (star m w all front text k h q f) = inl (k, (front, text, h, q, f))
Fits-cons {e} (class m rest members close w c t k q h1 h2 holds may f) =
    inr (
      c,
      t,
      w,
      refl,
      ap (λ x. one_by e x m.0 rest c) k ∙ ap (λ x. class_after e (class_end x) c) q ∙ ap (λ x. class_after e x c) (class_end-found members close w h1 h2)
          ∙ ap (λ b. cond b (cond (stands_for e c) (Some w) None) None) (IsHeld-test holds) ∙ ap (λ b. cond b (Some w) None) may,
      f,
    )

guarded_2 : {X : Type 0} (a b : Bool) (x v : X) → cond a (cond b (Some x) None) None ≡ Some v → (a ≡ true) × (b ≡ true) × (x ≡ v)
guarded_2 true b x v h = let g = cond_some b x v h in (refl, g.0, g.1)
guarded_2 false b x v h = cc

class_after-Fits : (e : Bool) (m : ℕ × Bool) (w : List (ℕ × Bool)) (c : ℕ) (v : List (ℕ × Bool)) (t : List ℕ) (o : Option (List (ℕ × Bool) × List (ℕ × Bool))) →
    role m ≡ Open → class_end w ≡ o → class_after e o c ≡ Some v → Fits e v t → Fits e (m ∷ w) (c ∷ t)
class_after-Fits e m w c v t None k q h f = cc
class_after-Fits e m w c v t (Some p) k q h f =
    let r = class_end-IsClass w p q in
    let holds = guarded_2 (class_holds p.0 c) (stands_for e c) p.1 v h in
    class m w p.0 r.close p.1 c t k r.parts r.inside r.closes (test-IsHeld p.0 c holds.0) holds.1 (subst (λ z. Fits e z t) (sym holds.2) f)

one_by-Fits : (e : Bool) (m : ℕ × Bool) (w : List (ℕ × Bool)) (c : ℕ) (v : List (ℕ × Bool)) (t : List ℕ) (k : Role) → role m ≡ k → one_by e k m.0 w c ≡ Some v → Fits e v t → Fits e (m ∷ w) (c ∷ t)
one_by-Fits e m w c v t Star k h f = cc
one_by-Fits e m w c v t Question k h f = let g = cond_some (stands_for e c) w v h in question m w c t k g.0 (subst (λ z. Fits e z t) (sym g.1) f)
one_by-Fits e m w c v t Open k h f = class_after-Fits e m w c v t (class_end w) k refl h f
one_by-Fits e m w c v t Plain k h f = let g = cond_some (eqb m.0 c) w v h in itself m w c t k (eqb-true m.0 c g.0) (subst (λ z. Fits e z t) (sym g.1) f)

-- one character, and then the rest
pub after_one-Fits : (e : Bool) (w : List (ℕ × Bool)) (c : ℕ) (v : List (ℕ × Bool)) (t : List ℕ) → after_one e w c ≡ Some v → Fits e v t → Fits e w (c ∷ t)
after_one-Fits e [] c v t h f = cc
after_one-Fits e (m ∷ w) c v t h f = one_by-Fits e m w c v t (role m) refl h f

-- runs of characters that stand for themselves, `?` and classes
abbrev pub Run : Bool → List (ℕ × Bool) → List ℕ → List (ℕ × Bool) → Type 0
Run e w [] v = w ≡ v
Run e w (c ∷ cs) v = (u : List (ℕ × Bool)) × (after_one e w c ≡ Some u) × Run e u cs v

Run-push : (e : Bool) (w : List (ℕ × Bool)) (cs : List ℕ) (v u : List (ℕ × Bool)) (c : ℕ) → Run e w cs v → after_one e v c ≡ Some u → Run e w (cs ++ c ∷ []) u
Run-push e w [] v u c r h = (u, ap (λ z. after_one e z c) r ∙ h, refl)
Run-push e w (d ∷ cs) v u c r h = (r.0, r.1, Run-push e r.0 cs v u c r.2 h)

all_append : (p : ℕ → Bool) (xs ys : List ℕ) → list_all p xs ≡ true → list_all p ys ≡ true → list_all p (xs ++ ys) ≡ true
all_append p [] ys h k = k
all_append p (x ∷ xs) ys h k = let b = and_parts (p x) (list_all p xs) h in ap (λ a. a && list_all p (xs ++ ys)) b.0 ∙ all_append p xs ys b.1 k

all_cons : (p : ℕ → Bool) (x : ℕ) (xs : List ℕ) → p x ≡ true → list_all p xs ≡ true → list_all p (x ∷ xs) ≡ true
all_cons p x xs h k = ap (λ a. a && list_all p xs) h ∙ k

-- some character more, and then the word
abbrev pub Later : Bool → List (ℕ × Bool) → List ℕ → Type 0
Later e w t = (c : ℕ) × (rest : List ℕ) × (t ≡ c ∷ rest) × (stands_for e c ≡ true) × FitsLater e w rest

later_now : (e : Bool) (w : List (ℕ × Bool)) (t : List ℕ) → Fits e w t → FitsLater e w t
later_now e w t f = ([], t, refl, refl, f)

later_append : (e : Bool) (w : List (ℕ × Bool)) (g t : List ℕ) → list_all (stands_for e) g ≡ true → FitsLater e w t → FitsLater e w (g ++ t)
later_append e w g t h f = (g ++ f.0, f.1, all_append (stands_for e) g f.0 h f.2, ap (λ z. g ++ z) f.3 ∙ sym (append_assoc g f.0 f.1), f.4)

later_cases : (e : Bool) (w : List (ℕ × Bool)) (t front rest : List ℕ) → list_all (stands_for e) front ≡ true → t ≡ front ++ rest → Fits e w rest → Fits e w t ⊎ Later e w t
later_cases e w t [] rest h q f = inl (subst (λ z. Fits e w z) (sym q) f)
later_cases e w t (c ∷ front) rest h q f = let b = and_parts (stands_for e c) (list_all (stands_for e) front) h in inr (c, front ++ rest, q, b.0, (front, rest, b.1, refl, f))

Later-FitsLater : (e : Bool) (w : List (ℕ × Bool)) (t : List ℕ) → Later e w t → FitsLater e w t
Later-FitsLater e w t l = subst (λ z. FitsLater e w z) (sym l.2) (later_append e w (l.0 ∷ []) l.1 (all_cons (stands_for e) l.0 [] l.3 refl) l.4)

FitsLater-star : (e : Bool) (m : ℕ × Bool) (w : List (ℕ × Bool)) (t : List ℕ) → role m ≡ Star → FitsLater e w t → Fits e (m ∷ w) t
FitsLater-star e m w t k f = star m w t f.0 f.1 k f.2 f.3 f.4

pub no_star : (e : Bool) (m : ℕ × Bool) (w : List (ℕ × Bool)) (c : ℕ) (v : List (ℕ × Bool)) → role m ≡ Star → after_one e (m ∷ w) c ≡ Some v → ⊥
no_star e m w c v k h = let x : None ≡ Some v = sym (ap (λ z. one_by e z m.0 w c) k) ∙ h in cc

same_class : (e : Bool) (o : Option (List (ℕ × Bool) × List (ℕ × Bool))) (c d : ℕ) (v u : List (ℕ × Bool)) → class_after e o c ≡ Some v → class_after e o d ≡ Some u → (v ≡ u) × (stands_for e d ≡ true)
same_class e None c d v u h k = absurd cc
same_class e (Some p) c d v u h k =
    let a = guarded_2 (class_holds p.0 c) (stands_for e c) p.1 v h in
    let b = guarded_2 (class_holds p.0 d) (stands_for e d) p.1 u k in
    (sym a.2 ∙ b.2, b.1)

-- what follows a character or class doesn't depend on the character
same_rest_by : (e : Bool) (k : Role) (x : ℕ) (w : List (ℕ × Bool)) (c d : ℕ) (v u : List (ℕ × Bool)) → one_by e k x w c ≡ Some v
    → one_by e k x w d ≡ Some u → stands_for e c ≡ true → (v ≡ u) × (stands_for e d ≡ true)
same_rest_by e Star x w c d v u h k may = absurd cc
same_rest_by e Question x w c d v u h k may = let a = cond_some (stands_for e c) w v h in let b = cond_some (stands_for e d) w u k in (sym a.1 ∙ b.1, b.0)
same_rest_by e Open x w c d v u h k may = same_class e (class_end w) c d v u h k
same_rest_by e Plain x w c d v u h k may =
    let a = cond_some (eqb x c) w v h in
    let b = cond_some (eqb x d) w u k in
    (sym a.1 ∙ b.1, ap (stands_for e) (sym (eqb-true x d b.0) ∙ eqb-true x c a.0) ∙ may)

same_rest : (e : Bool) (w : List (ℕ × Bool)) (c d : ℕ) (v u : List (ℕ × Bool)) → after_one e w c ≡ Some v → after_one e w d ≡ Some u → stands_for e c ≡ true → (v ≡ u) × (stands_for e d ≡ true)
same_rest e [] c d v u h k may = absurd cc
same_rest e (m ∷ w) c d v u h k may = same_rest_by e (role m) m.0 w c d v u h k may

or_star : (e : Bool) (m : ℕ × Bool) (w : List (ℕ × Bool)) (c : ℕ) (v : List (ℕ × Bool)) (t : List ℕ) → after_one e (m ∷ w) c ≡ Some v
    → ((role m ≡ Star) × FitsLater e w t) ⊎ FitsOne e (m ∷ w) t → FitsOne e (m ∷ w) t
or_star e m w c v t h (inl x) = absurd (no_star e m w c v x.0 h)
or_star e m w c v t h (inr o) = o

-- a word with a first character that stands for something and fits, fits by it
Fits-one : (e : Bool) (w : List (ℕ × Bool)) (c : ℕ) (v : List (ℕ × Bool)) (t : List ℕ) → after_one e w c ≡ Some v → Fits e w t → FitsOne e w t
Fits-one e [] c v t h f = absurd cc
Fits-one e (m ∷ w) c v t h f = or_star e m w c v t h (Fits-cons f)

-- what fits from further on goes through as many characters
pub record Shifted (e : Bool) (w : List (ℕ × Bool)) (s u : List ℕ) : Type 0 where
  pub front : List ℕ
  pub rest : List ℕ
  pub parts : u ≡ front ++ rest
  pub same : length front ≡ length s
  pub may : list_all (stands_for e) front ≡ true
  pub fits : Fits e w rest

shift : (e : Bool) (w : List (ℕ × Bool)) (s : List ℕ) (v : List (ℕ × Bool)) (u : List ℕ) → Run e w s v → list_all (stands_for e) s ≡ true → Fits e w u → Shifted e v s u
shift e w [] v u r h f = record { front = []; rest = u; parts = refl; same = refl; may = refl; fits = subst (λ z. Fits e z u) r f }
shift e w (c ∷ s) v u r h f =
    let b = and_parts (stands_for e c) (list_all (stands_for e) s) h in
    let o = Fits-one e w c r.0 u r.1 f in
    let same_v = same_rest e w c o.0 r.0 o.2 r.1 o.4 b.0 in
    let n = shift e r.0 s v o.1 r.2 b.1 (subst (λ z. Fits e z o.1) (sym same_v.0) o.5) in
    record {
      front = o.0 ∷ n.front;
      rest = n.rest;
      parts = o.3 ∙ ap (λ z. o.0 ∷ z) n.parts;
      same = ap suc n.same;
      may = all_cons (stands_for e) o.0 n.front same_v.1 n.may;
      fits = n.fits;
    }

-- of two cuts of one text, what lies between
between : (p : ℕ → Bool) (s g t u : List ℕ) → s ++ t ≡ g ++ u → length s ≤ length g → list_all p g ≡ true → (f : List ℕ) × (t ≡ f ++ u) × (list_all p f ≡ true)
between p [] g t u q l h = (g, q, h)
between p (c ∷ s) [] t u q l h = absurd (omega arith)
between p (c ∷ s) (d ∷ g) t u q l h = let n : length s ≤ length g = omega arith in let e : s ++ t ≡ g ++ u = cc in between p s g t u e n (and_parts (p d) (list_all p g) h).1

-- the first character that may not stand is found in one place only
not_between : (p : ℕ → Bool) (s g t u : List ℕ) (c : ℕ) → s ++ (c ∷ t) ≡ g ++ u → length s < length g → list_all p g ≡ true → p c ≡ false → ⊥
not_between p s [] t u c q l h n = absurd (omega arith)
not_between p [] (d ∷ g) t u c q l h n = let x : c ≡ d = cc in let y : false ≡ true = sym n ∙ ap p x ∙ (and_parts (p d) (list_all p g) h).0 in cc
not_between p (b ∷ s) (d ∷ g) t u c q l h n = let k : length s < length g = omega arith in let e : s ++ (c ∷ t) ≡ g ++ u = cc in not_between p s g t u c e k (and_parts (p d) (list_all p g) h).1 n

abbrev pub Back : Bool → Bool → List (ℕ × Bool) → List ℕ → Type 0
Back e s w t = (s ≡ true) × Later e w t

-- from the star to here
pub record Passed (e : Bool) (back_word : List (ℕ × Bool)) (back_text : List ℕ) (word : List (ℕ × Bool)) (text : List ℕ) : Type 0 where
  pub front : List ℕ
  pub parts : back_text ≡ front ++ text
  pub run : Run e back_word front word
  pub may : list_all (stands_for e) front ≡ true

-- The whole fits exactly if the rest does, or if the last star takes more; s says whether there is a star to go back to.
pub record Claim (e : Bool) (whole : List (ℕ × Bool)) (all : List ℕ) (word : List (ℕ × Bool)) (text : List ℕ) (s : Bool) (back_word : List (ℕ × Bool)) (back_text : List ℕ) : Type 0 where
  pub forth : Fits e whole all → Fits e word text ⊎ Back e s back_word back_text
  pub here : Fits e word text → Fits e whole all
  pub later : Back e s back_word back_text → Fits e whole all
  pub trail : s ≡ true → Passed e back_word back_text word text

pub claim_start : (e : Bool) (w : List (ℕ × Bool)) (t : List ℕ) (bw : List (ℕ × Bool)) (bt : List ℕ) → Claim e w t w t false bw bt
claim_start e w t bw bt = record { forth = λ f. inl f; here = λ f. f; later = λ b. no_way b.0; trail = λ h. no_way h }

of_star : (e : Bool) (m : ℕ × Bool) (w : List (ℕ × Bool)) (t : List ℕ) → role m ≡ Star → ((role m ≡ Star) × FitsLater e w t) ⊎ FitsOne e (m ∷ w) t → FitsLater e w t
of_star e m w t k (inl x) = x.1
of_star e m w t k (inr o) = absurd (no_star e m w o.0 o.2 k o.4)

as_back : (e : Bool) (w : List (ℕ × Bool)) (t : List ℕ) → Fits e w t ⊎ Later e w t → Fits e w t ⊎ Back e true w t
as_back e w t (inl f) = inl f
as_back e w t (inr l) = inr (refl, l)

as_later : (e : Bool) (w : List (ℕ × Bool)) (t : List ℕ) → FitsLater e w t → Fits e w t ⊎ Back e true w t
as_later e w t f = as_back e w t (later_cases e w t f.0 f.1 f.2 f.3 f.4)

neither : {A B : Type 0} → (A → ⊥) → (B → ⊥) → A ⊎ B → ⊥
neither a b (inl x) = a x
neither a b (inr y) = b y

pushed : (e : Bool) (bw : List (ℕ × Bool)) (bt : List ℕ) (w : List (ℕ × Bool)) (c : ℕ) (v : List (ℕ × Bool)) (t : List ℕ) → after_one e w c ≡ Some v
    → stands_for e c ≡ true → Passed e bw bt w (c ∷ t) → Passed e bw bt v t
pushed e bw bt w c v t h may p = record {
  front = p.front ++ c ∷ [];
  parts = p.parts ∙ sym (append_assoc p.front (c ∷ []) t);
  run = Run-push e bw p.front w v c p.run h;
  may = all_append (stands_for e) p.front (c ∷ []) p.may (all_cons (stands_for e) c [] may refl);
}

-- a star before a `/` that the pattern spells out can't take more
past_slash : (e : Bool) (bw : List (ℕ × Bool)) (bt : List ℕ) (w : List (ℕ × Bool)) (c : ℕ) (t : List ℕ) → stands_for e c ≡ false → Passed e bw bt w (c ∷ t) → Later e bw bt → ⊥
past_slash e bw bt w c t no_may p l =
    let n = shift e bw p.front w l.4.1 p.run p.may l.4.4 in
    let g : List ℕ = l.0 ∷ (l.4.0 ++ n.front) in
    let q : p.front ++ (c ∷ t) ≡ g ++ n.rest =
    sym p.parts ∙ l.2 ∙ ap (λ z. l.0 ∷ z) (l.4.3 ∙ ap (λ z. l.4.0 ++ z) n.parts ∙ sym (append_assoc l.4.0 n.front n.rest)) in
    let h : list_all (stands_for e) g ≡ true = all_cons (stands_for e) l.0 (l.4.0 ++ n.front) l.3 (all_append (stands_for e) l.4.0 n.front l.4.2 n.may) in
    let le : length p.front < length g = omega (arith, n.same, length-append l.4.0 n.front) in
    not_between (stands_for e) p.front g t n.rest c q le h no_may

-- an earlier star need not take more: the later one does
second_star : (e : Bool) (bw : List (ℕ × Bool)) (bt : List ℕ) (m : ℕ × Bool) (w : List (ℕ × Bool)) (t : List ℕ) → role m ≡ Star → Passed e bw bt (m ∷ w) t → Later e bw bt → FitsLater e w t
second_star e bw bt m w t k p l =
    let n = shift e bw p.front (m ∷ w) l.4.1 p.run p.may l.4.4 in
    let g : List ℕ = l.0 ∷ (l.4.0 ++ n.front) in
    let q : p.front ++ t ≡ g ++ n.rest =
    sym p.parts ∙ l.2 ∙ ap (λ z. l.0 ∷ z) (l.4.3 ∙ ap (λ z. l.4.0 ++ z) n.parts ∙ sym (append_assoc l.4.0 n.front n.rest)) in
    let h : list_all (stands_for e) g ≡ true = all_cons (stands_for e) l.0 (l.4.0 ++ n.front) l.3 (all_append (stands_for e) l.4.0 n.front l.4.2 n.may) in
    let le : length p.front ≤ length g = omega (arith, n.same, length-append l.4.0 n.front) in
    let b = between (stands_for e) p.front g t n.rest q le h in
    subst (λ z. FitsLater e w z) (sym b.1) (later_append e w b.0 n.rest b.2 (of_star e m w n.rest k (Fits-cons n.fits)))

star_ways : (e : Bool) (m : ℕ × Bool) (w : List (ℕ × Bool)) (t : List ℕ) (s : Bool) (bw : List (ℕ × Bool)) (bt : List ℕ) → role m ≡ Star → (s ≡ true → Passed e bw bt (m ∷ w) t) →
    Fits e (m ∷ w) t ⊎ Back e s bw bt → FitsLater e w t
star_ways e m w t s bw bt k trail (inl f) = of_star e m w t k (Fits-cons f)
star_ways e m w t s bw bt k trail (inr b) = second_star e bw bt m w t k (trail b.0) b.1

after_fits : (e : Bool) (w : List (ℕ × Bool)) (c : ℕ) (v : List (ℕ × Bool)) (t : List ℕ) → after_one e w c ≡ Some v → Fits e w (c ∷ t) → Fits e v t
after_fits e w c v t h f =
    let o = Fits-one e w c v (c ∷ t) h f in
    let d : c ≡ o.0 = cc in
    let r : o.1 ≡ t = cc in
    let same : o.2 ≡ v = same_Some o.2 v (sym o.4 ∙ ap (after_one e w) (sym d) ∙ h) in
    subst (λ z. Fits e v z) r (subst (λ z. Fits e z o.1) same o.5)

one_ways : (e : Bool) (w : List (ℕ × Bool)) (c : ℕ) (v : List (ℕ × Bool)) (t : List ℕ) (s : Bool) (bw : List (ℕ × Bool)) (bt : List ℕ)
    → after_one e w c ≡ Some v → (s ≡ true → Passed e bw bt w (c ∷ t)) →
    (b : Bool) → stands_for e c ≡ b → Fits e w (c ∷ t) ⊎ Back e s bw bt → Fits e v t ⊎ Back e (s && b) bw bt
one_ways e w c v t s bw bt h trail b k (inl f) = inl (after_fits e w c v t h f)
one_ways e w c v t s bw bt h trail true k (inr l) = inr (ap (λ z. z && true) l.0, l.1)
one_ways e w c v t s bw bt h trail false k (inr l) = absurd (past_slash e bw bt w c t k (trail l.0) l.1)

back_ways : (e : Bool) (w : List (ℕ × Bool)) (t : List ℕ) (bw : List (ℕ × Bool)) (c : ℕ) (bt : List ℕ) → (Fits e w t → ⊥) → Fits e w t ⊎ Back e true bw (c ∷ bt) → Fits e bw bt ⊎ Back e true bw bt
back_ways e w t bw c bt no_fit (inl f) = absurd (no_fit f)
back_ways e w t bw c bt no_fit (inr l) =
    let r : l.1.1 ≡ bt = cc in
    as_later e bw bt (subst (λ z. FitsLater e bw z) r l.1.4)

pub claim_star : (e : Bool) (W : List (ℕ × Bool)) (T : List ℕ) (m : ℕ × Bool) (w : List (ℕ × Bool)) (t : List ℕ) (s : Bool) (bw : List (ℕ × Bool)) (bt : List ℕ) → role m ≡ Star →
    Claim e W T (m ∷ w) t s bw bt → Claim e W T w t true w t
claim_star e W T m w t s bw bt k c = record {
  forth = λ f. as_later e w t (star_ways e m w t s bw bt k c.trail (c.forth f));
  here = λ f. c.here (star m w t [] t k refl refl f);
  later = λ b. c.here (FitsLater-star e m w t k (Later-FitsLater e w t b.1));
  trail = λ h. record { front = []; parts = refl; run = refl; may = refl };
}

-- an element is passed; where it was a `/` that no star may take, there is no star to go back to from then on
pub claim_one : (e : Bool) (W : List (ℕ × Bool)) (T : List ℕ) (w : List (ℕ × Bool)) (c : ℕ) (v : List (ℕ × Bool)) (t : List ℕ) (s : Bool) (bw : List (ℕ × Bool)) (bt : List ℕ)
    → after_one e w c ≡ Some v →
    Claim e W T w (c ∷ t) s bw bt → Claim e W T v t (s && stands_for e c) bw bt
claim_one e W T w c v t s bw bt h k = record {
  forth = λ f. one_ways e w c v t s bw bt h k.trail (stands_for e c) refl (k.forth f);
  here = λ f. k.here (after_one-Fits e w c v t h f);
  later = λ b. k.later ((and_parts s (stands_for e c) b.0).0, b.1);
  trail = λ q. pushed e bw bt w c v t h (and_parts s (stands_for e c) q).1 (k.trail (and_parts s (stands_for e c) q).0);
}

-- the star takes one character more
pub claim_back : (e : Bool) (W : List (ℕ × Bool)) (T : List ℕ) (w : List (ℕ × Bool)) (t : List ℕ) (bw : List (ℕ × Bool)) (c : ℕ) (bt : List ℕ) → stands_for e c ≡ true → (Fits e w t → ⊥) →
    Claim e W T w t true bw (c ∷ bt) → Claim e W T bw bt true bw bt
claim_back e W T w t bw c bt may no_fit k = record {
  forth = λ f. back_ways e w t bw c bt no_fit (k.forth f);
  here = λ f. k.later (refl, (c, bt, refl, may, later_now e bw bt f));
  later = λ b. k.later (refl, (c, bt, refl, may, Later-FitsLater e bw bt b.1));
  trail = λ h. record { front = []; parts = refl; run = refl; may = refl };
}

pub claim_end : (e : Bool) (W : List (ℕ × Bool)) (T : List ℕ) (s : Bool) (bw : List (ℕ × Bool)) (bt : List ℕ) → Claim e W T [] [] s bw bt → Fits e W T
claim_end e W T s bw bt k = k.here end

pub claim_fails : (e : Bool) (W : List (ℕ × Bool)) (T : List ℕ) (w : List (ℕ × Bool)) (t : List ℕ) (s : Bool) (bw : List (ℕ × Bool)) (bt : List ℕ)
    → (Fits e w t → ⊥) → (Back e s bw bt → ⊥) → Claim e W T w t s bw bt → Fits e W T → ⊥
claim_fails e W T w t s bw bt no_fit no_back k f = neither no_fit no_back (k.forth f)

pub length_after_class : (w : List (ℕ × Bool)) (p : List (ℕ × Bool) × List (ℕ × Bool)) → IsClass w p → length p.1 < length w
length_after_class w p r = omega (arith, ap length r.parts, length-append p.0 (r.close ∷ p.1))

shorter_class : (e : Bool) (w : List (ℕ × Bool)) (o : Option (List (ℕ × Bool) × List (ℕ × Bool))) (c : ℕ) (v : List (ℕ × Bool)) → class_end w ≡ o → class_after e o c ≡ Some v → length v < length w
shorter_class e w None c v q h = absurd cc
shorter_class e w (Some p) c v q h =
    let g = guarded_2 (class_holds p.0 c) (stands_for e c) p.1 v h in
    let l = length_after_class w p (class_end-IsClass w p q) in
    subst (λ z. length z < length w) g.2 l

shorter_by : (e : Bool) (k : Role) (x : ℕ) (w : List (ℕ × Bool)) (c : ℕ) (v : List (ℕ × Bool)) → one_by e k x w c ≡ Some v → length v < suc (length w)
shorter_by e Star x w c v h = absurd cc
shorter_by e Question x w c v h = let q = ap length (cond_some (stands_for e c) w v h).1 in omega arith
shorter_by e Open x w c v h = let l = shorter_class e w (class_end w) c v refl h in omega arith
shorter_by e Plain x w c v h = let q = ap length (cond_some (eqb x c) w v h).1 in omega arith

pub after_one-shorter : (e : Bool) (w : List (ℕ × Bool)) (c : ℕ) (v : List (ℕ × Bool)) → after_one e w c ≡ Some v → length v < length w
after_one-shorter e [] c v h = absurd cc
after_one-shorter e (m ∷ w) c v h = shorter_by e (role m) m.0 w c v h

no_one_by : (e : Bool) (m : ℕ × Bool) (w : List (ℕ × Bool)) (c : ℕ) (t : List ℕ) → (role m ≡ Star → ⊥) → after_one e (m ∷ w) c ≡ None
    → ((role m ≡ Star) × FitsLater e w (c ∷ t)) ⊎ FitsOne e (m ∷ w) (c ∷ t) → ⊥
no_one_by e m w c t n h (inl x) = n x.0
no_one_by e m w c t n h (inr o) =
    let d : c ≡ o.0 = cc in
    let x : None ≡ Some o.2 = sym h ∙ ap (after_one e (m ∷ w)) d ∙ o.4 in
    cc

pub no_one : (e : Bool) (m : ℕ × Bool) (w : List (ℕ × Bool)) (c : ℕ) (t : List ℕ) → (role m ≡ Star → ⊥) → after_one e (m ∷ w) c ≡ None → Fits e (m ∷ w) (c ∷ t) → ⊥
no_one e m w c t n h f = no_one_by e m w c t n h (Fits-cons f)

pub nothing_fits : (e : Bool) (c : ℕ) (t : List ℕ) → Fits e [] (c ∷ t) → ⊥
nothing_fits e c t f = let q : c ∷ t ≡ [] = Fits-nil f in cc
