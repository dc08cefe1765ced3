-- A text that stands at a place has the hash that is wanted there.
use Rattle.std.proofs.Common.{◌≡◌, ℕ, zero, suc, ◌+◌, ◌*◌, ◌%◌, ◌^◌, ◌<◌, ◌≤◌, ◌==◌, Bool, true, false, ◌&&◌, List, [], ◌∷◌, ◌++◌, length, take, drop, None, refl, sym, ap, subst, ◌∙◌, arith, eq-eqb}
use Rattle.std.proofs.Math.Nat.{add-mod-mod, mod-add-mod, mod-eq_of_lt}
use Rattle.std.proofs.lemmas.Bool.{and_parts, eqb-true, ne_eqb}
use Rattle.std.proofs.lemmas.List.{length-drop, length-map}
use Rattle.std.proofs.lemmas.Nat.{mod_below, mul-mod_first, mul-mod_second, pow_pos}
use Rattle.rc_model.specs.Run.Patterns.{stands_for}
use Rattle.rc_text.specs.declared.words.literal.Ch.{Ch}
use Rattle.rc_text.specs.Literals.{marks}
use Rattle.rc_glob.specs.Characters.{characters}
use Rattle.rc_glob.specs.Places.{begins_with, first_place}
use Rattle.rc_glob.specs.Hashes.{add_char, factor, scale_from, hash_from}
use Rattle.rc_glob.proofs.Moves.{length-marks}
use Rattle.rc_glob.proofs.Reaching.{none_by, none_short, not_here}

pub length-characters : (run : List Ch) → length (characters run) ≡ length run
length-characters run = length-map (marks run) (λ (m : ℕ × Bool). m.0) ∙ length-marks run

-- ** hashes

regroup : (a p g c f : ℕ) → (a * p + g) * f + c ≡ a * (p * f) + (g * f + c)
regroup a p g c f = omega arith

step : (m a p g c f : ℕ) → ((a * p + g) % m * f + c) % m ≡ (a * ((p * f) % m) + (g * f + c) % m) % m
step m a p g c f =
    sym (mod-add-mod ((a * p + g) % m * f) m c)
    ∙ ap (λ z. (z + c) % m) (mul-mod_first (a * p + g) f m)
    ∙ mod-add-mod ((a * p + g) * f) m c
    ∙ ap (λ z. z % m) (regroup a p g c f)
    ∙ sym (mod-add-mod (a * (p * f)) m (g * f + c))
    ∙ ap (λ z. (z + (g * f + c)) % m) (sym (mul-mod_second a (p * f) m))
    ∙ mod-add-mod (a * ((p * f) % m)) m (g * f + c)
    ∙ sym (add-mod-mod (a * ((p * f) % m)) (g * f + c) m)

hash_scaled : (cs : List ℕ) (a x p g : ℕ) → x ≡ (a * p + g) % 2 ^ 64 → hash_from x cs ≡ (a * scale_from p cs + hash_from g cs) % 2 ^ 64
hash_scaled [] a x p g h = h
hash_scaled (c ∷ cs) a x p g h =
    hash_scaled cs a (add_char x c) ((p * factor) % 2 ^ 64) (add_char g c)
    (ap (λ z. (z * factor + c) % 2 ^ 64) h ∙ step (2 ^ 64) a p g c factor)

-- the hash of what is before some characters, and of these
hash_after : (a : ℕ) (cs : List ℕ) → a < 2 ^ 64 → hash_from a cs ≡ (a * scale_from 1 cs + hash_from 0 cs) % 2 ^ 64
hash_after a cs l =
    let same : a * 1 + 0 ≡ a = omega arith in
    hash_scaled cs a a 1 0 (sym (ap (λ z. z % 2 ^ 64) same ∙ mod-eq_of_lt l))

hash_push : (xs : List ℕ) (s d : ℕ) → hash_from s (xs ++ d ∷ []) ≡ add_char (hash_from s xs) d
hash_push [] s d = refl
hash_push (x ∷ xs) s d = hash_push xs (add_char s x) d

-- ** a text that begins with some characters

never : (b : Bool) → (b && false) ≡ false
never true = refl
never false = refl

begins_shorter : (cs x : List ℕ) → length x < length cs → begins_with cs x ≡ false
begins_shorter [] x l = absurd (omega arith)
begins_shorter (c ∷ cs) [] l = refl
begins_shorter (c ∷ cs) (d ∷ ds) l = ap (λ b. (c == d) && b) (begins_shorter cs ds (omega arith)) ∙ never (c == d)

begins_take : (cs x : List ℕ) → begins_with cs x ≡ true → take (length cs) x ≡ cs
begins_take [] x h = refl
begins_take (c ∷ cs) [] h = cc
begins_take (c ∷ cs) (d ∷ ds) h =
    let b = and_parts (c == d) (begins_with cs ds) h in
    let q : c ≡ d = eqb-true c d b.0 in
    let r : take (length cs) ds ≡ cs = begins_take cs ds b.1 in
    cc

-- where the text begins with the characters, it has their hash
hash_here : (cs x : List ℕ) (a hash : ℕ) → a < 2 ^ 64 → hash ≡ hash_from a (take (length cs) x) → begins_with cs x ≡ true → hash ≡ (a * scale_from 1 cs + hash_from 0 cs) % 2 ^ 64
hash_here cs x a hash l h b = h ∙ ap (hash_from a) (begins_take cs x b) ∙ hash_after a cs l

-- ** from one place to the next

slide : (k : ℕ) (xs : List ℕ) (d : ℕ) (ys : List ℕ) → drop k xs ≡ d ∷ ys → (take (suc k) xs ≡ take k xs ++ d ∷ []) × (drop (suc k) xs ≡ ys)
slide zero [] d ys h = cc
slide zero (x ∷ xs) d ys h = (cc, cc)
slide (suc k) [] d ys h = cc
slide (suc k) (x ∷ xs) d ys h = let r = slide k xs d ys h in (ap (λ z. x ∷ z) r.0, r.1)

-- as many characters from a place on as are looked for, what follows them, and their hash
pub record Window (cs : List ℕ) (a : ℕ) (place : List ℕ) (hash : ℕ) (ahead : List ℕ) : Type 0 where
  pub fits : a < 2 ^ 64
  pub enough : length cs ≤ length place
  pub rest : ahead ≡ drop (length cs) place
  pub hash_is : hash ≡ hash_from a (take (length cs) place)

pub window_at : (cs place ahead : List ℕ) (count hash : ℕ) → count ≡ length cs → count ≤ length place → hash ≡ hash_from 0 (take count place) → ahead ≡ drop count place → Window cs 0 place hash ahead
window_at cs place ahead count hash q l h k = record {
  fits = pow_pos 64;
  enough = omega arith;
  rest = k ∙ ap (λ n. drop n place) q;
  hash_is = h ∙ ap (λ n. hash_from 0 (take n place)) q;
}

pub window_next : (cs : List ℕ) (a : ℕ) (place : List ℕ) (hash : ℕ) (ahead : List ℕ) (c : ℕ) (more : List ℕ) (d : ℕ)
    (further : List ℕ) (b s : ℕ) → begins_with cs place ≡ false → place ≡ c ∷ more → ahead ≡ d ∷ further →
    b ≡ add_char a c → s ≡ add_char hash d → Window cs a place hash ahead → Window cs b more s further
window_next [] a place hash ahead c more d further b s n p q u v w = cc
window_next (x ∷ cs) a place hash ahead c more d further b s n p q u v w =
    let k = length cs in
    let here : drop k more ≡ d ∷ further = sym (w.rest ∙ ap (drop (suc k)) p) ∙ q in
    let next = slide k more d further here in
    let long : length (drop k more) ≡ suc (length further) = ap length here in
    let cut = length-drop k more in
    record {
      fits = subst (λ z. z < 2 ^ 64) (sym u) (mod_below (a * factor + c) (2 ^ 64) (pow_pos 64));
      enough = omega arith;
      rest = sym next.1;
      hash_is =
          v ∙ ap (λ z. add_char z d) (w.hash_is ∙ ap (λ t. hash_from a (take (suc k) t)) p)
          ∙ sym (hash_push (take k more) (add_char a c) d)
          ∙ ap (hash_from (add_char a c)) (sym next.0)
          ∙ ap (λ z. hash_from z (take (suc k) more)) (sym u);
    }

-- ** whether there is a place

pub no_room : (e : Bool) (cs t : List ℕ) → length t < length cs → first_place e (begins_with cs) t ≡ None
no_room e cs t l = none_short e (begins_with cs) (length cs) (begins_shorter cs) t l

-- a window that ends with the text is the last one
pub no_further_place : (e : Bool) (cs : List ℕ) (a : ℕ) (place : List ℕ) (hash : ℕ) (ahead : List ℕ) (c : ℕ) (more : List ℕ) → begins_with cs place ≡ false → place ≡ c ∷ more → ahead ≡ [] →
    Window cs a place hash ahead → first_place e (begins_with cs) place ≡ None
no_further_place e cs a place hash ahead c more n p q w =
    let cut = length-drop (length cs) place in
    let none : length (drop (length cs) place) ≡ 0 = ap length (sym w.rest ∙ q) in
    let one : length place ≡ suc (length more) = ap length p in
    ap (first_place e (begins_with cs)) p
    ∙ not_here e (begins_with cs) c more (ap (begins_with cs) (sym p) ∙ n)
    ∙ none_by (stands_for e c) (first_place e (begins_with cs) more) (no_room e cs more (omega arith))

-- ** the steps of the loops

pub hash_next : (rest others : List Ch) (first : Ch) (hash new total : ℕ) → rest ≡ first ∷ others →
    new ≡ add_char hash first.c → hash_from hash (characters rest) ≡ total → hash_from new (characters others) ≡ total
hash_next rest others first hash new total h k so_far =
    ap (λ s. hash_from s (characters others)) k ∙ (ap (λ r. hash_from hash (characters r)) (sym h) ∙ so_far)

pub scale_next : (rest others : List Ch) (first : Ch) (scale new total : ℕ) → rest ≡ first ∷ others → new ≡ (scale * factor) % 2 ^ 64 → scale_from scale (characters rest) ≡ total →
    scale_from new (characters others) ≡ total
scale_next rest others first scale new total h k so_far =
    ap (λ s. scale_from s (characters others)) k ∙ (ap (λ r. scale_from scale (characters r)) (sym h) ∙ so_far)

pub begins_next : (left others : List Ch) (first : Ch) (t u : List ℕ) (c : ℕ) → left ≡ first ∷ others → t ≡ c ∷ u → first.c ≡ c → begins_with (characters left) t ≡ begins_with (characters others) u
begins_next left others first t u c h k q =
    ap (λ l. begins_with (characters l) t) h ∙ (ap (begins_with (first.c ∷ characters others)) k ∙ ap (λ b. b && begins_with (characters others) u) (eq-eqb first.c c q))

pub begins_other : (left others : List Ch) (first : Ch) (t u : List ℕ) (c : ℕ) → left ≡ first ∷ others → t ≡ c ∷ u → (first.c ≡ c → ⊥) → false ≡ begins_with (characters left) t
begins_other left others first t u c h k q =
    sym (ap (λ l. begins_with (characters l) t) h ∙ (ap (begins_with (first.c ∷ characters others)) k ∙ ap (λ b. b && begins_with (characters others) u) (ne_eqb first.c c q)))

pub begins_none : (left others : List Ch) (first : Ch) (t : List ℕ) → left ≡ first ∷ others → t ≡ [] → false ≡ begins_with (characters left) t
begins_none left others first t h k = sym (ap (λ l. begins_with (characters l) t) h ∙ ap (begins_with (first.c ∷ characters others)) k)

pub begins_all : (left : List Ch) (t : List ℕ) → length left ≡ 0 → true ≡ begins_with (characters left) t
begins_all [] t h = refl
begins_all (c ∷ cs) t h = absurd (omega arith)

pub not_there : (b : Bool) (hash wanted : ℕ) → (b ≡ true → hash ≡ wanted) → (hash ≡ wanted → ⊥) → false ≡ b
not_there true hash wanted f n = absurd (n (f refl))
not_there false hash wanted f n = refl

-- this many characters are read one by one
pub read_hash : (t u : List ℕ) (c left less hash new total : ℕ) → t ≡ c ∷ u → left ≡ less + 1 → new ≡ add_char hash c → hash_from hash (take left t) ≡ total → hash_from new (take less u) ≡ total
read_hash t u c left less hash new total h k q so_far =
    let l : left ≡ suc less = omega arith in
    ap (λ s. hash_from s (take less u)) q ∙ (sym (ap (λ n. hash_from hash (take n t)) l ∙ ap (λ x. hash_from hash (take (suc less) x)) h) ∙ so_far)

pub read_rest : (t u all : List ℕ) (c left less : ℕ) → t ≡ c ∷ u → left ≡ less + 1 → drop left t ≡ all → drop less u ≡ all
read_rest t u all c left less h k so_far =
    let l : left ≡ suc less = omega arith in
    sym (ap (λ n. drop n t) l ∙ ap (drop (suc less)) h) ∙ so_far

pub read_end : (text rest : List ℕ) (count left hash : ℕ) → left ≤ 0 → hash_from hash (take left rest) ≡ hash_from 0 (take count text) → drop left rest ≡ drop count text →
    length text + left ≡ length rest + count → (count ≤ length text) × (hash ≡ hash_from 0 (take count text)) × (rest ≡ drop count text)
read_end text rest count left hash z h k n =
    let none : left ≡ 0 = omega arith in (
      omega arith,
      sym (ap (λ i. hash_from hash (take i rest)) none) ∙ h,
      sym (ap (λ i. drop i rest) none) ∙ k,
    )

-- the hash that is wanted, as it is computed
pub hash_wanted : (cs place ahead : List ℕ) (a hash scale goal wanted : ℕ) → scale ≡ scale_from 1 cs → goal ≡ hash_from 0 cs → wanted ≡ (a * scale + goal) % 2 ^ 64 → Window cs a place hash ahead →
    begins_with cs place ≡ true → hash ≡ wanted
hash_wanted cs place ahead a hash scale goal wanted h k q w b =
    hash_here cs place a hash w.fits w.hash_is b ∙ sym (q ∙ (ap (λ s. (a * s + goal) % 2 ^ 64) h ∙ ap (λ g. (a * scale_from 1 cs + g) % 2 ^ 64) k))
