-- What a word stands for at the least: a number of characters, or those that it begins with.
use Rattle.std.proofs.Common.{◌≡◌, ℕ, suc, ◌+◌, ◌<◌, ◌≤◌, ◌==◌, Bool, true, false, cond, ◌&&◌, not, List, [], ◌∷◌, ◌++◌, length, map, take, drop, get_or, Option, Some, None, refl, sym, ap, ◌∙◌, arith, eq-eqb, add-one, append_assoc, drop-cons}
use Rattle.std.proofs.lemmas.Bool.{and_parts, eqb-true}
use Rattle.std.proofs.lemmas.List.{append-nil, drop_all, map-append, nil_from_length, take_all, take_more}
use Rattle.std.proofs.lemmas.Option.{same_Some}
use Rattle.rc_model.specs.Syntax.Words.{Word, is_pattern}
use Rattle.rc_model.specs.Run.Patterns.{Pattern, This, AnyOne, AnyRun, OneOf, Unclosed, Inside, Outside, closed_class, is_marked, holds, one, parts_from, parts_match, stands_for}
use Rattle.rc_model.specs.Run.Matching.{Star, Question, Open, Plain}
use Rattle.rc_model.specs.Mirrors.Greedy.{class_end}
use Rattle.law_values.proofs.Computed.{by_kind, inside_parts, not_both, parts_cons, parts_inside}
use Rattle.law_values.proofs.Steps.{class_end-IsClass, length_after_class}
use Rattle.rc_text.specs.declared.words.literal.Ch.{Ch}
use Rattle.rc_text.specs.Literals.{mark_of, marks}
use Rattle.rc_glob.specs.Places.{begins_with, one_more, plain_front, width}
use Rattle.rc_glob.proofs.Moves.{length-marks}
use Rattle.rc_glob.proofs.Plain.{first_plain}
use Rattle.rc_glob.specs.Characters.{characters}

-- ** the width of the parts, one by one

width_by : (m : ℕ × Bool) (w : Word) (a b d : Bool) → is_marked 42 m ≡ a → is_marked 63 m ≡ b → is_marked 91 m ≡ d →
    width (parts_from Outside (m ∷ w)) ≡ width (by_kind (cond a Star (cond b Question (cond d Open Plain))) m.0 w)
width_by m w a b d h k l =
    ap width (parts_cons m w)
    ∙ ap (λ z. width (by_kind (cond z Star (cond (is_marked 63 m) Question (cond (is_marked 91 m) Open Plain))) m.0 w)) h
    ∙ ap (λ z. width (by_kind (cond a Star (cond z Question (cond (is_marked 91 m) Open Plain))) m.0 w)) k
    ∙ ap (λ z. width (by_kind (cond a Star (cond b Question (cond z Open Plain))) m.0 w)) l

pub width_star : (m : ℕ × Bool) (w : Word) → is_marked 42 m ≡ true → width (parts_from Outside (m ∷ w)) ≡ None
width_star m w h = width_by m w true (is_marked 63 m) (is_marked 91 m) h refl refl

pub width_open : (m : ℕ × Bool) (w : Word) → is_marked 42 m ≡ false → is_marked 91 m ≡ true → width (parts_from Outside (m ∷ w)) ≡ width (parts_from (Inside []) w)
width_open m w h k = width_by m w false false true h (not_both 91 63 m refl k) k

one_by : (m : ℕ × Bool) (w : Word) (b : Bool) → width (by_kind (cond b Question Plain) m.0 w) ≡ one_more (width (parts_from Outside w))
one_by m w true = refl
one_by m w false = refl

pub width_one : (m : ℕ × Bool) (w : Word) → is_marked 42 m ≡ false → is_marked 91 m ≡ false → width (parts_from Outside (m ∷ w)) ≡ one_more (width (parts_from Outside w))
width_one m w h k = width_by m w false (is_marked 63 m) false h refl k ∙ one_by m w (is_marked 63 m)

class_by : (m : ℕ × Bool) (ms : Word) (ps : List Pattern) (b : Bool) → width (cond b (OneOf ms true) (OneOf (m ∷ ms) false) ∷ ps) ≡ one_more (width ps)
class_by m ms ps true = refl
class_by m ms ps false = refl

width_class : (ms : Word) (ps : List Pattern) → width (closed_class ms ∷ ps) ≡ one_more (width ps)
width_class [] ps = refl
width_class (m ∷ ms) ps = class_by m ms ps (is_marked 126 m)

pub width_closed : (w : Word) (p : Word × Word) → Some p ≡ class_end w → width (parts_from (Inside []) w) ≡ one_more (width (parts_from Outside p.1))
width_closed w p h =
    ap width (parts_inside w []) ∙ ap (λ o. width (inside_parts [] o)) (sym h) ∙ width_class p.0 (parts_from Outside p.1)

pub width_unclosed : (w : Word) → None ≡ class_end w → width (parts_from (Inside []) w) ≡ Some 1
width_unclosed w h = ap width (parts_inside w []) ∙ ap (λ o. width (inside_parts [] o)) (sym h)

pub closed_shorter : (w members after : List Ch) → Some (marks members, marks after) ≡ class_end (marks w) → length after ≤ length w
closed_shorter w members after h =
    let l = length_after_class (marks w) (marks members, marks after) (class_end-IsClass (marks w) (marks members, marks after) (sym h)) in
    omega (arith, length-marks w, length-marks after)

-- more characters before those of the parts
abbrev pub more : ℕ → Option ℕ → Option ℕ
more n None = None
more n (Some k) = Some (n + k)

pub more_one : (n : ℕ) (o : Option ℕ) → more n (one_more o) ≡ more (n + 1) o
more_one n None = refl
more_one n (Some k) = ap Some (omega arith)

pub more_none : (n : ℕ) → more n (Some 0) ≡ Some n
more_none n = ap Some (omega arith)

pub no_more : (o : Option ℕ) → o ≡ more 0 o
no_more None = refl
no_more (Some k) = ap Some (omega arith)

-- ** a text that the parts match has as many characters

abbrev Long : (List ℕ → Bool) → Option ℕ → Type 0
Long go o = (n : ℕ) (x : List ℕ) → o ≡ Some n → go x ≡ true → length x ≡ n

one_long : (test : ℕ → Bool) (go : List ℕ → Bool) (o : Option ℕ) → Long go o → Long (one test go) (one_more o)
one_long test go None f n x h k = cc
one_long test go (Some m) f n [] h k = cc
one_long test go (Some m) f n (c ∷ cs) h k =
    let l : length cs ≡ m = f m cs refl (and_parts (test c) (go cs) k).1 in
    let q : suc m ≡ n = same_Some (suc m) n h in
    omega arith

pub width_long : (e : Bool) (ps : List Pattern) → Long (parts_match e ps) (width ps)
width_long e [] n [] h k = same_Some 0 n h
width_long e [] n (c ∷ cs) h k = cc
width_long e (This d ∷ ps) n x h k = one_long (λ c. c == d) (parts_match e ps) (width ps) (width_long e ps) n x h k
width_long e (AnyOne ∷ ps) n x h k = one_long (stands_for e) (parts_match e ps) (width ps) (width_long e ps) n x h k
width_long e (AnyRun ∷ ps) n x h k = cc
width_long e (OneOf members true ∷ ps) n x h k = one_long (λ c. stands_for e c && not (holds members c)) (parts_match e ps) (width ps) (width_long e ps) n x h k
width_long e (OneOf members false ∷ ps) n x h k = one_long (λ c. stands_for e c && holds members c) (parts_match e ps) (width ps) (width_long e ps) n x h k
width_long e (Unclosed ∷ ps) n x h k = cc

pub before_end : (w : Word) (n : ℕ) → Some n ≡ width (parts_from Outside w) → (e : Bool) (x : List ℕ) → parts_match e (parts_from Outside w) x ≡ true → (length x == n) ≡ true
before_end w n h e x k = eq-eqb (length x) n (width_long e (parts_from Outside w) n x (sym h) k)

-- ** such a text begins with the characters that the word begins with

front_step : (e : Bool) (c : ℕ) (w : Word) (x : List ℕ) → ((y : List ℕ) → parts_match e (parts_from Outside w) y ≡ true → begins_with (plain_front w) y ≡ true) →
    parts_match e (This c ∷ parts_from Outside w) x ≡ true → begins_with (c ∷ plain_front w) x ≡ true
front_step e c w [] f h = h
front_step e c w (d ∷ ds) f h =
    let b = and_parts (d == c) (parts_match e (parts_from Outside w) ds) h in
    ap (λ z. z && begins_with (plain_front w) ds) (eq-eqb c d (sym (eqb-true d c b.0))) ∙ f ds b.1

front_by : (e : Bool) (m : ℕ × Bool) (w : Word) (x : List ℕ) (b : Bool) → is_pattern m ≡ b → ((y : List ℕ) → parts_match e (parts_from Outside w) y ≡ true → begins_with (plain_front w) y ≡ true) →
    parts_match e (parts_from Outside (m ∷ w)) x ≡ true → begins_with (cond b [] (m.0 ∷ plain_front w)) x ≡ true
front_by e m w x true q f h = refl
front_by e m w x false q f h = front_step e m.0 w x f (ap (λ ps. parts_match e ps x) (sym (first_plain m w q)) ∙ h)

front_begins : (e : Bool) (w : Word) (x : List ℕ) → parts_match e (parts_from Outside w) x ≡ true → begins_with (plain_front w) x ≡ true
front_begins e [] x h = refl
front_begins e (m ∷ w) x h = front_by e m w x (is_pattern m) refl (front_begins e w) h

pub at_front : (w : Word) (cs : List ℕ) → cs ≡ plain_front w → (e : Bool) (x : List ℕ) → parts_match e (parts_from Outside w) x ≡ true → begins_with cs x ≡ true
at_front w cs q e x h = ap (λ z. begins_with z x) q ∙ front_begins e w x h

-- ** the steps of the loops

characters-append : (xs ys : List Ch) → characters (xs ++ ys) ≡ characters xs ++ characters ys
characters-append xs ys = ap (map (λ (m : ℕ × Bool). m.0)) (map-append mark_of xs ys) ∙ map-append (λ (m : ℕ × Bool). m.0) (marks xs) (marks ys)

module _ (word : List Ch) (i : ℕ) (d : Ch) (l : i < length word) where
  here : plain_front (marks (drop i word)) ≡ cond (is_pattern (mark_of (get_or word i d))) [] ((get_or word i d).c ∷ plain_front (marks (drop (i + 1) word)))
  here =
      ap (λ w. plain_front (marks w)) (drop-cons word i d l)
      ∙ ap (λ n. cond (is_pattern (mark_of (get_or word i d))) [] ((get_or word i d).c ∷ plain_front (marks (drop n word)))) (sym (add-one i))

  pub front_goes_on : (b : Bool) → b ≡ is_pattern (mark_of (get_or word i d)) → b ≡ false → plain_front (marks word) ≡ characters (take i word) ++ plain_front (marks (drop i word)) →
      plain_front (marks word) ≡ characters (take (i + 1) word) ++ plain_front (marks (drop (i + 1) word))
  front_goes_on b h k so_far =
      let rest = plain_front (marks (drop (i + 1) word)) in
      so_far
      ∙ (ap (λ t. characters (take i word) ++ t) (here ∙ ap (λ z. cond z [] ((get_or word i d).c ∷ rest)) (sym h ∙ k))
      ∙ (sym (append_assoc (characters (take i word)) ((get_or word i d).c ∷ []) rest)
      ∙ ap (λ t. t ++ rest) (sym (ap characters (take_more word i d l) ∙ characters-append (take i word) (get_or word i d ∷ [])))))

  pub front_ends : (b : Bool) → b ≡ is_pattern (mark_of (get_or word i d)) → b ≡ true → plain_front (marks word) ≡ characters (take i word) ++ plain_front (marks (drop i word)) →
      characters (take i word) ≡ plain_front (marks word)
  front_ends b h k so_far =
      let rest = plain_front (marks (drop (i + 1) word)) in
      sym (so_far ∙ (ap (λ t. characters (take i word) ++ t) (here ∙ ap (λ z. cond z [] ((get_or word i d).c ∷ rest)) (sym h ∙ k)) ∙ append-nil (characters (take i word))))

pub front_whole : (word : List Ch) (i : ℕ) → length word ≤ i → plain_front (marks word) ≡ characters (take i word) ++ plain_front (marks (drop i word)) → characters word ≡ plain_front (marks word)
front_whole word i l so_far =
    sym (so_far ∙ (ap (λ w. characters (take i word) ++ plain_front (marks w)) (drop_all i word l) ∙ (append-nil (characters (take i word)) ∙ ap characters (take_all i word l))))

pub width_none : (word rest others : List Ch) (first : Ch) (n : ℕ) (b : Bool) → rest ≡ first ∷ others → b ≡ is_marked 42 (mark_of first) → b ≡ true →
    width (parts_from Outside (marks word)) ≡ more n (width (parts_from Outside (marks rest))) → None ≡ width (parts_from Outside (marks word))
width_none word rest others first n b h k q so_far =
    sym (so_far ∙ ap (more n) (ap (λ w. width (parts_from Outside (marks w))) h ∙ width_star (mark_of first) (marks others) (sym k ∙ q)))

pub width_next : (word rest others new : List Ch) (first : Ch) (n : ℕ) → rest ≡ first ∷ others →
    width (parts_from Outside (mark_of first ∷ marks others)) ≡ one_more (width (parts_from Outside (marks new))) →
    width (parts_from Outside (marks word)) ≡ more n (width (parts_from Outside (marks rest))) → width (parts_from Outside (marks word)) ≡ more (n + 1) (width (parts_from Outside (marks new)))
width_next word rest others new first n h k so_far =
    so_far ∙ (ap (more n) (ap (λ w. width (parts_from Outside (marks w))) h ∙ k) ∙ more_one n (width (parts_from Outside (marks new))))

pub width_end : (word rest : List Ch) (n : ℕ) → length rest ≡ 0 →
    width (parts_from Outside (marks word)) ≡ more n (width (parts_from Outside (marks rest))) →
    Some n ≡ width (parts_from Outside (marks word))
width_end word rest n h so_far = sym (so_far ∙ (ap (λ w. more n (width (parts_from Outside (marks w)))) (nil_from_length rest h) ∙ more_none n))
