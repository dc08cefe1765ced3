-- A reader is exact: it takes what is spelled so and fits, and nothing else.
use Rattle.std.specs.Prelude.{Result, Ok, Err, nat_le, IsTrue, codes, take, drop}
use Rattle.std.proofs.Common.{◌≡◌, ℕ, zero, suc, List, [], ◌∷◌, ◌++◌, length, Bool, true, false, ◌&&◌, refl, sym, ap, subst, ◌∙◌, append_assoc, length-append, arith}
use Rattle.std.proofs.Math.Seq.{take-append_seam, drop-append_seam}
use Rattle.std.proofs.lemmas.List.{take-append-drop, length-take-le}
use Rattle.std.specs.Prelude.{◌==◌, if◌then◌else◌}
use Rattle.std.proofs.lemmas.Bool.{and_parts, and_from, leb-true, le-leb, eqb-true, eq-eqb}
use Rattle.rc_model.specs.Run.Numbers.{is_digit, digits_value}
use Rattle.rc_model.specs.Syntax.Tree.{Sort, Node, Many, none, more, count}
use Rattle.rc_model.specs.Handed.TreeSpelling.{◌⨾◌, Is, Number, is_text, Texted, Listed, Spells, SpellsAll}
use Rattle.rc_model.specs.Handed.TreeReading.{Reader, ◌>>=◌, made, both, tested, chosen, tagged, given, digit_run, past_digits, is_count, marked, count_at, bytes_at, text_at, nodes_at, listed}
use Rattle.law_image.proofs.Counts.{run_of, past_of, run_and_past, run_digits, count_of, number_at}
use Rattle.law_image.proofs.Fits.{fits, all_fit}
use Rattle.rc_model.specs.declared.fault.ImageFault.{ImageFault}

-- where a reader read x, a spelling of x stands
pub record Found {X : Type 0} (S : X → List ℕ → Type 0) (ok : X → Bool) (bytes : List ℕ) (x : X) (rest : List ℕ) : Type 0 where
  pub text : List ℕ
  pub cut : bytes ≡ text ++ rest
  pub spelled : S x text
  pub fine : IsTrue (ok x)

pub record Exact {X : Type 0} (r : Reader X) (S : X → List ℕ → Type 0) (ok : X → Bool) : Type 0 where
  pub accepts : (x : X) (text rest : List ℕ) → S x text → IsTrue (ok x) → r (text ++ rest) ≡ Ok (x, rest)
  pub only : (bytes : List ℕ) (x : X) (rest : List ℕ) → r bytes ≡ Ok (x, rest) → Found S ok bytes x rest

-- one step and the next
abbrev value_or : {A : Type 0} → A → Result A ImageFault → A
value_or x (Ok y) = y
value_or x (Err e) = x

abbrev okay : {A : Type 0} → A → Result A ImageFault
okay x = Ok x

pub ok_inj : {A : Type 0} (x y : A) → okay x ≡ okay y → x ≡ y
ok_inj x y h = ap (value_or x) h

pub bind_back : {A B : Type 0} (m : Result A ImageFault) (f : A → Result B ImageFault) (z : B) → (m >>= f) ≡ Ok z → (v : A) × (m ≡ Ok v) × (f v ≡ Ok z)
bind_back (Ok v) f z h = (v, refl, h)
bind_back (Err e) f z h = absurd (cc)

pub bind_on : {A B : Type 0} (m : Result A ImageFault) (f : A → Result B ImageFault) (v : A) (z : Result B ImageFault) → m ≡ Ok v → f v ≡ z → (m >>= f) ≡ z
bind_on m f v z e h = subst (λ n. (n >>= f) ≡ z) (sym e) h

-- a test in a reader
pub if_ok : {A : Type 0} (t : Bool) (m : Result A ImageFault) (e : ImageFault) (z : A) → (if t then m else Err e) ≡ Ok z → IsTrue t × (m ≡ Ok z)
if_ok true m e z h = (refl, h)
if_ok false m e z h = absurd (cc)

pub if_is : {A : Type 0} (t : Bool) (m n : A) → IsTrue t → (if t then m else n) ≡ m
if_is t m n h = ap (λ u. if u then m else n) h

pub seam : (front back text rest : List ℕ) → text ≡ front ++ back → text ++ rest ≡ front ++ (back ++ rest)
seam front back text rest e = ap (λ z. z ++ rest) e ∙ append_assoc front back rest

pub after_mark : (mark : ℕ) {P : List ℕ → Type 0} (text rest : List ℕ) (j : (Is (mark ∷ []) ⨾ P) text) → text ++ rest ≡ mark ∷ (j.back ++ rest)
after_mark mark text rest j = seam j.front j.back text rest j.cut ∙ ap (λ z. z ++ (j.back ++ rest)) j.first

module _ {X Y : Type 0} {S : X → List ℕ → Type 0} {T : Y → List ℕ → Type 0} {ok : X → Bool} {ok' : Y → Bool} where
  both_found : (bytes : List ℕ) (x : X) (middle : List ℕ) (y : Y) (rest : List ℕ) → Found S ok bytes x middle → Found T ok' middle y rest
      → Found {X = X × Y} (λ p. S p.0 ⨾ T p.1) (λ p. ok p.0 && ok' p.1) bytes (x, y) rest
  both_found bytes x middle y rest f g = record {
    text = f.text ++ g.text;
    cut = f.cut ∙ ap (λ z. f.text ++ z) g.cut ∙ sym (append_assoc f.text g.text rest);
    spelled = record { front = f.text; back = g.text; cut = refl; first = f.spelled; second = g.spelled };
    fine = and_from (ok x) _ f.fine g.fine;
  }

module _ {X Y : Type 0} {r : Reader X} {q : Reader Y} {S : X → List ℕ → Type 0} {T : Y → List ℕ → Type 0} {ok : X → Bool} {ok' : Y → Bool} where
  both_accepts : Exact r S ok → Exact q T ok' → (p : X × Y) (text rest : List ℕ) → (S p.0 ⨾ T p.1) text → IsTrue (ok p.0 && ok' p.1) → both r q (text ++ rest) ≡ Ok (p, rest)
  both_accepts R Q p text rest j h =
      let k = and_parts (ok p.0) (ok' p.1) h in
      let one : r (text ++ rest) ≡ Ok (p.0, j.back ++ rest) = ap r (seam j.front j.back text rest j.cut) ∙ R.accepts p.0 j.front (j.back ++ rest) j.first k.0 in
      let two : q (j.back ++ rest) ≡ Ok (p.1, rest) = Q.accepts p.1 j.back rest j.second k.1 in
      bind_on (r (text ++ rest)) _ (p.0, j.back ++ rest) _ one (bind_on (q (j.back ++ rest)) _ (p.1, rest) _ two refl)

  both_only : Exact r S ok → Exact q T ok' → (bytes : List ℕ) (p : X × Y) (rest : List ℕ) → both r q bytes ≡ Ok (p, rest) → Found (λ p. S p.0 ⨾ T p.1) (λ p. ok p.0 && ok' p.1) bytes p rest
  both_only R Q bytes p rest h =
      let u = bind_back (r bytes) _ _ h in
      let v = bind_back (q u.0.1) _ _ u.2 in
      subst (λ (z : (X × Y) × List ℕ). Found {X = X × Y} (λ p. S p.0 ⨾ T p.1) (λ p. ok p.0 && ok' p.1) bytes z.0 z.1) (ok_inj _ _ v.2)
      (both_found bytes u.0.0 u.0.1 v.0.0 v.0.1 (R.only bytes u.0.0 u.0.1 u.1) (Q.only u.0.1 v.0.0 v.0.1 v.1))

  pub both_exact : Exact r S ok → Exact q T ok' → Exact (both r q) (λ p. S p.0 ⨾ T p.1) (λ p. ok p.0 && ok' p.1)
  both_exact R Q = record { accepts = both_accepts R Q; only = both_only R Q }

module _ {X : Type 0} {r : Reader X} {S : X → List ℕ → Type 0} {ok : X → Bool} (test : X → Bool) where
  tested_accepts : Exact r S ok → (x : X) (text rest : List ℕ) → S x text → IsTrue (test x && ok x) → tested test r (text ++ rest) ≡ Ok (x, rest)
  tested_accepts R x text rest s h =
      let k = and_parts (test x) (ok x) h in
      bind_on (r (text ++ rest)) _ (x, rest) _ (R.accepts x text rest s k.1) (if_is (test x) _ _ k.0)

  tested_only : Exact r S ok → (bytes : List ℕ) (x : X) (rest : List ℕ) → tested test r bytes ≡ Ok (x, rest) → Found S (λ x. test x && ok x) bytes x rest
  tested_only R bytes x rest h =
      let u = bind_back (r bytes) _ _ h in
      let v = if_ok (test u.0.0) _ _ _ u.2 in
      let f = R.only bytes u.0.0 u.0.1 u.1 in
      subst (λ (z : X × List ℕ). Found S (λ x. test x && ok x) bytes z.0 z.1) (ok_inj _ _ v.1)
      (record { text = f.text; cut = f.cut; spelled = f.spelled; fine = and_from (test u.0.0) _ v.0 f.fine })

  pub tested_exact : Exact r S ok → Exact (tested test r) S (λ x. test x && ok x)
  tested_exact R = record { accepts = tested_accepts R; only = tested_only R }

-- numbers
module _ (mark : ℕ) (not_digit : is_digit mark ≡ false) where
  count_accepts : (n : ℕ) (text rest : List ℕ) → (Number n ⨾ Is (mark ∷ [])) text → true ≡ true → count_at mark (text ++ rest) ≡ Ok (n, rest)
  count_accepts n text rest j h =
      let e : text ++ rest ≡ j.front ++ (mark ∷ rest) = seam j.front j.back text rest j.cut ∙ ap (λ z. j.front ++ (z ++ rest)) j.second in
      let c : is_count j.front ≡ true = count_of n j.front j.first in
      let run = run_of j.front mark rest j.first.digits not_digit in
      let past = past_of j.front mark rest j.first.digits not_digit in
      let one : count_at mark (j.front ++ (mark ∷ rest)) ≡ marked mark n (mark ∷ rest) =
      rw (run, past) (if_is (is_count j.front) _ _ c) ∙ ap (λ v. marked mark v (mark ∷ rest)) j.first.value in
      ap (count_at mark) e ∙ one ∙ if_is (mark == mark) _ _ (eq-eqb mark mark refl)

  marked_back : (n : ℕ) (bytes : List ℕ) (z : ℕ × List ℕ) → marked mark n bytes ≡ Ok z → (bytes ≡ mark ∷ z.1) × (n ≡ z.0)
  marked_back n [] z h = absurd (cc)
  marked_back n (b ∷ rest) z h =
      let k = if_ok (b == mark) _ _ _ h in
      let e = ok_inj _ _ k.1 in
      (ap (λ x. x ∷ rest) (eqb-true b mark k.0) ∙ ap (λ (w : ℕ × List ℕ). mark ∷ w.1) e, ap (λ (w : ℕ × List ℕ). w.0) e)

  count_only : (bytes : List ℕ) (n : ℕ) (rest : List ℕ) → count_at mark bytes ≡ Ok (n, rest) → Found (λ n. Number n ⨾ Is (mark ∷ [])) (λ n. true) bytes n rest
  count_only bytes n rest h =
      let k = if_ok (is_count (digit_run bytes)) _ _ _ h in
      let m = marked_back (digits_value 0 (digit_run bytes)) (past_digits bytes) (n, rest) k.1 in
      record {
        text = digit_run bytes ++ (mark ∷ []);
        cut = run_and_past bytes ∙ ap (λ z. digit_run bytes ++ z) m.0 ∙ sym (append_assoc (digit_run bytes) (mark ∷ []) rest);
        spelled = record {
          front = digit_run bytes;
          back = mark ∷ [];
          cut = refl;
          first = subst (λ v. Number v (digit_run bytes)) m.1
              (number_at (digit_run bytes) (run_digits bytes) k.0);
          second = refl;
        };
        fine = refl;
      }

  pub count_exact : Exact (count_at mark) (λ n. Number n ⨾ Is (mark ∷ [])) (λ n. true)
  count_exact = record { accepts = count_accepts; only = count_only }

-- texts
bytes_accept : (x rest : List ℕ) → IsTrue (is_text x) → bytes_at (length x) (x ++ rest) ≡ Ok (x, rest)
bytes_accept x rest h =
    rw (take-append_seam x rest, drop-append_seam x rest) (if_is (nat_le (length x) (length (x ++ rest)) && is_text x) _ _
    (and_from (nat_le (length x) (length (x ++ rest))) _ (le-leb _ _ (omega (arith, length-append x rest))) h))

text_accepts : (x text rest : List ℕ) → Texted x text → true ≡ true → text_at (text ++ rest) ≡ Ok (x, rest)
text_accepts x text rest t h =
    let j = t.spelled in
    let one : count_at 58 (text ++ rest) ≡ Ok (length x, j.back ++ rest) =
    ap (count_at 58) (seam j.front j.back text rest j.cut) ∙ (count_exact 58 refl).accepts (length x) j.front (j.back ++ rest) j.first refl in
    bind_on (count_at 58 (text ++ rest)) _ (length x, j.back ++ rest) _ one (ap (λ z. bytes_at (length x) (z ++ rest)) j.second ∙ bytes_accept x rest t.characters)

text_found : (bytes : List ℕ) (n : ℕ) (tail : List ℕ) → Found (λ n. Number n ⨾ Is (codes ":")) (λ n. true) bytes n tail → IsTrue (nat_le n (length tail) && is_text (take n tail))
    → Found Texted (λ x. true) bytes (take n tail) (drop n tail)
text_found bytes n tail f h =
    let k = and_parts (nat_le n (length tail)) (is_text (take n tail)) h in
    let size : n ≡ length (take n tail) = sym (length-take-le n tail (leb-true n (length tail) k.0)) in
    record {
      text = f.text ++ take n tail;
      cut = f.cut ∙ ap (λ z. f.text ++ z) (sym (take-append-drop n tail)) ∙ sym (append_assoc f.text (take n tail) (drop n tail));
      spelled = record {
        characters = k.1;
        spelled = record { front = f.text; back = take n tail; cut = refl; first = subst (λ v. (Number v ⨾ Is (codes ":")) f.text) size f.spelled; second = refl };
      };
      fine = refl;
    }

text_only : (bytes x rest : List ℕ) → text_at bytes ≡ Ok (x, rest) → Found Texted (λ x. true) bytes x rest
text_only bytes x rest h =
    let u = bind_back (count_at 58 bytes) _ _ h in
    let v = if_ok (nat_le u.0.0 (length u.0.1) && is_text (take u.0.0 u.0.1)) _ _ _ u.2 in
    subst (λ (z : List ℕ × List ℕ). Found Texted (λ x. true) bytes z.0 z.1) (ok_inj _ _ v.1)
    (text_found bytes u.0.0 u.0.1 ((count_exact 58 refl).only bytes u.0.0 u.0.1 u.1) v.0)

pub text_exact : Exact text_at Texted (λ x. true)
text_exact = record { accepts = text_accepts; only = text_only }

-- nodes and lists of nodes
abbrev pub Good : {s : Sort} → ℕ → Reader (Node s) → Type 0
Good d r = Exact r (λ x. Spells x) (λ x. fits x d)

abbrev pub Nodes : {s : Sort} → Many s → List ℕ → Type 0
Nodes ns = Listed (count ns) (SpellsAll ns)

module _ {s : Sort} (d : ℕ) {r : Reader (Node s)} (R : Good d r) where
  nodes_accept : (ns : Many s) (text rest : List ℕ) → SpellsAll ns text → IsTrue (all_fit ns d) → nodes_at r (count ns) (text ++ rest) ≡ Ok (ns, rest)
  nodes_accept none text rest e h = ap (λ z. Ok (none, z ++ rest)) e
  nodes_accept (more n ns) text rest j h =
      let f = and_parts (fits n d) (all_fit ns d) h in
      bind_on (r (text ++ rest)) _ (n, j.back ++ rest) _
      (ap r (seam j.front j.back text rest j.cut) ∙ R.accepts n j.front (j.back ++ rest) j.first f.0)
      (bind_on (nodes_at r (count ns) (j.back ++ rest)) _ (ns, rest) _ (nodes_accept ns j.back rest j.second f.1) refl)

  abbrev CountedAs : ℕ → Many s → List ℕ → Type 0
  CountedAs n ns text = SpellsAll ns text × (count ns ≡ n)

  more_found : (n : ℕ) (bytes : List ℕ) (x : Node s) (middle : List ℕ) (ns : Many s) (rest : List ℕ)
      → Found (λ x. Spells x) (λ x. fits x d) bytes x middle → Found (CountedAs n) (λ ns. all_fit ns d) middle ns rest
      → Found (CountedAs (suc n)) (λ ns. all_fit ns d) bytes (more x ns) rest
  more_found n bytes x middle ns rest f g = record {
    text = f.text ++ g.text;
    cut = f.cut ∙ ap (λ z. f.text ++ z) g.cut ∙ sym (append_assoc f.text g.text rest);
    spelled = (record { front = f.text; back = g.text; cut = refl; first = f.spelled; second = g.spelled.0 }, ap suc g.spelled.1);
    fine = and_from (fits x d) _ f.fine g.fine;
  }

  nodes_only : (n : ℕ) (bytes : List ℕ) (ns : Many s) (rest : List ℕ) → nodes_at r n bytes ≡ Ok (ns, rest) → Found (CountedAs n) (λ ns. all_fit ns d) bytes ns rest
  nodes_only zero bytes ns rest h =
      subst (λ (z : Many s × List ℕ). Found (CountedAs 0) (λ ns. all_fit ns d) bytes z.0 z.1) (ok_inj _ _ h)
      (record { text = []; cut = refl; spelled = (refl, refl); fine = refl })
  nodes_only (suc n) bytes ns rest h =
      let u = bind_back (r bytes) _ _ h in
      let v = bind_back (nodes_at r n u.0.1) _ _ u.2 in
      subst (λ (z : Many s × List ℕ). Found (CountedAs (suc n)) (λ ns. all_fit ns d) bytes z.0 z.1) (ok_inj _ _ v.2)
      (more_found n bytes u.0.0 u.0.1 v.0.0 v.0.1 (R.only bytes u.0.0 u.0.1 u.1) (nodes_only n u.0.1 v.0.0 v.0.1 v.1))

  module _ (test : ℕ → Bool) where
    counted : Exact (tested test (count_at 44)) (λ n. Number n ⨾ Is (codes ",")) (λ n. test n && true)
    counted = tested_exact test (count_exact 44 refl)

    listed_accepts : (ns : Many s) (text rest : List ℕ) → Nodes ns text → IsTrue (test (count ns) && all_fit ns d) → listed test r (text ++ rest) ≡ Ok (ns, rest)
    listed_accepts ns text rest j h =
        let f = and_parts (test (count ns)) (all_fit ns d) h in
        let one : tested test (count_at 44) (text ++ rest) ≡ Ok (count ns, j.back ++ rest) =
        ap (tested test (count_at 44)) (seam j.front j.back text rest j.cut) ∙ counted.accepts (count ns) j.front (j.back ++ rest) j.first (and_from (test (count ns)) true f.0 refl) in
        bind_on (tested test (count_at 44) (text ++ rest)) _ (count ns, j.back ++ rest) _ one (nodes_accept ns j.back rest j.second f.1)

    listed_found : (bytes : List ℕ) (n : ℕ) (middle : List ℕ) (ns : Many s) (rest : List ℕ)
        → Found (λ n. Number n ⨾ Is (codes ",")) (λ n. test n && true) bytes n middle → Found (CountedAs n) (λ ns. all_fit ns d) middle ns rest
        → Found Nodes (λ ns. test (count ns) && all_fit ns d) bytes ns rest
    listed_found bytes n middle ns rest f g = record {
      text = f.text ++ g.text;
      cut = f.cut ∙ ap (λ z. f.text ++ z) g.cut ∙ sym (append_assoc f.text g.text rest);
      spelled = record { front = f.text; back = g.text; cut = refl; first = subst (λ v. (Number v ⨾ Is (codes ",")) f.text) (sym g.spelled.1) f.spelled; second = g.spelled.0 };
      fine = and_from (test (count ns)) _ (ap test g.spelled.1 ∙ (and_parts (test n) true f.fine).0) g.fine;
    }

    listed_only : (bytes : List ℕ) (ns : Many s) (rest : List ℕ) → listed test r bytes ≡ Ok (ns, rest) → Found Nodes (λ ns. test (count ns) && all_fit ns d) bytes ns rest
    listed_only bytes ns rest h =
        let u = bind_back (tested test (count_at 44) bytes) _ _ h in
        listed_found bytes u.0.0 u.0.1 ns rest (counted.only bytes u.0.0 u.0.1 u.1) (nodes_only u.0.0 u.0.1 ns rest u.2)

    pub listed_exact : Exact (listed test r) Nodes (λ ns. test (count ns) && all_fit ns d)
    listed_exact = record { accepts = listed_accepts; only = listed_only }

-- tables
infixr 5 ◌▹◌
abbrev pub ◌▹◌ : {P Q : Type 0} → P → Q → P × Q
p ▹ q = (p, q)

module _ {Y : Type 0} (T : Y → List ℕ → Type 0) (good : Y → Bool) where
  abbrev pub RowOnly : ℕ × Reader Y → Type 0
  RowOnly row = (bytes : List ℕ) (y : Y) (rest : List ℕ) → row.1 bytes ≡ Ok (y, rest) → Found T good (row.0 ∷ bytes) y rest

  abbrev pub RowsOnly : List (ℕ × Reader Y) → Type 0
  RowsOnly [] = Unit {0}
  RowsOnly (row ∷ rows) = RowOnly row × RowsOnly rows

  chosen_row : (row : ℕ × Reader Y) (b : ℕ) (bytes : List ℕ) (y : Y) (rest : List ℕ) (other : Result (Y × List ℕ) ImageFault) → RowOnly row → (other ≡ Ok (y, rest) → Found T good (b ∷ bytes) y rest)
      → (t : Bool) → (b == row.0) ≡ t → (if t then row.1 bytes else other) ≡ Ok (y, rest) → Found T good (b ∷ bytes) y rest
  chosen_row row b bytes y rest other f g true e h = subst (λ c. Found T good (c ∷ bytes) y rest) (sym (eqb-true b row.0 e)) (f bytes y rest h)
  chosen_row row b bytes y rest other f g false e h = g h

  chosen_only : (rows : List (ℕ × Reader Y)) → RowsOnly rows → (b : ℕ) (bytes : List ℕ) (y : Y) (rest : List ℕ) → chosen rows b bytes ≡ Ok (y, rest) → Found T good (b ∷ bytes) y rest
  chosen_only [] u b bytes y rest h = absurd (cc)
  chosen_only (row ∷ rows) u b bytes y rest h = chosen_row row b bytes y rest (chosen rows b bytes) u.0 (λ h'. chosen_only rows u.1 b bytes y rest h') (b == row.0) refl h

  pub tagged_only : (rows : List (ℕ × Reader Y)) → RowsOnly rows → (bytes : List ℕ) (y : Y) (rest : List ℕ) → tagged rows bytes ≡ Ok (y, rest) → Found T good bytes y rest
  tagged_only rows u [] y rest h = absurd (cc)
  tagged_only rows u (b ∷ bytes) y rest h = chosen_only rows u b bytes y rest h

  module _ {X : Type 0} {r : Reader X} {S : X → List ℕ → Type 0} {ok : X → Bool} where
    pub row_only : Exact r S ok → (tag : ℕ) (f : X → Y) → ((x : X) (text : List ℕ) → (Is (tag ∷ []) ⨾ S x) text → T (f x) text)
        → ((x : X) → IsTrue (ok x) → IsTrue (good (f x))) → RowOnly (tag, made f r)
    row_only R tag f same fine bytes y rest h =
        let u = bind_back (r bytes) _ _ h in
        let g = R.only bytes u.0.0 u.0.1 u.1 in
        subst (λ (z : Y × List ℕ). Found T good (tag ∷ bytes) z.0 z.1) (ok_inj _ _ u.2)
        (record {
          text = tag ∷ g.text;
          cut = ap (λ z. tag ∷ z) g.cut;
          spelled = same u.0.0 (tag ∷ g.text) (record { front = tag ∷ []; back = g.text; cut = refl; first = refl; second = g.spelled });
          fine = fine u.0.0 g.fine;
        })

  pub given_only : (tag : ℕ) (x : Y) → T x (tag ∷ []) → IsTrue (good x) → RowOnly (tag, given x)
  given_only tag x s g bytes y rest h =
      subst (λ (z : Y × List ℕ). Found T good (tag ∷ bytes) z.0 z.1) (ok_inj _ _ h) (record { text = tag ∷ []; cut = refl; spelled = s; fine = g })

pub row_accepts : {X Y : Type 0} {r : Reader X} {S : X → List ℕ → Type 0} {ok : X → Bool} → Exact r S ok
    → (tag : ℕ) (f : X → Y) (rows : List (ℕ × Reader Y)) → ((bytes : List ℕ) → chosen rows tag bytes ≡ made f r bytes) → (x : X) (text rest : List ℕ)
    → (Is (tag ∷ []) ⨾ S x) text → IsTrue (ok x)
    → tagged rows (text ++ rest) ≡ Ok (f x, rest)
row_accepts {r = r} R tag f rows at x text rest j h =
    ap (tagged rows) (after_mark tag text rest j) ∙ at (j.back ++ rest) ∙ bind_on (r (j.back ++ rest)) _ (x, rest) _ (R.accepts x j.back rest j.second h) refl
