-- The readers of all kinds of nodes are exact.
use Rattle.std.specs.Prelude.{Ok, Err, IsTrue}
use Rattle.std.proofs.Common.{◌≡◌, ℕ, zero, suc, ◌+◌, List, [], ◌∷◌, ◌++◌, Bool, true, false, refl, sym, ap, subst, ◌∙◌}
use Rattle.std.proofs.lemmas.Bool.{and_parts, and_from, false≢true}
use Rattle.std.proofs.lemmas.Bool.Decides.{nat_tests}
use Rattle.std.proofs.Common.{◌⊎◌, arith}
use mathlib.Core.Logic.{⊎_elim}
use Rattle.rc_model.specs.declared.call.Mode.TheVariants.{Read, Write, Append}
use Rattle.rc_model.specs.Syntax.Tree.{Sort, Node, cmd, arg, item, pair, redir, stage, link, branch, piece}
use Rattle.rc_model.specs.declared.syntax.Logic.TheVariants.{And, Or}
use Rattle.rc_model.specs.Syntax.Tree as t
use Rattle.rc_model.specs.Syntax.WellFormed.{is_output, copies, has_text}
use Rattle.rc_model.specs.Handed.TreeSpelling.{◌⨾◌, Is, Output, Crossing, Plainly, Spells}
use Rattle.rc_model.specs.Handed.TreeReading.{Reader, made, tagged, given, output_at, crossing_at, any, some, several, few, output_rows}
use Rattle.rc_model.specs.Handed.TreeReading.{crossing_rows, item_rows, link_rows, piece_rows, redir_rows, item_at, pair_at, stage_at, link_at}
use Rattle.rc_model.specs.Handed.TreeReading.{branch_at, piece_at, redir_at, cmd_rows, arg_rows, cmd_at, arg_at}
use Rattle.law_image.proofs.Fits.{fits}
use Rattle.law_image.proofs.Exact.{Found, Exact, ok_inj, bind_back, bind_on, both_exact, tested_exact, text_exact, Good, listed_exact, RowOnly, ◌▹◌, tagged_only, row_only, row_accepts, given_only}
use Rattle.rc_model.specs.declared.fault.ImageFault.TheVariants.{TooDeep}

abbrev One : {s : Sort} → Node s → List ℕ → Type 0
One x = Spells x

-- what is made of something exact is exact, where every node of the sort is made so
made_exact : {X Y : Type 0} {r : Reader X} {S : X → List ℕ → Type 0} {ok : X → Bool} {T : Y → List ℕ → Type 0} {good : Y → Bool} (f : X → Y)
    → ((x : X) (text : List ℕ) → S x text → T (f x) text) → ((x : X) → IsTrue (ok x) → IsTrue (good (f x)))
    → Exact r S ok → ((y : Y) (text rest : List ℕ) → T y text → IsTrue (good y) → made f r (text ++ rest) ≡ Ok (y, rest)) → Exact (made f r) T good
made_exact {Y = Y} {r = r} {T = T} {good = good} f same fine R accepts = record {
  accepts = accepts;
  only = λ bytes y rest h.
      let u = bind_back (r bytes) _ _ h in
      let g = R.only bytes u.0.0 u.0.1 u.1 in
      subst (λ (z : Y × List ℕ). Found T good bytes z.0 z.1) (ok_inj _ _ u.2)
      (record { text = g.text; cut = g.cut; spelled = same u.0.0 g.text g.spelled; fine = fine u.0.0 g.fine });
}

made_accepts : {X Y : Type 0} {r : Reader X} {S : X → List ℕ → Type 0} {ok : X → Bool} → Exact r S ok → (f : X → Y) (x : X) (text rest : List ℕ)
    → S x text → IsTrue (ok x) → made f r (text ++ rest) ≡ Ok (f x, rest)
made_accepts {r = r} R f x text rest s h = bind_on (r (text ++ rest)) _ (x, rest) _ (R.accepts x text rest s h) refl

-- digits
abbrev always : {X : Type 0} → X → Bool
always x = true

output_cases : (n : ℕ) → IsTrue (is_output n) → (n ≡ 1) ⊎ (n ≡ 2)
output_cases n h = grind (arith, nat_tests)

output_text : (n : ℕ) (text rest : List ℕ) → Output n text → output_at (text ++ rest) ≡ Ok (n, rest)
output_text n text rest h = ⊎_elim
    (λ (e : n ≡ 1). ap (λ z. output_at (z ++ rest)) (h.digit ∙ ap (λ m. (48 + m) ∷ []) e) ∙ ap (λ m. Ok (m, rest)) (sym e))
    (λ (e : n ≡ 2). ap (λ z. output_at (z ++ rest)) (h.digit ∙ ap (λ m. (48 + m) ∷ []) e) ∙ ap (λ m. Ok (m, rest)) (sym e))
    (output_cases n h.number)

pub output_exact : Exact output_at Output always
output_exact = record {
  accepts = λ n text rest h g. output_text n text rest h;
  only =
      tagged_only Output always output_rows
      (given_only Output always 49 1 (record { number = refl; digit = refl }) refl ▹ given_only Output always 50 2 (record { number = refl; digit = refl }) refl ▹ tt);
}

abbrev pub Cross : ℕ × ℕ → List ℕ → Type 0
Cross p = Crossing p.0 p.1

crossing_cases : (to from : ℕ) → IsTrue (copies to from) → ((to ≡ 1) × (from ≡ 2)) ⊎ ((to ≡ 2) × (from ≡ 1))
crossing_cases to from h = grind (arith, nat_tests)

crossing_by : (to from to' from' : ℕ) (text rest : List ℕ) → Crossing to from text → (to ≡ to') × (from ≡ from')
    → crossing_at ((48 + to') ∷ (48 + from') ∷ rest) ≡ Ok ((to', from'), rest) → crossing_at (text ++ rest) ≡ Ok ((to, from), rest)
crossing_by to from to' from' text rest h e k =
    ap (λ z. crossing_at (z ++ rest)) (h.digits ∙ ap (λ m. (48 + m) ∷ (48 + from) ∷ []) e.0 ∙ ap (λ m. (48 + to') ∷ (48 + m) ∷ []) e.1) ∙ k
    ∙ ap (λ m. Ok ((m, from'), rest)) (sym e.0) ∙ ap (λ m. Ok ((to, m), rest)) (sym e.1)

crossing_text : (to from : ℕ) (text rest : List ℕ) → Crossing to from text → crossing_at (text ++ rest) ≡ Ok ((to, from), rest)
crossing_text to from text rest h = ⊎_elim (λ e. crossing_by to from 1 2 text rest h e refl) (λ e. crossing_by to from 2 1 text rest h e refl) (crossing_cases to from h.numbers)

-- a pair of one digit and another
second : (to from : ℕ) → IsTrue (copies to from) → RowOnly (λ p text. Cross p ((48 + to) ∷ text)) always (48 + from, given (to, from))
second to from h = given_only _ always (48 + from) (to, from) (record { numbers = h; digits = refl }) refl

crossing_row : (to from : ℕ) → IsTrue (copies to from) → RowOnly Cross always (48 + to, tagged ((48 + from, given (to, from)) ∷ []))
crossing_row to from h bytes y rest e =
    let f = tagged_only (λ p text. Cross p ((48 + to) ∷ text)) always ((48 + from, given (to, from)) ∷ []) (second to from h, tt) bytes y rest e in
    record { text = (48 + to) ∷ f.text; cut = ap (λ z. (48 + to) ∷ z) f.cut; spelled = f.spelled; fine = f.fine }

pub crossing_exact : Exact crossing_at Cross always
crossing_exact = record {
  accepts = λ p text rest h g. crossing_text p.0 p.1 text rest h;
  only = tagged_only Cross always crossing_rows (crossing_row 1 2 refl ▹ crossing_row 2 1 refl ▹ tt);
}

-- pieces
piece_accepts : (d : ℕ) (x : Node piece) (text rest : List ℕ) → Spells x text → IsTrue (fits x d) → piece_at (text ++ rest) ≡ Ok (x, rest)
piece_accepts d (t.Text x) text rest j h = row_accepts text_exact 116 t.Text piece_rows (λ bytes. refl) x text rest j refl
piece_accepts d (t.Name x) text rest j h = row_accepts text_exact 118 t.Name piece_rows (λ bytes. refl) x text rest j refl

pieces : (d : ℕ) → Good d piece_at
pieces d = record {
  accepts = piece_accepts d;
  only = tagged_only One (λ x. fits x d) piece_rows (row_only _ _ text_exact 116 t.Text (λ x text h. h) (λ x h. h) ▹ row_only _ _ text_exact 118 t.Name (λ x text h. h) (λ x h. h) ▹ tt);
}

module _ (d : ℕ) {c : Reader (Node cmd)} {a : Reader (Node arg)} (C : Good d c) (A : Good d a) where
  item_accepts : (x : Node item) (text rest : List ℕ) → Spells x text → IsTrue (fits x d) → item_at c (text ++ rest) ≡ Ok (x, rest)
  item_accepts (t.Item x false) text rest j h = row_accepts C 59 (λ x. t.Item x false) (item_rows c) (λ bytes. refl) x text rest j h
  item_accepts (t.Item x true) text rest j h = row_accepts C 38 (λ x. t.Item x true) (item_rows c) (λ bytes. refl) x text rest j h

  items : Good d (item_at c)
  items = record {
    accepts = item_accepts;
    only = tagged_only One (λ x. fits x d) (item_rows c) (row_only _ _ C 59 (λ x. t.Item x false) (λ x text h. h) (λ x h. h) ▹ row_only _ _ C 38 (λ x. t.Item x true) (λ x text h. h) (λ x h. h) ▹ tt);
  }

  link_accepts : (x : Node link) (text rest : List ℕ) → Spells x text → IsTrue (fits x d) → link_at c (text ++ rest) ≡ Ok (x, rest)
  link_accepts (t.Link And x) text rest j h = row_accepts C 38 (t.Link And) (link_rows c) (λ bytes. refl) x text rest j h
  link_accepts (t.Link Or x) text rest j h = row_accepts C 124 (t.Link Or) (link_rows c) (λ bytes. refl) x text rest j h

  links : Good d (link_at c)
  links = record {
    accepts = link_accepts;
    only = tagged_only One (λ x. fits x d) (link_rows c) (row_only _ _ C 38 (t.Link And) (λ x text h. h) (λ x h. h) ▹ row_only _ _ C 124 (t.Link Or) (λ x text h. h) (λ x h. h) ▹ tt);
  }

  pair_accepts : (x : Node pair) (text rest : List ℕ) → Spells x text → IsTrue (fits x d) → pair_at a (text ++ rest) ≡ Ok (x, rest)
  pair_accepts (t.Pair x y) text rest j h = made_accepts (both_exact A A) (λ x. t.Pair x.0 x.1) (x, y) text rest j h

  pairs : Good d (pair_at a)
  pairs = made_exact (λ x. t.Pair x.0 x.1) (λ x text h. h) (λ x h. h) (both_exact A A) pair_accepts

  stage_accepts : (x : Node stage) (text rest : List ℕ) → Spells x text → IsTrue (fits x d) → stage_at c (text ++ rest) ≡ Ok (x, rest)
  stage_accepts (t.Stage x n) text rest j h = made_accepts (both_exact output_exact C) (λ x. t.Stage x.1 x.0) (n, x) text rest j h

  stages : Good d (stage_at c)
  stages = made_exact (λ x. t.Stage x.1 x.0) (λ x text h. h) (λ x h. h) (both_exact output_exact C) stage_accepts

  branch_accepts : (x : Node branch) (text rest : List ℕ) → Spells x text → IsTrue (fits x d) → branch_at c a (text ++ rest) ≡ Ok (x, rest)
  branch_accepts (t.Branch x y) text rest j h = made_accepts (both_exact (listed_exact d A any) C) (λ x. t.Branch x.0 x.1) (x, y) text rest j h

  branches : Good d (branch_at c a)
  branches = made_exact (λ x. t.Branch x.0 x.1) (λ x text h. h) (λ x h. h) (both_exact (listed_exact d A any) C) branch_accepts

  unread : (slot : ℕ) (path : Node arg) (text : List ℕ) → (Is (60 ∷ []) ⨾ Plainly slot (Spells path)) text → (Is (60 ∷ []) ⨾ Spells path) text
  unread slot path text j = record { front = j.front; back = j.back; cut = j.cut; first = j.first; second = j.second.rest }

  reread : (path : Node arg) (text : List ℕ) → (Is (60 ∷ []) ⨾ Spells path) text → (Is (60 ∷ []) ⨾ Plainly 0 (Spells path)) text
  reread path text j = record { front = j.front; back = j.back; cut = j.cut; first = j.first; second = record { input = refl; rest = j.second } }

  redir_accepts : (x : Node redir) (text rest : List ℕ) → Spells x text → IsTrue (fits x d) → redir_at a (text ++ rest) ≡ Ok (x, rest)
  redir_accepts (t.Open Read n x) text rest j h =
      row_accepts A 60 (t.Open Read 0) (redir_rows a) (λ bytes. refl) x text rest (unread n x text j) h ∙ ap (λ m. Ok (t.Open Read m x, rest))
      (sym j.second.input)
  redir_accepts (t.Open Write n x) text rest j h = row_accepts (both_exact output_exact A) 62 (λ x. t.Open Write x.0 x.1) (redir_rows a) (λ bytes. refl) (n, x) text rest j h
  redir_accepts (t.Open Append n x) text rest j h = row_accepts (both_exact output_exact A) 43 (λ x. t.Open Append x.0 x.1) (redir_rows a) (λ bytes. refl) (n, x) text rest j h
  redir_accepts (t.Copy n m) text rest j h = row_accepts crossing_exact 61 (λ x. t.Copy x.0 x.1) (redir_rows a) (λ bytes. refl) (n, m) text rest j refl
  redir_accepts (t.Here x) text rest j h = row_accepts (listed_exact d (pieces d) any) 104 t.Here (redir_rows a) (λ bytes. refl) x text rest j h

  redirs : Good d (redir_at a)
  redirs = record {
    accepts = redir_accepts;
    only = tagged_only One (λ x. fits x d) (redir_rows a) (
        row_only _ _ A 60 (t.Open Read 0) reread (λ x h. h) ▹
        row_only _ _ (both_exact output_exact A) 62 (λ x. t.Open Write x.0 x.1) (λ x text h. h) (λ x h. h) ▹
        row_only _ _ (both_exact output_exact A) 43 (λ x. t.Open Append x.0 x.1) (λ x text h. h) (λ x h. h) ▹
        row_only _ _ crossing_exact 61 (λ x. t.Copy x.0 x.1) (λ x text h. h) (λ x h. h) ▹
        row_only _ _ (listed_exact d (pieces d) any) 104 t.Here (λ x text h. h) (λ x h. h) ▹
        tt);
  }

module _ (d : ℕ) {c : Reader (Node cmd)} {a : Reader (Node arg)} (C : Good d c) (A : Good d a) where
  cmd_accepts : (x : Node cmd) (text rest : List ℕ) → Spells x text → IsTrue (fits x (suc d)) → tagged (cmd_rows c a) (text ++ rest) ≡ Ok (x, rest)
  cmd_accepts t.Empty text rest j h = ap (λ z. tagged (cmd_rows c a) (z ++ rest)) j
  cmd_accepts (t.Seq x) text rest j h = row_accepts (listed_exact d (items d C A) any) 115 (t.Seq) (cmd_rows c a) (λ bytes. refl) x text rest j h
  cmd_accepts (t.Simple x) text rest j h = row_accepts (listed_exact d A (some)) 99 (t.Simple) (cmd_rows c a) (λ bytes. refl) x text rest j h
  cmd_accepts (t.Assign x y) text rest j h = row_accepts (both_exact (listed_exact d (pairs d C A) (some)) C) 61 (λ x. t.Assign x.0 x.1) (cmd_rows c a) (λ bytes. refl) (x, y) text rest j h
  cmd_accepts (t.Redirect x y) text rest j h = row_accepts (both_exact (listed_exact d (redirs d C A) (some)) C) 114 (λ x. t.Redirect x.0 x.1) (cmd_rows c a) (λ bytes. refl) (x, y) text rest j h
  cmd_accepts (t.Pipeline x y) text rest j h = row_accepts (both_exact (listed_exact d (stages d C A) (few)) C) 112 (λ x. t.Pipeline x.0 x.1) (cmd_rows c a) (λ bytes. refl) (x, y) text rest j h
  cmd_accepts (t.AndOr x y) text rest j h = row_accepts (both_exact C (listed_exact d (links d C A) (some))) 97 (λ x. t.AndOr x.0 x.1) (cmd_rows c a) (λ bytes. refl) (x, y) text rest j h
  cmd_accepts (t.Not x) text rest j h = row_accepts C 33 (t.Not) (cmd_rows c a) (λ bytes. refl) x text rest j h
  cmd_accepts (t.Subshell x) text rest j h = row_accepts C 64 (t.Subshell) (cmd_rows c a) (λ bytes. refl) x text rest j h
  cmd_accepts (t.If x y) text rest j h = row_accepts (both_exact C C) 105 (λ x. t.If x.0 x.1) (cmd_rows c a) (λ bytes. refl) (x, y) text rest j h
  cmd_accepts (t.IfNot x) text rest j h = row_accepts C 110 (t.IfNot) (cmd_rows c a) (λ bytes. refl) x text rest j h
  cmd_accepts (t.While x y) text rest j h = row_accepts (both_exact C C) 119 (λ x. t.While x.0 x.1) (cmd_rows c a) (λ bytes. refl) (x, y) text rest j h
  cmd_accepts (t.ForAll x y) text rest j h = row_accepts (both_exact A C) 102 (λ x. t.ForAll x.0 x.1) (cmd_rows c a) (λ bytes. refl) (x, y) text rest j h
  cmd_accepts (t.For x y z) text rest j h = row_accepts (both_exact A (both_exact (listed_exact d A any) C)) 70 (λ x. t.For x.0 x.1.0 x.1.1) (cmd_rows c a) (λ bytes. refl) (x, (y, z)) text rest j h
  cmd_accepts (t.Switch x y) text rest j h = row_accepts (both_exact A (listed_exact d (branches d C A) any)) 83 (λ x. t.Switch x.0 x.1) (cmd_rows c a) (λ bytes. refl) (x, y) text rest j h
  cmd_accepts (t.Match x y) text rest j h = row_accepts (both_exact A (listed_exact d A any)) 126 (λ x. t.Match x.0 x.1) (cmd_rows c a) (λ bytes. refl) (x, y) text rest j h
  cmd_accepts (t.Define x y) text rest j h = row_accepts (both_exact (listed_exact d A (some)) C) 100 (λ x. t.Define x.0 x.1) (cmd_rows c a) (λ bytes. refl) (x, y) text rest j h
  cmd_accepts (t.Undefine x) text rest j h = row_accepts (listed_exact d A (some)) 117 (t.Undefine) (cmd_rows c a) (λ bytes. refl) x text rest j h
  cmd_accepts (t.Brace x) text rest j h = row_accepts C 98 (t.Brace) (cmd_rows c a) (λ bytes. refl) x text rest j h

  cmd_only : (bytes : List ℕ) (x : Node cmd) (rest : List ℕ) → tagged (cmd_rows c a) bytes ≡ Ok (x, rest) → Found One (λ x. fits x (suc d)) bytes x rest
  cmd_only = tagged_only One (λ x. fits x (suc d)) (cmd_rows c a) (
      given_only One (λ x. fits x (suc d)) 101 t.Empty refl refl ▹
      row_only One (λ x. fits x (suc d)) (listed_exact d (items d C A) any) 115 (t.Seq) (λ x text h. h) (λ x h. h) ▹
      row_only One (λ x. fits x (suc d)) (listed_exact d A (some)) 99 (t.Simple) (λ x text h. h) (λ x h. h) ▹
      row_only One (λ x. fits x (suc d)) (both_exact (listed_exact d (pairs d C A) (some)) C) 61 (λ x. t.Assign x.0 x.1) (λ x text h. h) (λ x h. h) ▹
      row_only One (λ x. fits x (suc d)) (both_exact (listed_exact d (redirs d C A) (some)) C) 114 (λ x. t.Redirect x.0 x.1) (λ x text h. h) (λ x h. h) ▹
      row_only One (λ x. fits x (suc d)) (both_exact (listed_exact d (stages d C A) (few)) C) 112 (λ x. t.Pipeline x.0 x.1) (λ x text h. h) (λ x h. h) ▹
      row_only One (λ x. fits x (suc d)) (both_exact C (listed_exact d (links d C A) (some))) 97 (λ x. t.AndOr x.0 x.1) (λ x text h. h) (λ x h. h) ▹
      row_only One (λ x. fits x (suc d)) C 33 (t.Not) (λ x text h. h) (λ x h. h) ▹
      row_only One (λ x. fits x (suc d)) C 64 (t.Subshell) (λ x text h. h) (λ x h. h) ▹
      row_only One (λ x. fits x (suc d)) (both_exact C C) 105 (λ x. t.If x.0 x.1) (λ x text h. h) (λ x h. h) ▹
      row_only One (λ x. fits x (suc d)) C 110 (t.IfNot) (λ x text h. h) (λ x h. h) ▹
      row_only One (λ x. fits x (suc d)) (both_exact C C) 119 (λ x. t.While x.0 x.1) (λ x text h. h) (λ x h. h) ▹
      row_only One (λ x. fits x (suc d)) (both_exact A C) 102 (λ x. t.ForAll x.0 x.1) (λ x text h. h) (λ x h. h) ▹
      row_only One (λ x. fits x (suc d)) (both_exact A (both_exact (listed_exact d A any) C)) 70 (λ x. t.For x.0 x.1.0 x.1.1) (λ x text h. h) (λ x h. h) ▹
      row_only One (λ x. fits x (suc d)) (both_exact A (listed_exact d (branches d C A) any)) 83 (λ x. t.Switch x.0 x.1) (λ x text h. h) (λ x h. h) ▹
      row_only One (λ x. fits x (suc d)) (both_exact A (listed_exact d A any)) 126 (λ x. t.Match x.0 x.1) (λ x text h. h) (λ x h. h) ▹
      row_only One (λ x. fits x (suc d)) (both_exact (listed_exact d A (some)) C) 100 (λ x. t.Define x.0 x.1) (λ x text h. h) (λ x h. h) ▹
      row_only One (λ x. fits x (suc d)) (listed_exact d A (some)) 117 (t.Undefine) (λ x text h. h) (λ x h. h) ▹
      row_only One (λ x. fits x (suc d)) C 98 (t.Brace) (λ x text h. h) (λ x h. h) ▹
      tt)

  arg_accepts : (x : Node arg) (text rest : List ℕ) → Spells x text → IsTrue (fits x (suc d)) → tagged (arg_rows c a) (text ++ rest) ≡ Ok (x, rest)
  arg_accepts (t.Lit x false) text rest j h = row_accepts (tested_exact has_text text_exact) 119 (λ x. t.Lit x false) (arg_rows c a) (λ bytes. refl) x text rest j (and_from (has_text x) true h refl)
  arg_accepts (t.Lit x true) text rest j h = row_accepts text_exact 113 (λ x. t.Lit x true) (arg_rows c a) (λ bytes. refl) x text rest j h
  arg_accepts (t.Concat x) text rest j h = row_accepts (listed_exact d A (several)) 94 (t.Concat) (arg_rows c a) (λ bytes. refl) x text rest j h
  arg_accepts (t.Paren x) text rest j h = row_accepts (listed_exact d A any) 40 (t.Paren) (arg_rows c a) (λ bytes. refl) x text rest j h
  arg_accepts (t.Var x) text rest j h = row_accepts A 36 (t.Var) (arg_rows c a) (λ bytes. refl) x text rest j h
  arg_accepts (t.Count x) text rest j h = row_accepts A 35 (t.Count) (arg_rows c a) (λ bytes. refl) x text rest j h
  arg_accepts (t.Flat x) text rest j h = row_accepts A 34 (t.Flat) (arg_rows c a) (λ bytes. refl) x text rest j h
  arg_accepts (t.Sub x y) text rest j h = row_accepts (both_exact A (listed_exact d A any)) 91 (λ x. t.Sub x.0 x.1) (arg_rows c a) (λ bytes. refl) (x, y) text rest j h
  arg_accepts (t.Back x) text rest j h = row_accepts C 96 (t.Back) (arg_rows c a) (λ bytes. refl) x text rest j h

  arg_only : (bytes : List ℕ) (x : Node arg) (rest : List ℕ) → tagged (arg_rows c a) bytes ≡ Ok (x, rest) → Found One (λ x. fits x (suc d)) bytes x rest
  arg_only = tagged_only One (λ x. fits x (suc d)) (arg_rows c a) (
      row_only One (λ x. fits x (suc d)) (tested_exact has_text text_exact) 119 (λ x. t.Lit x false) (λ x text h. h) (λ x h. (and_parts (has_text x) true h).0) ▹
      row_only One (λ x. fits x (suc d)) text_exact 113 (λ x. t.Lit x true) (λ x text h. h) (λ x h. h) ▹
      row_only One (λ x. fits x (suc d)) (listed_exact d A (several)) 94 (t.Concat) (λ x text h. h) (λ x h. h) ▹
      row_only One (λ x. fits x (suc d)) (listed_exact d A any) 40 (t.Paren) (λ x text h. h) (λ x h. h) ▹
      row_only One (λ x. fits x (suc d)) A 36 (t.Var) (λ x text h. h) (λ x h. h) ▹
      row_only One (λ x. fits x (suc d)) A 35 (t.Count) (λ x text h. h) (λ x h. h) ▹
      row_only One (λ x. fits x (suc d)) A 34 (t.Flat) (λ x text h. h) (λ x h. h) ▹
      row_only One (λ x. fits x (suc d)) (both_exact A (listed_exact d A any)) 91 (λ x. t.Sub x.0 x.1) (λ x text h. h) (λ x h. h) ▹
      row_only One (λ x. fits x (suc d)) C 96 (t.Back) (λ x text h. h) (λ x h. h) ▹
      tt)

-- no command and no argument fits in no levels
cmd_shallow : (x : Node cmd) → fits x 0 ≡ false
cmd_shallow t.Empty = refl
cmd_shallow _ = refl

arg_shallow : (x : Node arg) → fits x 0 ≡ false
arg_shallow (t.Var x) = refl
arg_shallow _ = refl

too_deep : {X : Type 0} {S : X → List ℕ → Type 0} {ok : X → Bool} (r : Reader X) → ((bytes : List ℕ) → r bytes ≡ Err TooDeep) → ((x : X) → ok x ≡ false) → Exact r S ok
too_deep r e f = record {
  accepts = λ x text rest s h. absurd (false≢true (sym (f x) ∙ h));
  only = λ bytes x rest h. let g = sym (e bytes) ∙ h in absurd (cc);
}

mutual
  unfolding cmd_at arg_at

  pub cmd_exact : (d : ℕ) → Good d (cmd_at d)
  cmd_exact zero = too_deep (cmd_at 0) (λ bytes. refl) cmd_shallow
  cmd_exact (suc d) = record { accepts = cmd_accepts d (cmd_exact d) (arg_exact d); only = cmd_only d (cmd_exact d) (arg_exact d) }

  pub arg_exact : (d : ℕ) → Good d (arg_at d)
  arg_exact zero = too_deep (arg_at 0) (λ bytes. refl) arg_shallow
  arg_exact (suc d) = record { accepts = arg_accepts d (cmd_exact d) (arg_exact d); only = arg_only d (cmd_exact d) (arg_exact d) }
