-- The trie is the table of operators.
use Rattle.std.proofs.Common.{◌≡◌, ℕ, Bool, true, false, cond, ◌==◌, List, [], ◌∷◌, ◌++◌, refl, ap, ◌∙◌}
use Rattle.std.specs.Prelude.{Option, Some, None, option_map}
use Rattle.std.proofs.lemmas.Bool.{eqb-true}
use Rattle.rc_model.specs.Syntax.Tokens as t
use Rattle.rc_lexer.specs.Views.{lexeme_of}
use Rattle.rc_lexer.specs.Trie.{spelled, next_op, op_kind}
use Rattle.rc_lexer.specs.declared.operators.Op.{Op}
use Rattle.rc_lexer.specs.declared.operators.Op.TheVariants.{And1, And2, Bar0, BarBar, BarOpen, BarOne, BarTwo, BarOneEnd}
use Rattle.rc_lexer.specs.declared.operators.Op.TheVariants.{BarTwoEnd, Out0, OutOpen, OutOne, OutTwo, OutOneEnd, OutTwoEnd, OutOneIs}
use Rattle.rc_lexer.specs.declared.operators.Op.TheVariants.{OutTwoIs, OutOneTwo, OutTwoOne, OutOneTwoEnd, OutTwoOneEnd, App0, AppOpen, AppOne}
use Rattle.rc_lexer.specs.declared.operators.Op.TheVariants.{AppTwo, AppOneEnd, AppTwoEnd, In0, InOpen, InZero, InZeroEnd, Here0}
use Rattle.rc_lexer.specs.declared.operators.Op.TheVariants.{HereOpen, HereZero, HereZeroEnd, Dollar0, DollarHash, DollarQuote}

-- a token stands for the operator
pub kind_is : (op : Op) (script text : List ℕ) → t.operator (spelled op) ≡ option_map (λ k. lexeme_of script k text) (op_kind op)
kind_is And1 script text = refl
kind_is And2 script text = refl
kind_is Bar0 script text = refl
kind_is BarBar script text = refl
kind_is BarOpen script text = refl
kind_is BarOne script text = refl
kind_is BarTwo script text = refl
kind_is BarOneEnd script text = refl
kind_is BarTwoEnd script text = refl
kind_is Out0 script text = refl
kind_is OutOpen script text = refl
kind_is OutOne script text = refl
kind_is OutTwo script text = refl
kind_is OutOneEnd script text = refl
kind_is OutTwoEnd script text = refl
kind_is OutOneIs script text = refl
kind_is OutTwoIs script text = refl
kind_is OutOneTwo script text = refl
kind_is OutTwoOne script text = refl
kind_is OutOneTwoEnd script text = refl
kind_is OutTwoOneEnd script text = refl
kind_is App0 script text = refl
kind_is AppOpen script text = refl
kind_is AppOne script text = refl
kind_is AppTwo script text = refl
kind_is AppOneEnd script text = refl
kind_is AppTwoEnd script text = refl
kind_is In0 script text = refl
kind_is InOpen script text = refl
kind_is InZero script text = refl
kind_is InZeroEnd script text = refl
kind_is Here0 script text = refl
kind_is HereOpen script text = refl
kind_is HereZero script text = refl
kind_is HereZeroEnd script text = refl
kind_is Dollar0 script text = refl
kind_is DollarHash script text = refl
kind_is DollarQuote script text = refl

-- where an operator goes on with a byte
pub data NextIs (op : Op) (b : ℕ) : Option Op → Type 0 where
  goes : (op' : Op) → spelled op ++ b ∷ [] ≡ spelled op' → t.begins_operator (spelled op ++ b ∷ []) ≡ true → NextIs op b (Some op')
  ends : t.begins_operator (spelled op ++ b ∷ []) ≡ false → NextIs op b None

-- a node with no branch, one, two and three
known : (op op' : Op) (b n : ℕ) → (b == n) ≡ true → spelled op ++ n ∷ [] ≡ spelled op' → t.begins_operator (spelled op ++ n ∷ []) ≡ true → NextIs op b (Some op')
known op op' b n e f g = let k = eqb-true b n e in goes op' (ap (λ z. spelled op ++ z ∷ []) k ∙ f) (ap (λ z. t.begins_operator (spelled op ++ z ∷ [])) k ∙ g)

pub next_is : (op : Op) (b : ℕ) → NextIs op b (next_op op b)
next_is And1 b = by (b == 38) refl
  where
    by : (x0 : Bool) → (b == 38) ≡ x0 → NextIs And1 b (cond x0 (Some And2) None)
    by true e0 = known And1 And2 b 38 e0 refl refl
    by false e0 = ends (rw e0 refl)
next_is And2 b = ends refl
next_is Bar0 b = by (b == 124) (b == 91) refl refl
  where
    by : (x0 x1 : Bool) → (b == 124) ≡ x0 → (b == 91) ≡ x1 → NextIs Bar0 b (cond x0 (Some BarBar) (cond x1 (Some BarOpen) None))
    by true x1 e0 e1 = known Bar0 BarBar b 124 e0 refl refl
    by false true e0 e1 = known Bar0 BarOpen b 91 e1 refl refl
    by false false e0 e1 = ends (rw (e0, e1) refl)
next_is BarBar b = ends refl
next_is BarOpen b = by (b == 49) (b == 50) refl refl
  where
    by : (x0 x1 : Bool) → (b == 49) ≡ x0 → (b == 50) ≡ x1 → NextIs BarOpen b (cond x0 (Some BarOne) (cond x1 (Some BarTwo) None))
    by true x1 e0 e1 = known BarOpen BarOne b 49 e0 refl refl
    by false true e0 e1 = known BarOpen BarTwo b 50 e1 refl refl
    by false false e0 e1 = ends (rw (e0, e1) refl)
next_is BarOne b = by (b == 93) refl
  where
    by : (x0 : Bool) → (b == 93) ≡ x0 → NextIs BarOne b (cond x0 (Some BarOneEnd) None)
    by true e0 = known BarOne BarOneEnd b 93 e0 refl refl
    by false e0 = ends (rw e0 refl)
next_is BarTwo b = by (b == 93) refl
  where
    by : (x0 : Bool) → (b == 93) ≡ x0 → NextIs BarTwo b (cond x0 (Some BarTwoEnd) None)
    by true e0 = known BarTwo BarTwoEnd b 93 e0 refl refl
    by false e0 = ends (rw e0 refl)
next_is BarOneEnd b = ends refl
next_is BarTwoEnd b = ends refl
next_is Out0 b = by (b == 91) (b == 62) refl refl
  where
    by : (x0 x1 : Bool) → (b == 91) ≡ x0 → (b == 62) ≡ x1 → NextIs Out0 b (cond x0 (Some OutOpen) (cond x1 (Some App0) None))
    by true x1 e0 e1 = known Out0 OutOpen b 91 e0 refl refl
    by false true e0 e1 = known Out0 App0 b 62 e1 refl refl
    by false false e0 e1 = ends (rw (e0, e1) refl)
next_is OutOpen b = by (b == 49) (b == 50) refl refl
  where
    by : (x0 x1 : Bool) → (b == 49) ≡ x0 → (b == 50) ≡ x1 → NextIs OutOpen b (cond x0 (Some OutOne) (cond x1 (Some OutTwo) None))
    by true x1 e0 e1 = known OutOpen OutOne b 49 e0 refl refl
    by false true e0 e1 = known OutOpen OutTwo b 50 e1 refl refl
    by false false e0 e1 = ends (rw (e0, e1) refl)
next_is OutOne b = by (b == 93) (b == 61) refl refl
  where
    by : (x0 x1 : Bool) → (b == 93) ≡ x0 → (b == 61) ≡ x1 → NextIs OutOne b (cond x0 (Some OutOneEnd) (cond x1 (Some OutOneIs) None))
    by true x1 e0 e1 = known OutOne OutOneEnd b 93 e0 refl refl
    by false true e0 e1 = known OutOne OutOneIs b 61 e1 refl refl
    by false false e0 e1 = ends (rw (e0, e1) refl)
next_is OutTwo b = by (b == 93) (b == 61) refl refl
  where
    by : (x0 x1 : Bool) → (b == 93) ≡ x0 → (b == 61) ≡ x1 → NextIs OutTwo b (cond x0 (Some OutTwoEnd) (cond x1 (Some OutTwoIs) None))
    by true x1 e0 e1 = known OutTwo OutTwoEnd b 93 e0 refl refl
    by false true e0 e1 = known OutTwo OutTwoIs b 61 e1 refl refl
    by false false e0 e1 = ends (rw (e0, e1) refl)
next_is OutOneEnd b = ends refl
next_is OutTwoEnd b = ends refl
next_is OutOneIs b = by (b == 50) refl
  where
    by : (x0 : Bool) → (b == 50) ≡ x0 → NextIs OutOneIs b (cond x0 (Some OutOneTwo) None)
    by true e0 = known OutOneIs OutOneTwo b 50 e0 refl refl
    by false e0 = ends (rw e0 refl)
next_is OutTwoIs b = by (b == 49) refl
  where
    by : (x0 : Bool) → (b == 49) ≡ x0 → NextIs OutTwoIs b (cond x0 (Some OutTwoOne) None)
    by true e0 = known OutTwoIs OutTwoOne b 49 e0 refl refl
    by false e0 = ends (rw e0 refl)
next_is OutOneTwo b = by (b == 93) refl
  where
    by : (x0 : Bool) → (b == 93) ≡ x0 → NextIs OutOneTwo b (cond x0 (Some OutOneTwoEnd) None)
    by true e0 = known OutOneTwo OutOneTwoEnd b 93 e0 refl refl
    by false e0 = ends (rw e0 refl)
next_is OutTwoOne b = by (b == 93) refl
  where
    by : (x0 : Bool) → (b == 93) ≡ x0 → NextIs OutTwoOne b (cond x0 (Some OutTwoOneEnd) None)
    by true e0 = known OutTwoOne OutTwoOneEnd b 93 e0 refl refl
    by false e0 = ends (rw e0 refl)
next_is OutOneTwoEnd b = ends refl
next_is OutTwoOneEnd b = ends refl
next_is App0 b = by (b == 91) refl
  where
    by : (x0 : Bool) → (b == 91) ≡ x0 → NextIs App0 b (cond x0 (Some AppOpen) None)
    by true e0 = known App0 AppOpen b 91 e0 refl refl
    by false e0 = ends (rw e0 refl)
next_is AppOpen b = by (b == 49) (b == 50) refl refl
  where
    by : (x0 x1 : Bool) → (b == 49) ≡ x0 → (b == 50) ≡ x1 → NextIs AppOpen b (cond x0 (Some AppOne) (cond x1 (Some AppTwo) None))
    by true x1 e0 e1 = known AppOpen AppOne b 49 e0 refl refl
    by false true e0 e1 = known AppOpen AppTwo b 50 e1 refl refl
    by false false e0 e1 = ends (rw (e0, e1) refl)
next_is AppOne b = by (b == 93) refl
  where
    by : (x0 : Bool) → (b == 93) ≡ x0 → NextIs AppOne b (cond x0 (Some AppOneEnd) None)
    by true e0 = known AppOne AppOneEnd b 93 e0 refl refl
    by false e0 = ends (rw e0 refl)
next_is AppTwo b = by (b == 93) refl
  where
    by : (x0 : Bool) → (b == 93) ≡ x0 → NextIs AppTwo b (cond x0 (Some AppTwoEnd) None)
    by true e0 = known AppTwo AppTwoEnd b 93 e0 refl refl
    by false e0 = ends (rw e0 refl)
next_is AppOneEnd b = ends refl
next_is AppTwoEnd b = ends refl
next_is In0 b = by (b == 91) (b == 60) refl refl
  where
    by : (x0 x1 : Bool) → (b == 91) ≡ x0 → (b == 60) ≡ x1 → NextIs In0 b (cond x0 (Some InOpen) (cond x1 (Some Here0) None))
    by true x1 e0 e1 = known In0 InOpen b 91 e0 refl refl
    by false true e0 e1 = known In0 Here0 b 60 e1 refl refl
    by false false e0 e1 = ends (rw (e0, e1) refl)
next_is InOpen b = by (b == 48) refl
  where
    by : (x0 : Bool) → (b == 48) ≡ x0 → NextIs InOpen b (cond x0 (Some InZero) None)
    by true e0 = known InOpen InZero b 48 e0 refl refl
    by false e0 = ends (rw e0 refl)
next_is InZero b = by (b == 93) refl
  where
    by : (x0 : Bool) → (b == 93) ≡ x0 → NextIs InZero b (cond x0 (Some InZeroEnd) None)
    by true e0 = known InZero InZeroEnd b 93 e0 refl refl
    by false e0 = ends (rw e0 refl)
next_is InZeroEnd b = ends refl
next_is Here0 b = by (b == 91) refl
  where
    by : (x0 : Bool) → (b == 91) ≡ x0 → NextIs Here0 b (cond x0 (Some HereOpen) None)
    by true e0 = known Here0 HereOpen b 91 e0 refl refl
    by false e0 = ends (rw e0 refl)
next_is HereOpen b = by (b == 48) refl
  where
    by : (x0 : Bool) → (b == 48) ≡ x0 → NextIs HereOpen b (cond x0 (Some HereZero) None)
    by true e0 = known HereOpen HereZero b 48 e0 refl refl
    by false e0 = ends (rw e0 refl)
next_is HereZero b = by (b == 93) refl
  where
    by : (x0 : Bool) → (b == 93) ≡ x0 → NextIs HereZero b (cond x0 (Some HereZeroEnd) None)
    by true e0 = known HereZero HereZeroEnd b 93 e0 refl refl
    by false e0 = ends (rw e0 refl)
next_is HereZeroEnd b = ends refl
next_is Dollar0 b = by (b == 35) (b == 34) refl refl
  where
    by : (x0 x1 : Bool) → (b == 35) ≡ x0 → (b == 34) ≡ x1 → NextIs Dollar0 b (cond x0 (Some DollarHash) (cond x1 (Some DollarQuote) None))
    by true x1 e0 e1 = known Dollar0 DollarHash b 35 e0 refl refl
    by false true e0 e1 = known Dollar0 DollarQuote b 34 e1 refl refl
    by false false e0 e1 = ends (rw (e0, e1) refl)
next_is DollarHash b = ends refl
next_is DollarQuote b = ends refl
