-- Which nodes a reader takes, by the levels that it has left.
use Rattle.std.specs.Prelude.{ℕ, zero, suc, Bool, true, false, ◌&&◌, List}
use Rattle.rc_model.specs.Syntax.Tree.{Sort, Node, Many, none, more, count}
use Rattle.rc_model.specs.Syntax.Tree as t
use Rattle.rc_model.specs.Syntax.WellFormed.{has_text}
use Rattle.rc_model.specs.Handed.TreeReading.{any, some, several, few}

-- one level less
abbrev pub below : ℕ → (ℕ → Bool) → Bool
below zero f = false
below (suc d) f = f d

abbrev pub fits_word : List ℕ → Bool → Bool
fits_word text true = true
fits_word text false = has_text text

abbrev mutual
  pub fits : {s : Sort} → Node s → ℕ → Bool
  fits t.Empty d = below d (λ e. true)
  fits (t.Seq items) d = below d (λ e. any (count items) && all_fit items e)
  fits (t.Simple words) d = below d (λ e. some (count words) && all_fit words e)
  fits (t.Assign pairs body) d = below d (λ e. (some (count pairs) && all_fit pairs e) && fits body e)
  fits (t.Redirect redirs body) d = below d (λ e. (some (count redirs) && all_fit redirs e) && fits body e)
  fits (t.Pipeline stages last) d = below d (λ e. (few (count stages) && all_fit stages e) && fits last e)
  fits (t.AndOr first links) d = below d (λ e. fits first e && (some (count links) && all_fit links e))
  fits (t.Not body) d = below d (λ e. fits body e)
  fits (t.Subshell body) d = below d (λ e. fits body e)
  fits (t.If condition body) d = below d (λ e. fits condition e && fits body e)
  fits (t.IfNot body) d = below d (λ e. fits body e)
  fits (t.While condition body) d = below d (λ e. fits condition e && fits body e)
  fits (t.ForAll name body) d = below d (λ e. fits name e && fits body e)
  fits (t.For name words body) d = below d (λ e. fits name e && ((any (count words) && all_fit words e) && fits body e))
  fits (t.Switch subject branches) d = below d (λ e. fits subject e && (any (count branches) && all_fit branches e))
  fits (t.Match subject patterns) d = below d (λ e. fits subject e && (any (count patterns) && all_fit patterns e))
  fits (t.Define names body) d = below d (λ e. (some (count names) && all_fit names e) && fits body e)
  fits (t.Undefine names) d = below d (λ e. some (count names) && all_fit names e)
  fits (t.Brace body) d = below d (λ e. fits body e)
  fits (t.Lit text quoted) d = below d (λ e. fits_word text quoted)
  fits (t.Concat parts) d = below d (λ e. several (count parts) && all_fit parts e)
  fits (t.Paren words) d = below d (λ e. any (count words) && all_fit words e)
  fits (t.Var name) d = below d (λ e. fits name e)
  fits (t.Count name) d = below d (λ e. fits name e)
  fits (t.Flat name) d = below d (λ e. fits name e)
  fits (t.Sub name subscripts) d = below d (λ e. fits name e && (any (count subscripts) && all_fit subscripts e))
  fits (t.Back body) d = below d (λ e. fits body e)
  fits (t.Item body background) d = fits body d
  fits (t.Pair name value) d = fits name d && fits value d
  fits (t.Stage body slot) d = fits body d
  fits (t.Link logic body) d = fits body d
  fits (t.Branch patterns body) d = (any (count patterns) && all_fit patterns d) && fits body d
  fits (t.Open mode slot path) d = fits path d
  fits (t.Copy to from) d = true
  fits (t.Here pieces) d = any (count pieces) && all_fit pieces d
  fits (t.Text text) d = true
  fits (t.Name text) d = true

  pub all_fit : {s : Sort} → Many s → ℕ → Bool
  all_fit none d = true
  all_fit (more n ns) d = fits n d && all_fit ns d
