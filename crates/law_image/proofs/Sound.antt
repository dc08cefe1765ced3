-- What fits is what is sound and not too deep.
use Rattle.std.specs.Prelude.{IsTrue, max}
use Rattle.std.proofs.Common.{◌≡◌, ℕ, zero, suc, ◌≤◌, List, Bool, true, false, ◌&&◌, ◌||◌, refl, arith}
use Rattle.std.specs.Str.{is_utf8}
use Rattle.std.proofs.lemmas.Bool.{and_parts, and_from, false≢true, eq-eqb}
use Rattle.rc_model.specs.declared.call.Mode.{Mode}
use Rattle.rc_model.specs.declared.call.Mode.TheVariants.{Read, Write, Append}
use Rattle.rc_model.specs.Syntax.Text.{without_zero}
use Rattle.rc_model.specs.Syntax.Tree.{Sort, Node, Many, piece, none, more, count}
use Rattle.rc_model.specs.Syntax.Tree as t
use Rattle.rc_model.specs.Syntax.WellFormed.{is_sound, are_sound, depth, depths, is_output, opens, has_text, has_some, has_several, has_stages}
use Rattle.rc_model.specs.Handed.TreeSpelling.{is_text, Opened, Spells, SpellsAll}
use Rattle.rc_model.specs.Handed.TreeReading.{any, some, several, few}
use Rattle.law_image.proofs.Fits.{fits, all_fit, below, fits_word}

down : (n d : ℕ) (f : ℕ → Bool) → suc n ≤ d → ((e : ℕ) → n ≤ e → IsTrue (f e)) → IsTrue (below d f)
down n zero f h g = absurd (omega arith)
down n (suc e) f h g = g e (omega arith)

word_fits : (text : List ℕ) (quoted : Bool) → IsTrue ((quoted || has_text text) && without_zero text) → IsTrue (fits_word text quoted)
word_fits text true h = refl
word_fits text false h = (and_parts (has_text text) (without_zero text) h).0

piece_flat : (x : Node piece) → depth x ≡ 0
piece_flat (t.Text x) = refl
piece_flat (t.Name x) = refl

pieces_flat : (ns : Many piece) → depths ns ≤ 0
pieces_flat none = omega arith
pieces_flat (more n ns) = omega (arith, piece_flat n, pieces_flat ns)

mutual
  pub fits_of : {s : Sort} (x : Node s) (d : ℕ) → IsTrue (is_sound x) → depth x ≤ d → IsTrue (fits x d)
  fits_of t.Empty d s h = down 0 d _ h (λ e l. refl)
  fits_of (t.Seq items) d s h = down (depths items) d _ h (λ e l. and_from _ _ refl (all_fit_of items e s (omega arith)))
  fits_of (t.Simple words) d s h = let s0 = and_parts (has_some words) (are_sound words) s in down (depths words) d _ h (λ e l. and_from _ _ s0.0 (all_fit_of words e s0.1 (omega arith)))
  fits_of (t.Assign pairs body) d s h =
      let s0 = and_parts (has_some pairs) (are_sound pairs && is_sound body) s in
      let s1 = and_parts (are_sound pairs) (is_sound body) s0.1 in
      down (max (depths pairs) (depth body)) d _ h (λ e l. and_from _ _ (and_from _ _ s0.0 (all_fit_of pairs e s1.0 (omega arith))) (fits_of body e s1.1 (omega arith)))
  fits_of (t.Redirect redirs body) d s h =
      let s0 = and_parts (has_some redirs) (are_sound redirs && is_sound body) s in
      let s1 = and_parts (are_sound redirs) (is_sound body) s0.1 in
      down (max (depths redirs) (depth body)) d _ h (λ e l. and_from _ _ (and_from _ _ s0.0 (all_fit_of redirs e s1.0 (omega arith))) (fits_of body e s1.1 (omega arith)))
  fits_of (t.Pipeline stages last) d s h =
      let s0 = and_parts (has_stages stages) (are_sound stages && is_sound last) s in
      let s1 = and_parts (are_sound stages) (is_sound last) s0.1 in
      down (max (depths stages) (depth last)) d _ h (λ e l. and_from _ _ (and_from _ _ s0.0 (all_fit_of stages e s1.0 (omega arith))) (fits_of last e s1.1 (omega arith)))
  fits_of (t.AndOr first links) d s h =
      let s0 = and_parts (has_some links) (is_sound first && are_sound links) s in
      let s1 = and_parts (is_sound first) (are_sound links) s0.1 in
      down (max (depth first) (depths links)) d _ h (λ e l. and_from _ _ (fits_of first e s1.0 (omega arith)) (and_from _ _ s0.0 (all_fit_of links e s1.1 (omega arith))))
  fits_of (t.Not body) d s h = down (depth body) d _ h (λ e l. fits_of body e s (omega arith))
  fits_of (t.Subshell body) d s h = down (depth body) d _ h (λ e l. fits_of body e s (omega arith))
  fits_of (t.If condition body) d s h =
      let s0 = and_parts (is_sound condition) (is_sound body) s in
      down (max (depth condition) (depth body)) d _ h (λ e l. and_from _ _ (fits_of condition e s0.0 (omega arith)) (fits_of body e s0.1 (omega arith)))
  fits_of (t.IfNot body) d s h = down (depth body) d _ h (λ e l. fits_of body e s (omega arith))
  fits_of (t.While condition body) d s h =
      let s0 = and_parts (is_sound condition) (is_sound body) s in
      down (max (depth condition) (depth body)) d _ h (λ e l. and_from _ _ (fits_of condition e s0.0 (omega arith)) (fits_of body e s0.1 (omega arith)))
  fits_of (t.ForAll name body) d s h =
      let s0 = and_parts (is_sound name) (is_sound body) s in
      down (max (depth name) (depth body)) d _ h (λ e l. and_from _ _ (fits_of name e s0.0 (omega arith)) (fits_of body e s0.1 (omega arith)))
  fits_of (t.For name words body) d s h =
      let s0 = and_parts (is_sound name) (are_sound words && is_sound body) s in
      let s1 = and_parts (are_sound words) (is_sound body) s0.1 in
      down (max (depth name) (max (depths words) (depth body))) d _ h
      (λ e l. and_from _ _ (fits_of name e s0.0 (omega arith)) (and_from _ _ (and_from _ _ refl (all_fit_of words e s1.0 (omega arith))) (fits_of body e s1.1 (omega arith))))
  fits_of (t.Switch subject branches) d s h =
      let s0 = and_parts (is_sound subject) (are_sound branches) s in
      down (max (depth subject) (depths branches)) d _ h (λ e l. and_from _ _ (fits_of subject e s0.0 (omega arith)) (and_from _ _ refl (all_fit_of branches e s0.1 (omega arith))))
  fits_of (t.Match subject patterns) d s h =
      let s0 = and_parts (is_sound subject) (are_sound patterns) s in
      down (max (depth subject) (depths patterns)) d _ h (λ e l. and_from _ _ (fits_of subject e s0.0 (omega arith)) (and_from _ _ refl (all_fit_of patterns e s0.1 (omega arith))))
  fits_of (t.Define names body) d s h =
      let s0 = and_parts (has_some names) (are_sound names && is_sound body) s in
      let s1 = and_parts (are_sound names) (is_sound body) s0.1 in
      down (max (depths names) (depth body)) d _ h (λ e l. and_from _ _ (and_from _ _ s0.0 (all_fit_of names e s1.0 (omega arith))) (fits_of body e s1.1 (omega arith)))
  fits_of (t.Undefine names) d s h = let s0 = and_parts (has_some names) (are_sound names) s in down (depths names) d _ h (λ e l. and_from _ _ s0.0 (all_fit_of names e s0.1 (omega arith)))
  fits_of (t.Brace body) d s h = down (depth body) d _ h (λ e l. fits_of body e s (omega arith))
  fits_of (t.Concat parts) d s h = let s0 = and_parts (has_several parts) (are_sound parts) s in down (depths parts) d _ h (λ e l. and_from _ _ s0.0 (all_fit_of parts e s0.1 (omega arith)))
  fits_of (t.Paren words) d s h = down (depths words) d _ h (λ e l. and_from _ _ refl (all_fit_of words e s (omega arith)))
  fits_of (t.Var name) d s h = down (depth name) d _ h (λ e l. fits_of name e s (omega arith))
  fits_of (t.Count name) d s h = down (depth name) d _ h (λ e l. fits_of name e s (omega arith))
  fits_of (t.Flat name) d s h = down (depth name) d _ h (λ e l. fits_of name e s (omega arith))
  fits_of (t.Sub name subscripts) d s h =
      let s0 = and_parts (is_sound name) (are_sound subscripts) s in
      down (max (depth name) (depths subscripts)) d _ h (λ e l. and_from _ _ (fits_of name e s0.0 (omega arith)) (and_from _ _ refl (all_fit_of subscripts e s0.1 (omega arith))))
  fits_of (t.Back body) d s h = down (depth body) d _ h (λ e l. fits_of body e s (omega arith))
  fits_of (t.Item body background) d s h = fits_of body d s (omega arith)
  fits_of (t.Pair name value) d s h = let s0 = and_parts (is_sound name) (is_sound value) s in and_from _ _ (fits_of name d s0.0 (omega arith)) (fits_of value d s0.1 (omega arith))
  fits_of (t.Stage body slot) d s h = let s0 = and_parts (is_output slot) (is_sound body) s in fits_of body d s0.1 (omega arith)
  fits_of (t.Link logic body) d s h = fits_of body d s (omega arith)
  fits_of (t.Branch patterns body) d s h =
      let s0 = and_parts (are_sound patterns) (is_sound body) s in
      and_from _ _ (and_from _ _ refl (all_fit_of patterns d s0.0 (omega arith))) (fits_of body d s0.1 (omega arith))
  fits_of (t.Open mode slot path) d s h = let s0 = and_parts (opens mode slot) (is_sound path) s in fits_of path d s0.1 (omega arith)
  fits_of (t.Here pieces) d s h = and_from _ _ refl (all_fit_of pieces d s (omega (arith, pieces_flat pieces)))
  fits_of (t.Lit text quoted) d s h = down 0 d _ h (λ e l. word_fits text quoted s)
  fits_of (t.Copy to from) d s h = refl
  fits_of (t.Text text) d s h = refl
  fits_of (t.Name text) d s h = refl

  all_fit_of : {s : Sort} (ns : Many s) (d : ℕ) → IsTrue (are_sound ns) → depths ns ≤ d → IsTrue (all_fit ns d)
  all_fit_of none d s h = refl
  all_fit_of (more n ns) d s h = let s0 = and_parts (is_sound n) (are_sound ns) s in and_from _ _ (fits_of n d s0.0 (omega arith)) (all_fit_of ns d s0.1 (omega arith))

-- a tree that was read
pub record Sound {s : Sort} (x : Node s) (d : ℕ) : Type 0 where
  pub sound : IsTrue (is_sound x)
  pub deep : depth x ≤ d

record AllSound {s : Sort} (ns : Many s) (d : ℕ) : Type 0 where
  sound : IsTrue (are_sound ns)
  deep : depths ns ≤ d

up : (d : ℕ) (f : ℕ → Bool) → IsTrue (below d f) → (e : ℕ) × (suc e ≤ d) × IsTrue (f e)
up zero f h = absurd (false≢true h)
up (suc e) f h = (e, omega arith, h)

word_sound : (text : List ℕ) (quoted : Bool) → IsTrue (fits_word text quoted) → IsTrue (is_text text) → IsTrue ((quoted || has_text text) && without_zero text)
word_sound text true h g = (and_parts (is_utf8 text) _ g).1
word_sound text false h g = and_from (has_text text) _ h (and_parts (is_utf8 text) _ g).1

opens_of : (mode : Mode) (slot : ℕ) (path : List ℕ → Type 0) (text : List ℕ) → Opened mode slot path text → IsTrue (opens mode slot) × ((back : List ℕ) × path back)
opens_of Read slot path text j = (eq-eqb slot 0 j.second.input, (j.back, j.second.rest))
opens_of Write slot path text j = (j.second.first.number, (j.second.back, j.second.second))
opens_of Append slot path text j = (j.second.first.number, (j.second.back, j.second.second))

mutual
  pub sound_of : {s : Sort} (x : Node s) (d : ℕ) (text : List ℕ) → Spells x text → IsTrue (fits x d) → Sound x d
  sound_of t.Empty d text j h = let u = up d _ h in record { sound = refl; deep = omega (arith, u.1) }
  sound_of (t.Seq items) d text j h =
      let u = up d _ h in
      let g0 = and_parts (any (count items)) (all_fit items u.0) u.2 in
      let r0 = all_sound_of items u.0 j.second.back j.second.second g0.1 in
      record { sound = r0.sound; deep = omega (arith, r0.deep, u.1) }
  sound_of (t.Simple words) d text j h =
      let u = up d _ h in
      let g0 = and_parts (some (count words)) (all_fit words u.0) u.2 in
      let r0 = all_sound_of words u.0 j.second.back j.second.second g0.1 in
      record { sound = and_from _ _ g0.0 (r0.sound); deep = omega (arith, r0.deep, u.1) }
  sound_of (t.Assign pairs body) d text j h =
      let u = up d _ h in
      let f0 = and_parts ((some (count pairs) && all_fit pairs u.0)) (fits body u.0) u.2 in
      let g0 = and_parts (some (count pairs)) (all_fit pairs u.0) f0.0 in
      let r0 = all_sound_of pairs u.0 j.second.first.back j.second.first.second g0.1 in
      let r1 = sound_of body u.0 j.second.back j.second.second f0.1 in
      record { sound = and_from _ _ g0.0 (and_from _ _ r0.sound (r1.sound)); deep = omega (arith, r0.deep, r1.deep, u.1) }
  sound_of (t.Redirect redirs body) d text j h =
      let u = up d _ h in
      let f0 = and_parts ((some (count redirs) && all_fit redirs u.0)) (fits body u.0) u.2 in
      let g0 = and_parts (some (count redirs)) (all_fit redirs u.0) f0.0 in
      let r0 = all_sound_of redirs u.0 j.second.first.back j.second.first.second g0.1 in
      let r1 = sound_of body u.0 j.second.back j.second.second f0.1 in
      record { sound = and_from _ _ g0.0 (and_from _ _ r0.sound (r1.sound)); deep = omega (arith, r0.deep, r1.deep, u.1) }
  sound_of (t.Pipeline stages last) d text j h =
      let u = up d _ h in
      let f0 = and_parts ((few (count stages) && all_fit stages u.0)) (fits last u.0) u.2 in
      let g0 = and_parts (few (count stages)) (all_fit stages u.0) f0.0 in
      let r0 = all_sound_of stages u.0 j.second.first.back j.second.first.second g0.1 in
      let r1 = sound_of last u.0 j.second.back j.second.second f0.1 in
      record { sound = and_from _ _ g0.0 (and_from _ _ r0.sound (r1.sound)); deep = omega (arith, r0.deep, r1.deep, u.1) }
  sound_of (t.AndOr first links) d text j h =
      let u = up d _ h in
      let f0 = and_parts (fits first u.0) ((some (count links) && all_fit links u.0)) u.2 in
      let r0 = sound_of first u.0 j.second.front j.second.first f0.0 in
      let g1 = and_parts (some (count links)) (all_fit links u.0) f0.1 in
      let r1 = all_sound_of links u.0 j.second.second.back j.second.second.second g1.1 in
      record { sound = and_from _ _ g1.0 (and_from _ _ r0.sound (r1.sound)); deep = omega (arith, r0.deep, r1.deep, u.1) }
  sound_of (t.Not body) d text j h = let u = up d _ h in let r0 = sound_of body u.0 j.back j.second u.2 in record { sound = r0.sound; deep = omega (arith, r0.deep, u.1) }
  sound_of (t.Subshell body) d text j h = let u = up d _ h in let r0 = sound_of body u.0 j.back j.second u.2 in record { sound = r0.sound; deep = omega (arith, r0.deep, u.1) }
  sound_of (t.If condition body) d text j h =
      let u = up d _ h in
      let f0 = and_parts (fits condition u.0) (fits body u.0) u.2 in
      let r0 = sound_of condition u.0 j.second.front j.second.first f0.0 in
      let r1 = sound_of body u.0 j.second.back j.second.second f0.1 in
      record { sound = and_from _ _ r0.sound (r1.sound); deep = omega (arith, r0.deep, r1.deep, u.1) }
  sound_of (t.IfNot body) d text j h = let u = up d _ h in let r0 = sound_of body u.0 j.back j.second u.2 in record { sound = r0.sound; deep = omega (arith, r0.deep, u.1) }
  sound_of (t.While condition body) d text j h =
      let u = up d _ h in
      let f0 = and_parts (fits condition u.0) (fits body u.0) u.2 in
      let r0 = sound_of condition u.0 j.second.front j.second.first f0.0 in
      let r1 = sound_of body u.0 j.second.back j.second.second f0.1 in
      record { sound = and_from _ _ r0.sound (r1.sound); deep = omega (arith, r0.deep, r1.deep, u.1) }
  sound_of (t.ForAll name body) d text j h =
      let u = up d _ h in
      let f0 = and_parts (fits name u.0) (fits body u.0) u.2 in
      let r0 = sound_of name u.0 j.second.front j.second.first f0.0 in
      let r1 = sound_of body u.0 j.second.back j.second.second f0.1 in
      record { sound = and_from _ _ r0.sound (r1.sound); deep = omega (arith, r0.deep, r1.deep, u.1) }
  sound_of (t.For name words body) d text j h =
      let u = up d _ h in
      let f0 = and_parts (fits name u.0) ((any (count words) && all_fit words u.0) && fits body u.0) u.2 in
      let f1 = and_parts ((any (count words) && all_fit words u.0)) (fits body u.0) f0.1 in
      let r0 = sound_of name u.0 j.second.front j.second.first f0.0 in
      let g1 = and_parts (any (count words)) (all_fit words u.0) f1.0 in
      let r1 = all_sound_of words u.0 j.second.second.first.back j.second.second.first.second g1.1 in
      let r2 = sound_of body u.0 j.second.second.back j.second.second.second f1.1 in
      record { sound = and_from _ _ r0.sound (and_from _ _ r1.sound (r2.sound)); deep = omega (arith, r0.deep, r1.deep, r2.deep, u.1) }
  sound_of (t.Switch subject branches) d text j h =
      let u = up d _ h in
      let f0 = and_parts (fits subject u.0) ((any (count branches) && all_fit branches u.0)) u.2 in
      let r0 = sound_of subject u.0 j.second.front j.second.first f0.0 in
      let g1 = and_parts (any (count branches)) (all_fit branches u.0) f0.1 in
      let r1 = all_sound_of branches u.0 j.second.second.back j.second.second.second g1.1 in
      record { sound = and_from _ _ r0.sound (r1.sound); deep = omega (arith, r0.deep, r1.deep, u.1) }
  sound_of (t.Match subject patterns) d text j h =
      let u = up d _ h in
      let f0 = and_parts (fits subject u.0) ((any (count patterns) && all_fit patterns u.0)) u.2 in
      let r0 = sound_of subject u.0 j.second.front j.second.first f0.0 in
      let g1 = and_parts (any (count patterns)) (all_fit patterns u.0) f0.1 in
      let r1 = all_sound_of patterns u.0 j.second.second.back j.second.second.second g1.1 in
      record { sound = and_from _ _ r0.sound (r1.sound); deep = omega (arith, r0.deep, r1.deep, u.1) }
  sound_of (t.Define names body) d text j h =
      let u = up d _ h in
      let f0 = and_parts ((some (count names) && all_fit names u.0)) (fits body u.0) u.2 in
      let g0 = and_parts (some (count names)) (all_fit names u.0) f0.0 in
      let r0 = all_sound_of names u.0 j.second.first.back j.second.first.second g0.1 in
      let r1 = sound_of body u.0 j.second.back j.second.second f0.1 in
      record { sound = and_from _ _ g0.0 (and_from _ _ r0.sound (r1.sound)); deep = omega (arith, r0.deep, r1.deep, u.1) }
  sound_of (t.Undefine names) d text j h =
      let u = up d _ h in
      let g0 = and_parts (some (count names)) (all_fit names u.0) u.2 in
      let r0 = all_sound_of names u.0 j.second.back j.second.second g0.1 in
      record { sound = and_from _ _ g0.0 (r0.sound); deep = omega (arith, r0.deep, u.1) }
  sound_of (t.Brace body) d text j h = let u = up d _ h in let r0 = sound_of body u.0 j.back j.second u.2 in record { sound = r0.sound; deep = omega (arith, r0.deep, u.1) }
  sound_of (t.Concat parts) d text j h =
      let u = up d _ h in
      let g0 = and_parts (several (count parts)) (all_fit parts u.0) u.2 in
      let r0 = all_sound_of parts u.0 j.second.back j.second.second g0.1 in
      record { sound = and_from _ _ g0.0 (r0.sound); deep = omega (arith, r0.deep, u.1) }
  sound_of (t.Paren words) d text j h =
      let u = up d _ h in
      let g0 = and_parts (any (count words)) (all_fit words u.0) u.2 in
      let r0 = all_sound_of words u.0 j.second.back j.second.second g0.1 in
      record { sound = r0.sound; deep = omega (arith, r0.deep, u.1) }
  sound_of (t.Var name) d text j h = let u = up d _ h in let r0 = sound_of name u.0 j.back j.second u.2 in record { sound = r0.sound; deep = omega (arith, r0.deep, u.1) }
  sound_of (t.Count name) d text j h = let u = up d _ h in let r0 = sound_of name u.0 j.back j.second u.2 in record { sound = r0.sound; deep = omega (arith, r0.deep, u.1) }
  sound_of (t.Flat name) d text j h = let u = up d _ h in let r0 = sound_of name u.0 j.back j.second u.2 in record { sound = r0.sound; deep = omega (arith, r0.deep, u.1) }
  sound_of (t.Sub name subscripts) d text j h =
      let u = up d _ h in
      let f0 = and_parts (fits name u.0) ((any (count subscripts) && all_fit subscripts u.0)) u.2 in
      let r0 = sound_of name u.0 j.second.front j.second.first f0.0 in
      let g1 = and_parts (any (count subscripts)) (all_fit subscripts u.0) f0.1 in
      let r1 = all_sound_of subscripts u.0 j.second.second.back j.second.second.second g1.1 in
      record { sound = and_from _ _ r0.sound (r1.sound); deep = omega (arith, r0.deep, r1.deep, u.1) }
  sound_of (t.Back body) d text j h = let u = up d _ h in let r0 = sound_of body u.0 j.back j.second u.2 in record { sound = r0.sound; deep = omega (arith, r0.deep, u.1) }
  sound_of (t.Item body background) d text j h = let r0 = sound_of body d j.back j.second h in record { sound = r0.sound; deep = omega (arith, r0.deep) }
  sound_of (t.Pair name value) d text j h =
      let f0 = and_parts (fits name d) (fits value d) h in
      let r0 = sound_of name d j.front j.first f0.0 in
      let r1 = sound_of value d j.back j.second f0.1 in
      record { sound = and_from _ _ r0.sound (r1.sound); deep = omega (arith, r0.deep, r1.deep) }
  sound_of (t.Stage body slot) d text j h = let r0 = sound_of body d j.back j.second h in record { sound = and_from _ _ j.first.number (r0.sound); deep = omega (arith, r0.deep) }
  sound_of (t.Link logic body) d text j h = let r0 = sound_of body d j.back j.second h in record { sound = r0.sound; deep = omega (arith, r0.deep) }
  sound_of (t.Branch patterns body) d text j h =
      let f0 = and_parts ((any (count patterns) && all_fit patterns d)) (fits body d) h in
      let g0 = and_parts (any (count patterns)) (all_fit patterns d) f0.0 in
      let r0 = all_sound_of patterns d j.first.back j.first.second g0.1 in
      let r1 = sound_of body d j.back j.second f0.1 in
      record { sound = and_from _ _ r0.sound (r1.sound); deep = omega (arith, r0.deep, r1.deep) }
  sound_of (t.Open mode slot path) d text j h =
      let w = opens_of mode slot (Spells path) text j in
      let r0 = sound_of path d w.1.0 w.1.1 h in
      record { sound = and_from _ _ w.0 (r0.sound); deep = omega (arith, r0.deep) }
  sound_of (t.Here pieces) d text j h =
      let g0 = and_parts (any (count pieces)) (all_fit pieces d) h in
      let r0 = all_sound_of pieces d j.second.back j.second.second g0.1 in
      record { sound = r0.sound; deep = omega (arith) }
  sound_of (t.Lit x quoted) d text j h = let u = up d _ h in record { sound = word_sound x quoted u.2 j.second.characters; deep = omega (arith, u.1) }
  sound_of (t.Copy to from) d text j h = record { sound = j.second.numbers; deep = omega arith }
  sound_of (t.Text x) d text j h = record { sound = (and_parts (is_utf8 x) _ j.second.characters).1; deep = omega arith }
  sound_of (t.Name x) d text j h = record { sound = (and_parts (is_utf8 x) _ j.second.characters).1; deep = omega arith }

  all_sound_of : {s : Sort} (ns : Many s) (d : ℕ) (text : List ℕ) → SpellsAll ns text → IsTrue (all_fit ns d) → AllSound ns d
  all_sound_of none d text j h = record { sound = refl; deep = omega arith }
  all_sound_of (more n ns) d text j h =
      let f0 = and_parts (fits n d) (all_fit ns d) h in
      let r0 = sound_of n d j.front j.first f0.0 in
      let r1 = all_sound_of ns d j.back j.second f0.1 in
      record { sound = and_from _ _ r0.sound r1.sound; deep = omega (arith, r0.deep, r1.deep) }
