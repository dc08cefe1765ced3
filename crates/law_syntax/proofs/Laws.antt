-- The descent and the grammar agree.
use Rattle.std.proofs.Common.{◌≡◌, ℕ, ◌<◌, ◌≤◌, max, Bool, true, false, List, [], Ok, Err, ◌⊎◌, inl, inr, if◌then◌else◌, refl, sym, ap, subst, ◌∙◌, arith, nat_le}
use Rattle.std.proofs.lemmas.Bool.{leb-true, leb-false, le-leb}
use Rattle.rc_model.specs.Syntax.Tokens.{Lexeme}
use Rattle.rc_model.specs.Syntax.Tree.{Node, Many}
use Rattle.rc_model.specs.Syntax.Tree as t
use Rattle.rc_model.specs.Syntax.WellFormed.{depth, most_stages}
use Rattle.rc_model.specs.Syntax.Grammar.{HaveTree}
use Rattle.rc_model.specs.Mirrors.Descent as d
use Rattle.rc_model.specs.Mirrors.Descent.{Read}
use Rattle.rc_model.specs.Mirrors.ParsingLaws.{FindsOnlyTrees, FindsEachTree, HasOneTree, HasNoTree, HasTooManyStages, IsTooDeep}
use Rattle.law_syntax.proofs.Lists.{done, ok_same, same_fault, if_ok}
use Rattle.law_syntax.proofs.Soundness.{read_sound}
use Rattle.law_syntax.proofs.CompletenessOfArguments.{Meets}
use Rattle.law_syntax.proofs.Completeness.{read_good}
use Rattle.law_syntax.proofs.FewStages.{few_stages_read}
use Rattle.rc_model.specs.declared.fault.DescentFault.TheVariants as descent

whole_found : (o : Read (Many t.item)) (tree : Node t.cmd) → d.whole o ≡ Ok tree →
    (is : Many t.item) × (o ≡ Ok (is, [])) × (tree ≡ t.Seq is) × (nat_le (depth tree) 200 ≡ true)
whole_found (Ok (is, [])) tree h = elim (if_ok (nat_le (depth (t.Seq is)) 200) (done (t.Seq is)) (Err (descent.TooDeep, 0)) tree h) [
  | inl k ↦ (let e = ok_same (t.Seq is) tree k.1 in (is, refl, sym e, subst (λ z. nat_le (depth z) 200 ≡ true) e k.0))
  | inr k ↦ absurd cc
]
whole_found (Ok y) tree h = absurd cc
whole_found (Err e) tree h = absurd cc

pub finds_only_trees : FindsOnlyTrees
unfolding d.script_tree
finds_only_trees levels ts tree h =
    let w = whole_found (d.read levels (d.a_list false) ts) tree h in
    let s = read_sound levels in
    record {
      script = (w.0, s.list false ts (w.0, []) w.1, w.2);
      shallow = leb-true (depth tree) 200 w.3;
      narrow = subst (λ z. most_stages z ≤ 64) (sym w.2) (few_stages_read levels ts [] w.0 w.1);
    }

-- what is read of a script
script_meets : (levels : ℕ) (ts : List Lexeme) (tree : Node t.cmd) (p : HaveTree ts tree) → Meets levels (depth tree) (most_stages tree) (d.read levels (d.a_list false) ts) (p.0, [])
script_meets levels ts tree p =
    let gr = read_good levels in
    let m : Meets levels (depth (t.Seq p.0)) (most_stages (t.Seq p.0)) (d.read levels (d.a_list false) ts) (p.0, []) = gr.list p.1 in
    subst (λ z. Meets levels (depth z) (most_stages z) (d.read levels (d.a_list false) ts) (p.0, [])) (sym p.2) m

-- within the limits a phrase is read
within : {A : Type 0} (levels tall wide : ℕ) (o : Read A) (x : A × List Lexeme) → Meets levels tall wide o x → tall ≤ levels → wide ≤ 64 → o ≡ Ok x
within levels tall wide (Ok y) x m h k = ap (λ z. Ok z) m.met
within levels tall wide (Err (descent.Unexpected, left)) x m h k = absurd m.met
within levels tall wide (Err (descent.IfNot, left)) x m h k = absurd m.met
within levels tall wide (Err (descent.TooDeep, left)) x m h k = let e = m.met in absurd (omega arith)
within levels tall wide (Err (descent.TooManyStages, left)) x m h k = let e = m.met in absurd (omega arith)

pub finds_each_tree : FindsEachTree
unfolding d.script_tree
finds_each_tree levels ts tree le a =
    let p = a.script in
    let deep = a.shallow in
    let found = within levels (depth tree) (most_stages tree) (d.read levels (d.a_list false) ts) (p.0, []) (script_meets levels ts tree p) (omega arith) a.narrow in
    let shallow : nat_le (depth (t.Seq p.0)) 200 ≡ true = subst (λ z. nat_le (depth z) 200 ≡ true) p.2 (le-leb (depth tree) 200 deep) in
    ap (λ o. d.whole o) found ∙ whole_shallow p.0 shallow ∙ ap (λ z. Ok z) (sym p.2)
  where
    whole_shallow : (is : Many t.item) → nat_le (depth (t.Seq is)) 200 ≡ true → d.whole (Ok (is, [])) ≡ Ok (t.Seq is)
    whole_shallow is k = rw k refl

-- what is read where there is another tree too
met_same : {A : Type 0} (levels tall wide : ℕ) (y x : A × List Lexeme) → Meets levels tall wide (Ok y) x → y ≡ x
met_same levels tall wide y x m = m.met

pub has_one_tree : HasOneTree
has_one_tree ts tree other a q =
    let p = a.script in
    let levels : ℕ = max (depth tree) (depth other) in
    let found = within levels (depth tree) (most_stages tree) (d.read levels (d.a_list false) ts) (p.0, []) (script_meets levels ts tree p) (omega arith) a.narrow in
    let m = subst (λ o. Meets levels (depth other) (most_stages other) o (q.0, [])) found (script_meets levels ts other q) in
    let e = met_same levels (depth other) (most_stages other) (p.0, []) (q.0, []) m in
    q.2 ∙ sym (ap (λ z. t.Seq z.0) e) ∙ sym p.2

-- the faults of reading, and those after it
whole_unexpected : (levels tall wide place : ℕ) (o : Read (Many t.item)) (is : Many t.item) → Meets levels tall wide o (is, [])
    → (d.whole o ≡ Err (descent.Unexpected, place)) ⊎ (d.whole o ≡ Err (descent.IfNot, place)) → ⊥
whole_unexpected levels tall wide place (Ok y) is m h =
    either_way (nat_le (depth (t.Seq is)) 200)
    (subst (λ z. (d.whole (Ok z) ≡ Err (descent.Unexpected, place)) ⊎ (d.whole (Ok z) ≡ Err (descent.IfNot, place))) m.met h)
  where
    either_way : (b : Bool)
        → ((if b then done (t.Seq is) else Err (descent.TooDeep, 0)) ≡ Err (descent.Unexpected, place)) ⊎ ((if b then done (t.Seq is) else Err (descent.TooDeep, 0)) ≡ Err (descent.IfNot, place))
        → ⊥
    either_way true (inl k) = cc
    either_way true (inr k) = cc
    either_way false (inl k) = let e = same_fault _ _ k in cc
    either_way false (inr k) = let e = same_fault _ _ k in cc
whole_unexpected levels tall wide place (Err (descent.Unexpected, left)) is m h = m.met
whole_unexpected levels tall wide place (Err (descent.IfNot, left)) is m h = m.met
whole_unexpected levels tall wide place (Err (descent.TooDeep, left)) is m (inl h) = let e = same_fault _ _ h in cc
whole_unexpected levels tall wide place (Err (descent.TooDeep, left)) is m (inr h) = let e = same_fault _ _ h in cc
whole_unexpected levels tall wide place (Err (descent.TooManyStages, left)) is m (inl h) = let e = same_fault _ _ h in cc
whole_unexpected levels tall wide place (Err (descent.TooManyStages, left)) is m (inr h) = let e = same_fault _ _ h in cc

pub has_no_tree : HasNoTree
unfolding d.script_tree
has_no_tree levels place ts tree h p = whole_unexpected levels (depth tree) (most_stages tree) place (d.read levels (d.a_list false) ts) p.0 (script_meets levels ts tree p) h

whole_wide : (levels tall wide place : ℕ) (o : Read (Many t.item)) (is : Many t.item) → Meets levels tall wide o (is, []) → d.whole o ≡ Err (descent.TooManyStages, place) → 64 < wide
whole_wide levels tall wide place (Ok y) is m h = absurd (not_wide (nat_le (depth (t.Seq is)) 200) (subst (λ z. d.whole (Ok z) ≡ Err (descent.TooManyStages, place)) m.met h))
  where
    not_wide : (b : Bool) → (if b then done (t.Seq is) else Err (descent.TooDeep, 0)) ≡ Err (descent.TooManyStages, place) → ⊥
    not_wide true k = cc
    not_wide false k = let e = same_fault _ _ k in cc
whole_wide levels tall wide place (Err (descent.Unexpected, left)) is m h = absurd m.met
whole_wide levels tall wide place (Err (descent.IfNot, left)) is m h = absurd m.met
whole_wide levels tall wide place (Err (descent.TooDeep, left)) is m h = absurd (let e = same_fault _ _ h in cc)
whole_wide levels tall wide place (Err (descent.TooManyStages, left)) is m h = m.met

pub has_too_many_stages : HasTooManyStages
unfolding d.script_tree
has_too_many_stages levels place ts tree h p = whole_wide levels (depth tree) (most_stages tree) place (d.read levels (d.a_list false) ts) p.0 (script_meets levels ts tree p) h

whole_deep : (levels tall wide place : ℕ) (o : Read (Many t.item)) (is : Many t.item) → Meets levels tall wide o (is, []) → 200 ≤ levels → d.whole o ≡ Err (descent.TooDeep, place) →
    (200 < tall) ⊎ (200 < depth (t.Seq is))
whole_deep levels tall wide place (Ok y) is m le h =
    inr (far (nat_le (depth (t.Seq is)) 200) refl (subst (λ z. d.whole (Ok z) ≡ Err (descent.TooDeep, place)) m.met h))
  where
    far : (b : Bool) → nat_le (depth (t.Seq is)) 200 ≡ b → (if b then done (t.Seq is) else Err (descent.TooDeep, 0)) ≡ Err (descent.TooDeep, place) → 200 < depth (t.Seq is)
    far true e k = absurd cc
    far false e k = leb-false (depth (t.Seq is)) 200 e
whole_deep levels tall wide place (Err (descent.Unexpected, left)) is m le h = absurd m.met
whole_deep levels tall wide place (Err (descent.IfNot, left)) is m le h = absurd m.met
whole_deep levels tall wide place (Err (descent.TooDeep, left)) is m le h = let e = m.met in inl (omega arith)
whole_deep levels tall wide place (Err (descent.TooManyStages, left)) is m le h = absurd (let e = same_fault _ _ h in cc)

pub is_too_deep : IsTooDeep
unfolding d.script_tree
is_too_deep levels place ts tree le h p =
    elim (whole_deep levels (depth tree) (most_stages tree) place (d.read levels (d.a_list false) ts) p.0 (script_meets levels ts tree p) le h) [
      | inl k ↦ k
      | inr k ↦ subst (λ z. 200 < depth z) (sym p.2) k
    ]
