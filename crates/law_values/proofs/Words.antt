-- Words are expanded one by one.
use Rattle.std.proofs.Common.{◌≡◌, Bool, true, false, cond, List, [], ◌∷◌, ◌++◌, refl, sym, ap, subst, ◌∙◌}
use Rattle.std.proofs.lemmas.List.{append-nil}
use Rattle.rc_model.specs.Syntax.Words.{Word, has_pattern}
use Rattle.rc_model.specs.Run.Calls.{Call, Answer, Event}
use Rattle.rc_model.specs.Run.Plans.{Plan, done_with, ask, cut, Goes}
use Rattle.rc_model.specs.Run.State.{State}
use Rattle.rc_model.specs.Run.Shell.{ShellResult, Next, Shell, under, leaves, ◌>>=◌, pure}
use Rattle.rc_model.specs.Run.FileNames.{names_of, expanded_word, expanded}
use Rattle.rc_model.specs.Run.PathNames.{Agreeing, Expands, ExpandsBy, plain, names, AllExpand, none, next}
use Rattle.law_values.proofs.Once.{one_answer_each}
use Rattle.law_values.proofs.Traces.{expansion_by_trace}

-- the trace of one plan and then another is cut between them
record Cut {A X : Type 0} (p : Plan (ShellResult A)) (go : A → State → Plan (ShellResult X)) (trace : List Event) (r : ShellResult X) : Type 0 where
  pub before : List Event
  pub after : List Event
  pub middle : ShellResult A
  pub is : trace ≡ before ++ after
  pub first : Goes p before (done_with middle)
  pub rest : Goes (under (done_with middle) go leaves) after (done_with r)

goes_cut : {A X : Type 0} (p : Plan (ShellResult A)) (go : A → State → Plan (ShellResult X)) (trace : List Event) (r : ShellResult X) → Goes (under p go leaves) trace (done_with r) → Cut p go trace r
goes_cut (done_with x) go trace r g = record { before = []; after = trace; middle = x; is = refl; first = refl; rest = g }
goes_cut (ask c f) go [] r g = absurd cc
goes_cut cut go [] r g = absurd cc
goes_cut (ask c f) go (e ∷ es) r g =
    let k = goes_cut (f e.answer) go es r g.2 in
    record { before = e ∷ k.before; after = k.after; middle = k.middle; is = ap (λ z. e ∷ z) k.is; first = (g.0, g.1, k.first); rest = k.rest }
goes_cut cut go (e ∷ es) r g = absurd g

only_done : {X : Type 0} (x r : X) (trace : List Event) → Goes (done_with x) trace (done_with r) → (trace ≡ []) × (r ≡ x)
only_done x r [] g = (refl, cc)
only_done x r (e ∷ es) g = absurd g

-- a word becomes the same for all answers that agree with the trace
expands_so : (w : Word) (s : State) (trace : List Event) (x : ShellResult (List Word)) (vs : List Word) → x ≡ Next vs s → has_pattern w ≡ true
    → Goes (names_of w s) trace (done_with x) → (answers : Call → Answer) → Agreeing answers trace → Expands answers w vs
expands_so w s trace x vs is h g answers a =
    let e = expansion_by_trace w s trace x answers h g a in
    let same : e.0 ≡ vs = cc in
    subst (Expands answers w) same e.2

word_by : (w : Word) (s : State) (trace : List Event) (x : ShellResult (List Word)) (b : Bool) → has_pattern w ≡ b → Goes (cond b (names_of w) (pure (w ∷ [])) s) trace (done_with x) →
    (vs : List Word) × (x ≡ Next vs s) × ExpandsBy w trace vs
word_by w s trace x true h g =
    let t = one_answer_each w s trace (done_with x) g in
    let e = expansion_by_trace w s trace x t.0 h g t.1 in
    (e.0, e.1, names trace e.0 h (record { some = t.0; agrees = t.1; all = λ answers a. expands_so w s trace x e.0 e.1 h g answers a }))
word_by w s trace x false h g =
    let d = only_done (Next (w ∷ []) s) x trace g in
    (w ∷ [], d.1, subst (λ z. ExpandsBy w z (w ∷ [])) (sym d.0) (plain h))

pub expanded-is : (ws : List Word) (s : State) (trace : List Event) (r : ShellResult (List Word)) → Goes (expanded ws s) trace (done_with r)
    → (vs : List Word) × (r ≡ Next vs s) × AllExpand ws trace vs
expanded-is [] s trace r g = let d = only_done (Next [] s) r trace g in ([], d.1, subst (λ z. AllExpand [] z []) (sym d.0) none)
expanded-is (w ∷ ws) s trace r g =
    let others : List Word → List Word → Shell (List Word) = λ first more. pure (first ++ more) in
    let k = goes_cut (expanded_word w s) (λ first. expanded ws >>= others first) trace r g in
    let e = word_by w s k.before k.middle (has_pattern w) refl k.first in
    let h : Goes (under (expanded ws s) (others e.0) leaves) k.after (done_with r) =
    subst (λ z. Goes (under (done_with z) (λ first. expanded ws >>= others first) leaves) k.after (done_with r)) e.1 k.rest in
    let l = goes_cut (expanded ws s) (others e.0) k.after r h in
    let f = expanded-is ws s l.before l.middle l.first in
    let i : Goes (under (done_with (Next f.0 s)) (others e.0) leaves) l.after (done_with r) = subst (λ z. Goes (under (done_with z) (others e.0) leaves) l.after (done_with r)) f.1 l.rest in
    let d = only_done (Next (e.0 ++ f.0) s) r l.after i in
    let cut_up : trace ≡ k.before ++ l.before = k.is ∙ ap (λ z. k.before ++ z) (l.is ∙ ap (λ z. l.before ++ z) d.0 ∙ append-nil l.before) in
    (e.0 ++ f.0, d.1, subst (λ z. AllExpand (w ∷ ws) z (e.0 ++ f.0)) (sym cut_up) (next w ws k.before l.before e.0 f.0 e.2 f.2))
