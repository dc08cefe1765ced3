-- One turn of the search for a program.
use Rattle.std.proofs.Common.{◌≡◌, ℕ, ◌<◌, ◌+◌, Bool, true, false, cond, List, ◌∷◌, length, drop, get_or, Option, Some, ap, ◌∙◌, subst, sym, drop-cons, add-one}
use Rattle.rc_text.specs.declared.texts.Text.{Text}
use Rattle.rc_text.specs.Texts.{text_bytes}
use Rattle.rc_model.specs.Run.Acts.{candidate, is_program, first_program}
use Rattle.rc_model.specs.Run.Calls.{Event, probe, as_kind}
use Rattle.rc_model.specs.declared.call.Kind.{Kind}
use Rattle.rc_model.specs.Run.Plans.{Plan, done_with, asks, RanBetween}
use Rattle.rc_model.specs.Run.Shell.{ShellResult, Next, pure}
use Rattle.rc_model.specs.Run.State.{State}
use Rattle.rc_world.specs.Comes.{Left}
use Rattle.rc_world.specs.declared.starts.Stop.{Stop}
use Rattle.rc_pipes.specs.Starts.{paths_in}
use Rattle.rc_world.proofs.Joins.{left_asked, ran_answered}
use Rattle.law_plans.proofs.Runs.{ran_none}

-- the directories that are left: this one and those after it
pub dirs_left : (name : List ℕ) (dirs : List (Text)) (i : ℕ) (dir : Text) → i < length dirs → dir ≡ get_or dirs i dir → paths_in name (drop i dirs) ≡ candidate (text_bytes dir) name ∷ paths_in name (drop (i + 1) dirs)
dirs_left name dirs i dir lt is =
    ap (paths_in name) (drop-cons dirs i dir lt)
    ∙ ap (λ n. candidate (text_bytes (get_or dirs i dir)) name ∷ paths_in name (drop n dirs)) (sym (add-one i))
    ∙ ap (λ d. candidate (text_bytes d) name ∷ paths_in name (drop (i + 1) dirs)) (sym is)

module _ (name dir : List ℕ) (paths : List (List ℕ)) (s : State) where
  -- what follows the probe
  abbrev next : Option Kind → Plan (ShellResult (Option (List ℕ)))
  next k = (cond (is_program k) (pure (Some (candidate dir name))) (first_program paths)) s

  next_is : (a : Option (List Event)) (k : Option Kind) (b : Bool) → is_program k ≡ b → RanBetween a a (next k) ((cond b (pure (Some (candidate dir name))) (first_program paths)) s)
  next_is a k b h = subst (λ t. RanBetween a a (next k) ((cond t (pure (Some (candidate dir name))) (first_program paths)) s)) h (ran_none a (next k))

  pub ran_found : (a b : Option (List Event)) (k : Option Kind) → RanBetween a b (asks (probe (candidate dir name)) as_kind) (done_with k) → is_program k ≡ true → RanBetween a b (first_program (candidate dir name ∷ paths) s) (done_with (Next (Some (candidate dir name)) s))
  ran_found a b k f h = ran_answered a b b (probe (candidate dir name)) as_kind k next _ f (next_is b k true h)

  pub ran_further : (a b : Option (List Event)) (k : Option Kind) → RanBetween a b (asks (probe (candidate dir name)) as_kind) (done_with k) → is_program k ≡ false → RanBetween a b (first_program (candidate dir name ∷ paths) s) (first_program paths s)
  ran_further a b k f h = ran_answered a b b (probe (candidate dir name)) as_kind k next _ f (next_is b k false h)

  pub left_at_probe : (a b : Option (List Event)) (stop : Stop) → Left a b (asks (probe (candidate dir name)) as_kind) stop → Left a b (first_program (candidate dir name ∷ paths) s) stop
  left_at_probe a b stop f = left_asked a b stop (probe (candidate dir name)) as_kind next f
