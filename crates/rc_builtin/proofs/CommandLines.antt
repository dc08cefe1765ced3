-- What is known of one name.
use Rattle.std.proofs.Common.{◌≡◌, ℕ, List, [], ◌∷◌, ◌++◌, length, Option, Some, None, ap, subst, sym, refl, ◌∙◌, arith}
use Rattle.std.specs.Prelude.{codes}
use Rattle.rc_model.specs.declared.builtin.Builtin.{Builtin}
use Rattle.rc_model.specs.Run.Acts.{find_program}
use Rattle.rc_model.specs.Run.Builtins.{Known, builtin_named, command_line, function_line, known_of, line, program_line, value_line}
use Rattle.rc_model.specs.Run.Calls.{Event}
use Rattle.rc_model.specs.Run.Plans.{Plan, done_with, RanBetween}
use Rattle.rc_model.specs.Run.Shell.{ShellResult, Next, under, leaves}
use Rattle.rc_model.specs.Run.State.{State, value_of, function_of}
use Rattle.rc_model.specs.Syntax.Tree.{Node, cmd}
use Rattle.rc_world.specs.Comes.{Left}
use Rattle.rc_world.specs.declared.starts.Stop.{Stop}
use Rattle.rc_world.specs.declared.starts.Stop.TheVariants.{NoMemory}
use Rattle.rc_world.proofs.Joins.{left_as, left_here, ran_as}
use Rattle.rc_world.proofs.Shells.{left_under}
use Rattle.law_plans.proofs.Runs.{ran_next, ran_none, ran_under}

module _ (name shown : List ℕ) (s : State) where
  pub ran_function : (a : Option (List Event)) (f : Option (Node cmd)) (b : Option Builtin) (body : Node cmd) → f ≡ Some body →
      RanBetween a a (command_line name shown f b s) (done_with (Next (function_line name body) s))
  ran_function a f b body e = ran_as a a _ _ _ (ap (λ x. command_line name shown x b s) e) (ran_none a _)

  pub ran_builtin : (a : Option (List Event)) (f : Option (Node cmd)) (b : Option Builtin) (x : Builtin) → f ≡ None → b ≡ Some x →
      RanBetween a a (command_line name shown f b s) (done_with (Next (line (codes "builtin " ++ name), None) s))
  ran_builtin a f b x e h = ran_as a a _ _ _ (ap (λ y. command_line name shown y b s) e) (ran_as a a _ _ _ (ap (λ y. command_line name shown None y s) h) (ran_none a _))

-- a variable was shown
ran_beside : (name shown : List ℕ) (s : State) (a : Option (List Event)) → (length shown ≡ 0 → ⊥) → RanBetween a a (command_line name shown None None s) (done_with (Next ([], None) s))
ran_beside name [] s a h = absurd (h refl)
ran_beside name (b ∷ bs) s a h = ran_none a _

pub ran_shown : (name shown : List ℕ) (s : State) (a : Option (List Event)) (f : Option (Node cmd)) (b : Option Builtin) → f ≡ None → b ≡ None → (length shown ≡ 0 → ⊥) →
    RanBetween a a (command_line name shown f b s) (done_with (Next ([], None) s))
ran_shown name shown s a f b e h k = ran_as a a _ _ _ (ap (λ y. command_line name shown y b s) e) (ran_as a a _ _ _ (ap (λ y. command_line name shown None y s) h) (ran_beside name shown s a k))

-- a program is looked for
abbrev pub looked_for : List ℕ → State → Plan (ShellResult Known)
looked_for name s = under (find_program name s) (λ path t. done_with (Next (program_line path) t)) leaves

no_shown : (name shown : List ℕ) (s : State) → length shown ≡ 0 → command_line name shown None None s ≡ looked_for name s
no_shown name [] s h = refl
no_shown name (b ∷ bs) s h = absurd (omega (arith, h))

looked : (name shown : List ℕ) (s : State) (p : Plan (ShellResult Known)) (a b : Option (List Event)) (f : Option (Node cmd)) (c : Option Builtin) → f ≡ None → c ≡ None → length shown ≡ 0 →
    RanBetween a b (looked_for name s) p → RanBetween a b (command_line name shown f c s) p
looked name shown s p a b f c e h k g =
    ran_as a b _ _ _ (ap (λ y. command_line name shown y c s) e) (ran_as a b _ _ _ (ap (λ y. command_line name shown None y s) h) (ran_as a b _ _ _ (no_shown name shown s k) g))

module _ (name shown : List ℕ) (s : State) (a b : Option (List Event)) (f : Option (Node cmd)) (c : Option Builtin) (e : f ≡ None) (h : c ≡ None) (k : length shown ≡ 0) where
  pub ran_program : (path : Option (List ℕ)) → RanBetween a b (find_program name s) (done_with (Next path s)) → RanBetween a b (command_line name shown f c s) (done_with (Next (program_line path) s))
  ran_program path g = looked name shown s _ a b f c e h k (ran_next a b b (find_program name s) path s (λ p t. done_with (Next (program_line p) t)) leaves _ g (ran_none b _))

  pub left_found : (path : Option (List ℕ)) → RanBetween a b (find_program name s) (done_with (Next path s)) → Left a b (command_line name shown f c s) NoMemory
  left_found path g = left_here a b _ _ (ran_program path g)

  pub left_program : (stop : Stop) → Left a b (find_program name s) stop → Left a b (command_line name shown f c s) stop
  left_program stop g =
      left_as a b _ _ stop (ap (λ y. command_line name shown y c s) e) (left_as a b _ _ stop (ap (λ y. command_line name shown None y s) h)
      (left_as a b _ _ stop (no_shown name shown s k) (left_under a b stop (find_program name s) (λ p t. done_with (Next (program_line p) t)) leaves g)))

module _ (name shown : List ℕ) (s : State) (is : shown ≡ value_line name (value_of s name)) where
  -- what runs by the name
  abbrev commands : Plan (ShellResult Known)
  commands = command_line name shown (function_of s name) (builtin_named name) s

  ran_shown_first : (p : Plan (ShellResult Known)) (a b : Option (List Event)) → RanBetween a b commands p →
      RanBetween a b (known_of name s) (under p (λ k t. done_with (Next (value_line name (value_of s name) ++ k.0, k.1) t)) leaves)
  ran_shown_first p a b f = ran_under a b _ p _ leaves (subst (λ t. RanBetween a b (command_line name t (function_of s name) (builtin_named name) s) p) is f)

  pub ran_known : (a b : Option (List Event)) (k : Known) (lines : List ℕ) → RanBetween a b commands (done_with (Next k s)) → lines ≡ shown ++ k.0 →
      RanBetween a b (known_of name s) (done_with (Next (lines, k.1) s))
  ran_known a b k lines f h =
      subst (λ t. RanBetween a b (known_of name s) (done_with (Next (t, k.1) s))) (sym (h ∙ ap (λ t. t ++ k.0) is)) (ran_shown_first (done_with (Next k s)) a b f)

  pub left_known : (a b : Option (List Event)) (k : Known) → RanBetween a b commands (done_with (Next k s)) → Left a b (known_of name s) NoMemory
  left_known a b k f = left_here a b _ _ (ran_shown_first (done_with (Next k s)) a b f)

  pub left_command : (a b : Option (List Event)) (stop : Stop) → Left a b commands stop → Left a b (known_of name s) stop
  left_command a b stop f =
      left_under a b stop _ (λ k t. done_with (Next (value_line name (value_of s name) ++ k.0, k.1) t)) leaves
      (subst (λ t. Left a b (command_line name t (function_of s name) (builtin_named name) s) stop) is f)
