use Rattle.std.proofs.Common.{rules, ◌≡◌, [], ◌∷◌, ap, ◌∙◌, map, string_bytes}
use Rattle.std.specs.Prelude.{codes}
use Rattle.rc_text.specs.Texts.{text_bytes}
use Rattle.rc_model.specs.Run.Builtins.{dirs_of, first_dir, first_member}
use Rattle.rc_model.specs.Run.State.{value_of}
use Rattle.rc_world.specs.declared.starts.Stop.TheVariants.{NoMemory}
use Rattle.rc_scope.specs.States.{state_of}
use Rattle.rc_pipes.proofs.Changes.{comes_finished, cd_home, cd_one}
use Rattle.rc_world.proofs.Joins.{comes_as, left_here, passed_up}
use Rattle.law_plans.proofs.Runs.{ran_none}
use Rattle.rc_builtin.proofs.directories.change_dir.Goals as goal
use Rattle.rc_builtin.proofs.directories.change_dir.Goals.{in-empty+in_ok-dirs-in-empty, in-len1+in_ok-dirs-in-len1}

pub returns-in_err-dirs-in-empty-clause-does : goal.returns-in_err-dirs-in-empty-clause-does
returns-in_err-dirs-in-empty-clause-does g c = passed_up _ _ _ _ c.from_residual.result NoMemory c.from_residual.ensures.1 (left_here _ _ _ _ (ran_none _ _))

pub returns-in_err-dirs-in-len1-clause-does : goal.returns-in_err-dirs-in-len1-clause-does
returns-in_err-dirs-in-len1-clause-does g c = passed_up _ _ _ _ c.from_residual-in_err-dirs-in-len1.result NoMemory c.from_residual-in_err-dirs-in-len1.ensures.1 (left_here _ _ _ _ (ran_none _ _))

pub returns-in_err-misuse-in_default-clause-does : goal.returns-in_err-misuse-in_default-clause-does
returns-in_err-misuse-in_default-clause-does g c =
    passed_up _ _ _ _ c.from_residual-in_err-misuse-in_default.result NoMemory c.from_residual-in_err-misuse-in_default.ensures.1 (left_here _ _ _ _ (ran_none _ _))

pub returns-clause-does : goal.returns-clause-does
returns-clause-does g c =
    let s = state_of c.args.state.now in
    let words = c.args.words.now in
    elim c.if-words-lt1.branch [
      | in-empty+in_ok-dirs-in-empty w ↦
          let home = dirs_of s (first_member (value_of s (codes "home"))) in
          let dirs : map string_bytes c.deref.result.now ≡ home = ap (map string_bytes) c.deref.ensures.value ∙ ap (λ v. map string_bytes v.items) w.dirs-is ∙ w.in_ok-dirs-in-empty.ensures in
          comes_as _ _ _ _ _ _ (cd_home words s w.in-empty.len_below) (comes_finished _ _ (first_dir home) s _ c.first_dir.result (rw dirs at c.first_dir.ensures.does))
      | in-len1+in_ok-dirs-in-len1 w ↦
          let own = dirs_of s (text_bytes w.dir-item.result ∷ []) in
          let dir : w.as_str.result.now ≡ text_bytes w.dir-item.result = search rules in
          let tried : map string_bytes w.in_ok-dirs-in-len1.dirs.items ≡ own = rw dir at w.in_ok-dirs-in-len1.ensures in
          let dirs : map string_bytes c.deref.result.now ≡ own = ap (map string_bytes) c.deref.ensures.value ∙ ap (λ v. map string_bytes v.items) w.dirs-is ∙ tried in
          comes_as _ _ _ _ _ _ (cd_one words w.dir-item.result s w.in-len1.len_at_least w.in-len1.len_below w.dir-item.is) (comes_finished _ _ (first_dir own) s _ c.first_dir.result (rw dirs at c.first_dir.ensures.does))
    ]
