-- What the calls of expansion give, where each call has one answer.
use Rattle.std.proofs.Common.{◌≡◌, ℕ, Bool, true, false, cond, List, [], ◌∷◌, ◌++◌, map, Some, refl, ap, ◌∙◌}
use Rattle.std.specs.Prelude.{codes}
use Rattle.std.specs.List.{list_any, flat_map, join_with_byte}
use Rattle.rc_model.specs.Syntax.Words.{Word, word_text, has_pattern}
use Rattle.rc_model.specs.Run.Calls.{Call, Answer, list_names, as_names}
use Rattle.rc_model.specs.Run.Plans.{Plan, done_with, ask, cut}
use Rattle.rc_model.specs.Run.State.{State}
use Rattle.rc_model.specs.Run.Shell.{ShellResult, Next, Exit, Shell, under, leaves, ◌>>=◌, pure, call}
use Rattle.rc_model.specs.Run.FileNames.{components, fitting_names, directory, each_name, if_there, listed, step, walk, paths_of, or_itself, names_of}
use Rattle.rc_model.specs.Run.PathNames.{answered_by, is_there}

-- a shell's act gives this value, whatever the state, and leaves the state
pub record Gives {A : Type 0} (answers : Call → Answer) (m : Shell A) (a : A) : Type 0 where
  pub by : (s : State) → answered_by answers (m s) ≡ Some (Next a s)

follow_under : {A X : Type 0} (answers : Call → Answer) (p : Plan (ShellResult A)) (go : A → State → Plan X) (leave : State → List ℕ → Plan X) (a : A) (s : State) →
    answered_by answers p ≡ Some (Next a s) → answered_by answers (under p go leave) ≡ answered_by answers (go a s)
follow_under answers (done_with (Next b t)) go leave a s h = let q : b ≡ a = cc in let r : t ≡ s = cc in ap (λ z. answered_by answers (go z t)) q ∙ ap (λ z. answered_by answers (go a z)) r
follow_under answers (done_with (Exit t owed)) go leave a s h = absurd cc
follow_under answers (ask c f) go leave a s h = follow_under answers (f (answers c)) go leave a s h
follow_under answers cut go leave a s h = absurd cc

pub gives_bind : {A B : Type 0} (answers : Call → Answer) (m : Shell A) (f : A → Shell B) (a : A) (b : B) → Gives answers m a → Gives answers (f a) b → Gives answers (m >>= f) b
gives_bind answers m f a b x y = record { by = λ s. follow_under answers (m s) f leaves a s (x.by s) ∙ y.by s }

module _ (answers : Call → Answer) where
  pub gives_pure : {A : Type 0} (a : A) → Gives answers (pure a) a
  gives_pure a = record { by = λ s. refl }

  gives_call : (c : Call) → Gives answers (call c) (answers c)
  gives_call c = record { by = λ s. refl }

  -- what the walk finds
  abbrev pub names_found : Word → (List ℕ → List (List ℕ)) → List ℕ → List (List ℕ)
  names_found c next path = flat_map (λ n. next (path ++ n)) (fitting_names c (as_names (answers (list_names (directory path)))))

  abbrev pub found_step : Word → (List ℕ → List (List ℕ)) → List ℕ → List (List ℕ)
  found_step c next path = cond (has_pattern c) (names_found c next path) (next (path ++ word_text c))

  abbrev pub found_there : List ℕ → List (List ℕ)
  found_there path = cond (is_there answers path) (path ∷ []) []

  abbrev pub found_from : List Word → List ℕ → List (List ℕ)
  found_from [] path = path ∷ []
  found_from (c ∷ cs) path = cond (list_any has_pattern (c ∷ cs)) (found_step c (found_from cs) (path ++ codes "/")) (found_there (path ++ 47 ∷ join_with_byte 47 (map word_text (c ∷ cs))))

  abbrev pub found_of : List Word → List (List ℕ)
  found_of [] = []
  found_of (c ∷ cs) = found_step c (found_from cs) []

  gives_cond : {A : Type 0} (b : Bool) (m n : Shell A) (x y : A) → Gives answers m x → Gives answers n y → Gives answers (cond b m n) (cond b x y)
  gives_cond true m n x y g h = g
  gives_cond false m n x y g h = h

  gives_each : (walk : List ℕ → Shell (List (List ℕ))) (f : List ℕ → List (List ℕ)) → ((p : List ℕ) → Gives answers (walk p) (f p)) → (path : List ℕ) (ns : List (List ℕ)) →
      Gives answers (each_name walk path ns) (flat_map (λ n. f (path ++ n)) ns)
  gives_each walk f g path [] = gives_pure []
  gives_each walk f g path (n ∷ ns) =
      gives_bind answers (walk (path ++ n)) (λ first. each_name walk path ns >>= (λ others. pure (first ++ others))) (f (path ++ n)) (f (path ++ n) ++ flat_map (λ m. f (path ++ m)) ns) (g (path ++ n))
      (gives_bind answers (each_name walk path ns) (λ others. pure (f (path ++ n) ++ others)) (flat_map (λ m. f (path ++ m)) ns)
      (f (path ++ n) ++ flat_map (λ m. f (path ++ m)) ns) (gives_each walk f g path ns)
      (gives_pure (f (path ++ n) ++ flat_map (λ m. f (path ++ m)) ns)))

  gives_step : (c : Word) (walk : List ℕ → Shell (List (List ℕ))) (f : List ℕ → List (List ℕ)) → ((p : List ℕ) → Gives answers (walk p) (f p))
      → (path : List ℕ) → Gives answers (step c walk path) (found_step c f path)
  gives_step c walk f g path =
      gives_cond (has_pattern c) (listed c walk path) (walk (path ++ word_text c)) (names_found c f path) (f (path ++ word_text c))
      (gives_bind answers (call (list_names (directory path))) (λ a. each_name walk path (fitting_names c (as_names a)))
      (answers (list_names (directory path))) (names_found c f path) (gives_call (list_names (directory path)))
      (gives_each walk f g path (fitting_names c (as_names (answers (list_names (directory path)))))))
      (g (path ++ word_text c))

  gives_there : (path : List ℕ) → Gives answers (if_there path) (found_there path)
  gives_there path = record { by = λ s. refl }

  gives_walk : (cs : List Word) (path : List ℕ) → Gives answers (walk cs path) (found_from cs path)
  gives_walk [] path = gives_pure (path ∷ [])
  gives_walk (c ∷ cs) path =
      gives_cond (list_any has_pattern (c ∷ cs)) (step c (walk cs) (path ++ codes "/")) (if_there (path ++ 47 ∷ join_with_byte 47 (map word_text (c ∷ cs))))
      (found_step c (found_from cs) (path ++ codes "/")) (found_there (path ++ 47 ∷ join_with_byte 47 (map word_text (c ∷ cs))))
      (gives_step c (walk cs) (found_from cs) (gives_walk cs) (path ++ codes "/")) (gives_there (path ++ 47 ∷ join_with_byte 47 (map word_text (c ∷ cs))))

  gives_paths : (cs : List Word) → Gives answers (paths_of cs) (found_of cs)
  gives_paths [] = gives_pure []
  gives_paths (c ∷ cs) = gives_step c (walk cs) (found_from cs) (gives_walk cs) []

  pub gives_names : (w : Word) → Gives answers (names_of w) (or_itself w (found_of (components w)))
  gives_names w =
      gives_bind answers (paths_of (components w)) (λ paths. pure (or_itself w paths)) (found_of (components w))
      (or_itself w (found_of (components w))) (gives_paths (components w)) (gives_pure (or_itself w (found_of (components w))))
