-- How the calls of an expansion join.
use Rattle.std.proofs.Common.{◌≡◌, ℕ, ◌+◌, ◌<◌, ◌≤◌, arith, refl, List, [], ◌∷◌, ◌++◌, length, map, drop, get_or, Option, is_some, sym, ap, subst, ◌∙◌, append_assoc, drop-cons, add-one, string_bytes}
use Rattle.std.specs.Prelude.{if◌then◌else◌, Bool, true, false, cond, ◌==◌, Ok, Err, MatchResult, Result as Outcome}
use Rattle.std.proofs.lemmas.Bool.{eqb-true}
use Rattle.std.proofs.lemmas.List.{append-nil, drop_all, map-append}
use Rattle.std.specs.declared.alloc.Global.{Global}
use Rattle.std.specs.declared.string.String.{String}
use Rattle.rc_model.specs.Syntax.Words.{Word, has_pattern, plain_words, word_text}
use Rattle.rc_model.specs.Run.Calls.{Event, list_names, as_names, probe, as_kind}
use Rattle.rc_model.specs.declared.call.Kind.{Kind}
use Rattle.rc_model.specs.Run.Plans.{Plan, done_with, asks, RanBetween}
use Rattle.rc_model.specs.Run.Shell.{ShellResult, Next, Shell, ◌>>=◌, leaves, pure, under}
use Rattle.rc_model.specs.Run.State.{State}
use Rattle.rc_model.specs.Run.FileNames.{components, each_name, expanded, expanded_word, fitting_names, directory, if_there, listed, names_of, or_itself, ordered, walk}
use Rattle.rc_text.specs.Texts.{text_bytes}
use Rattle.rc_text.specs.declared.texts.Text.{Text}
use Rattle.rc_glob.specs.Paths.{paths_from}
use Rattle.rc_glob.proofs.Cuts.{walk_pattern, walk_plain, whole}
use Rattle.rc_world.specs.Comes.{Comes, Left}
use Rattle.rc_world.specs.declared.starts.Stop.{Stop}
use Rattle.rc_world.specs.declared.starts.Stop.TheVariants.{NoMemory}
use Rattle.rc_world.proofs.Joins.{left_here, left_join, left_memory, left_asked, left_answered, ran_answered}
use Rattle.rc_world.proofs.Shells.{ran_do, left_do, left_done}
use Rattle.law_plans.proofs.Runs.{ran_none, ran_join}

-- one list and then another
abbrev pub both : {A : Type 0} → Shell (List A) → Shell (List A) → Shell (List A)
both m rest = m >>= (λ first. rest >>= (λ others. pure (first ++ others)))

-- Of a whole list, these were found between two records of the world, and the rest is still to be found.
pub record Collected {A : Type 0} (before now : Option (List Event)) (s : State) (whole rest : Plan (ShellResult (List A))) (found : List A) : Type 0 where
  pub ends : (later : Option (List Event)) (others : List A) → RanBetween now later rest (done_with (Next others s)) → RanBetween before later whole (done_with (Next (found ++ others) s))
  pub left : (later : Option (List Event)) (stop : Stop) → Left now later rest stop → Left before later whole stop

module _ {A : Type 0} (s : State) where
  pub collected_from : (a b : Option (List Event)) (whole rest : Plan (ShellResult (List A))) → RanBetween a b whole rest → Collected a b s whole rest []
  collected_from a b whole rest h = record {
    ends = λ later others r. ran_join a b later whole rest (done_with (Next others s)) h r;
    left = λ later stop l. left_join a b later stop whole rest h l;
  }

  pub collected_step : (a b c : Option (List Event)) (whole : Plan (ShellResult (List A))) (m rest : Shell (List A)) (found first : List A) →
      Collected a b s whole (both m rest s) found → RanBetween b c (m s) (done_with (Next first s)) → Collected a c s whole (rest s) (found ++ first)
  collected_step a b c whole m rest found first so_far h = record {
    ends = λ later others r.
        subst (λ l. RanBetween a later whole (done_with (Next l s))) (sym (append_assoc found first others))
        (so_far.ends later (first ++ others)
        (ran_do m (λ first. rest >>= (λ others. pure (first ++ others))) h (ran_do rest (λ others. pure (first ++ others)) r (ran_none later (done_with (Next (first ++ others) s))))));
    left = λ later stop l. so_far.left later stop (left_done m (λ first. rest >>= (λ others. pure (first ++ others))) h (left_do rest (λ others. pure (first ++ others)) l));
  }

  pub collected_left : (a b c : Option (List Event)) (stop : Stop) (whole : Plan (ShellResult (List A))) (m rest : Shell (List A)) (found : List A) →
      Collected a b s whole (both m rest s) found → Left b c (m s) stop → Left a c whole stop
  collected_left a b c stop whole m rest found so_far l = so_far.left c stop (left_do m (λ first. rest >>= (λ others. pure (first ++ others))) l)

  pub collected_memory : (a b : Option (List Event)) (whole rest : Plan (ShellResult (List A))) (found : List A) → Collected a b s whole rest found → Left a b whole NoMemory
  collected_memory a b whole rest found so_far = so_far.left b NoMemory (left_memory b rest)

  pub collected_end : (a b : Option (List Event)) (whole rest : Plan (ShellResult (List A))) (found : List A) →
      rest ≡ done_with (Next [] s) → Collected a b s whole rest found → RanBetween a b whole (done_with (Next found s))
  collected_end a b whole rest found e so_far =
      subst (λ l. RanBetween a b whole (done_with (Next l s))) (append-nil found)
      (so_far.ends b [] (subst (λ p. RanBetween b b p (done_with (Next [] s))) (sym e) (ran_none b (done_with (Next [] s)))))

-- ** the names in a directory

-- where nothing follows them, the names are the ends of the paths
each_name_alone : (path : List ℕ) (ns : List (List ℕ)) (s : State) → each_name (walk []) path ns s ≡ done_with (Next (map (λ n. path ++ n) ns) s)
each_name_alone path [] s = refl
each_name_alone path (n ∷ ns) s = ap (λ p. under p (λ others. pure ((path ++ n) ∷ others)) leaves) (each_name_alone path ns s)

module _ (c : Word) (path : List ℕ) where
  pub left_listing : (a b : Option (List Event)) (stop : Stop) (p : List ℕ) → p ≡ directory path → Left a b (asks (list_names p) as_names) stop →
      Left a b (asks (list_names (directory path)) (λ x. fitting_names c (as_names x))) stop
  left_listing a b stop p e l = left_asked a b stop (list_names (directory path)) as_names (λ v. done_with (fitting_names c v)) (subst (λ p. Left a b (asks (list_names p) as_names) stop) e l)

  pub ran_listing : (a b : Option (List Event)) (p : List ℕ) (v : Option (List (List ℕ))) (names : List (List ℕ)) →
      p ≡ directory path → RanBetween a b (asks (list_names p) as_names) (done_with v) → names ≡ fitting_names c v →
      RanBetween a b (asks (list_names (directory path)) (λ x. fitting_names c (as_names x))) (done_with names)
  ran_listing a b p v names e h q =
      ran_answered a b b (list_names (directory path)) as_names v (λ v. done_with (fitting_names c v)) (done_with names) (subst (λ p. RanBetween a b (asks (list_names p) as_names) (done_with v)) e h)
      (subst (λ l. RanBetween b b (done_with (fitting_names c v)) (done_with l)) (sym q) (ran_none b (done_with (fitting_names c v))))

  -- and then each of them
  pub left_listed : (a b : Option (List Event)) (stop : Stop) (s : State) (next : List ℕ → Shell (List (List ℕ))) (whole : Shell (List (List ℕ))) (p : List ℕ) → whole ≡ listed c next path → p ≡ path →
      Left a b (asks (list_names (directory p)) (λ x. fitting_names c (as_names x))) stop → Left a b (whole s) stop
  left_listed a b stop s next whole p w e l =
      subst (λ m. Left a b (m s) stop) (sym w)
      (left_asked a b stop (list_names (directory path)) (λ x. fitting_names c (as_names x)) (λ ns. each_name next path ns s)
      (subst (λ p. Left a b (asks (list_names (directory p)) (λ x. fitting_names c (as_names x))) stop) e l))

  pub begun : (a b : Option (List Event)) (s : State) (next : List ℕ → Shell (List (List ℕ))) (whole : Shell (List (List ℕ))) (p : List ℕ) (items given : List (String Global)) (found : List Text) →
      whole ≡ listed c next path → p ≡ path → RanBetween a b (asks (list_names (directory p)) (λ x. fitting_names c (as_names x))) (done_with (map string_bytes items)) → given ≡ items → found ≡ [] →
      Collected a b s (whole s) (each_name next path (map string_bytes given) s) (map text_bytes found)
  begun a b s next whole p items given found w e h g n =
      let names = map string_bytes given in
      let listing : RanBetween a b (asks (list_names (directory path)) (λ x. fitting_names c (as_names x))) (done_with names) =
      subst (λ l. RanBetween a b (asks (list_names (directory path)) (λ x. fitting_names c (as_names x))) (done_with (map string_bytes l))) (sym g)
      (subst (λ p. RanBetween a b (asks (list_names (directory p)) (λ x. fitting_names c (as_names x))) (done_with (map string_bytes items))) e h) in
      let ran : RanBetween a b (listed c next path s) (each_name next path names s) =
      ran_answered a b b (list_names (directory path)) (λ x. fitting_names c (as_names x)) names
      (λ ns. each_name next path ns s) (each_name next path names s) listing
      (ran_none b (each_name next path names s)) in
      subst (λ f. Collected a b s (whole s) (each_name next path names s) (map text_bytes f)) (sym n)
      (collected_from s a b (whole s) (each_name next path names s) (subst (λ m. RanBetween a b (m s) (each_name next path names s)) (sym w) ran))

  module _ (a b : Option (List Event)) (s : State) (next : List ℕ → Shell (List (List ℕ))) (whole : Shell (List (List ℕ))) (p : List ℕ) (items : List (String Global))
      (w : whole ≡ listed c next path) (e : p ≡ path) (h : RanBetween a b (asks (list_names (directory p)) (λ x. fitting_names c (as_names x))) (done_with (map string_bytes items))) where
    pub left_alone : Left a b (whole s) NoMemory
    left_alone = collected_memory s a b (whole s) (each_name next path (map string_bytes items) s) [] (begun a b s next whole p items items [] w e h refl refl)

    pub ran_alone : (q : List ℕ) (paths : List Text) → next ≡ walk [] → q ≡ path → map text_bytes paths ≡ map (λ n. q ++ n) (map string_bytes items) →
        RanBetween a b (whole s) (done_with (Next (map text_bytes paths) s))
    ran_alone q paths n d k =
        let names = map string_bytes items in
        let alone : each_name next path names s ≡ done_with (Next (map text_bytes paths) s) =
        ap (λ f. each_name f path names s) n ∙ (each_name_alone path names s ∙ ap (λ l. done_with (Next l s)) (ap (λ t. map (λ n. t ++ n) names) (sym d) ∙ sym k)) in
        (begun a b s next whole p items items [] w e h refl refl).ends b (map text_bytes paths)
        (subst (λ m. RanBetween b b m (done_with (Next (map text_bytes paths) s))) (sym alone) (ran_none b (done_with (Next (map text_bytes paths) s))))

pub joined_is : (w a b p n : List ℕ) → w ≡ a ++ b → a ≡ p → b ≡ n → w ≡ p ++ n
joined_is w a b p n h e k = h ∙ (ap (λ t. t ++ b) e ∙ ap (λ t. p ++ t) k)

words_left : (words : List Word) (i : ℕ) (w : Word) → i < length words → w ≡ get_or words i w → drop i words ≡ w ∷ drop (i + 1) words
words_left words i w lt is = drop-cons words i w lt ∙ (ap (λ n. get_or words i w ∷ drop n words) (sym (add-one i)) ∙ ap (λ d. d ∷ drop (i + 1) words) (sym is))

-- the names that are left: this one and those after it
pub names_left : (names : List (String Global)) (i : ℕ) (name : String Global) → i < length names →
    name ≡ get_or names i name → map string_bytes (drop i names)
    ≡ string_bytes name ∷ map string_bytes (drop (i + 1) names)
names_left names i name lt is =
    ap (map string_bytes) (drop-cons names i name lt)
    ∙ (ap (λ n. string_bytes (get_or names i name) ∷ map string_bytes (drop n names)) (sym (add-one i))
    ∙ ap (λ d. string_bytes d ∷ map string_bytes (drop (i + 1) names)) (sym is))

module _ (a b : Option (List Event)) (s : State) (whole : Plan (ShellResult (List (List ℕ)))) (f : List ℕ →
    Shell (List (List ℕ))) (path : List ℕ) (names : List (String Global)) (i : ℕ) (found : List Text) where
  -- these names are left
  abbrev pub At : Option (List Event) → ℕ → List Text → Type 0
  At now n list = Collected a now s whole (each_name f path (map string_bytes (drop n names)) s) (map text_bytes list)

  at_name : (name : String Global) → i < length names → name ≡ get_or names i name → At b i found →
      Collected a b s whole (both (f (path ++ string_bytes name)) (each_name f path (map string_bytes (drop (i + 1) names))) s) (map text_bytes found)
  at_name name lt is so_far = subst (λ ns. Collected a b s whole (each_name f path ns s) (map text_bytes found)) (names_left names i name lt is) so_far

  pub next_name : (c : Option (List Event)) (name : String Global) (below new : List Text) (w : List ℕ) →
      i < length names → name ≡ get_or names i name → w ≡ path ++ string_bytes name → new ≡ found ++ below →
      At b i found → RanBetween b c (f w s) (done_with (Next (map text_bytes below) s)) → At c (i + 1) new
  next_name c name below new w lt is e n so_far h =
      let rest = each_name f path (map string_bytes (drop (i + 1) names)) in
      subst (λ l. Collected a c s whole (rest s) l) (sym (ap (map text_bytes) n ∙ map-append text_bytes found below))
      (collected_step s a b c whole (f (path ++ string_bytes name)) rest (map text_bytes found) (map text_bytes below) (at_name name lt is so_far)
      (subst (λ w. RanBetween b c (f w s) (done_with (Next (map text_bytes below) s))) e h))

  pub left_name : (c : Option (List Event)) (stop : Stop) (name : String Global) (w : List ℕ) → i < length names → name ≡ get_or names i name → w ≡ path ++ string_bytes name →
      At b i found → Left b c (f w s) stop → Left a c whole stop
  left_name c stop name w lt is e so_far l =
      collected_left s a b c stop whole (f (path ++ string_bytes name)) (each_name f path (map string_bytes (drop (i + 1) names))) (map text_bytes found) (at_name name lt is so_far)
      (subst (λ w. Left b c (f w s) stop) e l)

  pub memory_at_name : At b i found → Left a b whole NoMemory
  memory_at_name so_far = collected_memory s a b whole (each_name f path (map string_bytes (drop i names)) s) (map text_bytes found) so_far

  -- a name was walked, and what it gave could not be added
  pub memory_after_name : (c : Option (List Event)) (name : String Global) (below : List Text) (w : List ℕ) → i < length names → name ≡ get_or names i name → w ≡ path ++ string_bytes name →
      At b i found → RanBetween b c (f w s) (done_with (Next (map text_bytes below) s)) → Left a c whole NoMemory
  memory_after_name c name below w lt is e so_far h =
      let rest = each_name f path (map string_bytes (drop (i + 1) names)) in
      collected_memory s a c whole (rest s) (map text_bytes found ++ map text_bytes below)
      (collected_step s a b c whole (f (path ++ string_bytes name)) rest (map text_bytes found) (map text_bytes below) (at_name name lt is so_far)
      (subst (λ w. RanBetween b c (f w s) (done_with (Next (map text_bytes below) s))) e h))

  pub no_names_left : length names ≤ i → At b i found → RanBetween a b whole (done_with (Next (map text_bytes found) s))
  no_names_left l so_far =
      collected_end s a b whole (each_name f path (map string_bytes (drop i names)) s) (map text_bytes found) (ap (λ ns. each_name f path (map string_bytes ns) s) (drop_all i names l)) so_far

-- the same for words
module _ (a b : Option (List Event)) (s : State) (whole : Plan (ShellResult (List Word))) (words : List Word) (i : ℕ) (found : List Word) where
  abbrev pub AtWord : Option (List Event) → ℕ → List Word → Type 0
  AtWord now n list = Collected a now s whole (expanded (drop n words) s) list

  at_word : (w : Word) → i < length words → w ≡ get_or words i w → AtWord b i found → Collected a b s whole (both (expanded_word w) (expanded (drop (i + 1) words)) s) found
  at_word w lt is so_far = subst (λ ws. Collected a b s whole (expanded ws s) found) (words_left words i w lt is) so_far

  pub next_word : (c : Option (List Event)) (w : Word) (first new : List Word) → i < length words → w ≡ get_or words i w → new ≡ found ++ first → AtWord b i found →
      RanBetween b c (expanded_word w s) (done_with (Next first s)) → AtWord c (i + 1) new
  next_word c w first new lt is n so_far h =
      subst (λ l. Collected a c s whole (expanded (drop (i + 1) words) s) l) (sym n)
      (collected_step s a b c whole (expanded_word w) (expanded (drop (i + 1) words)) found first (at_word w lt is so_far) h)

  pub left_word : (c : Option (List Event)) (stop : Stop) (w : Word) → i < length words → w ≡ get_or words i w → AtWord b i found → Left b c (expanded_word w s) stop → Left a c whole stop
  left_word c stop w lt is so_far l = collected_left s a b c stop whole (expanded_word w) (expanded (drop (i + 1) words)) found (at_word w lt is so_far) l

  pub memory_after_word : (c : Option (List Event)) (w : Word) (first : List Word) → i < length words →
      w ≡ get_or words i w → AtWord b i found → RanBetween b c (expanded_word w s) (done_with (Next first s)) →
      Left a c whole NoMemory
  memory_after_word c w first lt is so_far h =
      collected_memory s a c whole (expanded (drop (i + 1) words) s) (found ++ first)
      (collected_step s a b c whole (expanded_word w) (expanded (drop (i + 1) words)) found first (at_word w lt is so_far) h)

  pub no_words_left : length words ≤ i → AtWord b i found → RanBetween a b whole (done_with (Next found s))
  no_words_left l so_far = collected_end s a b whole (expanded (drop i words) s) found (ap (λ ws. expanded ws s) (drop_all i words l)) so_far

-- ** a path that is there

module _ (path : List ℕ) (s : State) where
  abbrev next : Option Kind → Plan (ShellResult (List (List ℕ)))
  next k = done_with (Next (if is_some k then path ∷ [] else []) s)

  pub left_probe : (a b : Option (List Event)) (stop : Stop) (p : List ℕ) → p ≡ path → Left a b (asks (probe p) as_kind) stop → Left a b (if_there path s) stop
  left_probe a b stop p e l = left_asked a b stop (probe path) as_kind next (subst (λ p. Left a b (asks (probe p) as_kind) stop) e l)

  pub left_probed : (a b : Option (List Event)) (p : List ℕ) (k : Option Kind) → p ≡ path → RanBetween a b (asks (probe p) as_kind) (done_with k) → Left a b (if_there path s) NoMemory
  left_probed a b p k e h = left_answered a b b NoMemory (probe path) as_kind k next (subst (λ p. RanBetween a b (asks (probe p) as_kind) (done_with k)) e h) (left_memory b (next k))

  pub ran_probed : (a b : Option (List Event)) (p : List ℕ) (k : Option Kind) (paths : List (List ℕ)) → p ≡ path →
      RanBetween a b (asks (probe p) as_kind) (done_with k) → paths ≡ (if is_some k then path ∷ [] else []) →
      RanBetween a b (if_there path s) (done_with (Next paths s))
  ran_probed a b p k paths d h e =
      ran_answered a b b (probe path) as_kind k next (done_with (Next paths s)) (subst (λ p. RanBetween a b (asks (probe p) as_kind) (done_with k)) d h)
      (subst (λ l. RanBetween b b (next k) (done_with (Next l s))) (sym e) (ran_none b (next k)))

-- ** one word

-- a plan that came to its value
pub ran_value : {X : Type 0} (a : Option (List Event)) (s : State) (x y : X) → x ≡ y → RanBetween a a (done_with (Next y s)) (done_with (Next x s))
ran_value a s x y h = subst (λ z. RanBetween a a (done_with (Next y s)) (done_with (Next z s))) (sym h) (ran_none a (done_with (Next y s)))

pub comes_alone : (a b : Option (List Event)) (s : State) (p : Plan (ShellResult (List Word))) (x : List Word)
    (r : Outcome (List Word) Stop) → MatchResult r (λ list. list ≡ x) (λ stop. stop ≡ NoMemory) →
    RanBetween a b p (done_with (Next x s)) → Comes a b p (λ list. Next list s) r
comes_alone a b s p x (Ok v) h ran = subst (λ l. RanBetween a b p (done_with (Next l s))) (sym h) ran
comes_alone a b s p x (Err stop) h ran = subst (λ t. Left a b p t) (sym h) (left_here a b p (done_with (Next x s)) ran)

pub ran_plain : (a : Option (List Event)) (s : State) (w : Word) → has_pattern w ≡ false → RanBetween a a (expanded_word w s) (done_with (Next (w ∷ []) s))
ran_plain a s w h = subst (λ m. RanBetween a a (m s) (done_with (Next (w ∷ []) s))) (sym (ap (λ c. cond c (names_of w) (pure (w ∷ []))) h)) (ran_none a (done_with (Next (w ∷ []) s)))

module _ (s : State) (w v : Word) (p : List ℕ) (h : has_pattern w ≡ true) (e : v ≡ w) (q : p ≡ []) where
  -- what follows the paths
  abbrev after : List (List ℕ) → Shell (List Word)
  after paths = pure (or_itself w paths)

  names_are : expanded_word w ≡ (paths_from (components v) p >>= after)
  names_are =
      ap (λ c. cond c (names_of w) (pure (w ∷ []))) h
      ∙ ap (λ m. m >>= after) (whole w ∙ (ap (λ z. paths_from (components z) []) (sym e) ∙ ap (paths_from (components v)) (sym q)))

  pub left_names : (a c : Option (List Event)) (stop : Stop) → Left a c (paths_from (components v) p s) stop → Left a c (expanded_word w s) stop
  left_names a c stop l = subst (λ m. Left a c (m s) stop) (sym names_are) (left_do (paths_from (components v) p) after l)

  pub ran_names : (a c : Option (List Event)) (paths : List (List ℕ)) (ws : List Word) → RanBetween a c (paths_from (components v) p s) (done_with (Next paths s)) → ws ≡ or_itself w paths →
      RanBetween a c (expanded_word w s) (done_with (Next ws s))
  ran_names a c paths ws r n =
      subst (λ m. RanBetween a c (m s) (done_with (Next ws s))) (sym names_are) (ran_do (paths_from (components v) p) after r (ran_value c s ws (or_itself w paths) n))

pub no_paths : (w : Word) (items xs : List Text) (b : Bool) → b ≡ (length xs == 0) → xs ≡ items → b ≡ true → w ∷ [] ≡ or_itself w (map text_bytes items)
no_paths w items [] b h e k = ap (λ l. or_itself w (map text_bytes l)) e
no_paths w items (x ∷ xs) b h e k = let c : length (x ∷ xs) ≡ 0 = eqb-true (length (x ∷ xs)) 0 (sym h ∙ k) in absurd (omega arith)

pub some_paths : (w : Word) (items xs sorted : List Text) (ws : List Word) (b : Bool) → b ≡ (length xs == 0) → xs ≡ items → b ≡ false → map text_bytes sorted ≡ ordered (map text_bytes items) →
    ws ≡ plain_words (map text_bytes sorted) → ws ≡ or_itself w (map text_bytes items)
some_paths w items [] sorted ws b h e k o n = let c : true ≡ false = sym h ∙ k in cc
some_paths w items (x ∷ xs) sorted ws b h e k o n =
    n ∙ (ap plain_words (o ∙ ap (λ l. ordered (map text_bytes l)) (sym e)) ∙ ap (λ l. or_itself w (map text_bytes l)) e)

-- ** what follows a name

module _ (w : Word) (path : List ℕ) where
  pub on_pattern : (new : List ℕ) (b : Bool) → b ≡ has_pattern w → b ≡ true → new ≡ path ++ 47 ∷ [] → walk (components w) path ≡ paths_from (components w) new
  on_pattern new b k e n = walk_pattern w path (sym k ∙ e) ∙ ap (paths_from (components w)) (sym n)

  pub on_plain : (new newer : List ℕ) (b : Bool) → b ≡ has_pattern w → b ≡ false → new ≡ path ++ 47 ∷ [] → newer ≡ new ++ word_text w →
      walk (components w) path ≡ if_there newer
  on_plain new newer b k e n q = walk_plain w path new newer b k e n q
