-- What a star may pass over: each place at which what follows it can't begin.
use Rattle.std.proofs.Common.{◌≡◌, ℕ, ◌<◌, ◌==◌, Bool, true, false, cond, ◌&&◌, ◌||◌, List, [], ◌∷◌, ◌++◌, length, Option, Some, None, refl, sym, ap, ◌∙◌, arith, eq-eqb}
use Rattle.std.specs.List.{list_all}
use Rattle.std.proofs.lemmas.Bool.{ne_eqb}
use Rattle.std.proofs.lemmas.List.{length-append}
use Rattle.rc_model.specs.Run.Patterns.{any_run, stands_for}
use Rattle.rc_glob.specs.Places.{first_place, later_place}

-- what comes of a place, if there is one
abbrev pub at_place : (List ℕ → Bool) → Option (List ℕ) → Bool
at_place go None = false
at_place go (Some t) = go t

-- nothing passes where the test fails
abbrev pub Tests : (List ℕ → Bool) → (List ℕ → Bool) → Type 0
Tests test go = (x : List ℕ) → go x ≡ true → test x ≡ true

fails : (test go : List ℕ → Bool) (x : List ℕ) → Tests test go → test x ≡ false → (b : Bool) → go x ≡ b → b ≡ false
fails test go x n h true k = let no : false ≡ true = sym h ∙ n x k in cc
fails test go x n h false k = refl

on : (e s : Bool) (test go : List ℕ → Bool) (cs : List ℕ) → any_run e go cs ≡ at_place (any_run e go) (first_place e test cs) →
    (s && any_run e go cs) ≡ at_place (any_run e go) (cond s (first_place e test cs) None)
on e true test go cs h = h
on e false test go cs h = refl

none_on : (e : Bool) (test go : List ℕ → Bool) (b : Bool) → Tests test go → test [] ≡ b → go [] ≡ at_place (any_run e go) (cond b (Some []) None)
none_on e test go true n h = refl
none_on e test go false n h = fails test go [] n h (go []) refl

one_on : (e : Bool) (test go : List ℕ → Bool) (c : ℕ) (cs : List ℕ) (b : Bool) → Tests test go → test (c ∷ cs) ≡ b → any_run e go cs ≡ at_place (any_run e go) (first_place e test cs) →
    any_run e go (c ∷ cs) ≡ at_place (any_run e go) (cond b (Some (c ∷ cs)) (cond (stands_for e c) (first_place e test cs) None))
one_on e test go c cs true n h k = refl
one_on e test go c cs false n h k =
    ap (λ z. z || (stands_for e c && any_run e go cs)) (fails test go (c ∷ cs) n h (go (c ∷ cs)) refl) ∙ on e (stands_for e c) test go cs k

pub passes : (e : Bool) (test go : List ℕ → Bool) (t : List ℕ) → Tests test go → any_run e go t ≡ at_place (any_run e go) (first_place e test t)
passes e test go [] n = none_on e test go (test []) n refl
passes e test go (c ∷ cs) n = one_on e test go c cs (test (c ∷ cs)) n refl (passes e test go cs n)

-- ** which place is the first

pub here : (e : Bool) (test : List ℕ → Bool) (t : List ℕ) → test t ≡ true → first_place e test t ≡ Some t
here e test [] h = ap (λ b. cond b (Some []) None) h
here e test (c ∷ cs) h = ap (λ b. cond b (Some (c ∷ cs)) (cond (stands_for e c) (first_place e test cs) None)) h

pub not_here : (e : Bool) (test : List ℕ → Bool) (c : ℕ) (cs : List ℕ) → test (c ∷ cs) ≡ false → first_place e test (c ∷ cs) ≡ cond (stands_for e c) (first_place e test cs) None
not_here e test c cs h = ap (λ b. cond b (Some (c ∷ cs)) (cond (stands_for e c) (first_place e test cs) None)) h

pub not_at_end : (e : Bool) (test : List ℕ → Bool) → test [] ≡ false → first_place e test [] ≡ None
not_at_end e test h = ap (λ b. cond b (Some []) None) h

pub none_by : (s : Bool) (o : Option (List ℕ)) → o ≡ None → cond s o None ≡ None
none_by true o h = h
none_by false o h = refl

-- shorter rests fail the test
pub none_short : (e : Bool) (test : List ℕ → Bool) (n : ℕ) → ((x : List ℕ) → length x < n → test x ≡ false) → (t : List ℕ) → length t < n → first_place e test t ≡ None
none_short e test n h [] l = not_at_end e test (h [] l)
none_short e test n h (c ∷ cs) l =
    not_here e test c cs (h (c ∷ cs) l) ∙ none_by (stands_for e c) (first_place e test cs) (none_short e test n h cs (omega arith))

on_by : (s : Bool) (o : Option (List ℕ)) → s ≡ true → cond s o None ≡ o
on_by s o h = ap (λ z. cond z o None) h

pub place_next : (e : Bool) (test : List ℕ → Bool) (t : List ℕ) (c : ℕ) (more : List ℕ) → t ≡ c ∷ more → test t ≡ false → stands_for e c ≡ true → first_place e test t ≡ first_place e test more
place_next e test t c more h k l =
    ap (first_place e test) h ∙ not_here e test c more (ap test (sym h) ∙ k) ∙ on_by (stands_for e c) (first_place e test more) l

pub later_on : (e : Bool) (test : List ℕ → Bool) (t : List ℕ) (c : ℕ) (more : List ℕ) (b : Bool) → t ≡ c ∷ more → b ≡ stands_for e c → b ≡ true → first_place e test more ≡ later_place e test t
later_on e test t c more b h k l = sym (ap (later_place e test) h ∙ on_by (stands_for e c) (first_place e test more) (sym k ∙ l))

pub later_not : (e : Bool) (test : List ℕ → Bool) (t : List ℕ) (c : ℕ) (more : List ℕ) (b : Bool) → t ≡ c ∷ more → b ≡ stands_for e c → b ≡ false → None ≡ later_place e test t
later_not e test t c more b h k l = sym (ap (later_place e test) h ∙ ap (λ z. cond z (first_place e test more) None) (sym k ∙ l))

-- ** a given number of characters before the end

pub other_length : (n : ℕ) (x : List ℕ) → length x < n → (length x == n) ≡ false
other_length n x l = ne_eqb (length x) n (λ q. omega arith)

both_by : (a b : Bool) (o : Option (List ℕ)) → cond a (cond b o None) None ≡ cond (a && b) o None
both_by true b o = refl
both_by false b o = refl

pub last_at : (e : Bool) (n : ℕ) (front end : List ℕ) → length end ≡ n → first_place e (λ x. length x == n) (front ++ end) ≡ cond (list_all (λ c. stands_for e c) front) (Some end) None
last_at e n [] end h = here e (λ x. length x == n) end (eq-eqb (length end) n h)
last_at e n (c ∷ front) end h =
    not_here e (λ x. length x == n) c (front ++ end) (ne_eqb (length (c ∷ (front ++ end))) n (λ q. let l = length-append front end in omega arith))
    ∙ ap (λ o. cond (stands_for e c) o None) (last_at e n front end h)
    ∙ both_by (stands_for e c) (list_all (λ d. stands_for e d) front) (Some end)

pub no_last : (e : Bool) (n : ℕ) (t : List ℕ) → length t < n → first_place e (λ x. length x == n) t ≡ None
no_last e n t l = none_short e (λ x. length x == n) n (other_length n) t l

pub last_there : (e : Bool) (n : ℕ) (t front end : List ℕ) (b : Bool) → t ≡ front ++ end → length end ≡ n →
    b ≡ list_all (λ c. stands_for e c) front → b ≡ true → Some end ≡ first_place e (λ x. length x == n) t
last_there e n t front end b h k l q =
    sym (ap (first_place e (λ x. length x == n)) h ∙ last_at e n front end k ∙ ap (λ z. cond z (Some end) None) (sym l ∙ q))

pub last_not : (e : Bool) (n : ℕ) (t front end : List ℕ) (b : Bool) → t ≡ front ++ end → length end ≡ n →
    b ≡ list_all (λ c. stands_for e c) front → b ≡ false → None ≡ first_place e (λ x. length x == n) t
last_not e n t front end b h k l q =
    sym (ap (first_place e (λ x. length x == n)) h ∙ last_at e n front end k ∙ ap (λ z. cond z (Some end) None) (sym l ∙ q))

-- in a match that is not of a path a star stands for all
all_stand : (t : List ℕ) → true ≡ list_all (λ c. stands_for false c) t
all_stand [] = refl
all_stand (c ∷ cs) = all_stand cs

pub all_may : (e : Bool) (t : List ℕ) → e ≡ false → true ≡ list_all (λ c. stands_for e c) t
all_may e t h = all_stand t ∙ ap (λ z. list_all (λ c. stands_for z c) t) (sym h)
