-- Expansion makes no call twice, so the answers of its trace are those of a world where each call has one answer.
use Rattle.std.proofs.Common.{◌≡◌, ℕ, ◌+◌, ◌<◌, ◌≤◌, Bool, true, false, cond, List, [], ◌∷◌, ◌++◌, length, map, refl, sym, ap, subst, ◌∙◌, inl, inr, ◌&&◌, ◌||◌, not, arith, append_assoc}
use Rattle.std.specs.Prelude.{⊤, ◌==◌, codes, unwrap_or, bytes_eq, filter}
use Rattle.std.specs.List.{list_any, AllByRecursion, join_with_byte}
use Rattle.std.specs.List.Sorted.{IsStrictlySortedBy}
use Rattle.std.specs.Str.{chars}
use Rattle.std.specs.declared.cmp.Ordering.{Ordering}
use Rattle.std.specs.declared.cmp.Ordering.TheVariants.{Less, Equal, Greater}
use Rattle.std.specs.Ordering.{ordering_reverse}
use Rattle.std.proofs.lemmas.Bool.{ne_eqb, eq-eqb, or_parts, and_parts, not-true}
use Rattle.std.proofs.lemmas.Cmp.{nat_list_cmp_total}
use Rattle.std.proofs.lemmas.List.{length-append}
use Rattle.std.proofs.lemmas.Slice.Eq.{bytes_eq-Decides}
use Rattle.rc_model.specs.Syntax.Text.{text_cmp}
use Rattle.rc_model.specs.Syntax.Words.{Word, word_text, has_pattern}
use Rattle.rc_model.specs.Run.Patterns.{is_dots, matches}
use Rattle.rc_model.specs.Run.Calls.{Call, Answer, list_names, probe, as_names, Event, refused}
use Rattle.rc_model.specs.declared.call.Fault.TheVariants.{Other}
use Rattle.rc_model.specs.Run.Plans.{Plan, done_with, ask, cut, Goes}
use Rattle.rc_model.specs.Run.State.{State}
use Rattle.rc_model.specs.Run.Shell.{ShellResult, Next, Exit, Shell, under, leaves, ◌>>=◌, pure}
use Rattle.rc_model.specs.Run.FileNames.{components, is_no_name, directory, fitting_names, each_name, if_there, listed, step, walk, paths_of, or_itself, names_of}
use Rattle.rc_model.specs.Run.PathNames.{IsIn, Agreeing}
use Rattle.law_values.proofs.Sorted.{ordered_sorted, from_ordered, from_filter}
use Rattle.law_values.proofs.Steps.{no_way}

-- each call of a plan, whatever is answered
abbrev AllCalls : {X : Type 0} → (Call → Type 0) → Plan X → Type 0
AllCalls P (done_with x) = ⊤
AllCalls P (ask c go) = P c × ((a : Answer) → AllCalls P (go a))
AllCalls P cut = ⊤

-- no call is made again
abbrev Once : {X : Type 0} → Plan X → Type 0
Once (done_with x) = ⊤
Once (ask c go) = (a : Answer) → AllCalls (λ d. d ≡ c → ⊥) (go a) × Once (go a)
Once cut = ⊤

all_under : {A X : Type 0} (P : Call → Type 0) (p : Plan (ShellResult A)) (go : A → State → Plan (ShellResult X)) → AllCalls P p
    → ((a : A) (s : State) → AllCalls P (go a s)) → AllCalls P (under p go leaves)
all_under P (done_with (Next a s)) go h k = k a s
all_under P (done_with (Exit s owed)) go h k = tt
all_under P (ask c f) go h k = (h.0, λ a. all_under P (f a) go (h.1 a) k)
all_under P cut go h k = tt

all_map : {X : Type 0} (P Q : Call → Type 0) (p : Plan X) → ((c : Call) → P c → Q c) → AllCalls P p → AllCalls Q p
all_map P Q (done_with x) f h = tt
all_map P Q (ask c go) f h = (f c h.0, λ a. all_map P Q (go a) f (h.1 a))
all_map P Q cut f h = tt

once_under : {A X : Type 0} (P Q : Call → Type 0) (p : Plan (ShellResult A)) (go : A → State → Plan (ShellResult X)) → ((c d : Call) → P c → Q d → d ≡ c → ⊥) → AllCalls P p → Once p →
    ((a : A) (s : State) → AllCalls Q (go a s)) → ((a : A) (s : State) → Once (go a s)) → Once (under p go leaves)
once_under P Q (done_with (Next a s)) go apart h o k l = l a s
once_under P Q (done_with (Exit s owed)) go apart h o k l = tt
once_under P Q (ask c f) go apart h o k l =
    λ a. (all_under (λ d. d ≡ c → ⊥) (f a) go (o a).0 (λ x s. all_map Q (λ d. d ≡ c → ⊥) (go x s) (λ d q. apart c d h.0 q) (k x s)), once_under P Q (f a) go apart (h.1 a) (o a).1 k l)
once_under P Q cut go apart h o k l = tt

-- the path of a listing or a probe
abbrev path_of : Call → List ℕ
path_of (list_names p) = p
path_of (probe p) = p
path_of _ = []

abbrev looks : Call → Bool
looks (list_names p) = true
looks (probe p) = true
looks _ = false

-- the call looks at a path that begins so
record IsUnder (q : List ℕ) (c : Call) : Type 0 where
  pub rest : List ℕ
  pub path : path_of c ≡ q ++ rest
  pub look : looks c ≡ true

nearer : (q r : List ℕ) (c : Call) → IsUnder (q ++ r) c → IsUnder q c
nearer q r c u = record { rest = r ++ u.rest; path = u.path ∙ append_assoc q r u.rest; look = u.look }

-- below one of the names
abbrev Among : List ℕ → List (List ℕ) → Call → Type 0
Among q ns c = (m : List ℕ) × IsIn m ns × IsUnder ((q ++ m) ++ codes "/") c

abbrev Walk : Type 0
Walk = List ℕ → Shell (List (List ℕ))

-- all calls of a walk are below its path
abbrev Below : Walk → Type 0
Below w = (path : List ℕ) (s : State) → AllCalls (IsUnder (path ++ codes "/")) (w path s)

abbrev EachOnce : Walk → Type 0
EachOnce w = (path : List ℕ) (s : State) → Once (w path s)

one_more : (q n : List ℕ) (ns : List (List ℕ)) (c : Call) → Among q ns c → Among q (n ∷ ns) c
one_more q n ns c x = (x.0, inr x.1, x.2)

each_all : (w : Walk) → Below w → (q : List ℕ) (ns : List (List ℕ)) (s : State) → AllCalls (Among q ns) (each_name w q ns s)
each_all w h q [] s = tt
each_all w h q (n ∷ ns) s =
    all_under (Among q (n ∷ ns)) (w (q ++ n) s) (λ first. each_name w q ns >>= (λ others. pure (first ++ others)))
    (all_map (IsUnder ((q ++ n) ++ codes "/")) (Among q (n ∷ ns)) (w (q ++ n) s) (λ c u. (n, inl refl, u)) (h (q ++ n) s))
    (λ first t. all_under (Among q (n ∷ ns)) (each_name w q ns t) (λ others. pure (first ++ others))
    (all_map (Among q ns) (Among q (n ∷ ns)) (each_name w q ns t) (one_more q n ns) (each_all w h q ns t)) (λ others u. tt))

from_among : (q : List ℕ) (ns : List (List ℕ)) (c : Call) → Among q ns c → IsUnder q c
from_among q ns c x = nearer q x.0 c (nearer (q ++ x.0) (codes "/") c x.2)

-- names with no slash
abbrev clean : List ℕ → Type 0
clean n = is_no_name n ≡ false

abbrev slashed : List ℕ → Bool
slashed n = list_any (λ c. (c == 47) || (c == 0)) n

clean_name : (n : List ℕ) → clean n → ((length n == 0) ≡ false) × (slashed n ≡ false)
clean_name n h =
    let a = or_parts (length n == 0) (is_dots n || slashed n) h in
    (a.0, (or_parts (is_dots n) (slashed n) a.1).1)

slash_there : (c : ℕ) (n : List ℕ) → c ≡ 47 → slashed (c ∷ n) ≡ false → ⊥
slash_there c n q h = no_way (sym (or_parts (c == 47) (c == 0) (or_parts ((c == 47) || (c == 0)) (slashed n) h).0).0 ∙ eq-eqb c 47 q)

same_name : (m n r t : List ℕ) → slashed m ≡ false → slashed n ≡ false → m ++ 47 ∷ r ≡ n ++ 47 ∷ t → m ≡ n
same_name [] [] r t h k q = refl
same_name [] (d ∷ n) r t h k q = absurd (slash_there d n (cc) k)
same_name (c ∷ m) [] r t h k q = absurd (slash_there c m (cc) h)
same_name (c ∷ m) (d ∷ n) r t h k q =
    let e : c ≡ d = cc in
    let f : m ++ 47 ∷ r ≡ n ++ 47 ∷ t = cc in
    let g = same_name m n r t (or_parts ((c == 47) || (c == 0)) (slashed m) h).1 (or_parts ((d == 47) || (d == 0)) (slashed n) k).1 f in
    cc

cancel : (q a b : List ℕ) → q ++ a ≡ q ++ b → a ≡ b
cancel [] a b h = h
cancel (c ∷ q) a b h = let f : q ++ a ≡ q ++ b = cc in cancel q a b f

apart_names : (q n m : List ℕ) → clean n → clean m → (m ≡ n → ⊥) → (c d : Call) → IsUnder ((q ++ n) ++ codes "/") c → IsUnder ((q ++ m) ++ codes "/") d → d ≡ c → ⊥
apart_names q n m h k ne c d u v e =
    let f : ((q ++ m) ++ codes "/") ++ v.rest ≡ ((q ++ n) ++ codes "/") ++ u.rest = sym v.path ∙ ap path_of e ∙ u.path in
    let g : q ++ (m ++ 47 ∷ v.rest) ≡ q ++ (n ++ 47 ∷ u.rest) =
    sym (append_assoc (q ++ m) (codes "/") v.rest ∙ append_assoc q m (47 ∷ v.rest)) ∙ f ∙ (append_assoc (q ++ n) (codes "/") u.rest ∙ append_assoc q n (47 ∷ u.rest)) in
    ne (same_name m n v.rest u.rest (clean_name m k).1 (clean_name n h).1 (cancel q (m ++ 47 ∷ v.rest) (n ++ 47 ∷ u.rest) g))

-- names that rise differ
pub less_itself : (o : Ordering) → o ≡ ordering_reverse o → o ≡ Less → ⊥
less_itself Less h k = cc
less_itself Equal h k = cc
less_itself Greater h k = cc

above : (n m : List ℕ) (ns : List (List ℕ)) → AllByRecursion (λ y. text_cmp n y ≡ Less) ns → IsIn m ns → m ≡ n → ⊥
above n m [] h x e = x
above n m (y ∷ ns) h (inl q) e = less_itself (text_cmp n n) (nat_list_cmp_total.antisymm n n) (ap (text_cmp n) (sym (q ∙ e)) ∙ h.0)
above n m (y ∷ ns) h (inr x) e = above n m ns h.1 x e

abbrev Clean : List (List ℕ) → Type 0
Clean ns = (m : List ℕ) → IsIn m ns → clean m

each_once : (w : Walk) → Below w → EachOnce w → (q : List ℕ) (ns : List (List ℕ)) (s : State) → IsStrictlySortedBy text_cmp ns → Clean ns → Once (each_name w q ns s)
unfolding IsStrictlySortedBy
each_once w h o q [] s r k = tt
each_once w h o q (n ∷ ns) s r k =
    once_under (IsUnder ((q ++ n) ++ codes "/")) (Among q ns) (w (q ++ n) s) (λ first. each_name w q ns >>= (λ others. pure (first ++ others)))
    (λ c d u v. apart_names q n v.0 (k n (inl refl)) (k v.0 (inr v.1)) (above n v.0 ns r.0 v.1) c d u v.2)
    (h (q ++ n) s) (o (q ++ n) s)
    (λ first t. all_under (Among q ns) (each_name w q ns t) (λ others. pure (first ++ others)) (each_all w h q ns t) (λ others u. tt))
    (λ first t. once_under (Among q ns) (λ d. ⊥) (each_name w q ns t) (λ others. pure (first ++ others)) (λ c d x y. absurd y) (each_all w h q ns t)
    (each_once w h o q ns t r.1 (λ m x. k m (inr x))) (λ others u. tt) (λ others u. tt))

fitting_clean : (c : Word) (a : Answer) → Clean (fitting_names c (as_names a))
fitting_clean c a m x =
    let f = from_filter (λ n. not (is_no_name n) && matches c (chars n) true) m (unwrap_or (as_names a) []) (from_ordered m _ x) in
    not-true (is_no_name m) (and_parts (not (is_no_name m)) (matches c (chars m) true) f.1).0

-- the directory is no path below one of its names
directory_by : (q : List ℕ) (b : Bool) → length (cond b (codes ".") q) ≤ length q + 1
directory_by q true = omega arith
directory_by q false = omega arith

longer : (n : List ℕ) (b : Bool) → (length n == 0) ≡ b → b ≡ false → 0 < length n
longer n true h k = no_way (sym k)
longer [] false h k = no_way (sym h)
longer (c ∷ n) false h k = omega arith

apart_directory : (q : List ℕ) (ns : List (List ℕ)) → Clean ns → (d : Call) → Among q ns d → d ≡ list_names (directory q) → ⊥
apart_directory q ns k d x e =
    let f : ((q ++ x.0) ++ codes "/") ++ x.2.rest ≡ directory q = sym x.2.path ∙ ap path_of e in
    let a = directory_by q (length q == 0) in
    let b = longer x.0 (length x.0 == 0) refl (clean_name x.0 (k x.0 x.1)).0 in
    let l1 = length-append ((q ++ x.0) ++ codes "/") x.2.rest in
    let l2 = length-append (q ++ x.0) (codes "/") in
    let l3 = length-append q x.0 in
    let l4 = ap length f in
    absurd (omega arith)

step_by : (c : Word) (w : Walk) → Below w → EachOnce w → (q : List ℕ) (s : State) (b : Bool) → Once (cond b (listed c w q) (w (q ++ word_text c)) s)
step_by c w h o q s true = λ a. (
  all_map (Among q (fitting_names c (as_names a))) (λ d. d ≡ list_names (directory q) → ⊥) (each_name w q (fitting_names c (as_names a)) s)
      (apart_directory q (fitting_names c (as_names a)) (fitting_clean c a)) (each_all w h q (fitting_names c (as_names a)) s),
  each_once w h o q (fitting_names c (as_names a)) s (ordered_sorted (filter (λ n. not (is_no_name n) && matches c (chars n) true) (unwrap_or (as_names a) []))) (fitting_clean c a),
)
step_by c w h o q s false = o (q ++ word_text c) s

directory_path : (path : List ℕ) → directory (path ++ codes "/") ≡ path ++ codes "/"
directory_path path = ap (λ b. cond b (codes ".") (path ++ codes "/")) (ne_eqb (length (path ++ codes "/")) 0 (λ h. let l = length-append path (codes "/") in absurd (omega arith)))

append_nothing : (q : List ℕ) → q ≡ q ++ []
append_nothing [] = refl
append_nothing (c ∷ q) = ap (λ z. c ∷ z) (append_nothing q)

step_below : (c : Word) (w : Walk) → Below w → (path : List ℕ) (s : State) (b : Bool)
    → AllCalls (IsUnder (path ++ codes "/")) (cond b (listed c w (path ++ codes "/")) (w ((path ++ codes "/") ++ word_text c)) s)
step_below c w h path s true = (
  record { rest = []; path = directory_path path ∙ append_nothing (path ++ codes "/"); look = refl },
  λ a. all_map (Among (path ++ codes "/") (fitting_names c (as_names a))) (IsUnder (path ++ codes "/"))
      (each_name w (path ++ codes "/") (fitting_names c (as_names a)) s) (from_among (path ++ codes "/") (fitting_names c (as_names a)))
      (each_all w h (path ++ codes "/") (fitting_names c (as_names a)) s),
)
step_below c w h path s false =
    all_map (IsUnder (((path ++ codes "/") ++ word_text c) ++ codes "/")) (IsUnder (path ++ codes "/")) (w ((path ++ codes "/") ++ word_text c) s)
    (λ d u. nearer (path ++ codes "/") (word_text c) d (nearer ((path ++ codes "/") ++ word_text c) (codes "/") d u)) (h ((path ++ codes "/") ++ word_text c) s)

below_by : (c : Word) (cs : List Word) → Below (walk cs) → (path : List ℕ) (s : State) (b : Bool) →
    AllCalls (IsUnder (path ++ codes "/")) (cond b (step c (walk cs) (path ++ codes "/")) (if_there (path ++ 47 ∷ join_with_byte 47 (map word_text (c ∷ cs)))) s)
below_by c cs h path s true = step_below c (walk cs) h path s (has_pattern c)
below_by c cs h path s false =
    (record { rest = join_with_byte 47 (map word_text (c ∷ cs)); path = sym (append_assoc path (codes "/") (join_with_byte 47 (map word_text (c ∷ cs)))); look = refl }, λ a. tt)

walk_below : (cs : List Word) → Below (walk cs)
walk_below [] path s = tt
walk_below (c ∷ cs) path s = below_by c cs (walk_below cs) path s (list_any has_pattern (c ∷ cs))

once_by : (c : Word) (cs : List Word) → EachOnce (walk cs) → (path : List ℕ) (s : State) (b : Bool) →
    Once (cond b (step c (walk cs) (path ++ codes "/")) (if_there (path ++ 47 ∷ join_with_byte 47 (map word_text (c ∷ cs)))) s)
once_by c cs o path s true = step_by c (walk cs) (walk_below cs) o (path ++ codes "/") s (has_pattern c)
once_by c cs o path s false = λ a. (tt, tt)

walk_once : (cs : List Word) → EachOnce (walk cs)
walk_once [] path s = tt
walk_once (c ∷ cs) path s = once_by c cs (walk_once cs) path s (list_any has_pattern (c ∷ cs))

paths_once : (cs : List Word) (s : State) → Once (paths_of cs s)
paths_once [] s = tt
paths_once (c ∷ cs) s = step_by c (walk cs) (walk_below cs) (walk_once cs) [] s (has_pattern c)

-- the calls look at paths
abbrev Looks : Call → Type 0
Looks c = looks c ≡ true

step_looks : (c : Word) (w : Walk) → Below w → (q : List ℕ) (s : State) (b : Bool) → AllCalls Looks (cond b (listed c w q) (w (q ++ word_text c)) s)
step_looks c w h q s true =
    (refl, λ a. all_map (Among q (fitting_names c (as_names a))) Looks (each_name w q (fitting_names c (as_names a)) s) (λ d x. x.2.look) (each_all w h q (fitting_names c (as_names a)) s))
step_looks c w h q s false = all_map (IsUnder ((q ++ word_text c) ++ codes "/")) Looks (w (q ++ word_text c) s) (λ d u. u.look) (h (q ++ word_text c) s)

paths_look : (cs : List Word) (s : State) → AllCalls Looks (paths_of cs s)
paths_look [] s = tt
paths_look (c ∷ cs) s = step_looks c (walk cs) (walk_below cs) [] s (has_pattern c)

names_once : (w : Word) (s : State) → Once (names_of w s)
names_once w s =
    once_under Looks (λ d. ⊥) (paths_of (components w) s) (λ paths. pure (or_itself w paths)) (λ c d x y. absurd y) (paths_look (components w) s)
    (paths_once (components w) s) (λ paths t. tt) (λ paths t. tt)

names_look : (w : Word) (s : State) → AllCalls Looks (names_of w s)
names_look w s = all_under Looks (paths_of (components w) s) (λ paths. pure (or_itself w paths)) (paths_look (components w) s) (λ paths t. tt)

-- a trace in which no call comes twice
abbrev Differ : List Event → Type 0
Differ [] = ⊤
Differ (e ∷ es) = AllByRecursion (λ f. f.call ≡ e.call → ⊥) es × Differ es

goes_all : {X : Type 0} (P : Call → Type 0) (p : Plan X) (es : List Event) (q : Plan X) → AllCalls P p → Goes p es q → AllByRecursion (λ e. P e.call) es
goes_all P (done_with x) [] q h g = tt
goes_all P (ask c go) [] q h g = tt
goes_all P cut [] q h g = tt
goes_all P (done_with x) (e ∷ es) q h g = absurd g
goes_all P (ask c go) (e ∷ es) q h g = (subst P (sym g.0) h.0, goes_all P (go e.answer) es q (h.1 e.answer) g.2)
goes_all P cut (e ∷ es) q h g = absurd g

goes_once : {X : Type 0} (p : Plan X) (es : List Event) (q : Plan X) → Once p → Goes p es q → Differ es
goes_once (done_with x) [] q o g = tt
goes_once (ask c go) [] q o g = tt
goes_once cut [] q o g = tt
goes_once (done_with x) (e ∷ es) q o g = absurd g
goes_once (ask c go) (e ∷ es) q o g = (
  goes_all (λ d. d ≡ e.call → ⊥) (go e.answer) es q
      (all_map (λ d. d ≡ c → ⊥) (λ d. d ≡ e.call → ⊥) (go e.answer) (λ d n k. n (k ∙ g.0)) (o e.answer).0) g.2,
  goes_once (go e.answer) es q
      (o e.answer).1 g.2,
)
goes_once cut (e ∷ es) q o g = absurd g

-- what was answered to a call
abbrev same_look : Call → Call → Bool
same_look (list_names p) (list_names q) = bytes_eq p q
same_look (probe p) (probe q) = bytes_eq p q
same_look _ _ = false

abbrev recall : List Event → Call → Answer
recall [] c = refused Other
recall (e ∷ es) c = cond (same_look e.call c) e.answer (recall es c)

same_bytes : (p : List ℕ) → bytes_eq p p ≡ true
same_bytes p = (bytes_eq-Decides p p).1 refl

exact : (c d : Call) → same_look c d ≡ true → d ≡ c
exact (list_names p) (list_names q) h = ap list_names (sym ((bytes_eq-Decides p q).0 h))
exact (probe p) (probe q) h = ap probe (sym ((bytes_eq-Decides p q).0 h))
exact _ _ h = no_way h

same_itself : (c : Call) → looks c ≡ true → same_look c c ≡ true
same_itself (list_names p) h = same_bytes p
same_itself (probe p) h = same_bytes p
same_itself _ h = no_way h

other_call : (c d : Call) (b : Bool) → same_look c d ≡ b → (d ≡ c → ⊥) → b ≡ false
other_call c d true h n = absurd (n (exact c d h))
other_call c d false h n = refl

agree_more : (e : Event) (es fs : List Event) → AllByRecursion (λ f. f.call ≡ e.call → ⊥) fs → Agreeing (recall es) fs → Agreeing (recall (e ∷ es)) fs
agree_more e es [] n a = tt
agree_more e es (f ∷ fs) n a = (ap (λ b. cond b e.answer (recall es f.call)) (other_call e.call f.call (same_look e.call f.call) refl n.0) ∙ a.0, agree_more e es fs n.1 a.1)

recall_agrees : (es : List Event) → Differ es → AllByRecursion (λ e. Looks e.call) es → Agreeing (recall es) es
recall_agrees [] d l = tt
recall_agrees (e ∷ es) d l = (ap (λ b. cond b e.answer (recall es e.call)) (same_itself e.call l.0), agree_more e es es d.0 (recall_agrees es d.1 l.1))

-- for each trace of an expansion there is a world in which each call has one answer, and it is the trace's
pub one_answer_each : (w : Word) (s : State) (trace : List Event) (q : Plan (ShellResult (List Word))) → Goes (names_of w s) trace q → (answers : Call → Answer) × Agreeing answers trace
one_answer_each w s trace q g = (recall trace, recall_agrees trace (goes_once (names_of w s) trace q (names_once w s) g) (goes_all Looks (names_of w s) trace q (names_look w s) g))
