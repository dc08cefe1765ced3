-- Once the files of the redirections around a command are open, no call names a descriptor that they cover.
use Rattle.std.proofs.Common.{◌≡◌, refl, sym, ap, subst, inl, inr, ℕ, zero, suc, List, [], ◌∷◌, Option, Some, None, Bool, true, false}
use Rattle.std.specs.Prelude.{if◌then◌else◌}
use Rattle.rc_model.specs.Syntax.Words.{word_texts}
use Rattle.rc_model.specs.Syntax.Tree.{Node, Many, cmd, pair, redir, is_empty, none, more, Assign, Redirect, Pair, Open, Copy, Here}
use Rattle.rc_model.specs.declared.call.Mode.{Mode}
use Rattle.rc_model.specs.declared.call.Slot.{Slot}
use Rattle.rc_model.specs.declared.call.Slot.TheVariants.{Own, To}
use Rattle.rc_model.specs.declared.call.Slots.{Slots}
use Rattle.rc_model.specs.Run.Calls.{Call, Answer, open_file, here, write, start, as_file, plain, to_file, slot_of, with_slot}
use Rattle.rc_model.specs.Run.Plans.{Plan, done_with, ask, cut}
use Rattle.rc_model.specs.Run.State.{State, set_value, push_local}
use Rattle.rc_model.specs.Run.Shell.{ShellResult, Next, Exit, under, leaves, stops}
use Rattle.rc_model.specs.Run.FileNames.{expanded}
use Rattle.rc_model.specs.Run.Acts.{opened, open_one, variable, here_name}
use Rattle.rc_model.specs.Run.Meaning.{Runner, Caller, file_end, bound, cmd_means, arg_means, pairs_mean, redirs_mean, meaning}
use Rattle.rc_model.specs.Run.Script.{waits}
use Rattle.law_descriptors.specs.Covering.{opens_in, opens_of, slots_in, if_opens, slots_after, IsAmong, AreAmong, NamesOnly, Stands, AllCalls, is_file, is_opened, AfterOpens, NoCoveredIsNamed}
use Rattle.law_descriptors.proofs.Keeps.{Meets, Safe, all_under, Keeps, keeps_stops}
use Rattle.law_descriptors.proofs.Acts.{keeps_expanded, keeps_variable}
use Rattle.law_descriptors.proofs.Cmds.{keeps_arg, keeps_cmd, keeps_meaning}

-- a call that keeps to these descriptors names only them
named : (P : ℕ → Type 0) (o : Bool) (c : Call) → Meets P o c → NamesOnly P c
named P o (write slot text) h = h
named P o (start launch) h = h
named P o c h = tt

all_named : {X : Type 0} (P : ℕ → Type 0) (o : Bool) (p : Plan X) → Safe P o p → AllCalls (NamesOnly P) p
all_named P o (done_with x) h = tt
all_named P o (ask c go) h = (named P o c h.0, λ a. all_named P o (go a) (h.1 a))
all_named P o cut h = tt

-- a call that may not open a file opens none
opens_none : (P : ℕ → Type 0) (c : Call) (a : Answer) → Meets P false c → is_opened c a ≡ false
opens_none P (open_file path mode) a h = absurd (let n : ⊥ = cc in n)
opens_none P (here text) a h = absurd (let n : ⊥ = cc in n)
opens_none P c a h = refl

-- what opens no file
quiet : {X : Type 0} (P : ℕ → Type 0) (k : ℕ) (Q : Call → Type 0) (p : Plan X) → Safe P false p → AfterOpens (suc k) Q p
quiet P k Q (done_with x) h = tt
quiet P k Q (ask c go) h = λ a. subst (λ b. AfterOpens (if b then k else suc k) Q (go a)) (sym (opens_none P c a h.0)) (quiet P k Q (go a) (h.1 a))
quiet P k Q cut h = tt

-- what opens no file, and what comes then
after_quiet : {A X : Type 0} (P : ℕ → Type 0) (k : ℕ) (Q : Call → Type 0) (p : Plan (ShellResult A)) (go : A → State → Plan X) (leave : State → List ℕ → Plan X)
    → Safe P false p → ((x : A) (s : State) → AfterOpens (suc k) Q (go x s)) → ((s : State) (owed : List ℕ) → AfterOpens (suc k) Q (leave s owed)) → AfterOpens (suc k) Q (under p go leave)
after_quiet P k Q (done_with (Next x s)) go leave h kg kl = kg x s
after_quiet P k Q (done_with (Exit s owed)) go leave h kg kl = kl s owed
after_quiet P k Q (ask c rest) go leave h kg kl =
    λ a. subst (λ b. AfterOpens (if b then k else suc k) Q (under (rest a) go leave)) (sym (opens_none P c a h.0)) (after_quiet P k Q (rest a) go leave (h.1 a) kg kl)
after_quiet P k Q cut go leave h kg kl = tt

-- a scope whose end opens no file
after_scope : {A X : Type 0} (P : ℕ → Type 0) (k : ℕ) (Q : Call → Type 0) (p : Plan (ShellResult A)) (go : A → State → Plan X) (leave : State → List ℕ → Plan X)
    → AfterOpens k Q p → ((x : A) (s : State) → AllCalls Q (go x s) × Safe P false (go x s)) → ((s : State) (owed : List ℕ) → AllCalls Q (leave s owed) × Safe P false (leave s owed))
    → AfterOpens k Q (under p go leave)
after_scope P zero Q p go leave h kg kl = all_under Q p go leave h (λ x s. (kg x s).0) (λ s owed. (kl s owed).0)
after_scope P (suc k) Q (done_with (Next x s)) go leave h kg kl = quiet P k Q (go x s) (kg x s).1
after_scope P (suc k) Q (done_with (Exit s owed)) go leave h kg kl = quiet P k Q (leave s owed) (kl s owed).1
after_scope P (suc k) Q (ask c rest) go leave h kg kl = λ a. after_scope P (if is_opened c a then k else suc k) Q (rest a) go leave (h a) kg kl
after_scope P (suc k) Q cut go leave h kg kl = tt

-- each of the shell's own
abbrev Any : ℕ → Type 0
Any n = Unit {0}

any_among : (slot : Slot) → IsAmong Any slot
any_among (Own n) = tt
any_among (To file) = tt

any : (slots : Slots) → AreAmong Any slots
any slots = record { input = any_among slots.input; output = any_among slots.output; errors = any_among slots.errors }

-- the same descriptor of the shell's own, or files
abbrev Alike : Slot → Slot → Type 0
Alike (Own n) (Own m) = n ≡ m
Alike (To file) (To other) = Unit {0}
Alike slot other = ⊥

record AreAlike (slots others : Slots) : Type 0 where
  input : Alike slots.input others.input
  output : Alike slots.output others.output
  errors : Alike slots.errors others.errors

alike_self : (slot : Slot) → Alike slot slot
alike_self (Own n) = refl
alike_self (To file) = tt

alike_slot : (a b : Slots) → AreAlike a b → (n : ℕ) → Alike (slot_of a n) (slot_of b n)
alike_slot a b l zero = l.input
alike_slot a b l (suc zero) = l.output
alike_slot a b l (suc (suc n)) = l.errors

alike_with : (a b : Slots) → AreAlike a b → (n : ℕ) (slot other : Slot) → Alike slot other → AreAlike (with_slot a n slot) (with_slot b n other)
alike_with a b l zero slot other h = record { input = h; output = l.output; errors = l.errors }
alike_with a b l (suc zero) slot other h = record { input = l.input; output = h; errors = l.errors }
alike_with a b l (suc (suc n)) slot other h = record { input = l.input; output = l.output; errors = h }

-- what stands in one stands in the other
among_by : (P : ℕ → Type 0) (a b : Slot) → Alike a b → ((n : ℕ) → b ≡ Own n → P n) → IsAmong P a
among_by P (Own n) (Own m) e h = h n (ap Own (sym e))
among_by P (Own n) (To file) e h = absurd e
among_by P (To file) b e h = tt

among : (a b : Slots) → AreAlike a b → AreAmong (Stands b) a
among a b l = record {
  input = among_by (Stands b) a.input b.input l.input (λ n e. inl e);
  output = among_by (Stands b) a.output b.output l.output (λ n e. inr (inl e));
  errors = among_by (Stands b) a.errors b.errors l.errors (λ n e. inr (inr e));
}

-- a file that may have been opened, and what is within
granted : (k : ℕ) (P : ℕ → Type 0) (slots : Slots) (name : List ℕ) (inner : ℕ → Runner) → ((h : ℕ) (s : State) → AfterOpens k (NamesOnly P) (inner h s)) → (o : Option ℕ) (s : State)
    → AfterOpens (if is_file o then k else suc k) (NamesOnly P) (under (opened slots name o s) (λ h. file_end h (inner h)) leaves)
granted k P slots name inner ki (Some h) s = after_scope Any k (NamesOnly P) (inner h s) _ _ (ki h s) (λ x t. ((tt, λ a. tt), (tt, λ a. tt))) (λ t owed. ((tt, λ a. tt), (tt, λ a. tt)))
granted k P slots name inner ki None s = λ a. tt

-- the one file of a redirection
opened_one : (k : ℕ) (P : ℕ → Type 0) (slots : Slots) (mode : Mode) (names : List (List ℕ)) (inner : ℕ → Runner) → ((h : ℕ) (s : State) → AfterOpens k (NamesOnly P) (inner h s)) → (s : State)
    → AfterOpens (suc k) (NamesOnly P) (under (open_one slots mode names s) (λ h. file_end h (inner h)) leaves)
opened_one k P slots mode [] inner ki s = λ a. tt
opened_one k P slots mode (name ∷ []) inner ki s = λ a. granted k P slots name inner ki (as_file a) s
opened_one k P slots mode (name ∷ other ∷ others) inner ki s = λ a. tt

-- an assignment
bound_after : (k : ℕ) (P : ℕ → Type 0) (bare : Bool) (x : List ℕ) (v : List (List ℕ)) (rest : Runner)
    → ((s : State) → AfterOpens (suc k) (NamesOnly P) (rest s)) → (s : State) → AfterOpens (suc k) (NamesOnly P) (bound bare x v rest s)
bound_after k P true x v rest kr s = kr (set_value s x v)
bound_after k P false x v rest kr s = after_scope Any (suc k) (NamesOnly P) (rest (push_local s x v)) _ _ (kr (push_local s x v)) (λ y t. (tt, tt)) (λ t owed. (tt, tt))

module _ (call : Caller) (kc : (P : ℕ → Type 0) (slots : Slots) → AreAmong P slots → (c : Node cmd) → Keeps P true (call slots c)) (n : ℕ) where
  -- a command with descriptors that stay
  staying : (c : Node cmd) (g : Bool) (slots others : Slots) → AreAlike slots others → (s : State) → AllCalls (NamesOnly (Stands others)) (cmd_means c g call n slots s)
  staying c g slots others l s =
      all_named (Stands others) true (cmd_means c g call n slots s) ((keeps_cmd (Stands others) call (kc (Stands others)) n c g slots (among slots others l)).by s)

  pairs_after : (k : ℕ) (P : ℕ → Type 0) (pairs : Many pair) (bare : Bool) (body : Runner) (slots : Slots)
      → ((s : State) → AfterOpens (suc k) (NamesOnly P) (body s)) → (s : State)
      → AfterOpens (suc k) (NamesOnly P) (pairs_mean pairs bare body call n slots s)
  pairs_after k P none bare body slots kb s = kb s
  pairs_after k P (more (Pair name value) rest) bare body slots kb s =
      after_quiet Any k (NamesOnly P) (arg_means name call n slots s) _ leaves ((keeps_arg Any false call n slots (any slots) name).by s)
      (λ x s. after_quiet Any k (NamesOnly P) (arg_means value call n slots s) _ leaves ((keeps_arg Any false call n slots (any slots) value).by s)
      (λ v s. after_quiet Any k (NamesOnly P) (expanded v s) _ leaves ((keeps_expanded Any false v).by s)
      (λ w s. after_quiet Any k (NamesOnly P) (variable slots x s) _ leaves ((keeps_variable Any false slots (any slots) x).by s)
      (λ y s. bound_after k P bare y (word_texts w) (pairs_mean rest bare body call n slots) (pairs_after k P rest bare body slots kb) s)
      (λ s owed. tt)) (λ s owed. tt)) (λ s owed. tt)) (λ s owed. tt)

  -- assignments around a command that opens this many files
  assigned : (k : ℕ) (pairs : Many pair) (body : Node cmd) (g : Bool) (slots others : Slots) → AreAlike slots others
      → ((s : State) → AfterOpens k (NamesOnly (Stands (slots_after body others))) (cmd_means body g call n slots s)) → (s : State)
      → AfterOpens k (NamesOnly (Stands (if_opens k others (slots_after body others)))) (pairs_mean pairs (is_empty body) (cmd_means body g call n slots) call n slots s)
  assigned zero pairs body g slots others l kb s = staying (Assign pairs body) g slots others l s
  assigned (suc k) pairs body g slots others l kb s = pairs_after k (Stands (slots_after body others)) pairs (is_empty body) (cmd_means body g call n slots) slots kb s

  redirected : (redirs : Many redir) (body : Node cmd) (g : Bool)
      → ((slots others : Slots) → AreAlike slots others → (s : State) → AfterOpens (opens_of body) (NamesOnly (Stands (slots_after body others))) (cmd_means body g call n slots s))
      → (slots others : Slots) → AreAlike slots others → (s : State)
      → AfterOpens (opens_in redirs (opens_of body)) (NamesOnly (Stands (slots_after body (slots_in redirs others)))) (redirs_mean redirs (cmd_means body g call n) call n slots s)
  redirected none body g kb slots others l s = kb slots others l s
  redirected (more (Open mode slot path) rest) body g kb slots others l s =
      let k = opens_in rest (opens_of body) in
      let P = Stands (slots_after body (slots_in rest (with_slot others slot (to_file 0)))) in
      after_quiet Any k (NamesOnly P) (arg_means path call n slots s) _ leaves ((keeps_arg Any false call n slots (any slots) path).by s)
      (λ v s. after_quiet Any k (NamesOnly P) (expanded v s) _ leaves ((keeps_expanded Any false v).by s)
      (λ w s. opened_one k P slots mode (word_texts w) _
      (λ h s. redirected rest body g kb (with_slot slots slot (to_file h)) (with_slot others slot (to_file 0)) (alike_with slots others l slot (to_file h) (to_file 0) tt) s) s)
      (λ s owed. tt)) (λ s owed. tt)
  redirected (more (Copy to from) rest) body g kb slots others l s =
      redirected rest body g kb (with_slot slots to (slot_of slots from)) (with_slot others to (slot_of others from))
      (alike_with slots others l to (slot_of slots from) (slot_of others from) (alike_slot slots others l from)) s
  redirected (more (Here pieces) rest) body g kb slots others l s =
      λ a. granted (opens_in rest (opens_of body)) (Stands (slots_after body (slots_in rest (with_slot others 0 (to_file 0))))) slots here_name _
      (λ h s. redirected rest body g kb (with_slot slots 0 (to_file h)) (with_slot others 0 (to_file 0)) (alike_with slots others l 0 (to_file h) (to_file 0) tt) s) (as_file a) s

  covered : (c : Node cmd) (g : Bool) (slots others : Slots) → AreAlike slots others → (s : State) → AfterOpens (opens_of c) (NamesOnly (Stands (slots_after c others))) (cmd_means c g call n slots s)
  covered (Assign pairs body) g slots others l s = assigned (opens_of body) pairs body g slots others l (covered body g slots others l) s
  covered (Redirect redirs body) g slots others l s = redirected redirs body g (covered body g) slots others l s
  covered c g slots others l s = staying c g slots others l s

meant : (n : ℕ) (c : Node cmd) (s : State) → AfterOpens (opens_of c) (NamesOnly (Stands (slots_after c plain))) (meaning n plain c s)
meant zero c s =
    covered (λ slots d. stops) (λ P slots w d. keeps_stops) zero c false plain plain
    (record { input = alike_self plain.input; output = alike_self plain.output; errors = alike_self plain.errors }) s
meant (suc n) c s =
    covered (meaning n) (λ P slots w d. keeps_meaning P n slots w d) (suc n) c false plain plain
    (record { input = alike_self plain.input; output = alike_self plain.output; errors = alike_self plain.errors }) s

-- the waits at the end
quiet_waits : (P Q : ℕ → Type 0) (s : State) (owed : List ℕ) → AllCalls (NamesOnly P) (waits s owed) × Safe Q false (waits s owed)
quiet_waits P Q s [] = (tt, tt)
quiet_waits P Q s (n ∷ ns) = let rest = quiet_waits P Q s ns in ((tt, λ a. rest.0), (tt, λ a. rest.1))

pub no_covered_is_named : NoCoveredIsNamed
no_covered_is_named n c s =
    after_scope Any (opens_of c) (NamesOnly (Stands (slots_after c plain))) (meaning n plain c s) (λ a s. done_with s) waits (meant n c s)
    (λ a t. (tt, tt)) (quiet_waits (Stands (slots_after c plain)) Any)
