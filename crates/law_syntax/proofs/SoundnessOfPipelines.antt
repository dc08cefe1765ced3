-- What the descent reads is a phrase, for pipelines, assignments and operands.
use Rattle.std.proofs.Common.{◌≡◌, ℕ, zero, suc, ◌<◌, ◌≤◌, Bool, true, false, List, [], ◌∷◌, length, Ok, ◌⊎◌, inl, inr, if◌then◌else◌, refl, sym, ap, subst, ◌∙◌, arith, nat_lt}
use Rattle.rc_model.specs.Syntax.Tokens.{Lexeme, Word, Bar, Redirection, CopyTo, HereDoc}
use Rattle.rc_model.specs.Syntax.Tree.{Node, Many, none, more, count, snoc}
use Rattle.rc_model.specs.Syntax.Tree as t
use Rattle.rc_model.specs.Syntax.Grammar.{Phrase, past_newlines, pipeline, stages_of, last_of, begins_command, begins_bar}
use Rattle.rc_model.specs.Syntax.Grammar as g
use Rattle.rc_model.specs.Mirrors.Descent as d
use Rattle.rc_model.specs.Mirrors.Descent.{Read, Reader, Readers, Opening, Staged, Named}
use Rattle.law_syntax.proofs.Shorter.{Phrase-shorter, past_newlines-shorter}
use Rattle.law_syntax.proofs.Lists.{append, append_snoc, append_none, done, ok_same, bind_ok, if_ok}
use Rattle.law_syntax.proofs.SoundnessOfArguments.{IsPiped, Sound, arg_sound}
use Rattle.law_syntax.proofs.SoundnessOfForms.{IsOpening, opening_sound, leading_sound}

-- pipelines
pub pipeline_same : (c : Node t.cmd) (ss : Many t.stage) → d.pipeline_of (stages_of c ss) (last_of c ss) ≡ pipeline c ss
pipeline_same c none = refl
pipeline_same c (more (t.Stage second slot) rest) = refl

-- stages are in front with a last one, and then those of a phrase
record AddsStages (ts : List Lexeme) (front : Many t.stage) (last : Node t.cmd) (x : Node t.cmd × List Lexeme) : Type 0 where
  added : Many t.stage
  whole : x.0 ≡ d.pipeline_of (append front (stages_of last added)) (last_of last added)
  phrase : Phrase g.bars ts added x.1

no_stages : (ts : List Lexeme) (front : Many t.stage) (last : Node t.cmd) (x : Node t.cmd × List Lexeme) → begins_bar ts ≡ false → done (d.pipeline_of front last, ts) ≡ Ok x →
    AddsStages ts front last x
no_stages ts front last x b h =
    let e = ok_same (d.pipeline_of front last, ts) x h in
    record {
      added = none;
      whole = sym (ap (λ z. z.0) e) ∙ ap (λ z. d.pipeline_of z last) (sym (append_none front));
      phrase = subst (λ z. Phrase g.bars ts none z.1) e (g.no_bar b);
    }

last_stage_sound : (slot : ℕ) (ts : List Lexeme) (front : Many t.stage) (last c : Node t.cmd) (mid : List Lexeme) (x : Node t.cmd × List Lexeme) →
    Phrase g.bars (Bar slot ∷ ts) (more (t.Stage c slot) none) mid → done (d.pipeline_of (snoc front (t.Stage last slot)) c, mid) ≡ Ok x → AddsStages (Bar slot ∷ ts) front last x
last_stage_sound slot ts front last c mid x p h =
    let e = ok_same (d.pipeline_of (snoc front (t.Stage last slot)) c, mid) x h in
    let one : append front (more (t.Stage last slot) none) ≡ snoc front (t.Stage last slot) = sym (append_snoc front (t.Stage last slot) none) ∙ append_none (snoc front (t.Stage last slot)) in
    record {
      added = more (t.Stage c slot) none;
      whole = sym (ap (λ z. z.0) e) ∙ ap (λ z. d.pipeline_of z c) (sym one);
      phrase = subst (λ z. Phrase g.bars (Bar slot ∷ ts) (more (t.Stage c slot) none) z.1) e p;
    }

piped_turn_sound : (slot : ℕ) (ts : List Lexeme) (front : Many t.stage) (last c : Node t.cmd) (b : Bool) (mid : List Lexeme) (go_on : Many t.stage → Node t.cmd → Reader (Node t.cmd))
    (goes : (x : Node t.cmd × List Lexeme) → go_on (snoc front (t.Stage last slot)) c mid ≡ Ok x → AddsStages mid (snoc front (t.Stage last slot)) c x) (x : Node t.cmd × List Lexeme) →
    IsPiped (past_newlines ts) c b mid → (if b then go_on (snoc front (t.Stage last slot)) c mid else done (d.pipeline_of (snoc front (t.Stage last slot)) c, mid)) ≡ Ok x →
    AddsStages (Bar slot ∷ ts) front last x
piped_turn_sound slot ts front last c true mid go_on goes x p h =
    let q = goes x h in
    record {
      added = more (t.Stage c slot) q.added;
      whole = q.whole ∙ ap (λ z. d.pipeline_of z (last_of c q.added)) (append_snoc front (t.Stage last slot) (stages_of c q.added));
      phrase = g.bar_stage p q.phrase;
    }
piped_turn_sound slot ts front last c false mid go_on goes x p h = last_stage_sound slot ts front last c mid x (elim p [ inl q ↦ g.bar_leading q | inr q ↦ g.bar_assigned q ]) h

piped_shorter : (ts : List Lexeme) (c : Node t.cmd) (b : Bool) (rest : List Lexeme) → IsPiped ts c b rest → length rest < length ts
piped_shorter ts c true rest p = let h = Phrase-shorter p in omega arith
piped_shorter ts c false rest (inl p) = let h = Phrase-shorter p in omega arith
piped_shorter ts c false rest (inr p) = let h = Phrase-shorter p in omega arith

pipe_turn_sound : (r : Readers) → Sound r → (k : ℕ) (go_on : Many t.stage → Node t.cmd → Reader (Node t.cmd))
    (goes : (front : Many t.stage) (last : Node t.cmd) (ts : List Lexeme) (x : Node t.cmd × List Lexeme) → length ts ≤ k → go_on front last ts ≡ Ok x → AddsStages ts front last x)
    (front : Many t.stage) (last : Node t.cmd) (ts : List Lexeme) (x : Node t.cmd × List Lexeme) → length ts ≤ suc k → d.pipe_turn r go_on front last ts ≡ Ok x → AddsStages ts front last x
pipe_turn_sound r s k go_on goes front last (Bar slot ∷ ts) x le h = elim (if_ok (nat_lt (suc (count front)) 64) _ _ x h) [
  | inl b ↦ (let w = bind_ok (r d.a_piped (past_newlines ts)) _ x b.1 in
      let p = s.piped (past_newlines ts) w.0 w.1 in
      let shorter = piped_shorter (past_newlines ts) w.0.0.0 w.0.0.1 w.0.1 p in
      let over = past_newlines-shorter ts in
      piped_turn_sound slot ts front last w.0.0.0 w.0.0.1 w.0.1 go_on (λ y. goes (snoc front (t.Stage last slot)) w.0.0.0 w.0.1 y (omega arith)) x p w.2)
  | inr b ↦ absurd cc
]
pipe_turn_sound r s k go_on goes front last ts x le h = no_stages ts front last x refl h

pipe_from_sound : (r : Readers) → Sound r → (k : ℕ) (front : Many t.stage) (last : Node t.cmd) (ts : List Lexeme) (x : Node t.cmd × List Lexeme) → length ts ≤ k →
    d.pipe_from r k front last ts ≡ Ok x → AddsStages ts front last x
unfolding d.pipe_from
pipe_from_sound r s zero front last [] x le h = no_stages [] front last x refl h
pipe_from_sound r s zero front last (l ∷ ts) x le h = absurd (omega arith)
pipe_from_sound r s (suc k) front last ts x le h = pipe_turn_sound r s k (λ ss c u. d.pipe_from r k ss c u) (pipe_from_sound r s k) front last ts x le h

pipe_sound : (r : Readers) → Sound r → (ts : List Lexeme) (first : Node t.cmd) (mid : List Lexeme) (x : Node t.cmd × List Lexeme) → Phrase g.stage ts first mid → d.pipe_by r first mid ≡ Ok x →
    Phrase g.pipe ts x.0 x.1
unfolding d.pipe_by
pipe_sound r s ts first mid x p h =
    let q = pipe_from_sound r s (length mid) none first mid x (omega arith) h in
    subst (λ z. Phrase g.pipe ts z x.1) (sym (q.whole ∙ pipeline_same first q.added)) (g.piped p q.phrase)

-- assignments
record AddsPairs (ts : List Lexeme) (front : Many t.pair) (x : Node t.cmd × List Lexeme) : Type 0 where
  added : Many t.pair × Node t.cmd
  whole : x.0 ≡ t.Assign (append front added.0) added.1
  phrase : Phrase g.values ts added x.1

last_pairs : (ts : List Lexeme) (front : Many t.pair) (c : Node t.cmd) (mid : List Lexeme) (x : Node t.cmd × List Lexeme) → Phrase g.values ts (none, c) mid →
    done (t.Assign front c, mid) ≡ Ok x → AddsPairs ts front x
last_pairs ts front c mid x p h =
    let e = ok_same (t.Assign front c, mid) x h in
    record {
      added = (none, c);
      whole = sym (ap (λ z. z.0) e) ∙ ap (λ z. t.Assign z c) (sym (append_none front));
      phrase = subst (λ z. Phrase g.values ts (none, c) z.1) e p;
    }

value_turn_sound : (r : Readers) → Sound r → (k : ℕ) (go_on : Many t.pair → Reader (Node t.cmd))
    (goes : (front : Many t.pair) (ts : List Lexeme) (x : Node t.cmd × List Lexeme) → length ts ≤ k → go_on front ts ≡ Ok x → AddsPairs ts front x)
    (ts : List Lexeme) (front : Many t.pair) (o : Opening) (mid : List Lexeme) (x : Node t.cmd × List Lexeme) → length ts ≤ suc k → IsOpening ts o mid →
    d.value_turn r go_on front o mid ≡ Ok x → AddsPairs ts front x
value_turn_sound r s k go_on goes ts front (Named a) mid x le p h =
    let w = bind_ok (d.arg_by (r (d.a_part false)) false mid) _ x h in
    let v = arg_sound (r (d.a_part false)) false (s.part false) mid w.0 w.1 in
    let one = Phrase-shorter p.1 in
    let two = Phrase-shorter v in
    let q = goes (snoc front (t.Pair a w.0.0)) w.0.1 x (omega arith) w.2 in
    record {
      added = (more (t.Pair a w.0.0) q.added.0, q.added.1);
      whole = q.whole ∙ ap (λ z. t.Assign z q.added.1) (append_snoc front (t.Pair a w.0.0) q.added.0);
      phrase = g.another_value p.0 p.1 v q.phrase;
    }
value_turn_sound r s k go_on goes ts front (Staged c) mid x le p h =
    let w = bind_ok (d.pipe_by r c mid) _ x h in
    last_pairs ts front w.0.0 w.0.1 x (g.values_pipe (pipe_sound r s ts c mid w.0 p w.1)) w.2

leading_begins : (ts : List Lexeme) → begins_command ts ≡ false → d.begins_leading ts ≡ true → ⊥
leading_begins (Word text ∷ ts) h k = cc
leading_begins (Redirection mode slot ∷ ts) h k = cc
leading_begins (CopyTo to from ∷ ts) h k = cc
leading_begins (HereDoc quoted text ∷ ts) h k = cc
leading_begins ts h k = cc

values_sound : (r : Readers) → Sound r → (k : ℕ) (front : Many t.pair) (ts : List Lexeme) (x : Node t.cmd × List Lexeme) → length ts ≤ k → d.values_from r k front ts ≡ Ok x → AddsPairs ts front x
unfolding d.values_from
values_sound r s zero front [] x le h = last_pairs [] front t.Empty [] x (g.values_alone refl) h
values_sound r s zero front (l ∷ ts) x le h = absurd (omega arith)
values_sound r s (suc k) front ts x le h = elim (if_ok (d.begins_leading ts) _ _ x h) [
  | inl b ↦ (let w = bind_ok (d.leading_by r false ts) _ x b.1 in
      last_pairs ts front w.0.0 w.0.1 x (g.values_leading (leading_sound r s false ts w.0 w.1)) w.2)
  | inr b ↦ elim (if_ok (begins_command ts) _ _ x b.1) [
    | inl c ↦ (let w = bind_ok (d.opening_by r ts) _ x c.1 in
        value_turn_sound r s k (λ ps u. d.values_from r k ps u) (values_sound r s k) ts front w.0.0 w.0.1 x le (opening_sound r s ts w.0 w.1) w.2)
    | inr c ↦ last_pairs ts front t.Empty ts x (g.values_alone c.0) c.1
  ]
]

assigned_sound : (r : Readers) → Sound r → (ts : List Lexeme) (a : Node t.arg) (mid : List Lexeme) (x : Node t.cmd × List Lexeme) → IsOpening ts (Named a) mid → d.assigned_by r a mid ≡ Ok x →
    Phrase g.assigned ts x.0 x.1
unfolding d.assigned_by d.values_by
assigned_sound r s ts a mid x p h =
    let w = bind_ok (d.arg_by (r (d.a_part false)) false mid) _ x h in
    let q = values_sound r s (length w.0.1) (more (t.Pair a w.0.0) none) w.0.1 x (omega arith) w.2 in
    subst (λ z. Phrase g.assigned ts z x.1) (sym q.whole) (g.assignment p.0 p.1 (arg_sound (r (d.a_part false)) false (s.part false) mid w.0 w.1) q.phrase)

-- operands
opened_sound : (r : Readers) → Sound r → (f : Bool) (ts : List Lexeme) (o : Opening) (mid : List Lexeme) (x : Node t.cmd × List Lexeme) → IsOpening ts o mid → d.opened_by r o mid ≡ Ok x →
    Phrase (g.operand f) ts x.0 x.1
opened_sound r s f ts (Named a) mid x p h = g.assigned_operand (assigned_sound r s ts a mid x p h)
opened_sound r s f ts (Staged c) mid x p h = g.pipe_operand (pipe_sound r s ts c mid x p h)

pub operand_sound : (r : Readers) → Sound r → (f : Bool) (ts : List Lexeme) (x : Node t.cmd × List Lexeme) → d.operand_by r f ts ≡ Ok x → Phrase (g.operand f) ts x.0 x.1
unfolding d.operand_by
operand_sound r s f ts x h = elim (if_ok (d.begins_leading ts) _ _ x h) [
  | inl b ↦ g.leading_operand (leading_sound r s f ts x b.1)
  | inr b ↦ (let w = bind_ok (d.opening_by r ts) _ x b.1 in opened_sound r s f ts w.0.0 w.0.1 x (opening_sound r s ts w.0 w.1) w.2)
]

last_sound : (ts : List Lexeme) (o : Read (Node t.cmd)) (x : (Node t.cmd × Bool) × List Lexeme) →
    ((y : Node t.cmd × List Lexeme) → o ≡ Ok y → Phrase (g.leading false) ts y.0 y.1 ⊎ Phrase g.assigned ts y.0 y.1) → d.last_stage o ≡ Ok x → IsPiped ts x.0.0 x.0.1 x.1
last_sound ts o x f h =
    let w = bind_ok o _ x h in
    subst (λ z. IsPiped ts z.0.0 z.0.1 z.1) (ok_same ((w.0.0, false), w.0.1) x w.2) (f w.0 w.1)

piped_open_sound : (r : Readers) → Sound r → (ts : List Lexeme) (o : Opening) (mid : List Lexeme) (x : (Node t.cmd × Bool) × List Lexeme) → IsOpening ts o mid → d.piped_open r o mid ≡ Ok x →
    IsPiped ts x.0.0 x.0.1 x.1
piped_open_sound r s ts (Named a) mid x p h = last_sound ts (d.assigned_by r a mid) x (λ y e. inr (assigned_sound r s ts a mid y p e)) h
piped_open_sound r s ts (Staged c) mid x p h = subst (λ z. IsPiped ts z.0.0 z.0.1 z.1) (ok_same ((c, true), mid) x h) p

pub piped_sound : (r : Readers) → Sound r → (ts : List Lexeme) (x : (Node t.cmd × Bool) × List Lexeme) → d.piped_by r ts ≡ Ok x → IsPiped ts x.0.0 x.0.1 x.1
unfolding d.piped_by
piped_sound r s ts x h = elim (if_ok (d.begins_leading ts) _ _ x h) [
  | inl b ↦ last_sound ts (d.leading_by r false ts) x (λ y e. inl (leading_sound r s false ts y e)) b.1
  | inr b ↦ (let w = bind_ok (d.opening_by r ts) _ x b.1 in piped_open_sound r s ts w.0.0 w.0.1 x (opening_sound r s ts w.0 w.1) w.2)
]
