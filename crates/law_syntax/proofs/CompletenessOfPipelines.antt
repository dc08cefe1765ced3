-- Each phrase is read, unless its tree is too deep or a pipeline in it too long: pipelines, assignments and operands.
use Rattle.std.proofs.Common.{◌≡◌, ℕ, zero, suc, ◌+◌, ◌<◌, ◌≤◌, max, Bool, true, false, List, ◌∷◌, length, Ok, Err, if◌then◌else◌, refl, sym, ap, subst, ◌∙◌, arith, nat_lt}
use Rattle.std.proofs.lemmas.Bool.{ltb-false}
use Rattle.rc_model.specs.Syntax.Tokens.{Lexeme, Word, Bar, Redirection, CopyTo, HereDoc}
use Rattle.rc_model.specs.Syntax.Tree.{Node, Many, none, more, count, snoc}
use Rattle.rc_model.specs.Syntax.Tree as t
use Rattle.rc_model.specs.Syntax.WellFormed.{depth, depths, most_stages, most_stages_in}
use Rattle.rc_model.specs.Syntax.Grammar.{Phrase, past_newlines, pipeline, stages_of, last_of, begins_command, begins_bar}
use Rattle.rc_model.specs.Syntax.Grammar as g
use Rattle.rc_model.specs.Mirrors.Descent as d
use Rattle.rc_model.specs.Mirrors.Descent.{Read, Reader, Readers, Staged, Named}
use Rattle.law_syntax.proofs.Shorter.{Phrase-shorter, past_newlines-shorter}
use Rattle.law_syntax.proofs.Lists.{append, append_snoc, append_none, count_snoc}
use Rattle.law_syntax.proofs.Beginnings.{arg_begins, arg_commands, stage_commands}
use Rattle.law_syntax.proofs.SoundnessOfPipelines.{pipeline_same}
use Rattle.law_syntax.proofs.CompletenessOfArguments.{Meets, deepen, bind, Good}
use Rattle.law_syntax.proofs.CompletenessOfForms.{stage_meets, named_meets, leading_leads, first_follows, stage_follows, arg_deeper, leading_meets}
use Rattle.rc_model.specs.declared.fault.DescentFault.TheVariants as descent

-- pipelines: how tall and how wide the stages are together
stages_tall : (c : Node t.cmd) (ss : Many t.stage) → (depths (stages_of c ss) ≤ max (depth c) (depths ss)) × (depth (last_of c ss) ≤ max (depth c) (depths ss)) ×
    (depths ss ≤ max (depths (stages_of c ss)) (depth (last_of c ss))) × (depth c ≤ max (depths (stages_of c ss)) (depth (last_of c ss))) ×
    (most_stages_in ss ≤ max (most_stages_in (stages_of c ss)) (most_stages (last_of c ss))) × (most_stages c ≤ max (most_stages_in (stages_of c ss)) (most_stages (last_of c ss))) ×
    (count (stages_of c ss) ≡ count ss)
stages_tall c none = (omega arith, omega arith, omega arith, omega arith, omega arith, omega arith, refl)
stages_tall c (more (t.Stage e slot) ss) = let h = stages_tall e ss in (omega arith, omega arith, omega arith, omega arith, omega arith, omega arith, omega arith)

-- a pipeline has at least the height and the width of each of its stages
record Piped (c : Node t.cmd) (ss : Many t.stage) : Type 0 where
  first : depth c ≤ depth (pipeline c ss)
  others : 0 < count ss → suc (depths ss) ≤ depth (pipeline c ss)
  first_wide : most_stages c ≤ most_stages (pipeline c ss)
  others_wide : most_stages_in ss ≤ most_stages (pipeline c ss)
  wide : 64 ≤ count ss → 64 < most_stages (pipeline c ss)

pipeline_tall : (c : Node t.cmd) (ss : Many t.stage) → Piped c ss
pipeline_tall c none = record { first = omega arith; others = λ h. absurd (omega arith); first_wide = omega arith; others_wide = omega arith; wide = λ h. absurd (omega arith) }
pipeline_tall c (more s ss) =
    let h = stages_tall c (more s ss) in
    record { first = omega arith; others = λ k. omega arith; first_wide = omega arith; others_wide = omega arith; wide = λ k. omega arith }

-- no stage follows if no bar does
pub pipe_stops : (r : Readers) (go_on : Many t.stage → Node t.cmd → Reader (Node t.cmd)) (front : Many t.stage) (last : Node t.cmd) (ts : List Lexeme) → begins_bar ts ≡ false →
    d.pipe_turn r go_on front last ts ≡ Ok (d.pipeline_of front last, ts)
pipe_stops r go_on front last (Bar slot ∷ ts) h = absurd cc
pipe_stops r go_on front last ts h = refl

-- a bar is passed where there are few stages so far, and is one too many where there are 64 with it
unless_full : (left a T W n : ℕ) (b : Bool) (o : Read (Node t.cmd)) (y : Node t.cmd × List Lexeme) → nat_lt n 64 ≡ b → (64 ≤ n → 64 < W) → Meets a T W o y →
    Meets a T W (if b then o else Err (descent.TooManyStages, left)) y
unless_full left a T W n true o y h k m = m
unless_full left a T W n false o y h k m = record { met = k (ltb-false n 64 h) }

one_stage : (front : Many t.stage) (last : Node t.cmd) (slot : ℕ) → snoc front (t.Stage last slot) ≡ append front (more (t.Stage last slot) none)
one_stage front last slot = sym (append_none (snoc front (t.Stage last slot))) ∙ append_snoc front (t.Stage last slot) none

last_one : (front : Many t.stage) (last c : Node t.cmd) (slot : ℕ) (rest : List Lexeme) →
    ◌≡◌ {A = Node t.cmd × List Lexeme} (d.pipeline_of (snoc front (t.Stage last slot)) c, rest) (d.pipeline_of (append front (more (t.Stage last slot) none)) c, rest)
last_one front last c slot rest = ap (λ z. (d.pipeline_of z c, rest)) (one_stage front last slot)

pipe_from_meets : (a T W : ℕ) (r : Readers) → Good a r → (k : ℕ) (front : Many t.stage) (last : Node t.cmd) {ts : List Lexeme} {ss : Many t.stage} {rest : List Lexeme} →
    Phrase g.bars ts ss rest → length ts ≤ k → (0 < count ss → suc (depths ss) ≤ T) → most_stages_in ss ≤ W → (64 ≤ count front + count ss → 64 < W) →
    Meets (suc a) T W (d.pipe_from r k front last ts) (d.pipeline_of (append front (stages_of last ss)) (last_of last ss), rest)
unfolding d.pipe_from
pipe_from_meets a T W r gr zero front last (g.no_bar {rest = rest} h) le dt dw dc = record { met = ap (λ z. (d.pipeline_of z last, rest)) (sym (append_none front)) }
pipe_from_meets a T W r gr (suc k) front last (g.no_bar {rest = rest} h) le dt dw dc =
    rw (pipe_stops r (λ ss c u. d.pipe_from r k ss c u) front last rest h) (record { met = ap (λ z. (d.pipeline_of z last, rest)) (sym (append_none front)) })
pipe_from_meets a T W r gr zero front last (g.bar_stage q s) le dt dw dc = absurd (omega arith)
pipe_from_meets a T W r gr (suc k) front last (g.bar_stage {slot = slot} {ts = ts} {mid = mid} {rest = rest} {c = c} {ss = ss} q s) le dt dw dc =
    let one = past_newlines-shorter ts in
    let two = Phrase-shorter q in
    let high = dt (omega arith) in
    let more' = count_snoc front (t.Stage last slot) in
    unless_full _ (suc a) T W (suc (count front)) (nat_lt (suc (count front)) 64) _ _ refl (λ h. dc (omega arith))
    (bind (r d.a_piped (past_newlines ts)) _ ((c, true), mid) _ (deepen (r d.a_piped (past_newlines ts)) ((c, true), mid) (gr.stage q) (omega arith) (omega arith))
    (subst (λ z. Meets (suc a) T W (d.pipe_from r k (snoc front (t.Stage last slot)) c mid) (d.pipeline_of z (last_of c ss), rest)) (append_snoc front (t.Stage last slot) (stages_of c ss))
    (pipe_from_meets a T W r gr k (snoc front (t.Stage last slot)) c s (omega arith) (λ h. omega arith) (omega arith) (λ h. dc (omega arith)))))
pipe_from_meets a T W r gr zero front last (g.bar_leading q) le dt dw dc = absurd (omega arith)
pipe_from_meets a T W r gr (suc k) front last (g.bar_leading {slot = slot} {ts = ts} {rest = rest} {c = c} q) le dt dw dc =
    let high = dt (omega arith) in
    unless_full _ (suc a) T W (suc (count front)) (nat_lt (suc (count front)) 64) _ _ refl (λ h. dc (omega arith))
    (bind (r d.a_piped (past_newlines ts)) _ ((c, false), rest) _ (deepen (r d.a_piped (past_newlines ts)) ((c, false), rest) (gr.leading q) (omega arith) (omega arith))
    (record { met = last_one front last c slot rest }))
pipe_from_meets a T W r gr zero front last (g.bar_assigned q) le dt dw dc = absurd (omega arith)
pipe_from_meets a T W r gr (suc k) front last (g.bar_assigned {slot = slot} {ts = ts} {rest = rest} {c = c} q) le dt dw dc =
    let high = dt (omega arith) in
    unless_full _ (suc a) T W (suc (count front)) (nat_lt (suc (count front)) 64) _ _ refl (λ h. dc (omega arith))
    (bind (r d.a_piped (past_newlines ts)) _ ((c, false), rest) _ (deepen (r d.a_piped (past_newlines ts)) ((c, false), rest) (gr.assigned q) (omega arith) (omega arith))
    (record { met = last_one front last c slot rest }))

pipe_meets : (a T W : ℕ) (r : Readers) → Good a r → (first : Node t.cmd) {ts : List Lexeme} {ss : Many t.stage} {rest : List Lexeme} → Phrase g.bars ts ss rest →
    depth (pipeline first ss) ≤ T → most_stages (pipeline first ss) ≤ W → Meets (suc a) T W (d.pipe_by r first ts) (pipeline first ss, rest)
unfolding d.pipe_by
pipe_meets a T W r gr first {ts = ts} {ss = ss} {rest = rest} q dt dw =
    let p = pipeline_tall first ss in
    let others = p.others_wide in
    subst (λ z. Meets (suc a) T W (d.pipe_from r (length ts) none first ts) (z, rest)) (pipeline_same first ss)
    (pipe_from_meets a T W r gr (length ts) none first q (omega arith) (λ h. let k = p.others h in omega arith) (omega arith) (λ h. let k = p.wide (omega arith) in omega arith))

-- assignments
alone_follows : (ts : List Lexeme) → begins_command ts ≡ false → d.begins_leading ts ≡ false
alone_follows (Word text ∷ ts) h = absurd cc
alone_follows (Redirection mode slot ∷ ts) h = absurd cc
alone_follows (CopyTo to from ∷ ts) h = absurd cc
alone_follows (HereDoc quoted text ∷ ts) h = absurd cc
alone_follows ts h = refl

values_from_meets : (a T W : ℕ) (r : Readers) → Good a r → (k : ℕ) (front : Many t.pair) {ts : List Lexeme} {x : Many t.pair × Node t.cmd} {rest : List Lexeme} → Phrase g.values ts x rest →
    length ts ≤ k → suc (depths x.0) ≤ T → suc (depth x.1) ≤ T → most_stages_in x.0 ≤ W → most_stages x.1 ≤ W →
    Meets (suc a) T W (d.values_from r k front ts) (t.Assign (append front x.0) x.1, rest)
unfolding d.values_from
values_from_meets a T W r gr zero front (g.values_alone {rest = rest} h) le d1 d2 w1 w2 = record { met = ap (λ z. (t.Assign z t.Empty, rest)) (sym (append_none front)) }
values_from_meets a T W r gr (suc k) front (g.values_alone {rest = rest} h) le d1 d2 w1 w2 =
    rw (alone_follows rest h, h) (record { met = ap (λ z. (t.Assign z t.Empty, rest)) (sym (append_none front)) })
values_from_meets a T W r gr zero front (g.values_leading q) le d1 d2 w1 w2 = let one = Phrase-shorter q in absurd (omega arith)
values_from_meets a T W r gr (suc k) front (g.values_leading {ts = ts} {rest = rest} {c = c} q) le d1 d2 w1 w2 =
    rw (leading_leads q) (bind (d.leading_by r false ts) _ (c, rest) (t.Assign (append front none) c, rest) (leading_meets a T W r gr q (omega arith) (omega arith))
    (record { met = ap (λ z. (t.Assign z c, rest)) (sym (append_none front)) }))
values_from_meets a T W r gr zero front (g.values_pipe q) le d1 d2 w1 w2 = let one = Phrase-shorter q in absurd (omega arith)
values_from_meets a T W r gr (suc k) front (g.values_pipe (g.piped {ts = ts} {mid = mid} {rest = rest} {c = c} {ss = ss} q s)) le d1 d2 w1 w2 =
    let p = pipeline_tall c ss in
    rw (stage_follows q, stage_commands q) (bind (d.opening_by r ts) _ (Staged c, mid) (t.Assign (append front none) (pipeline c ss), rest)
    (stage_meets a T W r gr q (omega (arith, p.first)) (omega (arith, p.first_wide)))
    (bind (d.pipe_by r c mid) _ (pipeline c ss, rest) (t.Assign (append front none) (pipeline c ss), rest) (pipe_meets a T W r gr c s (omega arith) (omega arith))
    (record { met = ap (λ z. (t.Assign z (pipeline c ss), rest)) (sym (append_none front)) })))
values_from_meets a T W r gr zero front (g.another_value h q s v) le d1 d2 w1 w2 = let one = Phrase-shorter q in absurd (omega arith)
values_from_meets a T W r gr (suc k) front (g.another_value {ts = ts} {next = next} {mid = mid} {rest = rest} {a = n} {v = m} {x = x} h q s v) le d1 d2 w1 w2 =
    let one = Phrase-shorter q in
    let two = Phrase-shorter s in
    rw (first_follows ts h, arg_commands ts (arg_begins q)) (bind (d.opening_by r ts) _ (Named n, next) (t.Assign (append front (more (t.Pair n m) x.0)) x.1, rest)
    (named_meets a T W r gr h q (omega arith) (omega arith))
    (bind (d.arg_by (r (d.a_part false)) false next) _ (m, mid) (t.Assign (append front (more (t.Pair n m) x.0)) x.1, rest) (arg_deeper a T W r gr false s (omega arith) (omega arith))
    (subst (λ z. Meets (suc a) T W (d.values_from r k (snoc front (t.Pair n m)) mid) (t.Assign z x.1, rest)) (append_snoc front (t.Pair n m) x.0)
    (values_from_meets a T W r gr k (snoc front (t.Pair n m)) v (omega arith) (omega arith) (omega arith) (omega arith) (omega arith)))))

assigned_meets : (a T W : ℕ) (r : Readers) → Good a r → {next mid rest : List Lexeme} {n v : Node t.arg} {x : Many t.pair × Node t.cmd} → Phrase (g.arg false) next v mid →
    Phrase g.values mid x rest → depth (t.Assign (more (t.Pair n v) x.0) x.1) ≤ T → most_stages (t.Assign (more (t.Pair n v) x.0) x.1) ≤ W →
    Meets (suc a) T W (d.assigned_by r n next) (t.Assign (more (t.Pair n v) x.0) x.1, rest)
unfolding d.assigned_by d.values_by
assigned_meets a T W r gr {next = next} {mid = mid} {rest = rest} {n = n} {v = m} {x = x} q s dt dw =
    bind (d.arg_by (r (d.a_part false)) false next) _ (m, mid) (t.Assign (more (t.Pair n m) x.0) x.1, rest) (arg_deeper a T W r gr false q (omega arith) (omega arith))
    (values_from_meets a T W r gr (length mid) (more (t.Pair n m) none) s (omega arith) (omega arith) (omega arith) (omega arith) (omega arith))

-- operands, and what follows a bar
pub operand_meets : (a T W : ℕ) (r : Readers) → Good a r → {f : Bool} {ts : List Lexeme} {c : Node t.cmd} {rest : List Lexeme} → Phrase (g.operand f) ts c rest → depth c ≤ T → most_stages c ≤ W →
    Meets (suc a) T W (d.operand_by r f ts) (c, rest)
unfolding d.operand_by
operand_meets a T W r gr (g.leading_operand q) dt dw = rw (leading_leads q) (leading_meets a T W r gr q dt dw)
operand_meets a T W r gr (g.assigned_operand (g.assignment {ts = ts} {next = next} {rest = rest} {a = n} {v = m} {x = x} h q s v)) dt dw =
    rw (first_follows ts h) (bind (d.opening_by r ts) _ (Named n, next) (t.Assign (more (t.Pair n m) x.0) x.1, rest) (named_meets a T W r gr h q (omega arith) (omega arith))
    (assigned_meets a T W r gr {next = next} s v dt dw))
operand_meets a T W r gr (g.pipe_operand (g.piped {ts = ts} {mid = mid} {rest = rest} {c = c} {ss = ss} q s)) dt dw =
    let p = pipeline_tall c ss in
    rw (stage_follows q) (bind (d.opening_by r ts) _ (Staged c, mid) (pipeline c ss, rest) (stage_meets a T W r gr q (omega (arith, p.first)) (omega (arith, p.first_wide)))
    (pipe_meets a T W r gr c s dt dw))

pub piped_stage_meets : (a T W : ℕ) (r : Readers) → Good a r → {ts : List Lexeme} {c : Node t.cmd} {rest : List Lexeme} → Phrase g.stage ts c rest → depth c ≤ T → most_stages c ≤ W →
    Meets (suc a) T W (d.piped_by r ts) ((c, true), rest)
unfolding d.piped_by
piped_stage_meets a T W r gr {ts = ts} {c = c} {rest = rest} q dt dw =
    rw (stage_follows q) (bind (d.opening_by r ts) _ (Staged c, rest) ((c, true), rest) (stage_meets a T W r gr q dt dw) (record { met = refl }))

pub piped_leading_meets : (a T W : ℕ) (r : Readers) → Good a r → {ts : List Lexeme} {c : Node t.cmd} {rest : List Lexeme} → Phrase (g.leading false) ts c rest → depth c ≤ T → most_stages c ≤ W →
    Meets (suc a) T W (d.piped_by r ts) ((c, false), rest)
unfolding d.piped_by
piped_leading_meets a T W r gr {ts = ts} {c = c} {rest = rest} q dt dw =
    rw (leading_leads q) (bind (d.leading_by r false ts) _ (c, rest) ((c, false), rest) (leading_meets a T W r gr q dt dw) (record { met = refl }))

pub piped_assigned_meets : (a T W : ℕ) (r : Readers) → Good a r → {ts : List Lexeme} {c : Node t.cmd} {rest : List Lexeme} → Phrase g.assigned ts c rest → depth c ≤ T → most_stages c ≤ W →
    Meets (suc a) T W (d.piped_by r ts) ((c, false), rest)
unfolding d.piped_by
piped_assigned_meets a T W r gr (g.assignment {ts = ts} {next = next} {rest = rest} {a = n} {v = m} {x = x} h q s v) dt dw =
    let c : Node t.cmd = t.Assign (more (t.Pair n m) x.0) x.1 in
    rw (first_follows ts h) (bind (d.opening_by r ts) _ (Named n, next) ((c, false), rest) (named_meets a T W r gr h q (omega arith) (omega arith))
    (bind (d.assigned_by r n next) _ (c, rest) ((c, false), rest) (assigned_meets a T W r gr {next = next} s v dt dw) (record { met = refl })))
