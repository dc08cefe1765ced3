-- A tree of spelled lexemes is sound, unless it has too many stages.
use Rattle.std.proofs.Common.{◌≡◌, sym, subst, refl, ℕ, suc, ◌≤◌, max, Bool, true, false, ◌&&◌, List, ◌∷◌, arith, nat_lt}
use Rattle.std.proofs.lemmas.Bool.{and_from, lt-ltb}
use Rattle.rc_model.specs.Syntax.Text.{without_zero}
use Rattle.rc_model.specs.Syntax.Tree.{Sort, Node, Many, none, more, count}
use Rattle.rc_model.specs.Syntax.Tree as t
use Rattle.rc_model.specs.Syntax.Tokens.{Lexeme}
use Rattle.rc_model.specs.Syntax.Tokens as k
use Rattle.rc_model.specs.Syntax.WellFormed.{is_sound, are_sound, most_stages, most_stages_in, has_some, has_several, is_output, has_text}
use Rattle.rc_model.specs.Syntax.Grammar.{Level, Out, Phrase, past_blanks, concat_of, redirect, stages_of, last_of, pipeline, and_or}
use Rattle.rc_model.specs.Syntax.Grammar as g
use Rattle.rc_model.specs.Mirrors.Spelling.{IsText, IsWord, IsName, AreSpelled}
use Rattle.rc_model.specs.Mirrors.ParsingLaws.{HasSoundTrees}
use Rattle.law_syntax.proofs.Zeros.{clean_text, clean_name, has_some_text}
use Rattle.law_syntax.proofs.Bodies.{pieces_sound}
use Rattle.law_syntax.proofs.Passed.{past_newlines_spelled, past_blanks_spelled, past_caret_spelled, after_caret_spelled}

-- a tree is sound, and each of several, where none of their pipelines has too many stages
record Sound {s : Sort} (n : Node s) : Type 0 where
  sound : most_stages n ≤ 64 → is_sound n ≡ true

record AllSound {s : Sort} (ns : Many s) : Type 0 where
  sound : most_stages_in ns ≤ 64 → are_sound ns ≡ true

-- so is each of some stages, with a descriptor that goes into a pipe
abbrev AreStages : Many t.stage → Type 0
AreStages none = Unit {0}
AreStages (more (t.Stage c slot) ss) = (is_output slot ≡ true) × (Sound c × AreStages ss)

both : {a b : ℕ} {p q : Bool} → (a ≤ 64 → p ≡ true) → (b ≤ 64 → q ≡ true) → max a b ≤ 64 → (p && q) ≡ true
both {a} {b} {p} {q} x y narrow = and_from p q (x (omega arith)) (y (omega arith))

given : {a : ℕ} {r p : Bool} → r ≡ true → (a ≤ 64 → p ≡ true) → a ≤ 64 → (r && p) ≡ true
given {a} {r} {p} e x narrow = and_from r p e (x narrow)

some : {s : Sort} (n : Node s) (ns : Many s) → has_some (more n ns) ≡ true
some n ns = lt-ltb 0 (suc (count ns)) (omega arith)

several : {s : Sort} (m n : Node s) (ns : Many s) → has_several (more m (more n ns)) ≡ true
several m n ns = lt-ltb 1 (suc (suc (count ns))) (omega arith)

no_more : {s : Sort} → AllSound {s = s} none
no_more = record { sound = λ narrow. refl }

empty : Sound t.Empty
empty = record { sound = λ narrow. refl }

quoted_sound : (text : List ℕ) → IsText text → Sound (t.Lit text true)
quoted_sound text x = record { sound = λ narrow. clean_text text x }

word_sound : (text : List ℕ) → IsWord text → Sound (t.Lit text false)
word_sound text x = record { sound = λ narrow. and_from (has_text text) (without_zero text) (has_some_text text x.1.0) (clean_text text x.0) }

bare_name_sound : (text : List ℕ) → IsName text → Sound (t.Lit text false)
bare_name_sound text x = record { sound = λ narrow. and_from (has_text text) (without_zero text) (has_some_text text x.0) (clean_name text x.1) }

concat_sound : (a : Node t.arg) (as' : Many t.arg) → Sound a → AllSound as' → Sound (concat_of a as')
concat_sound a none x y = x
concat_sound a (more p ps) x y = record { sound = given (several a p ps) (both x.sound y.sound) }

redirect_sound : (rs : Many t.redir) (c : Node t.cmd) → AllSound rs → Sound c → Sound (redirect rs c)
redirect_sound none c x y = y
redirect_sound (more r rs) c x y = record { sound = given (some r rs) (both x.sound y.sound) }

and_or_sound : (c : Node t.cmd) (ls : Many t.link) → Sound c → AllSound ls → Sound (and_or c ls)
and_or_sound c none x y = x
and_or_sound c (more l ls) x y = record { sound = given (some l ls) (both x.sound y.sound) }

stages_sound : (ss : Many t.stage) → AreStages ss → AllSound ss
stages_sound none x = no_more
stages_sound (more (t.Stage c slot) ss) x = record { sound = both (given x.0 x.1.0.sound) (stages_sound ss x.1.1).sound }

-- the bars move from before a stage to after one
moved : (c : Node t.cmd) (ss : Many t.stage) → Sound c → AreStages ss → AreStages (stages_of c ss) × Sound (last_of c ss)
moved c none x y = (tt, x)
moved c (more (t.Stage d slot) ss) x y = let rest = moved d ss y.1.0 y.1.1 in ((y.0, (x, rest.0)), rest.1)

few : (n a : ℕ) (p : Bool) → (a ≤ 64 → p ≡ true) → max (suc (suc n)) a ≤ 64 → ((nat_lt 0 (suc n) && nat_lt (suc n) 64) && p) ≡ true
few n a p x narrow =
    and_from (nat_lt 0 (suc n) && nat_lt (suc n) 64) p
    (and_from (nat_lt 0 (suc n)) (nat_lt (suc n) 64) (lt-ltb 0 (suc n) (omega arith)) (lt-ltb (suc n) 64 (omega arith))) (x (omega arith))

pipeline_sound : (c : Node t.cmd) (ss : Many t.stage) → Sound c → AreStages ss → Sound (pipeline c ss)
pipeline_sound c none x y = x
pipeline_sound c (more (t.Stage d slot) ss) x y =
    let m = moved c (more (t.Stage d slot) ss) x y in
    let st = stages_of c (more (t.Stage d slot) ss) in
    let last = last_of c (more (t.Stage d slot) ss) in
    let whole = both (stages_sound st m.0).sound m.1.sound in
    record { sound = few (count (stages_of d ss)) (max (most_stages_in st) (most_stages last)) (are_sound st && is_sound last) whole }

-- what is said of the tree of each level
abbrev Holds : (l : Level) → Out l → Type 0
Holds g.name n = Sound n
Holds (g.part inside) a = Sound a
Holds (g.arg inside) a = Sound a
Holds (g.parts inside) as' = AllSound as'
Holds g.members as' = AllSound as'
Holds g.words as' = AllSound as'
Holds g.redir r = Sound r
Holds g.redirs rs = AllSound rs
Holds g.simple x = AllSound x.0 × AllSound x.1
Holds g.brace c = Sound c
Holds g.paren c = Sound c
Holds g.stage c = Sound c
Holds g.bars ss = AreStages ss
Holds g.pipe c = Sound c
Holds (g.leading after_if) c = Sound c
Holds g.assigned c = Sound c
Holds g.values x = AllSound x.0 × Sound x.1
Holds (g.operand after_if) c = Sound c
Holds g.optional c = Sound c
Holds g.links ls = AllSound ls
Holds (g.command after_if) c = Sound c
Holds g.body c = Sound c
Holds (g.items in_switch after_if) is = AllSound is
Holds (g.after in_switch after_if) x = AllSound x.1
Holds g.branches bs = AllSound bs

sound_of : {l : Level} {ts rest : List Lexeme} {x : Out l} → Phrase l ts x rest → AreSpelled ts → Holds l x × AreSpelled rest
sound_of (g.bare_name {text = text}) w = (bare_name_sound text w.0, w.1)
sound_of (g.quoted_name {text = text}) w = (quoted_sound text w.0, w.1)
sound_of (g.named_name p) w = let b = sound_of p w.1 in (record { sound = b.0.sound }, b.1)
sound_of (g.word_part {text = text}) w = (word_sound text w.0, w.1)
sound_of (g.quoted_part {text = text}) w = (quoted_sound text w.0, w.1)
sound_of (g.paren_part p) w = let b = sound_of p w.1 in (record { sound = b.0.sound }, b.1)
sound_of (g.back_part {inside = inside} {ts = ts} p) w = let b = sound_of p (past_blanks_spelled inside ts w.1) in (record { sound = b.0.sound }, b.1)
sound_of (g.var_part p e) w = let b = sound_of p w.1 in (record { sound = b.0.sound }, b.1)
sound_of (g.sub_part p q) w = let a = sound_of p w.1 in let b = sound_of q a.1.1 in (record { sound = both a.0.sound b.0.sound }, b.1)
sound_of (g.count_part p) w = let b = sound_of p w.1 in (record { sound = b.0.sound }, b.1)
sound_of (g.flat_part p) w = let b = sound_of p w.1 in (record { sound = b.0.sound }, b.1)
sound_of (g.joined {a = a} {as' = as'} p q) w = let b = sound_of p w in let c = sound_of q b.1 in (concat_sound a as' b.0 c.0, c.1)
sound_of (g.no_caret e) w = (no_more, w)
sound_of (g.caret {inside = inside} {ts = ts} {next = next} e p q) w =
    let n = after_caret_spelled (past_blanks inside ts) next e (past_blanks_spelled inside ts w) in
    let b = sound_of p (past_blanks_spelled inside next n) in
    let c = sound_of q b.1 in
    (record { sound = both b.0.sound c.0.sound }, c.1)
sound_of g.no_member w = (no_more, w.1)
sound_of (g.blank_member p) w = sound_of p w.1
sound_of (g.member p q) w = let b = sound_of p w in let c = sound_of q b.1 in (record { sound = both b.0.sound c.0.sound }, c.1)
sound_of (g.no_word e) w = (no_more, w)
sound_of (g.word p q) w = let b = sound_of p w in let c = sound_of q b.1 in (record { sound = both b.0.sound c.0.sound }, c.1)
sound_of (g.open_redir p) w = let b = sound_of p w.1 in (record { sound = given w.0 b.0.sound }, b.1)
sound_of g.copy_redir w = (record { sound = λ narrow. w.0 }, w.1)
sound_of (g.here_redir {quoted = quoted} {text = text}) w = (record { sound = λ narrow. pieces_sound quoted text w.0 }, w.1)
sound_of (g.no_redir e) w = (no_more, w)
sound_of (g.redir_more p q) w = let b = sound_of p w in let c = sound_of q b.1 in (record { sound = both b.0.sound c.0.sound }, c.1)
sound_of (g.simple_end e f) w = ((no_more, no_more), w)
sound_of (g.simple_word p q) w = let b = sound_of p w in let c = sound_of q b.1 in ((record { sound = both b.0.sound c.0.0.sound }, c.0.1), c.1)
sound_of (g.simple_redir p q) w = let b = sound_of p w in let c = sound_of q b.1 in ((c.0.0, record { sound = both b.0.sound c.0.1.sound }), c.1)
sound_of (g.braced p) w = let b = sound_of p w.1 in (record { sound = b.0.sound }, b.1.1)
sound_of (g.parenthesised p) w = let b = sound_of p w.1 in (record { sound = b.0.sound }, b.1.1)
sound_of (g.simple_stage {a = a} {x = x} e p f q) w =
    let b = sound_of p w in
    let c = sound_of q b.1 in
    (redirect_sound x.1 (t.Simple (more a x.0)) c.0.1 (record { sound = given (some a x.0) (both b.0.sound c.0.0.sound) }), c.1)
sound_of (g.brace_stage {c = c} {rs = rs} p q) w = let b = sound_of p w in let d = sound_of q b.1 in (redirect_sound rs (t.Brace c) d.0 (record { sound = b.0.sound }), d.1)
sound_of (g.switch_stage {ts = ts} {mid = mid} {inner = inner} {a = a} {bs = bs} {rs = rs} kw p e q r) w =
    let b = sound_of p (past_caret_spelled ts w.1) in
    let open' : AreSpelled (k.LeftBrace ∷ inner) = subst AreSpelled e (past_newlines_spelled mid b.1) in
    let c = sound_of q open'.1 in
    let d = sound_of r c.1.1 in
    (redirect_sound rs (t.Switch a bs) d.0 (record { sound = both b.0.sound c.0.sound }), d.1)
sound_of (g.match_stage {ts = ts} kw p q) w = let b = sound_of p (past_caret_spelled ts w.1) in let c = sound_of q b.1 in (record { sound = both b.0.sound c.0.sound }, c.1)
sound_of (g.define_stage {ts = ts} {a = a} {as' = as'} kw p q r) w =
    let b = sound_of p (past_caret_spelled ts w.1) in
    let c = sound_of q b.1 in
    let d = sound_of r c.1 in
    (record { sound = given (some a as') (both (both b.0.sound c.0.sound) d.0.sound) }, d.1)
sound_of (g.undefine_stage {ts = ts} {a = a} {as' = as'} kw p q e) w =
    let b = sound_of p (past_caret_spelled ts w.1) in
    let c = sound_of q b.1 in
    (record { sound = given (some a as') (both b.0.sound c.0.sound) }, c.1)
sound_of (g.piped {c = c} {ss = ss} p q) w = let b = sound_of p w in let d = sound_of q b.1 in (pipeline_sound c ss b.0 d.0, d.1)
sound_of (g.no_bar e) w = (tt, w)
sound_of (g.bar_stage {ts = ts} p q) w = let b = sound_of p (past_newlines_spelled ts w.1) in let c = sound_of q b.1 in ((w.0, (b.0, c.0)), c.1)
sound_of (g.bar_leading {ts = ts} p) w = let b = sound_of p (past_newlines_spelled ts w.1) in ((w.0, (b.0, tt)), b.1)
sound_of (g.bar_assigned {ts = ts} p) w = let b = sound_of p (past_newlines_spelled ts w.1) in ((w.0, (b.0, tt)), b.1)
sound_of (g.not_leading {ts = ts} kw p) w = let b = sound_of p (past_caret_spelled ts w.1) in (record { sound = b.0.sound }, b.1)
sound_of (g.subshell_leading {ts = ts} kw p) w = let b = sound_of p (past_caret_spelled ts w.1) in (record { sound = b.0.sound }, b.1)
sound_of (g.redir_leading {r = redir} {rs = rs} p q r) w =
    let b = sound_of p w in
    let c = sound_of q b.1 in
    let d = sound_of r c.1 in
    (record { sound = given (some redir rs) (both (both b.0.sound c.0.sound) d.0.sound) }, d.1)
sound_of (g.if_leading {ts = ts} kw p q) w = let b = sound_of p (past_caret_spelled ts w.1) in let c = sound_of q b.1 in (record { sound = both b.0.sound c.0.sound }, c.1)
sound_of (g.while_leading {ts = ts} kw p q) w = let b = sound_of p (past_caret_spelled ts w.1) in let c = sound_of q b.1 in (record { sound = both b.0.sound c.0.sound }, c.1)
sound_of (g.if_not_leading {next_text = text} {ts = ts} {next = next} kw e f p) w =
    let not' : AreSpelled (k.Word text ∷ next) = subst AreSpelled e (past_caret_spelled ts w.1) in
    let b = sound_of p (past_caret_spelled next not'.1) in
    (record { sound = b.0.sound }, b.1)
sound_of (g.for_all_leading {ts = ts} {head = head} {mid = mid} {next = next} kw e p f q) w =
    let open' : AreSpelled (k.LeftParen ∷ head) = subst AreSpelled e (past_caret_spelled ts w.1) in
    let b = sound_of p (past_newlines_spelled head open'.1) in
    let close' : AreSpelled (k.RightParen ∷ next) = subst AreSpelled f (past_newlines_spelled mid b.1) in
    let c = sound_of q close'.1 in
    (record { sound = both b.0.sound c.0.sound }, c.1)
sound_of (g.for_leading {next_text = text} {ts = ts} {head = head} {mid = mid} {list = list} kw e p f i q r) w =
    let open' : AreSpelled (k.LeftParen ∷ head) = subst AreSpelled e (past_caret_spelled ts w.1) in
    let b = sound_of p (past_newlines_spelled head open'.1) in
    let in' : AreSpelled (k.Word text ∷ list) = subst AreSpelled f (past_newlines_spelled mid b.1) in
    let c = sound_of q (past_caret_spelled list in'.1) in
    let d = sound_of r c.1 in
    (record { sound = both b.0.sound (both c.0.sound d.0.sound) }, d.1)
sound_of (g.assignment {a = a} {v = v} {x = x} e p q r) w =
    let b = sound_of p w in
    let c = sound_of q b.1.1 in
    let d = sound_of r c.1 in
    (record { sound = given (some (t.Pair a v) x.0) (both (both (both b.0.sound c.0.sound) d.0.0.sound) d.0.1.sound) }, d.1)
sound_of (g.another_value e p q r) w = let b = sound_of p w in let c = sound_of q b.1.1 in let d = sound_of r c.1 in ((record { sound = both (both b.0.sound c.0.sound) d.0.0.sound }, d.0.1), d.1)
sound_of (g.values_alone e) w = ((no_more, empty), w)
sound_of (g.values_leading p) w = let b = sound_of p w in ((no_more, b.0), b.1)
sound_of (g.values_pipe p) w = let b = sound_of p w in ((no_more, b.0), b.1)
sound_of (g.leading_operand p) w = sound_of p w
sound_of (g.assigned_operand p) w = sound_of p w
sound_of (g.pipe_operand p) w = sound_of p w
sound_of (g.no_operand e) w = (empty, w)
sound_of (g.one_operand p) w = sound_of p w
sound_of (g.linked {c = c} {ls = ls} p q) w = let b = sound_of p w in let d = sound_of q b.1 in (and_or_sound c ls b.0 d.0, d.1)
sound_of (g.no_link e) w = (no_more, w)
sound_of (g.and_link {ts = ts} p q) w = let b = sound_of p (past_newlines_spelled ts w.1) in let c = sound_of q b.1 in (record { sound = both b.0.sound c.0.sound }, c.1)
sound_of (g.or_link {ts = ts} p q) w = let b = sound_of p (past_newlines_spelled ts w.1) in let c = sound_of q b.1 in (record { sound = both b.0.sound c.0.sound }, c.1)
sound_of (g.no_body {ts = ts} e f) w = (empty, past_newlines_spelled ts w)
sound_of (g.one_body {ts = ts} p) w = sound_of p (past_newlines_spelled ts w)
sound_of (g.no_item e) w = (no_more, w)
sound_of (g.semicolon_item p) w = sound_of p w.1
sound_of (g.newline_item p) w = sound_of p w.1
sound_of (g.one_item e p q) w = let b = sound_of p w in let c = sound_of q b.1 in (record { sound = both b.0.sound c.0.sound }, c.1)
sound_of (g.after_last e) w = (no_more, w)
sound_of (g.after_semicolon p) w = sound_of p w.1
sound_of (g.after_newline p) w = sound_of p w.1
sound_of (g.after_background p) w = sound_of p w.1
sound_of g.no_branch w = (no_more, w)
sound_of (g.semicolon_branch p) w = sound_of p w.1
sound_of (g.newline_branch p) w = sound_of p w.1
sound_of (g.one_branch {ts = ts} kw p e q r) w =
    let b = sound_of p (past_caret_spelled ts w.1) in
    let c = sound_of q b.1 in
    let d = sound_of r c.1 in
    (record { sound = both (both b.0.sound c.0.sound) d.0.sound }, d.1)

pub has_sound_trees : HasSoundTrees
has_sound_trees ts tree w p narrow =
    let items = (sound_of p.1 w).0 in
    let sound : is_sound (t.Seq p.0) ≡ true = items.sound (subst (λ c. most_stages c ≤ 64) p.2 narrow) in
    subst (λ c. is_sound c ≡ true) (sym p.2) sound
