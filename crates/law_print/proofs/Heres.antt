-- Trees without here documents have parts without them.
use Rattle.std.proofs.Common.{◌≡◌, refl, Bool, true, false, ◌||◌}
use Rattle.std.proofs.lemmas.Bool.{or_from}
use Rattle.rc_model.specs.Syntax.Tree.{Node, Many, none, more}
use Rattle.rc_model.specs.Syntax.Tree as t
use Rattle.rc_model.specs.Syntax.Grammar.{concat_of, redirect, stages_of, last_of, pipeline, and_or}
use Rattle.rc_model.specs.Syntax.Printing.{has_here, have_here}

pub or_first : (a b : Bool) → (a || b) ≡ false → a ≡ false
or_first true b h = absurd cc
or_first false b h = refl

pub or_second : (a b : Bool) → (a || b) ≡ false → b ≡ false
or_second true b h = absurd cc
or_second false b h = h

pub here_concat : (a : Node t.arg) (as' : Many t.arg) → has_here (concat_of a as') ≡ false → (has_here a ≡ false) × (have_here as' ≡ false)
here_concat a none h = (h, refl)
here_concat a (more b bs) h = (or_first (has_here a) (have_here (more b bs)) h, or_second (has_here a) (have_here (more b bs)) h)

pub here_redirect : (rs : Many t.redir) (c : Node t.cmd) → has_here (redirect rs c) ≡ false → (have_here rs ≡ false) × (has_here c ≡ false)
here_redirect none c h = (refl, h)
here_redirect (more r rs) c h = (or_first (have_here (more r rs)) (has_here c) h, or_second (have_here (more r rs)) (has_here c) h)

here_stages : (c : Node t.cmd) (ss : Many t.stage) → (have_here (stages_of c ss) || has_here (last_of c ss)) ≡ false →
    (has_here c ≡ false) × (have_here ss ≡ false)
here_stages c none h = (h, refl)
here_stages c (more (t.Stage d slot) ss) h =
    let x : Bool = have_here (stages_of d ss) in
    let y : Bool = has_here (last_of d ss) in
    let front = or_first (has_here c || x) y h in
    let w = here_stages d ss (or_from x y (or_second (has_here c) x front) (or_second (has_here c || x) y h)) in
    (or_first (has_here c) x front, or_from (has_here d) (have_here ss) w.0 w.1)

pub here_pipeline : (c : Node t.cmd) (ss : Many t.stage) → has_here (pipeline c ss) ≡ false → (has_here c ≡ false) × (have_here ss ≡ false)
here_pipeline c none h = (h, refl)
here_pipeline c (more s ss) h = here_stages c (more s ss) h

pub here_and_or : (c : Node t.cmd) (ls : Many t.link) → has_here (and_or c ls) ≡ false → (has_here c ≡ false) × (have_here ls ≡ false)
here_and_or c none h = (h, refl)
here_and_or c (more l ls) h = (or_first (has_here c) (have_here (more l ls)) h, or_second (has_here c) (have_here (more l ls)) h)
