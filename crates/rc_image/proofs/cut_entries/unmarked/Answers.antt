use Rattle.std.proofs.Common.{lit<, None}
use Rattle.std.proofs.lemmas.Str.Pattern.{strip_prefix_char}
use Rattle.rc_image.proofs.Escapes.{itself}
use Rattle.rc_image.proofs.cut_entries.unmarked.Goals as goal

pub returns-clause-value : goal.returns-clause-value
returns-clause-value c =
    let a = c.args.after.now in
    itself a (strip_prefix_char 65 a None c.in_default.ensures.cases (lit< tt)) (strip_prefix_char 66 a None c.in_default-strip_prefix.ensures.cases (lit< tt))
