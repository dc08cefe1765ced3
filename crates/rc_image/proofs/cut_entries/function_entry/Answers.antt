use Rattle.std.proofs.Common.{rules, sym}
use Rattle.rc_image.proofs.Escapes.{function_other, function_uncut, function_unnamed, function_named}
use Rattle.rc_image.proofs.cut_entries.function_entry.Goals as goal

pub returns-in_default : goal.returns-in_default
returns-in_default c = sym (function_other c.args.entry.now c.in_default.ensures.cases)

pub returns-in_default-cut_entry : goal.returns-in_default-cut_entry
returns-in_default-cut_entry c =
    sym (function_uncut c.args.entry.now c.in-Some.rest.now _ c.in-Some.ensures.cases.1.1 c.in-Some.ensures.cases.2 c.in_default-cut_entry.ensures)

pub returns-then-not-is_function_name : goal.returns-then-not-is_function_name
returns-then-not-is_function_name c =
    sym (function_unnamed c.args.entry.now c.in-Some.rest.now c.in-Some-cut_entry.name.now c.in-Some-cut_entry.image.now _ c.in-Some.ensures.cases.1.1 c.in-Some.ensures.cases.2 c.in-Some-cut_entry.ensures (search rules))

pub returns : goal.returns
returns c =
    sym (function_named c.args.entry.now c.in-Some.rest.now c.in-Some-cut_entry.name.now c.in-Some-cut_entry.image.now _ c.in-Some.ensures.cases.1.1 c.in-Some.ensures.cases.2 c.in-Some-cut_entry.ensures (search rules))
