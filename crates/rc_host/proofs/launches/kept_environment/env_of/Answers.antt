use Rattle.std.proofs.Common.{◌≡◌, ◌<◌, [], length, get_or, map, arith}
use Rattle.std.proofs.lemmas.List.{get_or-map, length-map}
use Rattle.std.proofs.lemmas.Result.{err_from_is_err_and}
use Rattle.rc_text.specs.Texts.{text_bytes}
use Rattle.rc_host.proofs.Requests.{not_held_at}
use Rattle.rc_host.proofs.launches.kept_environment.env_of.Goals as goal

pub returns-in_err-push_entry-clause-err : goal.returns-in_err-push_entry-clause-err
returns-in_err-push_entry-clause-err c =
    let p = err_from_is_err_and c.from_residual-in_err-push_entry.result c.from_residual-in_err-push_entry.ensures.1 in
    let item : get_or (map text_bytes c.args.entries.now) c.loop-entry.entry-index [] ≡ c.as_str.result.now =
    let mapped = get_or-map text_bytes c.args.entries.now c.loop-entry.entry-index c.entry-item.result [] (omega arith) in cc in
    let many : c.loop-entry.entry-index < length (map text_bytes c.args.entries.now) = simp length-map (omega arith) in
    rw (p.1, p.2) (not_held_at _ _ _ _ _ many item c.in_err-push_entry.ensures.err)
