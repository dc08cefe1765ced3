use Rattle.std.proofs.Common.{rules, ◌≡◌, ◌∷◌, [], ◌++◌, ap, sym, ◌∙◌, lit<, None, Some, string_bytes}
use Rattle.std.proofs.lemmas.Str.Pattern.{split_parts}
use Rattle.rc_model.specs.Handed.Environment.{unescaped}
use Rattle.rc_image.proofs.Escapes.{one_mark, plain_all}
use Rattle.rc_image.proofs.cut_entries.without_escapes.Goals as goal

pub loop-plain-preserved : goal.loop-plain-preserved
loop-plain-preserved c =
    let parts = split_parts 2 c.loop-plain.rest.now (Some (c.in-Some.plain, c.in-Some.after)) c.in-Some.ensures.cases (lit< tt) in
    let written : string_bytes c.push.new.self ≡ (string_bytes c.loop-plain.member ++ c.in-Some.plain.now) ++ c.unmarked-c.result.0 ∷ [] = search rules in (
      one_mark (string_bytes c.loop-plain.member) c.in-Some.plain.now c.in-Some.after.now c.unmarked-c.result.1.now c.loop-plain.rest.now
          (string_bytes c.push.new.self) (unescaped c.args.text.now) c.unmarked-c.result.0 parts.0 parts.1 c.unmarked-c.ensures.value c.loop-plain.invariant.0 written,
      search rules,
    )

pub returns : goal.returns
returns c =
    let lacks = split_parts 2 c.loop-plain.rest.now None c.in_default.ensures.cases (lit< tt) in
    let written : string_bytes c.push_str-2.new.self ≡ string_bytes c.loop-plain.member ++ c.loop-plain.rest.now = search rules in
    written ∙ ap (λ t. string_bytes c.loop-plain.member ++ t) (sym (plain_all c.loop-plain.rest.now lacks)) ∙ c.loop-plain.invariant.0
