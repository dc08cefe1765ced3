-- The tokens of a printed text.
use Rattle.std.proofs.Common.{◌≡◌, refl, ap, sym, ◌∙◌, subst, true, false, List, [], ◌∷◌, ◌++◌, map, Ok, append-nil}
use Rattle.std.proofs.lemmas.Str.{chars-encodes}
use Rattle.std.specs.Str.{chars}
use Rattle.rc_model.specs.Syntax.Text.{without_zero}
use Rattle.rc_model.specs.Syntax.Tree.{Node, cmd}
use Rattle.rc_model.specs.Syntax.Tokens.{Token, Cuts, Lexes, first_place, filled}
use Rattle.rc_model.specs.Syntax.Tokens as k
use Rattle.rc_model.specs.Syntax.Printing.{cmd_text, printed}
use Rattle.law_print.specs.Lexemes.{IsWritable, cmd_lexemes}
use Rattle.law_print.proofs.Gives.{Gives, nothing, cut}
use Rattle.law_print.proofs.Pieces.{IsCalm, calm_apart, calm_word, calm_quoted, calm_name, apart, at_end}
use Rattle.law_print.proofs.Trees.{cmd_piece}
use Rattle.rc_model.specs.declared.syntax.Previous.{Previous}
use Rattle.rc_model.specs.declared.syntax.Previous.TheVariants as previous

at_the_end : (next : Previous) → IsCalm next → Gives next [] []
at_the_end _ calm_apart = nothing refl
at_the_end _ calm_word = nothing refl
at_the_end _ calm_quoted = nothing refl
at_the_end _ calm_name = nothing refl

-- no here document waits for its body
none_due : (ts : List Token) → filled ts [] ≡ ts
none_due [] = refl
none_due (t ∷ ts) = refl

pub printed_tokens : (c : Node cmd) → IsWritable c → (tokens : List Token) × (Lexes (printed c) (Ok tokens) × (map (λ t. t.lexeme) tokens
    ≡ cmd_lexemes c false))
printed_tokens c w =
    let q = cmd_piece c false w in
    let same : chars (cmd_text c false) ≡ q.chars = ap chars (sym q.spelled) ∙ chars-encodes q.chars q.scalar in
    let gives : Gives previous.Apart q.chars (cmd_lexemes c false) =
    subst (λ cs. Gives previous.Apart cs (cmd_lexemes c false)) (append-nil q.chars)
    (subst (λ ls. Gives previous.Apart (q.chars ++ []) ls) (append-nil (cmd_lexemes c false)) (q.cuts apart [] [] at_end at_the_end)) in
    let whole = cut gives first_place in
    let clean : without_zero (chars (cmd_text c false)) ≡ true = subst (λ cs. without_zero cs ≡ true) (sym same) q.clean in
    let cuts : Cuts previous.Apart [] first_place (chars (cmd_text c false)) (Ok (whole.tokens, [])) =
    subst (λ cs. Cuts previous.Apart [] first_place cs (Ok (whole.tokens, []))) (sym same) whole.cuts in
    (whole.tokens, (subst (λ ts. Lexes (cmd_text c false) (Ok ts)) (none_due whole.tokens) (k.cut (Ok (whole.tokens, [])) clean cuts), whole.lexemes))
