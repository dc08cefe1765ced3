-- Each script is accepted or refused, and never both.
use Rattle.std.proofs.Common.{◌≡◌, ℕ, ◌≤◌, Bool, true, false, ◌&&◌, List, length, Result, Ok, Err, ◌⊎◌, inl, inr, refl, sym, subst, ◌∙◌, arith, nat_le}
use Rattle.std.proofs.lemmas.Bool.{leb-true, leb-false}
use Rattle.std.proofs.lemmas.Bool.Decides.{nat_tests}
use Rattle.std.proofs.lemmas.Str.{IsUtf8-from_is_utf8}
use Rattle.std.specs.Str.{is_utf8}
use Rattle.std.specs.Str.Lossy.{utf8_valid_len}
use Rattle.rc_model.specs.Syntax.Tokens.{Token, Lexes}
use Rattle.rc_model.specs.Mirrors.Reading.{lexed}
use Rattle.rc_model.specs.Mirrors.Spelling.{AreSpelled}
use Rattle.rc_model.specs.Syntax.Tree.{Node, cmd}
use Rattle.rc_model.specs.Syntax.WellFormed.{depth, is_sound}
use Rattle.rc_model.specs.declared.fault.SyntaxFault.{SyntaxFault}
use Rattle.rc_model.specs.Syntax.Faults.{fault}
use Rattle.rc_model.specs.Syntax.Accepted.{HasTokens, IsAccepted, IsRefused, lexemes, line_of, longest_script}
use Rattle.rc_model.specs.Syntax.Accepted as script
use Rattle.rc_model.specs.Syntax.Grammar.{HaveTree}
use Rattle.rc_model.specs.Mirrors.Descent.{Stop, script_tree}
use Rattle.rc_model.specs.Mirrors.ParsingLaws.{AcceptedAreWellFormed, IsDecided, IsNeverBoth}
use Rattle.law_syntax.proofs.Laws.{finds_only_trees, has_no_tree, has_too_many_stages, is_too_deep}
use Rattle.law_syntax.proofs.Sound.{has_sound_trees}
use Rattle.law_syntax.proofs.Cutting.{law, one_reading, one_cut}
use Rattle.law_syntax.proofs.Spelled.{spelled_tokens}
use Rattle.rc_model.specs.declared.fault.FaultKind.TheVariants.{IfNot, NotText, TooDeep, TooLong, TooManyStages, Unexpected}
use Rattle.rc_model.specs.declared.fault.DescentFault.TheVariants as descent

-- the tokens of a script are spelled as the language has it
pub are_spelled : {text : List ℕ} {tokens : List Token} → HasTokens text tokens → AreSpelled (lexemes tokens)
are_spelled {text = text} {tokens = tokens} h = spelled_tokens text tokens (IsUtf8-from_is_utf8 text h.text) h.cut

-- a script has no other tokens
pub same_tokens : {text : List ℕ} {xs ys : List Token} → HasTokens text xs → HasTokens text ys → xs ≡ ys
same_tokens h k = one_cut h.cut k.cut

-- an accepted script has a well formed tree
pub accepted_formed : AcceptedAreWellFormed
accepted_formed text tree a =
    let sound = has_sound_trees (lexemes a.tokens) tree (are_spelled a.has) a.tree_is.script a.tree_is.narrow in
    formed (is_sound tree) (depth tree) sound a.tree_is.shallow
  where
    formed : (b : Bool) (n : ℕ) → b ≡ true → n ≤ 200 → (b && nat_le n 200) ≡ true
    formed b n e h = grind (arith, nat_tests)

-- a refused script isn't accepted
no_script : {text : List ℕ} {xs ys : List Token} (tree : Node cmd) → HasTokens text xs → HasTokens text ys → ((other : Node cmd) → HaveTree (lexemes xs) other → ⊥) →
    HaveTree (lexemes ys) tree → ⊥
no_script tree h k none s = none tree (subst (λ z. HaveTree (lexemes z) tree) (same_tokens k h) s)

pub never_both : IsNeverBoth
never_both text fault tree (script.too_long h) a = let short = a.has.short in omega arith
never_both text fault tree (script.not_text short h) a = differ (sym a.has.text ∙ h)
  where
    differ : true ≡ false → ⊥
    differ k = cc
never_both text fault tree (script.no_tokens f short utf8 h) a = differ (one_reading a.has.cut h)
  where
    differ : {xs : List Token} {f : SyntaxFault} → ◌≡◌ {A = Result (List Token) SyntaxFault} (Ok xs) (Err f) → ⊥
    differ k = cc
never_both text fault tree (script.unexpected tokens line h at none) a = no_script tree h a.has none a.tree_is.script
never_both text fault tree (script.if_not tokens line h at none) a = no_script tree h a.has none a.tree_is.script
never_both text fault tree (script.too_deep tokens h far) a =
    let deep = far tree (subst (λ z. HaveTree (lexemes z) tree) (same_tokens a.has h) a.tree_is.script) in
    let shallow = a.tree_is.shallow in
    omega arith
never_both text fault tree (script.too_many_stages tokens line h at far) a =
    let wide = far tree (subst (λ z. HaveTree (lexemes z) tree) (same_tokens a.has h) a.tree_is.script) in
    let narrow = a.tree_is.narrow in
    omega arith

-- accepted with some tree, or refused with some fault
abbrev pub Decided : List ℕ → Type 0
Decided text = ((tree : Node cmd) × IsAccepted text tree) ⊎ ((f : SyntaxFault) × IsRefused text f)

-- the line of the end
abbrev last_line : List ℕ → ℕ
last_line text = line_of text (length text)

refused_by : (text : List ℕ) (tokens : List Token) (e : Stop) → HasTokens text tokens → script_tree 200 (lexemes tokens) ≡ Err e → (f : SyntaxFault) × IsRefused text f
refused_by text tokens (descent.Unexpected, left) h e =
    (fault Unexpected (last_line text), script.unexpected tokens (last_line text) h (inr refl) (λ tree s. has_no_tree 200 left (lexemes tokens) tree (inl e) s))
refused_by text tokens (descent.IfNot, left) h e =
    (fault IfNot (last_line text), script.if_not tokens (last_line text) h (inr refl) (λ tree s. has_no_tree 200 left (lexemes tokens) tree (inr e) s))
refused_by text tokens (descent.TooDeep, left) h e =
    (fault TooDeep 0, script.too_deep tokens h (λ tree s. is_too_deep 200 left (lexemes tokens) tree (omega arith) e s))
refused_by text tokens (descent.TooManyStages, left) h e =
    (fault TooManyStages (last_line text), script.too_many_stages tokens (last_line text) h (inr refl) (λ tree s. has_too_many_stages 200 left (lexemes tokens) tree e s))

by_tree : (text : List ℕ) (tokens : List Token) (r : Result (Node cmd) Stop) → HasTokens text tokens → script_tree 200 (lexemes tokens) ≡ r → Decided text
by_tree text tokens (Ok tree) h e = inl (tree, record { tokens = tokens; has = h; tree_is = finds_only_trees 200 (lexemes tokens) tree e })
by_tree text tokens (Err f) h e = inr (refused_by text tokens f h e)

by_tokens : (text : List ℕ) (r : Result (List Token) SyntaxFault) → length text ≤ longest_script → is_utf8 text ≡ true → Lexes text r → Decided text
by_tokens text (Ok tokens) short utf8 read = by_tree text tokens (script_tree 200 (lexemes tokens)) (record { short = short; text = utf8; cut = read }) refl
by_tokens text (Err f) short utf8 read = inr (f, script.no_tokens f short utf8 read)

by_text : (text : List ℕ) (b : Bool) → is_utf8 text ≡ b → length text ≤ longest_script → Decided text
by_text text true e short = by_tokens text (lexed text) short e (law text).found
by_text text false e short = inr (fault NotText (line_of text (utf8_valid_len text)), script.not_text short e)

by_length : (text : List ℕ) (b : Bool) → nat_le (length text) longest_script ≡ b → Decided text
by_length text true e = by_text text (is_utf8 text) refl (leb-true (length text) longest_script e)
by_length text false e = inr (fault TooLong 0, script.too_long (leb-false (length text) longest_script e))

pub is_decided : IsDecided
is_decided text = by_length text (nat_le (length text) longest_script) refl
