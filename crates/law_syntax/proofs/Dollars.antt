-- The machine reads `$`s, whose name may still be to come.
use Rattle.std.proofs.Common.{◌≡◌, ℕ, Bool, true, false, cond, ◌==◌, ◌||◌, List, [], ◌∷◌, ◌++◌, refl, sym, ap, subst, ◌∙◌}
use Rattle.std.specs.Prelude.{Some, ◌&&◌}
use Rattle.std.proofs.lemmas.List.{append-nil, map-append}
use Rattle.std.proofs.lemmas.Bool.{eqb-true}
use Rattle.rc_model.specs.Syntax.Tokens as t
use Rattle.rc_model.specs.Syntax.Tokens.{Lexeme, Token, PendingHereDoc, Outcome}
use Rattle.rc_model.specs.Mirrors.Reading.{LexerState, Between, Operator, goes, emit, begin, bare, after_dollars, closed, follow, run}
use Rattle.law_syntax.proofs.Steps.{join_nil, join_tokens, follow_emit, join_closed}
use Rattle.law_syntax.proofs.Operators.{operated_run, operator_ends, LexemeEnds, same_due}
use Rattle.rc_model.specs.declared.syntax.Place.{Place}
use Rattle.rc_model.specs.declared.syntax.Previous.{Previous}
use Rattle.rc_model.specs.declared.syntax.Previous.TheVariants as previous

-- the run after `$`s whose name is still to come
abbrev dollars_run : List Token → List PendingHereDoc → Place → List ℕ → Outcome
dollars_run ds due p [] = closed (bare ds) [] due
dollars_run ds due p (c ∷ cs) = follow (after_dollars ds due p c (t.class_of c)) (λ s' due'. run s' due' (t.after_char p c) cs)

-- what it is, by whether there is a name
abbrev resolved : Bool → List Token → List PendingHereDoc → Place → List ℕ → Outcome
resolved b ds due p rest = cond b (t.join ds [] (run (Between previous.Dollar) due p rest)) (t.join (bare ds) [] (run (Between previous.Apart) due p rest))

bare-append : (xs ys : List Token) → bare (xs ++ ys) ≡ bare xs ++ bare ys
bare-append xs ys = map-append (λ (d : Token). record { lexeme = t.BareDollar; start = d.start; stop = d.stop; line = d.line }) xs ys

-- after `$#` and `$"` no operator goes on, and those before them are bare
sigil_count : (ds : List Token) (q : Place) (due : List PendingHereDoc) (p : Place) (rest : List ℕ) →
    run (Operator previous.Dollar ds q (36 ∷ 35 ∷ [])) due p rest ≡ t.join (bare ds) [] (run (Operator previous.Apart [] q (36 ∷ 35 ∷ [])) due p rest)
sigil_count ds q due p [] = sym (join_closed (bare ds) (t.token t.BareDollar q p ∷ []) [] due)
sigil_count ds q due p (c ∷ cs) =
    follow_emit (bare ds) (after_dollars (t.token t.DollarCount q p ∷ []) due p c (t.class_of c)) (λ s' due'. run s' due' (t.after_char p c) cs)
    ∙ ap (t.join (bare ds) []) (sym (follow_emit [] (after_dollars (t.token t.DollarCount q p ∷ []) due p c (t.class_of c)) (λ s' due'. run s' due' (t.after_char p c) cs)
    ∙ join_nil (follow (after_dollars (t.token t.DollarCount q p ∷ []) due p c (t.class_of c)) (λ s' due'. run s' due' (t.after_char p c) cs))))

sigil_flat : (ds : List Token) (q : Place) (due : List PendingHereDoc) (p : Place) (rest : List ℕ) →
    run (Operator previous.Dollar ds q (36 ∷ 34 ∷ [])) due p rest ≡ t.join (bare ds) [] (run (Operator previous.Apart [] q (36 ∷ 34 ∷ [])) due p rest)
sigil_flat ds q due p [] = sym (join_closed (bare ds) (t.token t.BareDollar q p ∷ []) [] due)
sigil_flat ds q due p (c ∷ cs) =
    follow_emit (bare ds) (after_dollars (t.token t.DollarFlat q p ∷ []) due p c (t.class_of c)) (λ s' due'. run s' due' (t.after_char p c) cs)
    ∙ ap (t.join (bare ds) []) (sym (follow_emit [] (after_dollars (t.token t.DollarFlat q p ∷ []) due p c (t.class_of c)) (λ s' due'. run s' due' (t.after_char p c) cs)
    ∙ join_nil (follow (after_dollars (t.token t.DollarFlat q p ∷ []) due p c (t.class_of c)) (λ s' due'. run s' due' (t.after_char p c) cs))))

-- one more `$`, after others, and as the first
dollar_more : (ds : List Token) (q : Place) (due : List PendingHereDoc) (p : Place) (rest : List ℕ) → t.goes_on (36 ∷ []) rest ≡ false →
    run (Operator previous.Dollar ds q (36 ∷ [])) due p rest ≡ dollars_run (ds ++ t.token t.Dollar q p ∷ []) due p rest
dollar_more ds q due p [] g = ap (λ ts. closed ts [] due) (sym (bare-append ds (t.token t.Dollar q p ∷ [])))
dollar_more ds q due p (c ∷ cs) g =
    operator_ends previous.Dollar ds q (36 ∷ []) due p (c ∷ cs) g
    ∙ follow_emit [] (after_dollars (ds ++ t.token t.Dollar q p ∷ []) due p c (t.class_of c)) (λ s' due'. run s' due' (t.after_char p c) cs)
    ∙ join_nil (dollars_run (ds ++ t.token t.Dollar q p ∷ []) due p (c ∷ cs))

dollar_first : (prev : Previous) (q : Place) (due : List PendingHereDoc) (p : Place) (rest : List ℕ) → t.awaits_mark prev ≡ false →
    operated_run prev [] q (Some t.Dollar) due p rest ≡ t.join (t.caret prev t.Dollar q) [] (dollars_run (t.token t.Dollar q p ∷ []) due p rest)
dollar_first (previous.Here begin' end) q due p rest a = absurd cc
dollar_first previous.Apart q due p [] a = sym (join_closed (t.caret previous.Apart t.Dollar q) (t.token t.BareDollar q p ∷ []) [] due)
dollar_first previous.Word q due p [] a = sym (join_closed (t.caret previous.Word t.Dollar q) (t.token t.BareDollar q p ∷ []) [] due)
dollar_first previous.Quoted q due p [] a = sym (join_closed (t.caret previous.Quoted t.Dollar q) (t.token t.BareDollar q p ∷ []) [] due)
dollar_first previous.Name q due p [] a = sym (join_closed (t.caret previous.Name t.Dollar q) (t.token t.BareDollar q p ∷ []) [] due)
dollar_first previous.Dollar q due p [] a = sym (join_closed (t.caret previous.Dollar t.Dollar q) (t.token t.BareDollar q p ∷ []) [] due)
dollar_first prev q due p (c ∷ cs) a =
    follow_emit (t.caret prev t.Dollar q) (after_dollars (t.token t.Dollar q p ∷ []) due p c (t.class_of c)) (λ s' due'. run s' due' (t.after_char p c) cs)

count_first : (prev : Previous) (q : Place) (due : List PendingHereDoc) (p : Place) (rest : List ℕ) → t.awaits_mark prev ≡ false →
    operated_run prev [] q (Some t.DollarCount) due p rest ≡ t.join (t.caret prev t.Dollar q) [] (dollars_run (t.token t.DollarCount q p ∷ []) due p rest)
count_first (previous.Here begin' end) q due p rest a = absurd cc
count_first previous.Apart q due p [] a = sym (join_closed (t.caret previous.Apart t.Dollar q) (t.token t.BareDollar q p ∷ []) [] due)
count_first previous.Word q due p [] a = sym (join_closed (t.caret previous.Word t.Dollar q) (t.token t.BareDollar q p ∷ []) [] due)
count_first previous.Quoted q due p [] a = sym (join_closed (t.caret previous.Quoted t.Dollar q) (t.token t.BareDollar q p ∷ []) [] due)
count_first previous.Name q due p [] a = sym (join_closed (t.caret previous.Name t.Dollar q) (t.token t.BareDollar q p ∷ []) [] due)
count_first previous.Dollar q due p [] a = sym (join_closed (t.caret previous.Dollar t.Dollar q) (t.token t.BareDollar q p ∷ []) [] due)
count_first prev q due p (c ∷ cs) a =
    follow_emit (t.caret prev t.Dollar q ++ []) (after_dollars (t.token t.DollarCount q p ∷ []) due p c (t.class_of c)) (λ s' due'. run s' due' (t.after_char p c) cs)
    ∙ ap (λ ts. t.join ts [] (dollars_run (t.token t.DollarCount q p ∷ []) due p (c ∷ cs))) (append-nil (t.caret prev t.Dollar q))

flat_first : (prev : Previous) (q : Place) (due : List PendingHereDoc) (p : Place) (rest : List ℕ) → t.awaits_mark prev ≡ false →
    operated_run prev [] q (Some t.DollarFlat) due p rest ≡ t.join (t.caret prev t.Dollar q) [] (dollars_run (t.token t.DollarFlat q p ∷ []) due p rest)
flat_first (previous.Here begin' end) q due p rest a = absurd cc
flat_first previous.Apart q due p [] a = sym (join_closed (t.caret previous.Apart t.Dollar q) (t.token t.BareDollar q p ∷ []) [] due)
flat_first previous.Word q due p [] a = sym (join_closed (t.caret previous.Word t.Dollar q) (t.token t.BareDollar q p ∷ []) [] due)
flat_first previous.Quoted q due p [] a = sym (join_closed (t.caret previous.Quoted t.Dollar q) (t.token t.BareDollar q p ∷ []) [] due)
flat_first previous.Name q due p [] a = sym (join_closed (t.caret previous.Name t.Dollar q) (t.token t.BareDollar q p ∷ []) [] due)
flat_first previous.Dollar q due p [] a = sym (join_closed (t.caret previous.Dollar t.Dollar q) (t.token t.BareDollar q p ∷ []) [] due)
flat_first prev q due p (c ∷ cs) a =
    follow_emit (t.caret prev t.Dollar q ++ []) (after_dollars (t.token t.DollarFlat q p ∷ []) due p c (t.class_of c)) (λ s' due'. run s' due' (t.after_char p c) cs)
    ∙ ap (λ ts. t.join ts [] (dollars_run (t.token t.DollarFlat q p ∷ []) due p (c ∷ cs))) (append-nil (t.caret prev t.Dollar q))

-- what a further `$` begins is known once the text after it is
abbrev Resolves : List ℕ → Type 0
Resolves rest = (ds : List Token) (due : List PendingHereDoc) (p : Place) → dollars_run ds due p rest ≡ resolved (t.names rest) ds due p rest

further : (ds : List Token) (due : List PendingHereDoc) (p : Place) (rest : List ℕ) → Resolves rest → t.goes_on (36 ∷ []) rest ≡ false →
    run (Operator previous.Dollar ds p (36 ∷ [])) due (t.after_char p 36) rest ≡ resolved (t.names rest) ds due p (36 ∷ rest)
further ds due p rest ih g =
    let q = t.after_char p 36 in
    let tok = t.token t.Dollar p q in
    let named : run (Between previous.Dollar) due p (36 ∷ rest) ≡ resolved (t.names rest) (tok ∷ []) due q rest =
    join_nil (run (Operator previous.Dollar [] p (36 ∷ [])) due q rest) ∙ dollar_more [] p due q rest g ∙ ih (tok ∷ []) due q in
    let apart : run (Between previous.Apart) due p (36 ∷ rest) ≡ resolved (t.names rest) (tok ∷ []) due q rest =
    join_nil (run (Operator previous.Apart [] p (36 ∷ [])) due q rest) ∙ operator_ends previous.Apart [] p (36 ∷ []) due q rest g ∙ dollar_first previous.Apart p due q rest refl
    ∙ join_nil (dollars_run (tok ∷ []) due q rest) ∙ ih (tok ∷ []) due q in
    dollar_more ds p due q rest g ∙ ih (ds ++ tok ∷ []) due q ∙ by (t.names rest) tok q named apart
  where
    by : (b : Bool) (tok' : Token) (q' : Place) → run (Between previous.Dollar) due p (36 ∷ rest) ≡ resolved b (tok' ∷ []) due q' rest →
        run (Between previous.Apart) due p (36 ∷ rest) ≡ resolved b (tok' ∷ []) due q' rest → resolved b (ds ++ tok' ∷ []) due q' rest ≡ resolved b ds due p (36 ∷ rest)
    by true tok' q' e f = join_tokens ds (tok' ∷ []) (run (Between previous.Dollar) due q' rest) ∙ ap (t.join ds []) (sym e)
    by false tok' q' e f =
        ap (λ ts. t.join ts [] (run (Between previous.Apart) due q' rest)) (bare-append ds (tok' ∷ []))
        ∙ join_tokens (bare ds) (bare (tok' ∷ [])) (run (Between previous.Apart) due q' rest) ∙ ap (t.join (bare ds) []) (sym f)

-- after a `$`: `#`, `"` or anything else
sigil_at : (ds : List Token) (due : List PendingHereDoc) (p : Place) (c : ℕ) (cs : List ℕ) → Resolves (c ∷ cs) → (a b : Bool) → (c == 35) ≡ a → (c == 34) ≡ b →
    run (Operator previous.Dollar ds p (36 ∷ [])) due (t.after_char p 36) (c ∷ cs) ≡ resolved (t.names (c ∷ cs)) ds due p (36 ∷ c ∷ cs)
sigil_at ds due p c cs ih true b e f =
    subst (λ z. run (Operator previous.Dollar ds p (36 ∷ [])) due (t.after_char p 36) (z ∷ cs) ≡ resolved (t.names (z ∷ cs)) ds due p (36 ∷ z ∷ cs))
    (sym (eqb-true c 35 e)) known
  where
    known : run (Operator previous.Dollar ds p (36 ∷ [])) due (t.after_char p 36) (35 ∷ cs) ≡ resolved (t.names (35 ∷ cs)) ds due p (36 ∷ 35 ∷ cs)
    known =
        join_nil (run (Operator previous.Dollar ds p (36 ∷ 35 ∷ [])) due (t.after_char (t.after_char p 36) 35) cs)
        ∙ sigil_count ds p due (t.after_char (t.after_char p 36) 35) cs
        ∙ ap (t.join (bare ds) [])
        (sym (join_nil (run (Operator previous.Apart [] p (36 ∷ [])) due (t.after_char p 36) (35 ∷ cs)) ∙ join_nil
        (run (Operator previous.Apart [] p (36 ∷ 35 ∷ [])) due (t.after_char (t.after_char p 36) 35) cs)))
sigil_at ds due p c cs ih false true e f =
    subst (λ z. run (Operator previous.Dollar ds p (36 ∷ [])) due (t.after_char p 36) (z ∷ cs) ≡ resolved (t.names (z ∷ cs)) ds due p (36 ∷ z ∷ cs))
    (sym (eqb-true c 34 f)) known
  where
    known : run (Operator previous.Dollar ds p (36 ∷ [])) due (t.after_char p 36) (34 ∷ cs) ≡ resolved (t.names (34 ∷ cs)) ds due p (36 ∷ 34 ∷ cs)
    known =
        join_nil (run (Operator previous.Dollar ds p (36 ∷ 34 ∷ [])) due (t.after_char (t.after_char p 36) 34) cs)
        ∙ sigil_flat ds p due (t.after_char (t.after_char p 36) 34) cs
        ∙ ap (t.join (bare ds) [])
        (sym (join_nil (run (Operator previous.Apart [] p (36 ∷ [])) due (t.after_char p 36) (34 ∷ cs)) ∙ join_nil
        (run (Operator previous.Apart [] p (36 ∷ 34 ∷ [])) due (t.after_char (t.after_char p 36) 34) cs)))
sigil_at ds due p c cs ih false false e f = further ds due p (c ∷ cs) ih (neither (c == 35) (c == 34) e f)
  where
    neither : (a b : Bool) → a ≡ false → b ≡ false → ((a && true) || ((b && true) || false)) ≡ false
    neither false false h h' = refl
    neither true b h h' = absurd cc
    neither false true h h' = absurd cc

another : (ds : List Token) (due : List PendingHereDoc) (p : Place) (cs : List ℕ) → Resolves cs →
    run (Operator previous.Dollar ds p (36 ∷ [])) due (t.after_char p 36) cs ≡ resolved (t.names cs) ds due p (36 ∷ cs)
another ds due p [] ih = further ds due p [] ih refl
another ds due p (c ∷ cs) ih = sigil_at ds due p c cs ih (c == 35) (c == 34) refl refl

resolves_at : (c : ℕ) (cs : List ℕ) → Resolves cs → (a b : Bool) → (t.is_name_char c || (c == 39)) ≡ a → (c == 36) ≡ b → Resolves (c ∷ cs)
resolves_at c cs ih a true e f = subst (λ z. Resolves (z ∷ cs)) (sym (eqb-true c 36 f)) known
  where
    known : Resolves (36 ∷ cs)
    known ds due p = join_nil (run (Operator previous.Dollar ds p (36 ∷ [])) due (t.after_char p 36) cs) ∙ another ds due p cs ih
resolves_at c cs ih true false e f =
    λ ds due p.
    let go : LexerState → List PendingHereDoc → Outcome = λ s' due'. run s' due' (t.after_char p c) cs in
    let k = t.class_of c in
    ap (λ b. follow (cond b (emit ds (begin previous.Dollar due p c k)) (cond (c == 36) (goes [] (Operator previous.Dollar ds p (c ∷ [])) due) (emit (bare ds) (begin previous.Apart due p c k)))) go) e
    ∙ follow_emit ds (begin previous.Dollar due p c k) go
    ∙ sym (ap (λ b. resolved (cond b true (cond (c == 36) (t.names cs) false)) ds due p (c ∷ cs)) e)
resolves_at c cs ih false false e f =
    λ ds due p.
    let go : LexerState → List PendingHereDoc → Outcome = λ s' due'. run s' due' (t.after_char p c) cs in
    let k = t.class_of c in
    ap (λ b. follow (cond b (emit ds (begin previous.Dollar due p c k)) (cond (c == 36) (goes [] (Operator previous.Dollar ds p (c ∷ [])) due) (emit (bare ds) (begin previous.Apart due p c k)))) go) e
    ∙ ap (λ b. follow (cond b (goes [] (Operator previous.Dollar ds p (c ∷ [])) due) (emit (bare ds) (begin previous.Apart due p c k))) go) f
    ∙ follow_emit (bare ds) (begin previous.Apart due p c k) go
    ∙ sym (ap (λ b. resolved (cond b true (cond (c == 36) (t.names cs) false)) ds due p (c ∷ cs)) e
    ∙ ap (λ b. resolved (cond b (t.names cs) false) ds due p (c ∷ cs)) f)

resolves : (rest : List ℕ) → Resolves rest
resolves [] = λ ds due p. ap (λ ts. closed ts [] due) (sym (append-nil (bare ds))) ∙ sym (join_closed (bare ds) [] [] due)
resolves (c ∷ cs) = resolves_at c cs (resolves cs) (t.is_name_char c || (c == 39)) (c == 36) refl refl

-- a `$` is a lexeme, with a name or bare
dollar_lexeme : (b : Bool) (prev : Previous) (l : Lexeme) (q : Place) (due : List PendingHereDoc) (p : Place) (rest : List ℕ) → t.awaits_mark prev ≡ false →
    t.caret prev l q ≡ t.caret prev t.Dollar q → t.after_token prev l ≡ previous.Dollar →
    t.join (t.caret prev t.Dollar q) [] (resolved b (t.token l q p ∷ []) due p rest)
    ≡ t.join (t.caret prev (cond b l t.BareDollar) q ++ t.token (cond b l t.BareDollar) q p ∷ []) []
    (run (Between (t.after_token prev (cond b l t.BareDollar))) (t.pending_after prev (cond b l t.BareDollar) due) p rest)
dollar_lexeme true prev l q due p rest a e f =
    sym (join_tokens (t.caret prev t.Dollar q) (t.token l q p ∷ []) (run (Between previous.Dollar) due p rest))
    ∙ ap (λ ts. t.join (ts ++ t.token l q p ∷ []) [] (run (Between previous.Dollar) due p rest)) (sym e)
    ∙ ap (λ z. t.join (t.caret prev l q ++ t.token l q p ∷ []) [] (run (Between z) due p rest)) (sym f)
    ∙ ap (λ z. t.join (t.caret prev l q ++ t.token l q p ∷ []) [] (run (Between (t.after_token prev l)) z p rest)) (sym (same_due prev l due a))
dollar_lexeme false prev l q due p rest a e f =
    sym (join_tokens (t.caret prev t.Dollar q) (t.token t.BareDollar q p ∷ []) (run (Between previous.Apart) due p rest)) ∙ by prev a
  where
    by : (prev' : Previous) → t.awaits_mark prev' ≡ false →
        t.join (t.caret prev' t.Dollar q ++ t.token t.BareDollar q p ∷ []) [] (run (Between previous.Apart) due p rest)
        ≡ t.join (t.caret prev' t.BareDollar q ++ t.token t.BareDollar q p ∷ []) [] (run (Between (t.after_token prev' t.BareDollar)) (t.pending_after prev' t.BareDollar due) p rest)
    by (previous.Here begin' end) h = absurd cc
    by prev' h = refl

pub dollar_ends : (prev : Previous) (q : Place) (due : List PendingHereDoc) (p : Place) (rest : List ℕ) → t.awaits_mark prev ≡ false →
    LexemeEnds prev (t.meant prev rest t.Dollar) q due p rest (operated_run prev [] q (Some t.Dollar) due p rest)
dollar_ends (previous.Here begin' end) q due p rest a = absurd cc
dollar_ends prev q due p rest a =
    dollar_first prev q due p rest a ∙ ap (t.join (t.caret prev t.Dollar q) []) (resolves rest (t.token t.Dollar q p ∷ []) due p) ∙ dollar_lexeme (t.names rest) prev t.Dollar q due p rest a refl refl

pub count_ends : (prev : Previous) (q : Place) (due : List PendingHereDoc) (p : Place) (rest : List ℕ) → t.awaits_mark prev ≡ false →
    LexemeEnds prev (t.meant prev rest t.DollarCount) q due p rest (operated_run prev [] q (Some t.DollarCount) due p rest)
count_ends (previous.Here begin' end) q due p rest a = absurd cc
count_ends prev q due p rest a =
    count_first prev q due p rest a ∙ ap (t.join (t.caret prev t.Dollar q) []) (resolves rest (t.token t.DollarCount q p ∷ []) due p) ∙ dollar_lexeme
    (t.names rest) prev t.DollarCount q due p rest a refl refl

pub flat_ends : (prev : Previous) (q : Place) (due : List PendingHereDoc) (p : Place) (rest : List ℕ) → t.awaits_mark prev ≡ false →
    LexemeEnds prev (t.meant prev rest t.DollarFlat) q due p rest (operated_run prev [] q (Some t.DollarFlat) due p rest)
flat_ends (previous.Here begin' end) q due p rest a = absurd cc
flat_ends prev q due p rest a =
    flat_first prev q due p rest a ∙ ap (t.join (t.caret prev t.Dollar q) []) (resolves rest (t.token t.DollarFlat q p ∷ []) due p) ∙ dollar_lexeme
    (t.names rest) prev t.DollarFlat q due p rest a refl refl
