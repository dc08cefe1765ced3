-- Here documents and their bodies.
use Rattle.std.proofs.Common.{◌≡◌, ◌≢◌, ℕ, ◌+◌, ◌<◌, ◌==◌, Bool, true, false, cond, List, [], ◌∷◌, ◌++◌, refl, sym, ap, ◌∙◌}
use Rattle.std.proofs.Common.{length, arith, map, take, drop, get_or, append_assoc}
use Rattle.std.proofs.lemmas.Bool.Decides.{nat_tests}
use Rattle.std.proofs.lemmas.List.{at_drop_more, take_more_set, drop-set-lt, map-append}
use Rattle.std.proofs.Math.ListN.{set}
use Rattle.rc_model.specs.Syntax.Tokens as model
use Rattle.rc_lexer.specs.declared.Span.{Span}
use Rattle.rc_lexer.specs.declared.TokenKind.{TokenKind}
use Rattle.rc_lexer.specs.declared.TokenKind.TheVariants as tk
use Rattle.rc_lexer.specs.Views.{lexeme_of}

pub filled_nil : (ts : List model.Token) → model.filled ts [] ≡ ts
filled_nil [] = refl
filled_nil (t ∷ ts) = refl

pub no_bodies : (t : model.Token) (ts : List model.Token) (bodies : List (List ℕ)) → bodies ≡ [] → model.filled (t ∷ ts) bodies ≡ t ∷ model.filled ts bodies
no_bodies t ts bodies e = ap (model.filled (t ∷ ts)) e ∙ sym (ap (λ z. t ∷ z) (ap (model.filled ts) e ∙ filled_nil ts))

pub no_here : (t : model.Token) (ts : List model.Token) (bodies : List (List ℕ)) → model.is_here t.lexeme ≡ false →
    model.filled (t ∷ ts) bodies ≡ t ∷ model.filled ts bodies
no_here t ts [] h = ap (λ z. t ∷ z) (sym (filled_nil ts))
no_here t ts (b ∷ bodies) h =
    ap (λ v. cond v (record { lexeme = model.with_body t.lexeme b; start = t.start; stop = t.stop; line = t.line } ∷ model.filled ts bodies)
    (t ∷ model.filled ts (b ∷ bodies))) h

pub other_kind : (kind : TokenKind) → ((quoted : Bool) (body : Span) → kind ≢ tk.HereDoc quoted body) → (script text : List ℕ) →
    model.is_here (lexeme_of script kind text) ≡ false
other_kind (tk.HereDoc quoted body) h script text = absurd (h quoted body refl)
other_kind kind h script text = refl

pub none_left : {A B : Type 0} (f : A → B) (xs : List A) → length xs ≡ 0 → map f xs ≡ []
none_left f [] h = refl
none_left f (x ∷ xs) h = absurd (omega (arith, h))

pub is_none : {A : Type 0} (xs : List A) (v : Bool) → v ≡ (length xs == 0) → v ≡ true → xs ≡ []
is_none [] v h k = refl
is_none (x ∷ xs) v h k = absurd (grind (arith, nat_tests, h, k))

-- one token of a list is filled in its place
pub filled_step : {A : Type 0} (f : A → model.Token) (xs : List A) (i : ℕ) (d y : A) (bodies rest : List (List ℕ)) (whole : List model.Token) → i < length xs →
    ((ts : List model.Token) → model.filled (f (get_or xs i d) ∷ ts) bodies ≡ f y ∷ model.filled ts rest) →
    map f (take i xs) ++ model.filled (map f (drop i xs)) bodies ≡ whole →
    map f (take (i + 1) (set xs i y)) ++ model.filled (map f (drop (i + 1) (set xs i y))) rest ≡ whole
filled_step f xs i d y bodies rest whole h step e =
    ap (λ z. map f z ++ model.filled (map f (drop (i + 1) (set xs i y))) rest) (take_more_set xs i y h)
    ∙ ap (λ z. map f (take i xs ++ y ∷ []) ++ model.filled (map f z) rest) (drop-set-lt (i + 1) xs i y (omega arith))
    ∙ ap (λ z. z ++ model.filled (map f (drop (i + 1) xs)) rest) (map-append f (take i xs) (y ∷ []))
    ∙ append_assoc (map f (take i xs)) (f y ∷ []) (model.filled (map f (drop (i + 1) xs)) rest)
    ∙ ap (λ z. map f (take i xs) ++ z) (sym (step (map f (drop (i + 1) xs))))
    ∙ ap (λ z. map f (take i xs) ++ z) (sym (at_drop_more (λ z. model.filled (map f z) bodies) xs i d h))
    ∙ e
