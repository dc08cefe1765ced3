-- Characters and their lexemes, where no caret is inserted and no here document begins.
use Rattle.std.proofs.Common.{◌≡◌, refl, ap, sym, subst, ℕ, false, List, [], ◌∷◌, ◌++◌, map, Ok}
use Rattle.rc_model.specs.Syntax.Tokens.{Lexeme, Token, Word}
use Rattle.rc_model.specs.Syntax.Tokens.{IsLexeme, Cuts, wants_caret, awaits_mark, after_token, pending_after, tokens_of, token, after_char, after_chars}
use Rattle.rc_model.specs.Syntax.Tokens as k
use Rattle.rc_model.specs.declared.syntax.Place.{Place}
use Rattle.rc_model.specs.declared.syntax.Previous.{Previous}
use Rattle.rc_model.specs.declared.syntax.Previous.TheVariants as previous

pub data Gives : Previous → List ℕ → List Lexeme → Type 0 where
  nothing : {prev : Previous} → awaits_mark prev ≡ false → Gives prev [] []
  blank : {prev : Previous} {cs : List ℕ} {ls : List Lexeme} → awaits_mark prev ≡ false → Gives previous.Apart cs ls → Gives prev (32 ∷ cs) ls
  lexeme : {prev : Previous} {cs rest : List ℕ} {l : Lexeme} {ls : List Lexeme} → awaits_mark prev ≡ false → wants_caret prev l ≡ false → IsLexeme prev cs rest l →
      Gives (after_token prev l) rest ls → Gives prev (cs ++ rest) (l ∷ ls)

-- a cut of the characters into tokens with these lexemes
pub record IsCutInto (prev : Previous) (p : Place) (cs : List ℕ) (ls : List Lexeme) : Type 0 where
  pub tokens : List Token
  pub cuts : Cuts prev [] p cs (Ok (tokens, []))
  pub lexemes : map (λ t. t.lexeme) tokens ≡ ls

blank_calm : (prev : Previous) → awaits_mark prev ≡ false → k.after_blank prev ≡ previous.Apart
blank_calm previous.Apart e = refl
blank_calm previous.Word e = refl
blank_calm previous.Quoted e = refl
blank_calm previous.Name e = refl
blank_calm previous.Dollar e = refl
blank_calm (previous.Here _ _) e = cc

due_calm : (prev : Previous) (l : Lexeme) → awaits_mark prev ≡ false → pending_after prev l [] ≡ []
due_calm previous.Apart l e = refl
due_calm previous.Word l e = refl
due_calm previous.Quoted l e = refl
due_calm previous.Name l e = refl
due_calm previous.Dollar l e = refl
due_calm (previous.Here _ _) l e = cc

tokens_calm : (prev : Previous) (l : Lexeme) (p q : Place) → awaits_mark prev ≡ false → wants_caret prev l ≡ false → tokens_of prev l p q ≡ token l p q ∷ []
tokens_calm previous.Apart l p q e j = refl
tokens_calm previous.Word l p q e j = rw j refl
tokens_calm previous.Quoted l p q e j = rw j refl
tokens_calm previous.Name l p q e j = rw j refl
tokens_calm previous.Dollar l p q e j = refl
tokens_calm (previous.Here _ _) l p q e j = cc

pub cut : {prev : Previous} {cs : List ℕ} {ls : List Lexeme} → Gives prev cs ls → (p : Place) → IsCutInto prev p cs ls
cut (nothing {prev} e) p = record { tokens = []; cuts = k.finish prev p e; lexemes = refl }
cut (blank {prev} {cs} {ls} e g) p =
    let rest = cut g (after_char p 32) in
    record {
      tokens = rest.tokens;
      cuts = k.blank prev [] p 32 cs _ refl (subst (λ b. Cuts b [] (after_char p 32) cs (Ok (rest.tokens, []))) (sym
          (blank_calm prev e)) rest.cuts);
      lexemes = rest.lexemes;
    }
cut (lexeme {prev} {cs} {rest} {l} {ls} e j s g) p =
    let then' = cut g (after_chars p cs) in
    let q : Place = after_chars p cs in
    let whole : Cuts prev [] p (cs ++ rest) (Ok (tokens_of prev l p q ++ then'.tokens, [])) =
    k.lexeme prev [] p cs rest l _ s (subst (λ d. Cuts (after_token prev l) d q rest (Ok (then'.tokens, []))) (sym (due_calm prev l e)) then'.cuts) in
    record {
      tokens = token l p q ∷ then'.tokens;
      cuts = subst (λ ts. Cuts prev [] p (cs ++ rest) (Ok (ts ++ then'.tokens, [])))
          (tokens_calm prev l p q e j) whole;
      lexemes = ap (λ ts. l ∷ ts) then'.lexemes;
    }
