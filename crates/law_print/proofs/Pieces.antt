-- Pieces of a text with their lexemes, and how they are put together.
use Rattle.std.proofs.Common.{◌≡◌, refl, ap, sym, ◌∙◌, subst, ℕ, true, List, [], ◌∷◌, ◌++◌, append_assoc}
use Rattle.std.proofs.lemmas.Bool.{and_parts}
use Rattle.std.proofs.lemmas.Str.{encodes-append}
use lib.Utf8.{scalar, scalars, encodes}
use Rattle.rc_model.specs.Syntax.Text.{without_zero}
use Rattle.rc_model.specs.Syntax.Tokens.{Lexeme}
pub use Rattle.law_syntax.proofs.Zeros.{clean_append as clean-append}
use Rattle.law_print.proofs.Gives.{Gives}
use Rattle.rc_model.specs.declared.syntax.Previous.{Previous}
use Rattle.rc_model.specs.declared.syntax.Previous.TheVariants as previous

-- nothing that matters stands before; no `$` and no `<<` does
pub data IsApart : Previous → Type 0 where
  apart : IsApart previous.Apart

pub data IsCalm : Previous → Type 0 where
  calm_apart : IsCalm previous.Apart
  calm_word : IsCalm previous.Word
  calm_quoted : IsCalm previous.Quoted
  calm_name : IsCalm previous.Name

-- what may follow: anything; a character that ends each word, quoted word and name
abbrev pub Anything : List ℕ → Type 0
Anything rest = Unit {0}

pub data Ends : List ℕ → Type 0 where
  at_end : Ends []
  at_space : {rest : List ℕ} → Ends (32 ∷ rest)
  at_semicolon : {rest : List ℕ} → Ends (59 ∷ rest)
  at_caret : {rest : List ℕ} → Ends (94 ∷ rest)
  at_equals : {rest : List ℕ} → Ends (61 ∷ rest)
  at_paren : {rest : List ℕ} → Ends (41 ∷ rest)
  at_brace : {rest : List ℕ} → Ends (125 ∷ rest)

-- a text with these lexemes between what may stand before it and what it leaves
pub record Piece (before after : Previous → Type 0) (follows : List ℕ → Type 0) (text : List ℕ) (ls : List Lexeme) : Type 0 where
  pub chars : List ℕ
  pub spelled : encodes chars ≡ text
  pub scalar : scalars chars ≡ true
  pub clean : without_zero chars ≡ true
  pub cuts : {prev : Previous} → before prev → (rest : List ℕ) (more : List Lexeme) → follows rest → ((next : Previous) → after next → Gives next rest more) →
      Gives prev (chars ++ rest) (ls ++ more)

pub scalars-append : (xs ys : List ℕ) → scalars xs ≡ true → scalars ys ≡ true → scalars (xs ++ ys) ≡ true
scalars-append [] ys e f = f
scalars-append (x ∷ xs) ys e f = let p = and_parts (scalar x) (scalars xs) e in rw p.0 (scalars-append xs ys p.1 f)

-- one piece after another
unfoldable pub followed : {A B C : Previous → Type 0} {F G : List ℕ → Type 0} {x y : List ℕ} {ls ms : List Lexeme} (p : Piece A B F x ls) (q : Piece B C G y ms) →
    ((rest : List ℕ) → G rest → F (q.chars ++ rest)) → Piece A C G (x ++ y) (ls ++ ms)
followed {x = x} {y = y} {ls = ls} {ms = ms} p q fits = record {
  chars = p.chars ++ q.chars;
  spelled = encodes-append p.chars q.chars ∙ ap (λ t. t ++ encodes q.chars) p.spelled ∙ ap (λ t. x ++ t) q.spelled;
  scalar = scalars-append p.chars q.chars p.scalar q.scalar;
  clean = clean-append p.chars q.chars p.clean q.clean;
  cuts = λ {prev} a rest more g then'.
      subst (λ cs. Gives prev cs ((ls ++ ms) ++ more)) (sym (append_assoc p.chars q.chars rest))
      (subst (λ l. Gives prev (p.chars ++ (q.chars ++ rest)) l) (sym (append_assoc ls ms more))
      (p.cuts a (q.chars ++ rest) (ms ++ more) (fits rest g) (λ next b. q.cuts b rest more g then')));
}

-- a piece after which anything may follow, where less is wanted
pub settled : {A : Previous → Type 0} {x : List ℕ} {ls : List Lexeme} → Piece A IsApart Anything x ls → Piece A IsCalm Ends x ls
settled p = record {
  chars = p.chars;
  spelled = p.spelled;
  scalar = p.scalar;
  clean = p.clean;
  cuts = λ {prev} a rest more e g. p.cuts a rest more tt (λ next b. g next (calm b));
}
  where
    calm : {next : Previous} → IsApart next → IsCalm next
    calm apart = calm_apart

-- no text
pub empty : Piece IsApart IsCalm Ends [] []
empty = record { chars = []; spelled = refl; scalar = refl; clean = refl; cuts = λ {prev} b. gives b }
  where
    gives : {prev : Previous} → IsApart prev → (rest : List ℕ) (more : List Lexeme) → Ends rest → ((next : Previous) → IsCalm next →
        Gives next rest more) → Gives prev rest more
    gives apart rest more e g = g previous.Apart calm_apart

-- a piece that may follow each word
pub record Tail (text : List ℕ) (ls : List Lexeme) : Type 0 where
  pub piece : Piece IsCalm IsCalm Ends text ls
  pub fits : (rest : List ℕ) → Ends rest → Ends (piece.chars ++ rest)

pub no_tail : Tail [] []
no_tail = record {
  piece = record { chars = []; spelled = refl; scalar = refl; clean = refl; cuts = λ {prev} b rest more e g. g prev b };
  fits = λ rest e. e;
}

-- a mark and a piece after it
pub marked : {x y : List ℕ} {ls ms : List Lexeme} (p : Piece IsCalm IsApart Anything x ls) → ((rest : List ℕ) → Ends (p.chars ++ rest)) →
    Piece IsApart IsCalm Ends y ms → Tail (x ++ y) (ls ++ ms)
unfolding followed
marked p starts q = record {
  piece = followed p q (λ rest e. tt);
  fits = λ rest e. subst Ends (sym (append_assoc p.chars q.chars rest)) (starts (q.chars ++ rest));
}

pub both : {x y : List ℕ} {ls ms : List Lexeme} → Tail x ls → Tail y ms → Tail (x ++ y) (ls ++ ms)
unfolding followed
both p q = record {
  piece = followed p.piece q.piece q.fits;
  fits = λ rest e. subst Ends (sym (append_assoc p.piece.chars q.piece.chars rest)) (p.fits (q.piece.chars ++ rest) (q.fits rest e));
}

-- a piece with a tail
pub tailed : {A : Previous → Type 0} {x y : List ℕ} {ls ms : List Lexeme} → Piece A IsCalm Ends x ls → Tail y ms → Piece A IsCalm Ends (x ++ y) (ls ++ ms)
tailed p q = followed p q.piece q.fits

-- a piece after one that anything may follow
pub led : {A B C : Previous → Type 0} {G : List ℕ → Type 0} {x y : List ℕ} {ls ms : List Lexeme} → Piece A B Anything x ls → Piece B C G y ms →
    Piece A C G (x ++ y) (ls ++ ms)
led p q = followed p q (λ rest g. tt)

-- a piece, a mark and what is after it
pub between : {A B C : Previous → Type 0} {F G : List ℕ → Type 0} {x y z : List ℕ} {ls ms ns : List Lexeme} → Piece A IsCalm Ends x ls →
    (p : Piece IsCalm B F y ms) → ((rest : List ℕ) → Ends (p.chars ++ rest)) → (q : Piece B C G z ns) → ((rest : List ℕ) → G rest → F (q.chars ++ rest)) →
    Piece A C G (x ++ (y ++ z)) (ls ++ (ms ++ ns))
unfolding followed
between o p starts q fits = followed o (followed p q fits) (λ rest g. subst Ends (sym (append_assoc p.chars q.chars rest)) (starts (q.chars ++ rest)))

pub calmed : {A : Previous → Type 0} {F : List ℕ → Type 0} {x : List ℕ} {ls : List Lexeme} → Piece A IsApart F x ls → Piece A IsCalm F x ls
calmed p = record {
  chars = p.chars;
  spelled = p.spelled;
  scalar = p.scalar;
  clean = p.clean;
  cuts = λ {prev} a rest more f g. p.cuts a rest more f (λ next b. g next (calm b));
}
  where
    calm : {next : Previous} → IsApart next → IsCalm next
    calm apart = calm_apart

-- no text, before anything
pub nothing_yet : Piece IsApart IsApart Anything [] []
nothing_yet = record { chars = []; spelled = refl; scalar = refl; clean = refl; cuts = λ {prev} b rest more f g. g prev b }
