-- The fixed pieces of a printed text: keywords, with what is printed directly after them.
use Rattle.std.proofs.Common.{◌≡◌, refl, ap, sym, subst, ◌∙◌, ℕ, true, List, [], ◌∷◌, ◌++◌, append_assoc, codes}
use Rattle.std.proofs.lemmas.Str.{encodes-append}
use lib.Utf8.{encode, encodes, scalars}
use Rattle.rc_model.specs.Syntax.Text.{without_zero}
use Rattle.rc_model.specs.Syntax.Tokens as k
use Rattle.law_print.proofs.Gives.{Gives}
use Rattle.law_print.proofs.Pieces.{Piece, IsApart, apart, IsCalm, calm_word, Anything, Ends, at_space, scalars-append, clean-append}
use Rattle.law_print.proofs.Steps.{is_plain, at_start, blank_step, word_step, paren_step}
use Rattle.rc_model.specs.declared.syntax.Previous.TheVariants as previous

-- a word, and a parenthesis directly after it
word_paren : (word : List ℕ) → is_plain word ≡ true → encodes word ≡ word → scalars word ≡ true → without_zero word ≡ true →
    Piece IsApart IsApart Anything (word ++ codes "(") (k.Word word ∷ k.LeftParen ∷ [])
unfolding encode
word_paren word plain same scalar clean = record {
  chars = word ++ codes "(";
  spelled = encodes-append word (codes "(") ∙ ap (λ l. l ++ codes "(") same;
  scalar = scalars-append word (codes "(") scalar refl;
  clean = clean-append word (codes "(") clean refl;
  cuts = λ {prev} b rest ls f g.
      subst (λ cs. Gives prev cs (k.Word word ∷ k.LeftParen ∷ ls)) (sym (append_assoc word (codes "(") rest))
      (at_start b (word_step word (codes "(" ++ rest) plain same refl (paren_step rest (g previous.Apart apart))));
}

-- a word, and a space after it
word_space : (word : List ℕ) → is_plain word ≡ true → encodes word ≡ word → scalars word ≡ true → without_zero word ≡ true →
    Piece IsApart IsApart Anything (word ++ codes " ") (k.Word word ∷ [])
unfolding encode
word_space word plain same scalar clean = record {
  chars = word ++ codes " ";
  spelled = encodes-append word (codes " ") ∙ ap (λ l. l ++ codes " ") same;
  scalar = scalars-append word (codes " ") scalar refl;
  clean = clean-append word (codes " ") clean refl;
  cuts = λ {prev} b rest ls f g.
      subst (λ cs. Gives prev cs (k.Word word ∷ ls)) (sym (append_assoc word (codes " ") rest))
      (at_start b (word_step word (codes " " ++ rest) plain same refl (blank_step calm_word (g previous.Apart apart))));
}

pub if_paren : Piece IsApart IsApart Anything (codes "if(") (k.Word (codes "if") ∷ k.LeftParen ∷ [])
unfolding encode
if_paren = word_paren (codes "if") refl refl refl refl

pub if_not : Piece IsApart IsApart Anything (codes "if not ") (k.Word (codes "if") ∷ k.Word (codes "not") ∷ [])
unfolding encode
if_not = record {
  chars = codes "if not ";
  spelled = refl;
  scalar = refl;
  clean = refl;
  cuts = λ {prev} b rest ls f g.
      at_start b (word_step (codes "if") (codes " not " ++ rest) refl refl refl (blank_step calm_word
      (word_step (codes "not") (codes " " ++ rest) refl refl refl (blank_step calm_word (g previous.Apart apart)))));
}

pub while_paren : Piece IsApart IsApart Anything (codes "while(") (k.Word (codes "while") ∷ k.LeftParen ∷ [])
unfolding encode
while_paren = word_paren (codes "while") refl refl refl refl

pub for_paren : Piece IsApart IsApart Anything (codes "for(") (k.Word (codes "for") ∷ k.LeftParen ∷ [])
unfolding encode
for_paren = word_paren (codes "for") refl refl refl refl

pub in_word : Piece IsCalm IsApart Anything (codes " in ") (k.Word (codes "in") ∷ [])
unfolding encode
in_word = record {
  chars = codes " in ";
  spelled = refl;
  scalar = refl;
  clean = refl;
  cuts = λ {prev} b rest ls f g.
      blank_step b (word_step (codes "in") (codes " " ++ rest) refl refl refl (blank_step calm_word (g previous.Apart apart)));
}

pub in_word_ends : (rest : List ℕ) → Ends (in_word.chars ++ rest)
unfolding in_word
in_word_ends rest = at_space

pub switch_word : Piece IsApart IsApart Anything (codes "switch ") (k.Word (codes "switch") ∷ [])
unfolding encode
switch_word = word_space (codes "switch") refl refl refl refl

pub match_word : Piece IsApart IsApart Anything (codes "~ ") (k.Word (codes "~") ∷ [])
unfolding encode
match_word = word_space (codes "~") refl refl refl refl

pub fn_word : Piece IsApart IsApart Anything (codes "fn ") (k.Word (codes "fn") ∷ [])
unfolding encode
fn_word = word_space (codes "fn") refl refl refl refl

pub bang : Piece IsApart IsApart Anything (codes "! ") (k.Word (codes "!") ∷ [])
unfolding encode
bang = word_space (codes "!") refl refl refl refl

pub at : Piece IsApart IsApart Anything (codes "@ ") (k.Word (codes "@") ∷ [])
unfolding encode
at = word_space (codes "@") refl refl refl refl
