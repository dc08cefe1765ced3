-- The fixed pieces of a printed text: spaces, `;`, `^`, `=`, parentheses and braces.
use Rattle.std.proofs.Common.{refl, ℕ, List, [], ◌∷◌, ◌++◌, codes}
use lib.Utf8.{encode}
use Rattle.rc_model.specs.Syntax.Tokens as k
use Rattle.law_print.proofs.Pieces.{Piece, IsApart, apart, IsCalm, calm_apart, Anything, Ends, at_space, at_semicolon, at_caret, at_equals, at_paren, at_brace}
use Rattle.law_print.proofs.Steps.{at_start, blank_step, operator_step, left_brace_alone, left_paren_alone, semicolon_step, caret_step, equals_step, right_paren_step, right_brace_step}
use Rattle.rc_model.specs.declared.syntax.Previous.TheVariants as previous

pub space : Piece IsCalm IsApart Anything (codes " ") ([])
unfolding encode
space = record {
  chars = codes " ";
  spelled = refl;
  scalar = refl;
  clean = refl;
  cuts = λ {prev} b rest ls f g.
      blank_step b (g previous.Apart apart);
}

pub space_ends : (rest : List ℕ) → Ends (space.chars ++ rest)
unfolding space
space_ends rest = at_space

pub semicolon : Piece IsCalm IsApart Anything (codes "; ") (k.Semicolon ∷ [])
unfolding encode
semicolon = record {
  chars = codes "; ";
  spelled = refl;
  scalar = refl;
  clean = refl;
  cuts = λ {prev} b rest ls f g.
      semicolon_step b (codes " " ++ rest) (blank_step calm_apart (g previous.Apart apart));
}

pub semicolon_ends : (rest : List ℕ) → Ends (semicolon.chars ++ rest)
unfolding semicolon
semicolon_ends rest = at_semicolon

pub caret : Piece IsCalm IsApart Anything (codes "^") (k.Caret ∷ [])
unfolding encode
caret = record {
  chars = codes "^";
  spelled = refl;
  scalar = refl;
  clean = refl;
  cuts = λ {prev} b rest ls f g.
      caret_step b rest (g previous.Apart apart);
}

pub caret_ends : (rest : List ℕ) → Ends (caret.chars ++ rest)
unfolding caret
caret_ends rest = at_caret

pub equals : Piece IsCalm IsApart Anything (codes "=") (k.Equals ∷ [])
unfolding encode
equals = record {
  chars = codes "=";
  spelled = refl;
  scalar = refl;
  clean = refl;
  cuts = λ {prev} b rest ls f g.
      equals_step b rest (g previous.Apart apart);
}

pub equals_ends : (rest : List ℕ) → Ends (equals.chars ++ rest)
unfolding equals
equals_ends rest = at_equals

pub close_paren : Piece IsCalm IsApart Anything (codes ")") (k.RightParen ∷ [])
unfolding encode
close_paren = record {
  chars = codes ")";
  spelled = refl;
  scalar = refl;
  clean = refl;
  cuts = λ {prev} b rest ls f g.
      right_paren_step b rest (g previous.Apart apart);
}

pub close_paren_ends : (rest : List ℕ) → Ends (close_paren.chars ++ rest)
unfolding close_paren
close_paren_ends rest = at_paren

pub close_head : Piece IsCalm IsApart Anything (codes ") ") (k.RightParen ∷ [])
unfolding encode
close_head = record {
  chars = codes ") ";
  spelled = refl;
  scalar = refl;
  clean = refl;
  cuts = λ {prev} b rest ls f g.
      right_paren_step b (codes " " ++ rest) (blank_step calm_apart (g previous.Apart apart));
}

pub close_head_ends : (rest : List ℕ) → Ends (close_head.chars ++ rest)
unfolding close_head
close_head_ends rest = at_paren

pub close_brace : Piece IsCalm IsApart Anything (codes "}") (k.RightBrace ∷ [])
unfolding encode
close_brace = record {
  chars = codes "}";
  spelled = refl;
  scalar = refl;
  clean = refl;
  cuts = λ {prev} b rest ls f g.
      right_brace_step b rest (g previous.Apart apart);
}

pub close_brace_ends : (rest : List ℕ) → Ends (close_brace.chars ++ rest)
unfolding close_brace
close_brace_ends rest = at_brace

pub open_brace : Piece IsApart IsApart Anything (codes "{") (k.LeftBrace ∷ [])
unfolding encode
open_brace = record {
  chars = codes "{";
  spelled = refl;
  scalar = refl;
  clean = refl;
  cuts = λ {prev} b rest ls f g.
      at_start b (operator_step (codes "{") rest k.LeftBrace refl (λ e. cc) (left_brace_alone rest) refl refl (g previous.Apart apart));
}

pub open_paren : Piece IsApart IsApart Anything (codes "(") (k.LeftParen ∷ [])
unfolding encode
open_paren = record {
  chars = codes "(";
  spelled = refl;
  scalar = refl;
  clean = refl;
  cuts = λ {prev} b rest ls f g.
      at_start b (operator_step (codes "(") rest k.LeftParen refl (λ e. cc) (left_paren_alone rest) refl refl (g previous.Apart apart));
}

pub brace_after : Piece IsCalm IsApart Anything (codes " {") (k.LeftBrace ∷ [])
unfolding encode
brace_after = record {
  chars = codes " {";
  spelled = refl;
  scalar = refl;
  clean = refl;
  cuts = λ {prev} b rest ls f g.
      blank_step b (operator_step (codes "{") rest k.LeftBrace refl (λ e. cc) (left_brace_alone rest) refl refl (g previous.Apart apart));
}

pub brace_after_ends : (rest : List ℕ) → Ends (brace_after.chars ++ rest)
unfolding brace_after
brace_after_ends rest = at_space

pub back_brace : Piece IsApart IsApart Anything (codes "`{") (k.Backquote ∷ k.LeftBrace ∷ [])
unfolding encode
back_brace = record {
  chars = codes "`{";
  spelled = refl;
  scalar = refl;
  clean = refl;
  cuts = λ {prev} b rest ls f g.
      at_start b (operator_step (codes "`") (codes "{" ++ rest) k.Backquote refl (λ e. cc) refl refl refl
      (operator_step (codes "{") rest k.LeftBrace refl (λ e. cc) (left_brace_alone rest) refl refl (g previous.Apart apart)));
}
