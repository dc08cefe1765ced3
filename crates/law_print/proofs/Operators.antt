-- The fixed pieces of a printed text: bars, `&&`, `||`, redirections and `&`.
use Rattle.std.proofs.Common.{◌≡◌, ◌≢◌, refl, ap, sym, subst, ◌∙◌, ℕ, true, false, List, [], ◌∷◌, ◌++◌, append_assoc, Some, codes}
use Rattle.std.proofs.lemmas.Str.{encodes-append}
use lib.Utf8.{encode, encodes, scalars}
use Rattle.rc_model.specs.declared.call.Mode.TheVariants.{Read, Write, Append}
use Rattle.rc_model.specs.Syntax.Text.{without_zero}
use Rattle.rc_model.specs.Syntax.Tokens.{Lexeme, operator, goes_on, meant, after_token}
use Rattle.rc_model.specs.Syntax.Tokens as k
use Rattle.law_print.proofs.Gives.{Gives}
use Rattle.law_print.proofs.Pieces.{Piece, IsApart, apart, IsCalm, calm_apart, Anything, Ends, at_end, at_space, at_semicolon, at_caret, at_equals, at_paren, at_brace, scalars-append, clean-append}
use Rattle.law_print.proofs.Steps.{at_start, blank_step, operator_step, copy_two_alone, copy_one_alone}
use Rattle.rc_model.specs.declared.syntax.Previous.TheVariants as previous

pub bar_one : Piece IsCalm IsApart Anything (codes " | ") ((k.Bar 1) ∷ [])
unfolding encode
bar_one = record {
  chars = codes " | ";
  spelled = refl;
  scalar = refl;
  clean = refl;
  cuts = λ {prev} b rest ls f g.
      blank_step b (operator_step (codes "|") (codes " " ++ rest) (k.Bar 1) refl (λ e. cc) refl refl refl (blank_step calm_apart (g previous.Apart apart)));
}

pub bar_one_ends : (rest : List ℕ) → Ends (bar_one.chars ++ rest)
unfolding bar_one
bar_one_ends rest = at_space

pub bar_two : Piece IsCalm IsApart Anything (codes " |[2] ") ((k.Bar 2) ∷ [])
unfolding encode
bar_two = record {
  chars = codes " |[2] ";
  spelled = refl;
  scalar = refl;
  clean = refl;
  cuts = λ {prev} b rest ls f g.
      blank_step b (operator_step (codes "|[2]") (codes " " ++ rest) (k.Bar 2) refl (λ e. cc) refl refl refl (blank_step calm_apart (g previous.Apart apart)));
}

pub bar_two_ends : (rest : List ℕ) → Ends (bar_two.chars ++ rest)
unfolding bar_two
bar_two_ends rest = at_space

pub and_and : Piece IsCalm IsApart Anything (codes " && ") (k.AndAnd ∷ [])
unfolding encode
and_and = record {
  chars = codes " && ";
  spelled = refl;
  scalar = refl;
  clean = refl;
  cuts = λ {prev} b rest ls f g.
      blank_step b (operator_step (codes "&&") (codes " " ++ rest) k.AndAnd refl (λ e. cc) refl refl refl (blank_step calm_apart (g previous.Apart apart)));
}

pub and_and_ends : (rest : List ℕ) → Ends (and_and.chars ++ rest)
unfolding and_and
and_and_ends rest = at_space

pub or_or : Piece IsCalm IsApart Anything (codes " || ") (k.OrOr ∷ [])
unfolding encode
or_or = record {
  chars = codes " || ";
  spelled = refl;
  scalar = refl;
  clean = refl;
  cuts = λ {prev} b rest ls f g.
      blank_step b (operator_step (codes "||") (codes " " ++ rest) k.OrOr refl (λ e. cc) refl refl refl (blank_step calm_apart (g previous.Apart apart)));
}

pub or_or_ends : (rest : List ℕ) → Ends (or_or.chars ++ rest)
unfolding or_or
or_or_ends rest = at_space

-- an operator, and a space after it
opening : (cs : List ℕ) (l : Lexeme) → operator cs ≡ Some l → l ≢ k.BareHere → ((rest : List ℕ) → goes_on cs (codes " " ++ rest) ≡ false) →
    ((rest : List ℕ) → meant previous.Apart rest l ≡ l) → after_token previous.Apart l ≡ previous.Apart → encodes cs ≡ cs → scalars cs ≡ true → without_zero cs ≡ true →
    Piece IsApart IsApart Anything (cs ++ codes " ") (l ∷ [])
unfolding encode
opening cs l found no_mark stops same next spelled scalar clean = record {
  chars = cs ++ codes " ";
  spelled = encodes-append cs (codes " ") ∙ ap (λ t. t ++ codes " ") spelled;
  scalar = scalars-append cs (codes " ") scalar refl;
  clean = clean-append cs (codes " ") clean refl;
  cuts = λ {prev} b rest ls f g.
      subst (λ t. Gives prev t (l ∷ ls)) (sym (append_assoc cs (codes " ") rest))
      (at_start b (operator_step cs (codes " " ++ rest) l found no_mark (stops rest) (same (codes " " ++ rest)) next (blank_step calm_apart (g previous.Apart apart))));
}

pub read_open : Piece IsApart IsApart Anything (codes "< ") ((k.Redirection Read 0) ∷ [])
unfolding encode
read_open = opening (codes "<") (k.Redirection Read 0) refl (λ e. cc) (λ rest. refl) (λ rest. refl) refl refl refl refl

pub write_open : Piece IsApart IsApart Anything (codes "> ") ((k.Redirection Write 1) ∷ [])
unfolding encode
write_open = opening (codes ">") (k.Redirection Write 1) refl (λ e. cc) (λ rest. refl) (λ rest. refl) refl refl refl refl

pub write_open_two : Piece IsApart IsApart Anything (codes ">[2] ") ((k.Redirection Write 2) ∷ [])
unfolding encode
write_open_two = opening (codes ">[2]") (k.Redirection Write 2) refl (λ e. cc) (λ rest. refl) (λ rest. refl) refl refl refl refl

pub append_open : Piece IsApart IsApart Anything (codes ">> ") ((k.Redirection Append 1) ∷ [])
unfolding encode
append_open = opening (codes ">>") (k.Redirection Append 1) refl (λ e. cc) (λ rest. refl) (λ rest. refl) refl refl refl refl

pub append_open_two : Piece IsApart IsApart Anything (codes ">>[2] ") ((k.Redirection Append 2) ∷ [])
unfolding encode
append_open_two = opening (codes ">>[2]") (k.Redirection Append 2) refl (λ e. cc) (λ rest. refl) (λ rest. refl) refl refl refl refl

pub copy_to_two : Piece IsApart IsApart Anything (codes ">[2=1]") ((k.CopyTo 2 1) ∷ [])
unfolding encode
copy_to_two = record {
  chars = codes ">[2=1]";
  spelled = refl;
  scalar = refl;
  clean = refl;
  cuts = λ {prev} b rest ls f g.
      at_start b (operator_step (codes ">[2=1]") rest (k.CopyTo 2 1) refl (λ e. cc) (copy_two_alone rest) refl refl (g previous.Apart apart));
}

pub copy_to_one : Piece IsApart IsApart Anything (codes ">[1=2]") ((k.CopyTo 1 2) ∷ [])
unfolding encode
copy_to_one = record {
  chars = codes ">[1=2]";
  spelled = refl;
  scalar = refl;
  clean = refl;
  cuts = λ {prev} b rest ls f g.
      at_start b (operator_step (codes ">[1=2]") rest (k.CopyTo 1 2) refl (λ e. cc) (copy_one_alone rest) refl refl (g previous.Apart apart));
}

-- `&` after a command
ampersand_alone : {rest : List ℕ} → Ends rest → goes_on (38 ∷ []) rest ≡ false
ampersand_alone at_end = refl
ampersand_alone at_space = refl
ampersand_alone at_semicolon = refl
ampersand_alone at_caret = refl
ampersand_alone at_equals = refl
ampersand_alone at_paren = refl
ampersand_alone at_brace = refl

pub ampersand : Piece IsCalm IsApart Ends (codes " &") (k.Ampersand ∷ [])
unfolding encode
ampersand = record {
  chars = codes " &";
  spelled = refl;
  scalar = refl;
  clean = refl;
  cuts = λ {prev} b rest ls f g.
      blank_step b (operator_step (codes "&") rest k.Ampersand refl (λ e. cc) (ampersand_alone f) refl refl (g previous.Apart apart));
}

pub ampersand_ends : (rest : List ℕ) → Ends (ampersand.chars ++ rest)
unfolding ampersand
ampersand_ends rest = at_space
