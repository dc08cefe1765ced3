-- Lines of a list, one after another.
use Rattle.std.proofs.Common.{ℕ, Bool, true, false, List, [], ◌∷◌, ◌++◌}
use Rattle.rc_model.specs.Syntax.Tree.{Node}
use Rattle.rc_model.specs.Syntax.Tree as t
use Rattle.rc_model.specs.Syntax.Tokens.{Lexeme}
use Rattle.rc_model.specs.Syntax.Printing as p
use Rattle.law_print.specs.Lexemes.{LexemeLine, ended, parting, listed, body_lines}
use Rattle.law_print.proofs.Pieces.{Piece, IsApart, IsCalm, Ends, followed, calmed, empty, between}
use Rattle.law_print.proofs.Marks.{space, space_ends, semicolon, semicolon_ends}
use Rattle.law_print.proofs.Operators.{ampersand, ampersand_ends}

-- the texts of lines with their lexemes
pub data Lines : List p.Line → List LexemeLine → Type 0 where
  no_lines : Lines [] []
  line : {text : List ℕ} {ls : List Lexeme} (background : Bool) {lines : List p.Line} {others : List LexemeLine} →
      Piece IsApart IsCalm Ends text ls → Lines lines others →
      Lines ((text, background) ∷ lines) ((ls, background) ∷ others)

pub lines_append : {xs ys : List p.Line} {ls ms : List LexemeLine} → Lines xs ls → Lines ys ms → Lines (xs ++ ys) (ls ++ ms)
lines_append no_lines r = r
lines_append (line b q l) r = line b q (lines_append l r)

ended_piece : {text : List ℕ} {ls : List Lexeme} (background : Bool) → Piece IsApart IsCalm Ends text ls →
    Piece IsApart IsCalm Ends (p.ended (text, background)) (ended (ls, background))
ended_piece true q = calmed (followed q ampersand (λ rest e. ampersand_ends rest))
ended_piece false q = q

before_next : {text rest : List ℕ} {ls ms : List Lexeme} (background : Bool) → Piece IsApart IsCalm Ends text ls → Piece IsApart IsCalm Ends rest ms →
    Piece IsApart IsCalm Ends (p.ended (text, background) ++ (p.parting (text, background) ++ rest)) (ended (ls, background) ++ (parting
    (ls, background) ++ ms))
before_next true q r = between (ended_piece true q) space space_ends r (λ rest e. tt)
before_next false q r = between q semicolon semicolon_ends r (λ rest e. tt)

pub listed_piece : {xs : List p.Line} {ls : List LexemeLine} → Lines xs ls → Piece IsApart IsCalm Ends (p.listed xs) (listed ls)
listed_piece no_lines = empty
listed_piece (line b q no_lines) = ended_piece b q
listed_piece (line b q (line c r l)) = before_next b q (listed_piece (line c r l))

-- a body that is no list is one line
pub body_of : (c : Node t.cmd) {xs : List p.Line} {ls : List LexemeLine} {text : List ℕ} {ms : List Lexeme} → Lines xs ls → Piece IsApart IsCalm Ends text ms →
    Lines (p.body_lines c xs text) (body_lines c ls ms)
body_of (t.Seq _) l q = l
body_of _ l q = line false q no_lines
