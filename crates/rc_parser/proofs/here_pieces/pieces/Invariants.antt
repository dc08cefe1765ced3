use Rattle.std.proofs.Common.{◌≡◌, length, false}
use Rattle.std.specs.Str.{chars}
use denote.Shadow.{shadow}
use denote.Text.{Utf8}
use Rattle.rc_model.specs.Syntax.HereDocs.{pieces_of, pieces_from}
use Rattle.rc_tree.specs.View.{pieces_tree}
use Rattle.rc_parser.specs.Begun.{begun_of}
use Rattle.rc_parser.proofs.here_pieces.pieces.Given as goal

abbrev pub invariant-loop-c : goal.invariant-loop-c
invariant-loop-c l = record {
  so_far : pieces_from (begun_of l.begun) (pieces_tree l.pieces.items) (chars l.rest) ≡ pieces_of false l.body;
  utf8 : shadow (Utf8 l.rest);
}

abbrev pub decreases-loop-c : goal.decreases-loop-c
decreases-loop-c l = length l.rest
