use Rattle.std.proofs.Common.{◌≡◌, length}
use Rattle.std.specs.Str.{IsUtf8}
use Rattle.rc_text.specs.Members.{members_in}
use Rattle.rc_text.proofs.members.first_member.Given as goal

abbrev pub invariant-loop-member : goal.invariant-loop-member
invariant-loop-member l = record {
  same : members_in l.separators l.rest ≡ members_in l.separators l.text;
  utf8 : IsUtf8 l.rest;
}

abbrev pub decreases-loop-member : goal.decreases-loop-member
decreases-loop-member l = length l.rest
