-- The list that holds the members of a value.
use Rattle.std.specs.Prelude.{List}
use Rattle.rc_text.specs.declared.texts.Text.{Text}
use Rattle.rc_scope.specs.declared.variables.member_lists.MemberList.{MemberList}
use Rattle.rc_scope.specs.declared.variables.member_lists.MemberList.TheVariants.{Own, Shared}

-- the texts, whether they are shared or not
abbrev pub members_in : MemberList → List Text
members_in (Own texts) = texts.items
members_in (Shared texts) = texts.value.items
