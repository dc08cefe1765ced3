use Rattle.std.proofs.Common.{◌≡◌, ◌++◌, map, take, string_bytes}
use Rattle.std.specs.List.{flat_map}
use Rattle.rc_text.specs.Texts.{text_bytes}
use Rattle.rc_trace.specs.Starts.{news_of}
use Rattle.rc_trace.proofs.starts.push_news.Given as goal

abbrev pub invariant-loop-entry : goal.invariant-loop-entry
invariant-loop-entry l = string_bytes l.out ≡ string_bytes l.initial.out ++ flat_map (news_of (map string_bytes l.known) l.images) (map text_bytes (take l.entry-index l.entries))
