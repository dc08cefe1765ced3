-- What a shell that was handed an image may give up of its own descriptors.
use Rattle.std.specs.Prelude.{◌≡◌, ℕ, List, false, Ok}
use Rattle.law_descriptors.specs.Covering.{AfterOpens, NamesOnly}
use Rattle.rc_host.specs.Leaving.{gives_up}
use Rattle.rc_host.specs.declared.leaving.Leaving.{Leaving}
use Rattle.rc_model.specs.Handed.WordsReading.{read_pieces}
use Rattle.rc_model.specs.Run.Script.{whole}
use Rattle.rc_model.specs.Run.State.{State}
use Rattle.rc_model.specs.Syntax.Tree.{Node, cmd}

-- once the files after which it is given up are open, no call of a run of this command names what is given up
abbrev pub LeavesUnusedBy : Leaving → Node cmd → Type 0
LeavesUnusedBy leaving c =
    (n : ℕ) (s : State) → AfterOpens leaving.files (NamesOnly (λ k. gives_up leaving k ≡ false)) (whole n c s)

-- this is so for the command that these words are the image of
abbrev pub LeavesUnused : Leaving → (words : List (List ℕ)) → Type 0
LeavesUnused leaving words =
    (c : Node cmd) (taken : ℕ) → read_pieces words ≡ Ok (c, taken) → LeavesUnusedBy leaving c
