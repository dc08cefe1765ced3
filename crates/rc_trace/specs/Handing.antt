-- What a world does that hands words to the shells that it starts.
use Rattle.std.specs.Prelude.{◌≡◌, ◌⊎◌, ℕ, ◌+◌, ◌-◌, ◌^◌, min, List, [], ◌∷◌, ◌++◌, map, codes, Option, None, Some}
use Rattle.std.specs.Prelude.{string_bytes}
use Rattle.std.specs.Fmt.{decimal}
use Rattle.rc_model.specs.Run.Calls.{Call, Answer, Launch, start, refused}
use Rattle.rc_model.specs.declared.call.Fault.TheVariants.{NoMemory}
use Rattle.rc_world.specs.Comes.{Recording, Records}
use Rattle.rc_trace.specs.declared.handing_world.HandingWorld.{HandingWorld}

-- what shells are named by: the options before a name, the name of this process, and how many shells it has started
pub record Names : Type 0 where
  pub options : List (List ℕ)
  pub process : List ℕ
  pub started : ℕ

-- with one shell more
abbrev pub one_more : Names → Names
one_more names = record names { started = min (names.started + 1) (2 ^ 64 - 1) }

-- the name of the shell that was started last: that of this process, a dot and its number
abbrev pub name_by : Names → List ℕ
name_by names = names.process ++ (codes "." ++ decimal names.started)

-- the words for that shell: the options, and its name
abbrev pub words_by : Names → List (List ℕ)
words_by names = names.options ++ name_by names ∷ []

-- what a world names shells by
abbrev pub names_of : {W : Type 0} → HandingWorld W → Names
names_of world = record {
  options = map string_bytes world.options.items;
  process = string_bytes world.process;
  started = world.started;
}

-- the world that calls are passed on to
abbrev pub handed_on : {W : Type 0} → HandingWorld W → W
handed_on world = world.world

-- a call is passed on as it is
pub record Passes {W : Type 0} (events : Recording W) (old new : HandingWorld W) (call : Call) (answer : Answer) :
    Type 0 where
  pub passed : Records events (handed_on old) (handed_on new) call answer
  pub names : names_of new ≡ names_of old

-- a launch of a shell, with further words before its own
abbrev pub with_words : List (List ℕ) → Launch → Launch
with_words words launch = record launch { args = words ++ launch.args }

-- a launch hands over what another one does, after the words for the shell that was started last
abbrev pub IsHanded : Names → (launch handed : Launch) → Type 0
IsHanded names launch handed = handed ≡ with_words (words_by names) launch

-- a launch is passed on with these words, unless there is no memory for them
abbrev HandsWith : {W : Type 0} → Recording W → (old new : HandingWorld W) → Names → Launch → Answer → Type 0
HandsWith events old new names launch answer =
    ((handed : Launch) × IsHanded names launch handed
    × Records events (handed_on old) (handed_on new) (start handed) answer)
    ⊎ ((handed_on new ≡ handed_on old) × (answer ≡ refused NoMemory))

-- a launch of a shell is passed on with the words for one shell more
pub record HandsOn {W : Type 0} (events : Recording W) (old new : HandingWorld W) (launch : Launch)
    (answer : Answer) : Type 0 where
  pub passed : HandsWith events old new (one_more (names_of old)) launch answer
  pub names : names_of new ≡ one_more (names_of old)

-- by the path of a program, none for a shell: a launch of a program is passed on as it is
abbrev pub HandsTo : {W : Type 0} → Option (List ℕ) → Recording W → (old new : HandingWorld W) → Launch → Answer →
    Type 0
HandsTo (Some path) events old new launch answer = Passes events old new (start launch) answer
HandsTo None events old new launch answer = HandsOn events old new launch answer

-- by what is started
abbrev pub Hands : {W : Type 0} → Recording W → (old new : HandingWorld W) → Launch → Answer → Type 0
Hands events old new launch answer = HandsTo launch.program events old new launch answer
