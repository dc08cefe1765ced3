-- The requests that the arguments of the program make.
use Rattle.std.specs.Prelude.{ℕ, List, [], ◌∷◌, Bool, true, false, ◌==◌, if◌then◌else◌, Option, Some, None, codes}
use Rattle.std.specs.Str.{bytes_eq}

-- the source of the script: standard input, an argument, the file of this name, or an image
pub data Source : Type 0 where
  Input : Source
  Text : List ℕ → Source
  File : List ℕ → Source
  Image : Source

-- the name of the file that is read, if there is one
abbrev pub name_of : Source → Option (List ℕ)
name_of Input = Some (codes "standard input")
name_of (Text text) = None
name_of (File name) = Some name
name_of Image = None

-- a script, its arguments, and whether a simple command that fails ends the shell; the words of an image come first
-- among the arguments
pub record Request : Type 0 where
  pub strict : Bool
  pub source : Source
  pub arguments : List (List ℕ)

-- the text begins with a dash
abbrev pub is_option : List ℕ → Bool
is_option [] = false
is_option (b ∷ rest) = b == 45

-- `-c` needs a text after it
abbrev pub request_of_text : Bool → List (List ℕ) → Option Request
request_of_text strict [] = None
request_of_text strict (text ∷ others) = Some (record { strict = strict; source = Text text; arguments = others })

-- `[-c text | file] [arg ...]`, or `-S` and the words of an image; there are no other options
abbrev pub request_of_script : Bool → List (List ℕ) → Option Request
request_of_script strict [] = Some (record { strict = strict; source = Input; arguments = [] })
request_of_script strict (first ∷ others) =
    if bytes_eq first (codes "-c") then request_of_text strict others
    else if bytes_eq first (codes "-S") then Some (record { strict = strict; source = Image; arguments = others })
    else if is_option first then None
    else Some (record { strict = strict; source = File first; arguments = others })

-- `-e` comes first
abbrev pub request_of : List (List ℕ) → Option Request
request_of [] = request_of_script false []
request_of (first ∷ others) =
    if bytes_eq first (codes "-e") then request_of_script true others else request_of_script false (first ∷ others)
