-- The code that a compiler has of the items that came to it.
use Rattle.std.specs.Prelude.{◌≡◌, Option, Some, None, false, if◌then◌else◌, []}
use Rattle.rc_model.specs.Code.Layout.{Code, items_code}
use Rattle.rc_model.specs.Syntax.Tree.{Many, item}
use Rattle.rc_code.specs.Listings.{listing_of}
use Rattle.rc_code.specs.Writing.{with_part}
use Rattle.rc_code.specs.declared.compiler.Compiler.{Compiler}

-- the code so far, or none once memory was refused for an item, which may be written in part
abbrev pub code_so_far : Compiler → Option Code
code_so_far c = if c.is_spent then None else Some (listing_of c.listing)

-- these items are compiled, and nothing else
abbrev pub HasCompiled : Many item → Compiler → Type 0
HasCompiled items c = code_so_far c ≡ Some (with_part (record { ops = []; kept = [] }) (items_code items false))
