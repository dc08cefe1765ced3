use Rattle.std.proofs.Common.{◌≡◌, ◌++◌}
use Rattle.rc_scope.specs.Bodies.{definitions_of, functions_of}
use Rattle.rc_scope.proofs.functions.definitions.Given as goal

-- the functions so far and those to come are all
abbrev pub invariant-loop-name : goal.invariant-loop-name
invariant-loop-name l = definitions_of l.all.items ++ functions_of l.name-iterator ≡ functions_of l.functions.entries
