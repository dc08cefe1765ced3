-- How an error of the system maps to a fault.
use Rattle.std.specs.IoError.{error_kind, raw_os_error}
use Rattle.std.specs.Prelude.{ℤ, Option, None}
use Rattle.std.specs.declared.io.Error.{Error}
use Rattle.std.specs.declared.io.ErrorKind.{ErrorKind}
use Rattle.std.specs.declared.io.ErrorKind.TheVariants as kind
use Rattle.rc_model.specs.declared.call.Fault.{Fault}
use Rattle.rc_model.specs.declared.call.Fault.TheVariants.{NotFound, Denied, Exists, Broken, Full, Other, NoMemory}

-- by its kind and Linux's number for it: out of memory without a number occurred before Linux was asked
abbrev pub fault_of : ErrorKind → Option ℤ → Fault
fault_of kind.NotFound number = NotFound
fault_of kind.PermissionDenied number = Denied
fault_of kind.AlreadyExists number = Exists
fault_of kind.BrokenPipe number = Broken
fault_of kind.StorageFull number = Full
fault_of kind.OutOfMemory None = NoMemory
fault_of _ number = Other

-- the fault for an error
abbrev pub fault_at : Error → Fault
fault_at error = fault_of (error_kind error) (raw_os_error error)
