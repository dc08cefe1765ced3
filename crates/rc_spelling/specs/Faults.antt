-- Why there is no image.
use Rattle.rc_model.specs.declared.fault.InputError.{InputError}
use Rattle.rc_model.specs.declared.fault.ImageFault.{ImageFault}

-- why there is no image, or no tree for one
abbrev pub ImageError : Type 0
ImageError = InputError ImageFault
