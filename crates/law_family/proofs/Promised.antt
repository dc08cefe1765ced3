-- What is promised of shells that read what they are handed.
use Rattle.rc_model.specs.Family.Family.{first, read_launch}
use Rattle.law_family.specs.StepLaws.{PromisesAreKept}
use Rattle.law_family.proofs.Read.{families_read}
use Rattle.law_family.proofs.Steps.{possible, meant_after, as_made, sane}

pub promised : PromisesAreKept
promised limit c s es m = record {
  as_made = as_made read_launch limit c s es m;
  read = λ b p. families_read c s es b p (possible read_launch limit es (first read_launch c s) m.made) (meant_after read_launch limit c s es m);
  sane = sane read_launch limit c s es m;
}
