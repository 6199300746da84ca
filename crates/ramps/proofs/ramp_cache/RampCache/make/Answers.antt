use Rattle.std.proofs.Common.{rules}
use Rattle.ramps.proofs.Lawful.{row_laws}
use Rattle.ramps.proofs.ramp_cache.RampCache.make.Goals as goal

pub returns-in_err-samples : goal.returns-in_err-samples
returns-in_err-samples c = record { rows = search rules; laws = row_laws }

pub returns : goal.returns
returns c = record { rows = search rules; laws = row_laws }
