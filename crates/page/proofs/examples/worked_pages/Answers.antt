use Rattle.std.proofs.Common.{refl}
use lib.Ieee.{to_bits}
use Rattle.page.proofs.examples.worked_pages.Goals as goal

pub returns-clause-nan : goal.returns-clause-nan
unfolding to_bits
returns-clause-nan c = refl
