use Rattle.page.proofs.Parts.{accepted_lies, rising, rejoined}
use Rattle.page.proofs.laws.parts_rejoin.Goals as goal

pub returns : goal.returns
returns c = λ bytes l h z. rejoined bytes l (rising _ l (accepted_lies bytes l h)) z
