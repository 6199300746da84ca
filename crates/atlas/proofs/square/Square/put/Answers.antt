-- A picture inside and clear of the others keeps all inside and apart.
use Rattle.atlas.specs.SlotFacts.{sound_set}
use Rattle.atlas.proofs.square.Square.put.Goals as goal

pub invariant_of-self : goal.invariant_of-self
invariant_of-self c = let a = c.args.self.now in record { sound = sound_set a.side a.slots a.sound c.args.handle c.args.picture c.requires.slot c.requires.inside c.requires.apart }
