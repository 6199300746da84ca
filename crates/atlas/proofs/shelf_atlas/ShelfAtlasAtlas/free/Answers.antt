-- A live picture goes with the shelves that vanish; else nothing changes.
use Rattle.std.proofs.Common.{sym}
use Rattle.atlas.specs.ShelfView.{shelved}
use Rattle.atlas.specs.ShelfCode.{state_sound, code_sound, live_vanished, kept_vanished}
use Rattle.atlas.proofs.shelf_atlas.ShelfAtlasAtlas.free.Goals as goal

pub invariant_of-self : goal.invariant_of-self
invariant_of-self c =
    let a = c.args.self.now in
    let V = code_sound (shelved a) (state_sound a) c.args.handle _ _ _ _ _ c.clear.ensures.side c.clear.ensures.slots c.as_slice.ensures.value c.standing-count.ensures c.truncate.ensures in
    record { tall = V.tall; within = V.within; held = V.held; trim = V.trim }

pub returns-then-is_live-clause-vanished : goal.returns-then-is_live-clause-vanished
returns-then-is_live-clause-vanished c =
    let a = c.args.self.now in
    live_vanished (shelved a) (state_sound a) c.args.handle _ _ _ _ _ c.clear.ensures.side c.clear.ensures.slots c.as_slice.ensures.value c.standing-count.ensures c.truncate.ensures (sym c.if-is_live.ensures)

pub returns-else-is_live-clause-vanished : goal.returns-else-is_live-clause-vanished
returns-else-is_live-clause-vanished c = let a = c.args.self.now in kept_vanished (shelved a) c.args.handle (state_sound a) (sym c.if-is_live.ensures)
