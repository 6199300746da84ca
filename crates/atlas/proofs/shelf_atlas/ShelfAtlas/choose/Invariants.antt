-- The choice from the shelves that are left is the choice from all.
use Rattle.std.proofs.Common.{◌≡◌, ◌+◌, drop}
use Rattle.fixed_vec.specs.Items.{items_of}
use Rattle.atlas.specs.Shelf.{depth, chosen}
use Rattle.atlas.proofs.shelf_atlas.ShelfAtlas.choose.Given as goal

abbrev pub invariant-loop-shelf : goal.invariant-loop-shelf
invariant-loop-shelf l =
    let ts = items_of l.self.shelves in
    let q = l.self.square in
    record {
      deep : l.y + depth (drop l.shelf-index ts) ≡ depth ts;
      same : chosen q.side q.slots l.width l.height 0 ts ≡ chosen q.side q.slots l.width l.height l.y (drop l.shelf-index ts);
    }
