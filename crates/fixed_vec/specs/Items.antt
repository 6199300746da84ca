-- What a fixed list holds.
use Rattle.std.specs.Prelude.{ℕ, List, take}
use Rattle.fixed_vec.specs.declared.fixed_vec.FixedVec.{FixedVec}

abbrev pub items_of : {T : Type 0} {N : ℕ} → FixedVec T N → List T
items_of v = take v.len v.items
