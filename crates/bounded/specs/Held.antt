-- What a bounded list holds, and what it has room for.
use Rattle.std.specs.Prelude.{◌≡◌, ℕ, ◌+◌, ◌≤◌, min, Bool, List, [], ◌++◌, length, vec_items, nat_le}
use Rattle.bounded.specs.declared.bounded_vec.BoundedVec.{BoundedVec}

module _ {T : Type 0} where
  abbrev pub items : BoundedVec T → List T
  items l = vec_items l.items

  abbrev pub len : BoundedVec T → ℕ
  len l = length (vec_items l.items)

  -- that many more fit
  abbrev pub Fits : BoundedVec T → ℕ → Type 0
  Fits l more = len l + more ≤ l.limit

  -- whether they do
  abbrev pub room : BoundedVec T → ℕ → Bool
  room l more = nat_le (len l + more) l.limit

  -- an empty list with room for n, at most a million
  pub record Fresh (l : BoundedVec T) (n : ℕ) : Type 0 where
    pub items : items l ≡ []
    pub limit : l.limit ≡ min n 1000000

  -- a list after some entries were put at its end
  pub record Extends (old new : BoundedVec T) (more : List T) : Type 0 where
    pub items : items new ≡ items old ++ more
    pub len : len new ≡ len old + length more
    pub limit : new.limit ≡ old.limit
