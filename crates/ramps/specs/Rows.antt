-- How the gradients of a page find their rows.
use Rattle.std.specs.Prelude.{ℕ, ◌+◌, ◌≤◌, Bool, cond, List, [], ◌∷◌, ◌++◌, length, take, Some, None, Ok, Err, Option, Result, nat_le, nat_lt, slice_set}
use Rattle.std.specs.List.{between, position}
use Rattle.std.specs.Option.{option_or}
use Rattle.draw.specs.declared.color.StopBits.{StopBits}
use Rattle.records.specs.declared.patch.Patch.{Patch}
use Rattle.records.specs.declared.patch.Patch.TheVariants.{Ramp, GlyphRun, Image}
use Rattle.ramps.specs.Keys.{same_key}
use Rattle.ramps.specs.declared.fault.RampFault.{RampFault}
use Rattle.ramps.specs.declared.fault.RampFault.TheVariants.{Full}

-- a row's key, the stops of a gradient, and the page that used the row last
pub record RampRow : Type 0 where
  pub key : List StopBits
  pub last : ℕ

abbrev pub used_on : ℕ → List StopBits → RampRow
used_on p k = record { key = k; last = p }

abbrev pub no_row : RampRow
no_row = used_on 0 []

abbrev pub has_key : List StopBits → RampRow → Bool
has_key k r = same_key r.key k

-- last used on a page j with j + 2 < p
abbrev pub is_stale : ℕ → RampRow → Bool
is_stale p r = nat_lt (r.last + 2) p

-- the row that has the key
abbrev pub row_with : List StopBits → List RampRow → Option ℕ
row_with k rs = position (has_key k) rs

-- the row that page p may rewrite: with 64 rows or more, the lowest stale one
abbrev pub rewritable : ℕ → List RampRow → Option ℕ
rewritable p rs = cond (nat_le 64 (length rs)) (position (is_stale p) rs) None

-- the rows after a step, or the fault
abbrev pub Chosen : Type 0
Chosen = Result (List RampRow) RampFault

-- a row behind the others, if there are fewer than 96
abbrev pub pushed : ℕ → ℕ → List StopBits → List RampRow → Chosen
pushed p n k rs = cond (nat_lt (length rs) 96) (Ok (rs ++ used_on p k ∷ [])) (Err (Full n))

-- the key in the row that is named, which may have it already, or in a new row
abbrev pub put_at : ℕ → ℕ → List StopBits → List RampRow → Option ℕ → Chosen
put_at p n k rs (Some at) = Ok (slice_set rs at (used_on p k))
put_at p n k rs None = pushed p n k rs

-- the gradient of patch n, whose key is k, on page p: a known key is used again, else a row is rewritten, else one is added
abbrev pub added : ℕ → ℕ → List StopBits → List RampRow → Chosen
added p n k rs = put_at p n k rs (option_or (row_with k rs) (rewritable p rs))

-- only a gradient takes a row
abbrev pub added_for : ℕ → List StopBits → ℕ → Patch → List RampRow → Chosen
added_for p stops n (Ramp o a b e) rs = added p n (between a b stops) rs
added_for p stops n (GlyphRun i) rs = Ok rs
added_for p stops n (Image o id w h) rs = Ok rs

abbrev pub and_then : Chosen → (List RampRow → Chosen) → Chosen
and_then (Ok rs) next = next rs
and_then (Err f) next = Err f

-- the patches in order, the first of which is patch n
abbrev pub added_from : ℕ → List StopBits → ℕ → List Patch → List RampRow → Chosen
added_from p stops n [] rs = Ok rs
added_from p stops n (x ∷ xs) rs = and_then (added_for p stops n x rs) (added_from p stops (n + 1) xs)

-- a call's answer with the rows that it leaves; after a fault these do not matter
abbrev pub outcome : Result (Unit {0}) RampFault → List RampRow → Chosen
outcome (Ok x) rs = Ok rs
outcome (Err f) rs = Err f

-- rows 64 and up are dropped
abbrev pub maintained : List RampRow → List RampRow
maintained rs = take 64 rs

-- the rows of page p
abbrev pub rows_for : ℕ → List StopBits → List Patch → List RampRow → Chosen
rows_for p stops patches rs = added_from p stops 0 patches (maintained rs)

-- a gradient's stops are at most 16, of n that there are
abbrev pub Inside : ℕ → Patch → Type 0
Inside n (Ramp o a b e) = (a ≤ b) × (b ≤ n) × (b ≤ a + 16)
Inside n (GlyphRun i) = Unit {0}
Inside n (Image o id w h) = Unit {0}
