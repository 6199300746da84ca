-- What the rows of a page are, in the words of their rules.
use Rattle.std.specs.Prelude.{◌≡◌, ℕ, ◌+◌, ◌-◌, ◌*◌, ◌<◌, ◌≤◌, List, [], ◌∷◌, ◌++◌, length, drop, replicate, Some, Ok, Err, Decides, ◌≢◌, slice_index_or, slice_set}
use Rattle.std.specs.List.{between}
use Rattle.draw.specs.declared.color.StopBits.{StopBits}
use Rattle.records.specs.declared.patch.Patch.{Patch}
use Rattle.records.specs.declared.patch.Patch.TheVariants.{Ramp, GlyphRun, Image}
use Rattle.ramps.specs.declared.fault.RampFault.TheVariants.{Full}
use Rattle.ramps.specs.Keys.{same_key}
use Rattle.ramps.specs.Rows.{RampRow, used_on, no_row, row_with, Chosen, added, added_from, maintained, rows_for}
use Rattle.ramps.specs.Sheet.{samples_of, part, sheet_of}

abbrev pub key_at : List RampRow → ℕ → List StopBits
key_at rs i = (slice_index_or rs i no_row).key

abbrev pub last_at : List RampRow → ℕ → ℕ
last_at rs i = (slice_index_or rs i no_row).last

-- ---- one gradient, of patch n, with the key k, on page p

-- no row has the key
abbrev pub New : List StopBits → List RampRow → Type 0
New k rs = (i : ℕ) → i < length rs → key_at rs i ≢ k

-- no row below i was last used on a page j with j + 2 < p
abbrev pub NoneStale : ℕ → ℕ → List RampRow → Type 0
NoneStale p i rs = (j : ℕ) → j < i → p ≤ last_at rs j + 2

pub data Step (p n : ℕ) (k : List StopBits) (rs : List RampRow) : Chosen → Type 0 where
  -- a known key is used again
  again : (i : ℕ) → i < length rs → key_at rs i ≡ k → Step p n k rs (Ok (slice_set rs i (used_on p k)))
  -- with 64 rows or more the lowest stale row is rewritten
  rewrites : New k rs → 64 ≤ length rs → (i : ℕ) → i < length rs → last_at rs i + 2 < p → NoneStale p i rs → Step p n k rs (Ok (slice_set rs i (used_on p k)))
  -- else a row is added
  adds : New k rs → (64 ≤ length rs → NoneStale p (length rs) rs) → length rs < 96 → Step p n k rs (Ok (rs ++ used_on p k ∷ []))
  -- unless there are 96
  refuses : New k rs → NoneStale p (length rs) rs → 96 ≤ length rs → Step p n k rs (Err (Full n))

-- ---- a page

-- no two rows have the same key
abbrev pub Distinct : List RampRow → Type 0
Distinct rs = (i j : ℕ) → i < length rs → j < length rs → key_at rs i ≡ key_at rs j → i ≡ j

-- what rows keep from page to page: there are at most 96, and they are distinct
pub record Sound (rs : List RampRow) : Type 0 where
  pub few : length rs ≤ 96
  pub distinct : Distinct rs

-- a row that page p used stays as it is
abbrev pub Kept : ℕ → List RampRow → List RampRow → Type 0
Kept p rs ts = (i : ℕ) → i < length rs → last_at rs i ≡ p → (i < length ts) × (slice_index_or ts i no_row ≡ slice_index_or rs i no_row)

-- the row that is found by the key has it, page p used it, and the sheet has the key's samples there
pub record Finds (p : ℕ) (k : List StopBits) (ts : List RampRow) : Type 0 where
  pub row : ℕ
  pub found : row_with k ts ≡ Some row
  pub within : row < length ts
  pub holds : slice_index_or ts row no_row ≡ used_on p k
  pub samples : part row (sheet_of ts) ≡ samples_of k

abbrev pub FindsFor : ℕ → List StopBits → List RampRow → Patch → Type 0
FindsFor p stops ts (Ramp o a b e) = Finds p (between a b stops) ts
FindsFor p stops ts (GlyphRun i) = Unit {0}
FindsFor p stops ts (Image o id w h) = Unit {0}

pub record Page (p : ℕ) (stops : List StopBits) (patches : List Patch) (rs ts : List RampRow) : Type 0 where
  pub sound : Sound ts
  pub finds : (i : ℕ) (d : Patch) → i < length patches → FindsFor p stops ts (slice_index_or patches i d)
  -- what the page used after the patches so far stays to its end
  pub kept : (before later : List Patch) (ms : List RampRow) → patches ≡ before ++ later → added_from p stops 0 before (maintained rs) ≡ Ok ms → Kept p ms ts

pub record RowLaws : Type 0 where
  -- keys are compared bit by bit
  pub keys : (a b : List StopBits) → Decides (same_key a b) (a ≡ b)
  pub step : (p n : ℕ) (k : List StopBits) (rs : List RampRow) → Step p n k rs (added p n k rs)
  pub start : Sound []
  pub page : (p : ℕ) (stops : List StopBits) (patches : List Patch) (rs ts : List RampRow) → Sound rs → rows_for p stops patches rs ≡ Ok ts → Page p stops patches rs ts
  -- a sheet has 49,152 words, and 0 past the rows
  pub long : (rs : List RampRow) → length rs ≤ 96 → length (sheet_of rs) ≡ 49152
  pub unused : (rs : List RampRow) → drop (512 * length rs) (sheet_of rs) ≡ replicate (49152 - 512 * length rs) 0
