-- The laws of rows, all together.
use Rattle.std.proofs.Common.{arith}
use Rattle.ramps.specs.Laws.{RowLaws}
use Rattle.ramps.proofs.SameKeys.{key_decides}
use Rattle.ramps.proofs.Sheets.{sheet_long, sheet_unused}
use Rattle.ramps.proofs.Stepping.{step_law}
use Rattle.ramps.proofs.Paging.{page_law}

pub row_laws : RowLaws
row_laws = record {
  keys = key_decides;
  step = step_law;
  start = record { few = omega arith; distinct = λ i j h m e. absurd (omega arith) };
  page = page_law;
  long = sheet_long;
  unused = sheet_unused;
}
