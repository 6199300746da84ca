use Rattle.std.proofs.Common.{ℕ, List, [], get_or, map, ap, ◌∙◌, arith}
use Rattle.std.specs.List.{range_with_len}
use Rattle.std.proofs.lemmas.List.FromFn.{get_or-map-range_with_len}
use Rattle.crc.specs.Crc.{shift, shifts, followed}
use Rattle.crc.proofs.table.entry.Goals as goal

-- the tables are computed from their rule
pub returns : goal.returns
unfolding shift shifts
returns c =
    let after = c.args.after in
    let byte = c.args.byte in
    let row = λ (n : ℕ). map (followed n) (range_with_len 0 256) in
    ap (λ (xs : List ℕ). get_or xs byte 0) (get_or-map-range_with_len row 0 8 after after [] (omega arith) (omega arith))
    ∙ get_or-map-range_with_len (followed after) 0 256 byte byte 0 (omega arith) (omega arith)
