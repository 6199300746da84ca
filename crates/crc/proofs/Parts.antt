-- A checksum is taken part by part.
use Rattle.std.proofs.Common.{◌≡◌, ℕ, zero, suc, ◌+◌, ◌*◌, List, ◌++◌, fold, take, drop, arith}
use Rattle.std.specs.Simd.{first_chunks}
use Rattle.std.proofs.lemmas.Grind.{common_steps}
use Rattle.std.proofs.lemmas.List.{take-append-drop, drop-drop}
use Rattle.std.proofs.lemmas.List.Sums.{fold-append}
use Rattle.crc.specs.Crc.{fed_byte, fed, start}

-- the first k chunks of n bytes, and then the rest
pub by_chunks : (n k c : ℕ) (xs : List ℕ) → fed (fold fed c (first_chunks n k xs)) (drop (k * n) xs) ≡ fed c xs
by_chunks n zero c xs = grind (arith, common_steps)
by_chunks n (suc k) c xs =
    let at : suc k * n ≡ n + k * n = omega arith in
    rw (at, ← drop-drop, by_chunks n k (fed c (take n xs)) (drop n xs), ← fold-append fed_byte c (take n xs), take-append-drop)

-- from the state s to the state t by more bytes
pub on : (s t : ℕ) (more : List ℕ) → t ≡ fed s more → (bytes : List ℕ) → s ≡ fed start bytes → t ≡ fed start (bytes ++ more)
on s t more e bytes seen = grind (arith, common_steps)
