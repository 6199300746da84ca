-- What a running checksum has seen, and the published value.
use Rattle.std.specs.Prelude.{◌≡◌, ℕ, List, ◌++◌, codes}
use Rattle.crc.specs.Crc.{fed, start, crc_of}
use Rattle.crc.specs.declared.sums.Crc32.{Crc32}

abbrev pub Seen : Crc32 → List ℕ → Type 0
Seen c bytes = c.state ≡ fed start bytes

-- part by part is as the whole
abbrev pub Adds : Crc32 → List ℕ → Crc32 → Type 0
Adds c more d = (bytes : List ℕ) → Seen c bytes → Seen d (bytes ++ more)

-- the digits 1 to 9 have the checksum cbf43926
abbrev pub Published : Type 0
Published = crc_of (codes "123456789") ≡ 0xcbf4_3926
