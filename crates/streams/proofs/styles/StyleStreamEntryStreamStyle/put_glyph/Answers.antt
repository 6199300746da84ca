use Rattle.std.proofs.Common.{length, refl, ap, arith}
use Rattle.std.specs.List.{flat_map}
use Rattle.byte_writers.specs.Bytes.{style_bytes}
use Rattle.byte_writers.proofs.Puts.{length_wide}
use Rattle.supply.specs.Meaning.{Shape}
use Rattle.streams.proofs.styles.StyleStreamEntryStreamStyle.put_glyph.Goals as goal

pub put_all-requires : goal.put_all-requires
put_all-requires g c =
    omega (arith, ap (λ (s : Shape). length (flat_map style_bytes s.styles)) c.outline_of.ensures.value, length_wide style_bytes 8 (λ _. refl) c.outline_of.result.styles.now)
