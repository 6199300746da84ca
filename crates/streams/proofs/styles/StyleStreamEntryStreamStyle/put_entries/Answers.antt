use Rattle.std.proofs.Common.{refl, arith}
use Rattle.byte_writers.specs.Bytes.{style_bytes}
use Rattle.byte_writers.proofs.Puts.{length_wide}
use Rattle.streams.proofs.styles.StyleStreamEntryStreamStyle.put_entries.Goals as goal

pub put_all-requires : goal.put_all-requires
put_all-requires g c = omega (arith, length_wide style_bytes 8 (λ _. refl) c.args.entries.now)
