use Rattle.std.proofs.Common.{replicate, sym, refl, arith}
use Rattle.std.proofs.lemmas.Grind.{flat_map-append}
use Rattle.byte_writers.specs.Bytes.{word_bytes}
use Rattle.byte_writers.proofs.Puts.{length_wide, wrote_then, wrote_as}
use Rattle.page.proofs.writers.put_draw_tags.Goals as goal

pub put_repeated-requires : goal.put_repeated-requires
put_repeated-requires c = omega (arith, length_wide word_bytes 4 (λ x. refl) c.args.draw_tags.now, c.put_all.ensures.put.size, c.put_all.ensures.long)

pub returns : goal.returns
returns c =
    wrote_as (sym (flat_map-append word_bytes c.args.draw_tags.now (replicate c.args.open_clips 0x21)))
    (wrote_then (omega arith) c.put_all.ensures c.put_repeated.ensures)
