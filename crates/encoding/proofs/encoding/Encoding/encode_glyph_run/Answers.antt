use Rattle.std.proofs.Common.{arith}
use Rattle.encoding.proofs.Kept.{patched_run, turned_run, recorded_run}
use Rattle.encoding.proofs.encoding.Encoding.encode_glyph_run.Goals as goal

pub invariant_of-self-2 : goal.invariant_of-self-2
invariant_of-self-2 c =
    let s = c.args.self.now in
    let n = c.extend_from_slice.ensures.len in record { few = s.few; patched = patched_run s _ c.push.ensures.items; turned = turned_run s _ _ c.len.ensures.value c.push-2.ensures.len c.push.ensures.items; recorded = recorded_run s _ _ c.push-2.ensures.items c.stream_offsets.ensures (omega (arith, n)) (omega arith) (omega (arith, n)) }
