use Rattle.std.proofs.Common.{arith}
use Rattle.encoding.proofs.Kept.{few_added, patched_longer, recorded_longer}
use Rattle.encoding.proofs.encoding.Encoding.lay.Goals as goal

pub invariant_of-self : goal.invariant_of-self
invariant_of-self c =
    let s = c.args.self.now in
    let few = c.counts_stay_few.ensures.each c.if-not-counts_stay_few.false in
    let a = c.extend_from_slice.ensures.len in
    let b = c.extend_from_slice-2.ensures.len in
    let d = c.extend_from_slice-3.ensures.len in
    let e = c.extend_from_slice-4.ensures.len in
    let f = c.extend_from_slice-5.ensures.len in
    let g = c.extend_from_slice-6.ensures.len in record { few = few_added _ _ _ c.add_assign.ensures.after (few.paths, few.segments, few.clips, few.open_clips); patched = patched_longer s (omega (arith, e)) (omega arith); turned = s.turned; recorded = recorded_longer s (omega (arith, a)) (omega (arith, b)) (omega (arith, d)) (omega (arith, e)) (omega (arith, f)) (omega (arith, g)) }
