use Rattle.std.proofs.Common.{arith}
use Rattle.encoding.proofs.Kept.{patched_ramp, turned_ramp, recorded_longer}
use Rattle.encoding.proofs.encoding.Encoding.add_ramp.Goals as goal

pub invariant_of-self : goal.invariant_of-self
invariant_of-self c =
    let s = c.args.self.now in
    let a = c.push-2.ensures.len in
    let b = c.extend_from_slice.ensures.len in
    let st = c.extend_mapped.ensures.len in record {
      few = s.few;
      patched = patched_ramp s _ _ _ _ _ _ c.len.ensures.value c.push.ensures.items
          (omega (arith, b)) (omega (arith, st)) (omega arith) (omega arith) (omega (arith, st));
      turned = turned_ramp s _ _ _ _ c.push.ensures.items;
      recorded = recorded_longer s (omega arith) (omega arith) (omega (arith, a)) (omega (arith, b)) (omega arith) (omega arith);
    }
