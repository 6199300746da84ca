use Rattle.std.proofs.Common.{arith}
use Rattle.encoding.proofs.Kept.{patched_longer, recorded_longer}
use Rattle.encoding.proofs.encoding.Encoding.encode_color.Goals as goal

pub invariant_of-self : goal.invariant_of-self
invariant_of-self c =
    let s = c.args.self.now in
    let a = c.push.ensures.len in
    let b = c.push-2.ensures.len in record { few = s.few; patched = patched_longer s (omega (arith, b)) (omega arith); turned = s.turned; recorded = recorded_longer s (omega arith) (omega arith) (omega (arith, a)) (omega (arith, b)) (omega arith) (omega arith) }
