use Rattle.std.proofs.Common.{arith}
use Rattle.encoding.proofs.Kept.{patched_image, turned_image, recorded_longer}
use Rattle.encoding.proofs.encoding.Encoding.encode_image.Goals as goal

pub invariant_of-self : goal.invariant_of-self
invariant_of-self c =
    let s = c.args.self.now in
    let sides = c.is_in_range.ensures.sides c.if-not-is_in_range.false in
    let a = c.push-2.ensures.len in
    let b = c.extend_from_slice.ensures.len in record {
      few = s.few;
      patched = patched_image s _ _ _ _ _ _ c.len.ensures.value c.push.ensures.items
          (omega (arith, b)) (omega arith) sides.width sides.height sides.some_width sides.some_height;
      turned = turned_image s _ _ _ _ c.push.ensures.items;
      recorded = recorded_longer s (omega arith) (omega arith) (omega (arith, a)) (omega (arith, b)) (omega arith) (omega arith);
    }
