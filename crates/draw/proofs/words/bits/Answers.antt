use Rattle.std.proofs.Common.{T, sym, ap, ◌∙◌, subst}
use lib.Ieee.{binary32, of_bits}
use lib.Ieee.Bits.{of_bits-to_bits}
use Rattle.draw.proofs.words.bits.Goals as goal

pub returns : goal.returns
returns c =
    let e = c.f32_to_bits_with_nan.ensures in
    record { is = e; back = ap (of_bits binary32) e ∙ of_bits-to_bits binary32 c.args.x (subst T (sym c.well_formed.0.1) tt) }
