use Rattle.std.proofs.Common.{List, length, sym, subst}
use Rattle.records.specs.declared.glyph.Glyph.{Glyph}
use Rattle.records.specs.declared.glyph.GlyphRun.{GlyphRun}
use Rattle.streams.specs.Inside.{Inside}
use Rattle.encoding.specs.Scene.{meaning}
use Rattle.encoding.proofs.Sounds.{sound}
use Rattle.page.proofs.Kept.{inside_kept}
use Rattle.page.proofs.runs.glyph_runs.Goals as goal

pub invariant_of-result : goal.invariant_of-result
invariant_of-result c =
    let s = meaning c.args.encoding.now in
    let k = inside_kept s (sound c.args.encoding.now) in
    record {
      inside = subst (λ (rs : List GlyphRun). Inside (length c.glyphs.result.now) rs) (sym c.glyph_runs.ensures) (subst (λ (gs : List Glyph). Inside (length gs) s.runs) (sym c.glyphs.ensures) k);
    }
