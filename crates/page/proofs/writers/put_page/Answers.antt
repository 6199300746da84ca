use Rattle.std.proofs.Common.{length, ap, ◌∙◌, arith}
use Rattle.byte_writers.proofs.Puts.{wrote_then}
use Rattle.supply.specs.Meaning.{Meaning}
use Rattle.streams.specs.Draw.{Late, Owned}
use Rattle.encoding.specs.Scene.{meaning}
use Rattle.encoding.specs.declared.encoding.Encoding.{Encoding}
use Rattle.encoding.proofs.Sounds.{sound}
use Rattle.page.proofs.Kept.{data_kept, transforms_kept, styles_kept, draw_kept}
use Rattle.page.proofs.Lengths.{Long, long}
use Rattle.page.proofs.writers.put_page.Goals as goal

sizes : (m : Meaning) (e : Encoding) (late : Late) → Owned late 0 (meaning e).patches → Long m late (meaning e)
sizes m e late w = long m (meaning e) (sound e) late w

pub put_entry_stream-requires : goal.put_entry_stream-requires
put_entry_stream-requires g c =
    let m = g.G.GlyphSupply.meaning c.args.supply.now in
    let s = meaning c.args.encoding.now in
    let h = sound c.args.encoding.now in
    let z = sizes m c.args.encoding.now (g.L.LateWords.late c.args.late.now) c.requires.owned in
    let room = ap length c.new-writer.ensures.bytes in
    let tags = c.put_path_tags.ensures in
    rw (c.path_data.ensures, c.glyph_runs-runs.ensures.glyphs, c.glyph_runs-runs.ensures.runs)
    (record { cuts = data_kept s h m; space = omega (arith, c.requires.space, room, c.new-writer.ensures.start, tags.put.size, tags.long, z.path_tags) })

pub put_draw_tags-requires : goal.put_draw_tags-requires
put_draw_tags-requires g c =
    let z = sizes (g.G.GlyphSupply.meaning c.args.supply.now) c.args.encoding.now (g.L.LateWords.late c.args.late.now) c.requires.owned in
    let room = ap length c.new-writer.ensures.bytes in
    let tags = c.put_path_tags.ensures in
    let path_data = rw (c.path_data.ensures, c.glyph_runs-runs.ensures.glyphs, c.glyph_runs-runs.ensures.runs) at c.put_entry_stream.ensures in
    rw (c.draw_tags.ensures, c.counts-open_clips.ensures)
    (omega (arith, c.requires.space, room, c.new-writer.ensures.start, tags.put.size, tags.long, path_data.put.size, path_data.long, z.path_tags, z.path_data))

pub put_draw_data-requires : goal.put_draw_data-requires
put_draw_data-requires g c =
    let s = meaning c.args.encoding.now in
    let h = sound c.args.encoding.now in
    let z = sizes (g.G.GlyphSupply.meaning c.args.supply.now) c.args.encoding.now (g.L.LateWords.late c.args.late.now) c.requires.owned in
    let room = ap length c.new-writer.ensures.bytes in
    let tags = c.put_path_tags.ensures in
    let path_data = rw (c.path_data.ensures, c.glyph_runs-runs.ensures.glyphs, c.glyph_runs-runs.ensures.runs) at c.put_entry_stream.ensures in
    let draw_tags = rw (c.draw_tags.ensures, c.counts-open_clips.ensures) at c.put_draw_tags.ensures in
    rw (c.draw_data.ensures, c.patches.ensures)
    (record {
      cuts = draw_kept s h (g.L.LateWords.late c.args.late.now) c.requires.owned;
      space = omega (
        arith,
        c.requires.space,
        room,
        c.new-writer.ensures.start,
        tags.put.size,
        tags.long,
        path_data.put.size,
        path_data.long,
        draw_tags.put.size,
        draw_tags.long,
        z.path_tags,
        z.path_data,
        z.draw_tags,
      );
    })

pub put_entry_stream-requires-2 : goal.put_entry_stream-requires-2
put_entry_stream-requires-2 g c =
    let m = g.G.GlyphSupply.meaning c.args.supply.now in
    let s = meaning c.args.encoding.now in
    let h = sound c.args.encoding.now in
    let z = sizes m c.args.encoding.now (g.L.LateWords.late c.args.late.now) c.requires.owned in
    let room = ap length c.new-writer.ensures.bytes in
    let tags = c.put_path_tags.ensures in
    let path_data = rw (c.path_data.ensures, c.glyph_runs-runs.ensures.glyphs, c.glyph_runs-runs.ensures.runs) at c.put_entry_stream.ensures in
    let draw_tags = rw (c.draw_tags.ensures, c.counts-open_clips.ensures) at c.put_draw_tags.ensures in
    let draw_data = rw (c.draw_data.ensures, c.patches.ensures) at c.put_draw_data.ensures in
    rw (c.transforms.ensures, c.glyph_runs-runs.ensures.glyphs, c.glyph_runs-runs.ensures.runs)
    (record {
      cuts = transforms_kept s h m;
      space = omega (
        arith,
        c.requires.space,
        room,
        c.new-writer.ensures.start,
        tags.put.size,
        tags.long,
        path_data.put.size,
        path_data.long,
        draw_tags.put.size,
        draw_tags.long,
        draw_data.put.size,
        draw_data.long,
        z.path_tags,
        z.path_data,
        z.draw_tags,
        z.draw_data,
      );
    })

pub put_entry_stream-requires-3 : goal.put_entry_stream-requires-3
put_entry_stream-requires-3 g c =
    let m = g.G.GlyphSupply.meaning c.args.supply.now in
    let s = meaning c.args.encoding.now in
    let h = sound c.args.encoding.now in
    let z = sizes m c.args.encoding.now (g.L.LateWords.late c.args.late.now) c.requires.owned in
    let room = ap length c.new-writer.ensures.bytes in
    let tags = c.put_path_tags.ensures in
    let path_data = rw (c.path_data.ensures, c.glyph_runs-runs.ensures.glyphs, c.glyph_runs-runs.ensures.runs) at c.put_entry_stream.ensures in
    let draw_tags = rw (c.draw_tags.ensures, c.counts-open_clips.ensures) at c.put_draw_tags.ensures in
    let draw_data = rw (c.draw_data.ensures, c.patches.ensures) at c.put_draw_data.ensures in
    let transforms = rw (c.transforms.ensures, c.glyph_runs-runs.ensures.glyphs, c.glyph_runs-runs.ensures.runs) at c.put_entry_stream-2.ensures in
    rw (c.styles.ensures, c.glyph_runs-runs.ensures.glyphs, c.glyph_runs-runs.ensures.runs)
    (record {
      cuts = styles_kept s h m;
      space = omega (
        arith,
        c.requires.space,
        room,
        c.new-writer.ensures.start,
        tags.put.size,
        tags.long,
        path_data.put.size,
        path_data.long,
        draw_tags.put.size,
        draw_tags.long,
        draw_data.put.size,
        draw_data.long,
        transforms.put.size,
        transforms.long,
        z.path_tags,
        z.path_data,
        z.draw_tags,
        z.draw_data,
        z.transforms,
      );
    })

pub returns : goal.returns
returns g c =
    let path_data = rw (c.path_data.ensures, c.glyph_runs-runs.ensures.glyphs, c.glyph_runs-runs.ensures.runs) at c.put_entry_stream.ensures in
    let draw_tags = rw (c.draw_tags.ensures, c.counts-open_clips.ensures) at c.put_draw_tags.ensures in
    let draw_data = rw (c.draw_data.ensures, c.patches.ensures) at c.put_draw_data.ensures in
    let transforms = rw (c.transforms.ensures, c.glyph_runs-runs.ensures.glyphs, c.glyph_runs-runs.ensures.runs) at c.put_entry_stream-2.ensures in
    let styles = rw (c.styles.ensures, c.glyph_runs-runs.ensures.glyphs, c.glyph_runs-runs.ensures.runs) at c.put_entry_stream-3.ensures in
    let whole = wrote_then (omega arith) (wrote_then (omega arith) (wrote_then (omega arith) (wrote_then (omega arith)
    (wrote_then (omega arith) c.put_path_tags.ensures path_data) draw_tags) draw_data) transforms) styles in
    let from_start = rw (c.new-writer.ensures.start, c.new-writer.ensures.bytes) at whole.put in
    let same = whole.same ∙ c.new-writer.ensures.same_reference in
    rw c.at.ensures (grind (arith, from_start.size, from_start.bytes, same))
