use Rattle.std.proofs.Common.{◌≡◌, length, ◌∙◌, arith}
use Rattle.encoding.specs.Scene.{meaning}
use Rattle.encoding.proofs.Sounds.{sound}
use Rattle.page.proofs.Lengths.{page_long}
use Rattle.page.proofs.Packed.{sized, laid, has_room, refused_answer, refused_buffer, packed_answer, packed_buffer}
use Rattle.page.proofs.pack.pack_page.Goals as goal

pub returns-in-Some : goal.returns-in-Some
returns-in-Some g c =
    let m = g.G.GlyphSupply.meaning c.args.supply.now in
    let late = g.L.LateWords.late c.args.late.now in
    let s = meaning c.args.encoding.now in
    let i = rw (c.glyph_runs.ensures.glyphs, c.glyph_runs.ensures.runs) at c.count_inserted-inserted.ensures.value in
    let z = c.buffer_size.ensures ∙ sized m s c.count_inserted-inserted.result c.new-sizes.result i c.new-sizes.ensures.value in
    record { answer = refused_answer m late s c.args.packed.now _ z _ c.in-Some.ensures; bytes = refused_buffer m late s c.args.packed.now _ z _ c.in-Some.ensures }

pub put_page-length-requires-clause-space : goal.put_page-length-requires-clause-space
put_page-length-requires-clause-space g c =
    let m = g.G.GlyphSupply.meaning c.args.supply.now in
    let s = meaning c.args.encoding.now in
    let i = rw (c.glyph_runs.ensures.glyphs, c.glyph_runs.ensures.runs) at c.count_inserted-inserted.ensures.value in
    let z = c.buffer_size.ensures ∙ sized m s c.count_inserted-inserted.result c.new-sizes.result i c.new-sizes.ensures.value in
    omega (arith, z, has_room c.buffer_size.result (length c.args.packed.now) c.in_default.ensures)

pub returns : goal.returns
returns g c =
    let m = g.G.GlyphSupply.meaning c.args.supply.now in
    let late = g.L.LateWords.late c.args.late.now in
    let s = meaning c.args.encoding.now in
    let i = rw (c.glyph_runs.ensures.glyphs, c.glyph_runs.ensures.runs) at c.count_inserted-inserted.ensures.value in
    let q = c.new-sizes.ensures.value in
    let z = c.buffer_size.ensures ∙ sized m s c.count_inserted-inserted.result c.new-sizes.result i q in
    let p = c.put_page-length.ensures in
    let j : c.put_page-length.result ≡ c.buffer_size.result = omega (arith, p.size, page_long m s (sound c.args.encoding.now) late c.requires) in
    record {
      answer = packed_answer m late s c.args.packed.now _ z c.in_default.ensures c.new.result c.put_page-length.result (c.new.ensures ∙ laid m s c.count_inserted-inserted.result c.new-sizes.result i q) j;
      bytes = packed_buffer m late s c.args.packed.now _ z c.in_default.ensures c.put_page-length.new.out c.put_page-length.result p.bytes j;
    }
