use Rattle.std.proofs.Common.{◌≡◌, ℕ, ◌+◌, ◌-◌, List, ◌++◌, length, replicate, ap, ◌∙◌, arith}
use Rattle.std.specs.List.{flat_map}
use Rattle.std.proofs.lemmas.List.{length-append, length-replicate}
use Rattle.byte_writers.specs.Bytes.{byte}
use Rattle.byte_writers.proofs.Puts.{flat_map_byte, wrote_then, wrote_as}
use Rattle.streams.specs.Kind.{stream_of}
use Rattle.streams.specs.Kinds.{tags_kind}
use Rattle.encoding.specs.Scene.{meaning}
use Rattle.encoding.proofs.Sounds.{sound}
use Rattle.page.specs.Page.{padded, closed_tags}
use Rattle.page.proofs.Kept.{tags_kept}
use Rattle.page.proofs.Lengths.{le_padded, tag_count}
use Rattle.page.proofs.writers.put_path_tags.Goals as goal

pub put_entry_stream-requires-clause-cuts : goal.put_entry_stream-requires-clause-cuts
put_entry_stream-requires-clause-cuts g c =
    rw (c.path_tags.ensures, c.glyph_runs-runs.ensures.glyphs, c.glyph_runs-runs.ensures.runs)
    (tags_kept (meaning c.args.encoding.now) (sound c.args.encoding.now) (g.G.GlyphSupply.meaning c.args.supply.now))

pub put_repeated-requires : goal.put_repeated-requires
put_repeated-requires g c =
    let m = g.G.GlyphSupply.meaning c.args.supply.now in
    let s = meaning c.args.encoding.now in
    let p = rw (c.path_tags.ensures, c.glyph_runs-runs.ensures.glyphs, c.glyph_runs-runs.ensures.runs) at c.put_entry_stream.ensures in
    let o = ap (λ v. v.n_open_clips) c.counts-open_clips.ensures in
    let xs = stream_of tags_kind m s.path_tags s.glyphs s.runs in
    omega (arith, o, c.requires.start, c.requires.space, p.long, p.put.size, ap length (flat_map_byte xs), tag_count m s (sound c.args.encoding.now), le_padded (length xs + s.open_clips))

pub put_repeated-requires-2 : goal.put_repeated-requires-2
put_repeated-requires-2 g c =
    let m = g.G.GlyphSupply.meaning c.args.supply.now in
    let s = meaning c.args.encoding.now in
    let p = rw (c.path_tags.ensures, c.glyph_runs-runs.ensures.glyphs, c.glyph_runs-runs.ensures.runs) at c.put_entry_stream.ensures in
    let xs = stream_of tags_kind m s.path_tags s.glyphs s.runs in
    let q = rw c.counts-open_clips.ensures at c.put_repeated.ensures in
    omega (
      arith,
      c.requires.start,
      c.requires.space,
      p.long,
      q.put.size,
      p.put.size,
      ap length (flat_map_byte xs),
      tag_count m s (sound c.args.encoding.now),
      ap length (flat_map_byte (replicate s.open_clips 0x10)),
      length-replicate {A = ℕ} s.open_clips 0x10,
    )

pub returns : goal.returns
returns g c =
    let m = g.G.GlyphSupply.meaning c.args.supply.now in
    let s = meaning c.args.encoding.now in
    let p = rw (c.path_tags.ensures, c.glyph_runs-runs.ensures.glyphs, c.glyph_runs-runs.ensures.runs) at c.put_entry_stream.ensures in
    let r = rw c.counts-open_clips.ensures at c.put_repeated.ensures in
    let xs = stream_of tags_kind m s.path_tags s.glyphs s.runs in
    let ys : List ℕ = replicate s.open_clips 0x10 in
    let zs : List ℕ = replicate (c.next_multiple_of.result - c.at-closed.result) 0 in
    let l = length (closed_tags m s) in
    let q : c.next_multiple_of.result - c.at-closed.result ≡ padded l - l
    = omega (arith, p.put.size, r.put.size, ap length (flat_map_byte xs), ap length (flat_map_byte ys), length-append xs ys) in
    wrote_as
    (ap (λ v. v ++ flat_map byte ys ++ flat_map byte zs) (flat_map_byte xs) ∙ ap (λ v. xs ++ v ++ flat_map byte zs) (flat_map_byte ys) ∙ ap (λ v. xs ++ ys ++ v) (flat_map_byte zs)
    ∙ ap (λ k. closed_tags m s ++ replicate k 0) q)
    (wrote_then (omega arith) (wrote_then (omega arith) p r) c.put_repeated-2.ensures)
