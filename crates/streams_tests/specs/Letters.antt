-- A glyph supply of one letter, two runs of two glyphs, and a stream of glyph numbers.
use Rattle.std.specs.Prelude.{ℕ, List, [], ◌∷◌, cond, Some, None, ◌==◌}
use Rattle.math.specs.Product.{identity, zero, one}
use Rattle.records.specs.declared.glyph.Glyph.{Glyph}
use Rattle.records.specs.declared.glyph.GlyphRun.{GlyphRun}
use Rattle.records.specs.declared.glyph.StreamOffsets.{StreamOffsets}
use Rattle.supply.specs.Meaning.{Meaning, Shape}
use Rattle.streams.specs.Kind.{Kind}

abbrev pub letter : Shape
letter = record { tags = 0x09 ∷ 0x0a ∷ []; words = 7 ∷ 8 ∷ 9 ∷ []; styles = record { flags_and_miter_limit = 4; line_width = 5 } ∷ [] }

-- font 0 has glyph 1 and no other; other fonts have no session
abbrev pub letters : Meaning
letters = record { session = λ font _ _. font == 0; outline = λ _ _ _ id. cond (id == 1) (Some letter) None }

abbrev pub glyph : ℕ → Glyph
glyph n = record { id = n; x = zero; y = one }

-- where each stream has one entry
abbrev pub ones : StreamOffsets
ones = record { path_tags = 1; path_data = 1; draw_tags = 1; draw_data = 1; transforms = 1; styles = 1 }

abbrev pub run : ℕ → GlyphRun
run n = record {
  attributes = record { font = n; style = 0; font_size = one; transform = identity; glyph_transform = None; brush_transform = None };
  glyphs_start = 0;
  glyphs_end = 2;
  stream_offsets = ones;
}

abbrev pub both : List Glyph
both = glyph 1 ∷ glyph 2 ∷ []

-- glyphs 1 and 2 in font 1, and then in font 0
abbrev pub runs_in_fonts : List GlyphRun
runs_in_fonts = run 1 ∷ run 0 ∷ []

-- each glyph's number, then 0
abbrev pub numbers_kind : Kind ℕ
numbers_kind = record { place = λ l. l.draw_data; each = λ _ _ g. g.id ∷ []; close = λ _. 0 ∷ [] }
