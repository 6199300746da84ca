-- What a run puts into the streams, over the glyphs of its range.
use Rattle.std.specs.Prelude.{Bool, [], ◌∷◌, Some, None, Option}
use Rattle.std.specs.Float.Ieee.{neg}
use Rattle.math.specs.Product.{times, identity, zero, one}
use Rattle.math.specs.declared.transform.Transform.{Transform}
use Rattle.records.specs.declared.glyph.Glyph.{Glyph}
use Rattle.records.specs.declared.glyph.GlyphRun.{GlyphRun}
use Rattle.supply.specs.Meaning.{Meaning, Shape, shown}

-- to the glyph's place, with y upward
abbrev pub placed : Glyph → Transform
placed g = record { matrix = one ∷ zero ∷ zero ∷ neg one ∷ []; translation = g.x ∷ g.y ∷ [] }

abbrev pub times_if : Transform → Option Transform → Transform
times_if t None = t
times_if t (Some u) = times t u

abbrev pub glyph_transform : GlyphRun → Glyph → Transform
glyph_transform r g = times_if (times r.attributes.transform (placed g)) r.attributes.glyph_transform

abbrev pub or_identity : Option Transform → Transform
or_identity None = identity
or_identity (Some b) = b

-- a product in either case
abbrev pub brush_transform : GlyphRun → Transform
brush_transform r = times r.attributes.transform (or_identity r.attributes.brush_transform)

abbrev pub session_of : Meaning → GlyphRun → Bool
session_of m r = m.session r.attributes.font r.attributes.style r.attributes.font_size

abbrev pub outline_of : Meaning → GlyphRun → Glyph → Shape
outline_of m r g = shown (m.outline r.attributes.font r.attributes.style r.attributes.font_size g.id)
