-- The four streams that glyph runs go into.
use Rattle.std.specs.Prelude.{ℕ, [], ◌∷◌}
use Rattle.math.specs.declared.transform.Transform.{Transform}
use Rattle.records.specs.declared.style.Style.{Style}
use Rattle.streams.specs.Inserted.{outline_of, glyph_transform, brush_transform}
use Rattle.streams.specs.Kind.{Kind}

-- for each glyph tag 20 and the outline's tags, then 20 and 10
abbrev pub tags_kind : Kind ℕ
tags_kind = record { place = λ l. l.path_tags; each = λ m r g. 0x20 ∷ (outline_of m r g).tags; close = λ _. 0x20 ∷ 0x10 ∷ [] }

-- the outlines' words
abbrev pub data_kind : Kind ℕ
data_kind = record { place = λ l. l.path_data; each = λ m r g. (outline_of m r g).words; close = λ _. [] }

-- one for each glyph, then the brush's
abbrev pub transforms_kind : Kind Transform
transforms_kind = record { place = λ l. l.transforms; each = λ m r g. glyph_transform r g ∷ []; close = λ r. brush_transform r ∷ [] }

-- the outlines' styles
abbrev pub styles_kind : Kind Style
styles_kind = record { place = λ l. l.styles; each = λ m r g. (outline_of m r g).styles; close = λ _. [] }
