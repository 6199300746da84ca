-- Streams at a glyph supply: any, and the four that glyph runs go into.
use Rattle.std.specs.Prelude.{◌≡◌, ℕ, List, [], ◌∷◌, length, refl}
use Rattle.math.specs.declared.transform.Transform.{Transform}
use Rattle.records.specs.declared.style.Style.{Style}
use Rattle.byte_writers.specs.Bytes.{byte, word_bytes, transform_bytes, style_bytes}
use Rattle.supply.specs.Meaning.{Meaning}
use Rattle.streams.specs.Inserted.{session_of, outline_of, glyph_transform, brush_transform}
use Rattle.streams.specs.Kind.{Kind}
use Rattle.streams.specs.EntryKind.{EntryKind}

-- a kind at a glyph supply, with an entry's bytes
abbrev pub at_supply : {X : Type 0} → (f : X → List ℕ) → (w : ℕ) → ((x : X) → length (f x) ≡ w) → Kind X → Meaning → EntryKind X
at_supply f w e K m = record { place = K.place; session = session_of m; each = K.each m; close = K.close; bytes = f; wide = w; wides = e }

-- for each glyph tag 20 and the outline's tags, then 20 and 10
abbrev pub tag_entries : Meaning → EntryKind ℕ
tag_entries m = record {
  place = λ l. l.path_tags;
  session = session_of m;
  each = λ r g. 0x20 ∷ (outline_of m r g).tags;
  close = λ _. 0x20 ∷ 0x10 ∷ [];
  bytes = byte;
  wide = 1;
  wides = λ _. refl;
}

-- the outlines' words
abbrev pub data_entries : Meaning → EntryKind ℕ
data_entries m = record {
  place = λ l. l.path_data;
  session = session_of m;
  each = λ r g. (outline_of m r g).words;
  close = λ _. [];
  bytes = word_bytes;
  wide = 4;
  wides = λ _. refl;
}

-- one for each glyph, then the brush's
abbrev pub transform_entries : Meaning → EntryKind Transform
transform_entries m = record {
  place = λ l. l.transforms;
  session = session_of m;
  each = λ r g. glyph_transform r g ∷ [];
  close = λ r. brush_transform r ∷ [];
  bytes = transform_bytes;
  wide = 24;
  wides = λ _. refl;
}

-- the outlines' styles
abbrev pub style_entries : Meaning → EntryKind Style
style_entries m = record {
  place = λ l. l.styles;
  session = session_of m;
  each = λ r g. (outline_of m r g).styles;
  close = λ _. [];
  bytes = style_bytes;
  wide = 8;
  wides = λ _. refl;
}
