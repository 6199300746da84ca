-- Worked pages.
use Rattle.std.specs.Prelude.{◌≡◌, ℕ, ◌+◌, Bool, true, false, cond, List, [], ◌∷◌, length, Some, None, ◌==◌}
use Rattle.std.specs.Float.{nan}
use Rattle.math.specs.Product.{identity, zero, one}
use Rattle.records.specs.declared.glyph.Glyph.{Glyph}
use Rattle.records.specs.declared.glyph.GlyphRun.{GlyphRun}
use Rattle.records.specs.declared.patch.Patch.TheVariants.{GlyphRun as Run}
use Rattle.byte_writers.specs.Bytes.{float_bytes}
use Rattle.supply.specs.Meaning.{Meaning, Shape}
use Rattle.encoding.specs.Scene.{Scene}
use Rattle.encoding.specs.Shape.{start}
use Rattle.page.specs.Page.{with_padding}
use Rattle.page.specs.Layout.{page_length, layout_of}
use Rattle.page.specs.Plain.{plain_length, plain_layout}
use Rattle.page.specs.declared.layout.Layout.{Layout}

-- n tags have k bytes with their padding
abbrev pub Pads : ℕ → ℕ → Type 0
Pads n k = (tags : List ℕ) → length tags ≡ n → length (with_padding tags) ≡ k

abbrev pub Padding : Type 0
Padding = Pads 0 0 × Pads 1 1024 × Pads 1024 1024 × Pads 1025 2048

-- nothing but one open clip, and some paths and clips that are counted
abbrev pub one_clip : ℕ → ℕ → Scene
one_clip paths clips = record {
  path_tags = [];
  path_data = [];
  draw_tags = [];
  draw_data = [];
  transforms = [];
  styles = [];
  patches = [];
  stops = [];
  glyphs = [];
  runs = [];
  paths = paths;
  segments = 0;
  clips = clips;
  open_clips = 1;
  flags = 0;
}

-- a tag with its padding and a draw tag; one path, one draw object and one clip more
abbrev pub OpenClip : Type 0
OpenClip = (paths clips : ℕ) → (plain_length (one_clip paths clips) ≡ 1028) × ((plain_layout (one_clip paths clips)).n_paths ≡ paths + 1)
    × ((plain_layout (one_clip paths clips)).n_draw_objects ≡ paths + 1) × ((plain_layout (one_clip paths clips)).n_clips ≡ clips + 1)

-- 3 tags, 4 words and 1 style
abbrev outline : Shape
outline = record { tags = 1 ∷ 2 ∷ 3 ∷ []; words = 1 ∷ 2 ∷ 3 ∷ 4 ∷ []; styles = record { flags_and_miter_limit = 0; line_width = 0 } ∷ [] }

-- glyph 1 has that outline, any other none
abbrev pub one_glyph : Bool → Meaning
one_glyph session = record { session = λ _ _ _. session; outline = λ _ _ _ id. cond (id == 1) (Some outline) None }

abbrev glyph : ℕ → Glyph
glyph n = record { id = n; x = zero; y = zero }

abbrev run : GlyphRun
run = record {
  attributes = record { font = 0; style = 0; font_size = one; transform = identity; glyph_transform = None; brush_transform = None };
  glyphs_start = 0;
  glyphs_end = 2;
  stream_offsets = start;
}

-- a run of glyph 1 and of one that is missing
abbrev pub two_glyphs : Scene
two_glyphs = record {
  path_tags = [];
  path_data = [];
  draw_tags = [];
  draw_data = [];
  transforms = [];
  styles = [];
  patches = Run 0 ∷ [];
  stops = [];
  glyphs = glyph 1 ∷ glyph 2 ∷ [];
  runs = run ∷ [];
  paths = 0;
  segments = 0;
  clips = 0;
  open_clips = 0;
  flags = 0;
}

abbrev bases : Layout → List ℕ
bases l = l.path_tag_base ∷ l.path_data_base ∷ l.draw_tag_base ∷ l.draw_data_base ∷ l.transform_base ∷ l.style_base ∷ []

-- with a session one path; without one, nothing
abbrev pub TwoGlyphs : Type 0
TwoGlyphs = (page_length (one_glyph true) two_glyphs ≡ 1120) × (bases (layout_of (one_glyph true) two_glyphs) ≡ 0 ∷ 256 ∷ 260 ∷ 260 ∷ 260 ∷ 278 ∷ [])
    × ((layout_of (one_glyph true) two_glyphs).n_paths ≡ 1)
    × (page_length (one_glyph false) two_glyphs ≡ 0) × ((layout_of (one_glyph false) two_glyphs).n_paths ≡ 0)

-- a number that is none, in a transform
abbrev pub NotANumber : Type 0
NotANumber = float_bytes nan ≡ 0x00 ∷ 0x00 ∷ 0xc0 ∷ 0x7f ∷ []
