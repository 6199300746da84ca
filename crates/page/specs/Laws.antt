-- What a page reader reads.
use Rattle.std.specs.Prelude.{◌≡◌, ℕ, List, length, take, Ok}
use Rattle.supply.specs.Meaning.{Meaning}
use Rattle.streams.specs.Draw.{Late, Owned}
use Rattle.encoding.specs.Scene.{Scene, Sound}
use Rattle.page.specs.Page.{path_tag_stream, path_data_stream, draw_tag_stream, draw_data_stream, transform_stream, style_stream}
use Rattle.page.specs.Pack.{pack_answer, pack_buffer}
use Rattle.page.specs.Nothing.{no_supply, no_late}
use Rattle.page.specs.Plain.{plain_answer, plain_buffer}
use Rattle.page.specs.Parts.{all_parts, path_tags_part, path_data_part, draw_tags_part, draw_data_part, transforms_part, styles_part}
use Rattle.page.specs.Opened.{reader_of}
use Rattle.page.specs.declared.layout.Layout.{Layout}

-- the reader accepts the page and its layout; each part is its stream, and all parts are the page
pub record ReadsBack (m : Meaning) (late : Late) (s : Scene) (page : List ℕ) (l : Layout) : Type 0 where
  pub accepted : reader_of page l ≡ Ok (page, l)
  pub path_tags : path_tags_part page l ≡ path_tag_stream m s
  pub path_data : path_data_part page l ≡ path_data_stream m s
  pub draw_tags : draw_tags_part page l ≡ draw_tag_stream s
  pub draw_data : draw_data_part page l ≡ draw_data_stream late s
  pub transforms : transforms_part page l ≡ transform_stream m s
  pub styles : styles_part page l ≡ style_stream m s
  pub whole : all_parts page l ≡ page

-- every page that is packed, with any supply and late-bound words, into any buffer
abbrev pub PackReadsBack : Type 0
PackReadsBack = (m : Meaning) (late : Late) (s : Scene) (before : List ℕ) (l : Layout) (n : ℕ) → Sound s → Owned late 0 s.patches
    → pack_answer m s (length before) ≡ Ok (l, n) → ReadsBack m late s (take n (pack_buffer m late s before)) l

-- every page that plain pack packs
abbrev pub PlainReadsBack : Type 0
PlainReadsBack = (s : Scene) (before : List ℕ) (l : Layout) (n : ℕ) → Sound s → plain_answer s (length before) ≡ Ok (l, n)
    → ReadsBack no_supply no_late s (take n (plain_buffer s before)) l

-- any bytes that the reader accepts with a layout from their start on
abbrev pub PartsRejoin : Type 0
PartsRejoin = (bytes : List ℕ) (l : Layout) → reader_of bytes l ≡ Ok (bytes, l) → l.path_tag_base ≡ 0 → all_parts bytes l ≡ bytes
