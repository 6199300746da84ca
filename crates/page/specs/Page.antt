-- The bytes of a page, over a scene, the meaning of a glyph supply and the words that are bound late.
use Rattle.std.specs.Prelude.{ℕ, ◌+◌, ◌-◌, ◌*◌, ◌/◌, List, ◌++◌, length, replicate}
use Rattle.byte_writers.specs.Bytes.{word_bytes, words_bytes, transform_bytes, style_bytes}
use Rattle.supply.specs.Meaning.{Meaning}
use Rattle.streams.specs.Kind.{stream_of, stream_bytes}
use Rattle.streams.specs.Kinds.{tags_kind, data_kind, transforms_kind, styles_kind}
use Rattle.streams.specs.Draw.{Late, bound_draw_data}
use Rattle.encoding.specs.Scene.{Scene}

-- the least multiple of 1,024 from n on
abbrev pub padded : ℕ → ℕ
padded n = (n + 1023) / 1024 * 1024

-- with zeros up to there
abbrev pub with_padding : List ℕ → List ℕ
with_padding tags = tags ++ replicate (padded (length tags) - length tags) 0

-- the path tags, with a path for each open clip
abbrev pub closed_tags : Meaning → Scene → List ℕ
closed_tags m s = stream_of tags_kind m s.path_tags s.glyphs s.runs ++ replicate s.open_clips 0x10

abbrev pub path_tag_stream : Meaning → Scene → List ℕ
path_tag_stream m s = with_padding (closed_tags m s)

abbrev pub path_data_stream : Meaning → Scene → List ℕ
path_data_stream m s = stream_bytes word_bytes data_kind m s.path_data s.glyphs s.runs

-- with an end for each open clip
abbrev pub draw_tag_stream : Scene → List ℕ
draw_tag_stream s = words_bytes (s.draw_tags ++ replicate s.open_clips 0x21)

abbrev pub draw_data_stream : Late → Scene → List ℕ
draw_data_stream late s = words_bytes (bound_draw_data late s.draw_data s.patches)

abbrev pub transform_stream : Meaning → Scene → List ℕ
transform_stream m s = stream_bytes transform_bytes transforms_kind m s.transforms s.glyphs s.runs

abbrev pub style_stream : Meaning → Scene → List ℕ
style_stream m s = stream_bytes style_bytes styles_kind m s.styles s.glyphs s.runs

-- the six streams, one after the other
abbrev pub page_of : Meaning → Late → Scene → List ℕ
page_of m late s = path_tag_stream m s ++ path_data_stream m s ++ draw_tag_stream s ++ draw_data_stream late s ++ transform_stream m s ++ style_stream m s
