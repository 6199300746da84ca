-- The streams by their names.
use Rattle.std.specs.Prelude.{ℕ, List, [], ◌∷◌, Option, codes}
use Rattle.std.specs.List.{find}
use Rattle.std.specs.Str.{bytes_eq}
use Rattle.commands.specs.declared.stream.Stream.{Stream}
use Rattle.commands.specs.declared.stream.Stream.TheVariants.{PathTags, PathData, DrawTags, DrawData, Transforms, Styles}

abbrev pub stream_name : Stream → List ℕ
stream_name PathTags = codes "path_tags"
stream_name PathData = codes "path_data"
stream_name DrawTags = codes "draw_tags"
stream_name DrawData = codes "draw_data"
stream_name Transforms = codes "transforms"
stream_name Styles = codes "styles"

abbrev pub streams : List Stream
streams = PathTags ∷ PathData ∷ DrawTags ∷ DrawData ∷ Transforms ∷ Styles ∷ []

-- the stream that has the word's name, if one has
unfoldable pub stream_of : List ℕ → Option Stream
stream_of word = find (λ s. bytes_eq (stream_name s) word) streams
