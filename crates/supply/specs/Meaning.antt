-- What a glyph supply is, by its meaning.
use Rattle.std.specs.Prelude.{ℕ, ◌≤◌, Bool, List, [], length, Some, None, Option, Float}
use Rattle.records.specs.declared.style.Style.{Style}

-- an outline: path tags, path words and styles
pub record Shape : Type 0 where
  pub tags : List ℕ
  pub words : List ℕ
  pub styles : List Style

-- for font, style and size a session or none; in it for each id an outline or none
pub record Meaning : Type 0 where
  pub session : ℕ → ℕ → Float → Bool
  pub outline : ℕ → ℕ → Float → ℕ → Option Shape

pub record Short (o : Shape) : Type 0 where
  pub few_tags : length o.tags ≤ 65536
  pub few_words : length o.words ≤ 65536
  pub few_styles : length o.styles ≤ 65536

-- a missing glyph has an empty outline
abbrev pub shown : Option Shape → Shape
shown None = record { tags = []; words = []; styles = [] }
shown (Some o) = o
