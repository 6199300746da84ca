-- The parts of a page between its bases, and when a layout lies in some bytes.
use Rattle.std.specs.Prelude.{ℕ, ◌*◌, ◌≤◌, Bool, ◌&&◌, List, ◌++◌, drop, nat_le}
use Rattle.std.specs.List.{between}
use Rattle.page.specs.declared.layout.Layout.{Layout}
use Rattle.page.specs.declared.refusal.Misplaced.{Misplaced}

-- the bytes from word a to word b
abbrev pub part : List ℕ → ℕ → ℕ → List ℕ
part bytes a b = between (4 * a) (4 * b) bytes

abbrev pub path_tags_part : List ℕ → Layout → List ℕ
path_tags_part bytes l = part bytes l.path_tag_base l.path_data_base

abbrev pub path_data_part : List ℕ → Layout → List ℕ
path_data_part bytes l = part bytes l.path_data_base l.draw_tag_base

abbrev pub draw_tags_part : List ℕ → Layout → List ℕ
draw_tags_part bytes l = part bytes l.draw_tag_base l.draw_data_base

abbrev pub draw_data_part : List ℕ → Layout → List ℕ
draw_data_part bytes l = part bytes l.draw_data_base l.transform_base

abbrev pub transforms_part : List ℕ → Layout → List ℕ
transforms_part bytes l = part bytes l.transform_base l.style_base

-- to the end of the bytes
abbrev pub styles_part : List ℕ → Layout → List ℕ
styles_part bytes l = drop (4 * l.style_base) bytes

abbrev pub all_parts : List ℕ → Layout → List ℕ
all_parts bytes l = path_tags_part bytes l ++ path_data_part bytes l ++ draw_tags_part bytes l ++ draw_data_part bytes l ++ transforms_part bytes l ++ styles_part bytes l

-- the bases never fall, and end inside n bytes
abbrev pub lies : ℕ → Layout → Bool
lies n l =
    nat_le l.path_tag_base l.path_data_base && nat_le l.path_data_base l.draw_tag_base && nat_le l.draw_tag_base l.draw_data_base
    && nat_le l.draw_data_base l.transform_base && nat_le l.transform_base l.style_base && nat_le (4 * l.style_base) n

-- the same as a fact
pub record Rising (n : ℕ) (l : Layout) : Type 0 where
  pub path_tags : l.path_tag_base ≤ l.path_data_base
  pub path_data : l.path_data_base ≤ l.draw_tag_base
  pub draw_tags : l.draw_tag_base ≤ l.draw_data_base
  pub draw_data : l.draw_data_base ≤ l.transform_base
  pub transforms : l.transform_base ≤ l.style_base
  pub styles : 4 * l.style_base ≤ n

-- the question that a misplaced layout answers with no; it carries no value
abbrev pub misplaced_question : Misplaced → ℕ
misplaced_question _ = 14
