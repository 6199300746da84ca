-- The length and the layout of a page as arithmetic, over what the runs insert.
use Rattle.std.specs.Prelude.{ℕ, ◌+◌, ◌*◌, ◌/◌, length, sum_by}
use Rattle.draw.specs.Tags.{info_size}
use Rattle.supply.specs.Meaning.{Meaning}
use Rattle.streams.specs.Count.{all_inserted}
use Rattle.streams.specs.declared.inserted.Inserted.{Inserted}
use Rattle.encoding.specs.Scene.{Scene}
use Rattle.page.specs.Page.{padded}
use Rattle.page.specs.declared.layout.Layout.{Layout}
use Rattle.page.specs.declared.layout.SceneBufferSizes.{SceneBufferSizes}

-- what the scene's runs insert
abbrev pub inserted_by : Meaning → Scene → Inserted
inserted_by m s = all_inserted m s.glyphs s.runs

-- how many bytes each stream has
abbrev pub sizes_with : Inserted → Scene → SceneBufferSizes
sizes_with i s = record {
  path_tag_padded = padded (length s.path_tags + i.path_tags + s.open_clips);
  path_data = 4 * (length s.path_data + i.path_data);
  draw_tags = 4 * (length s.draw_tags + s.open_clips);
  draw_data = 4 * length s.draw_data;
  transforms = 24 * (length s.transforms + i.transforms);
  styles = 8 * (length s.styles + i.styles);
}

abbrev pub buffer_size : SceneBufferSizes → ℕ
buffer_size z = z.path_tag_padded + z.path_data + z.draw_tags + z.draw_data + z.transforms + z.styles

abbrev pub page_length : Meaning → Scene → ℕ
page_length m s = buffer_size (sizes_with (inserted_by m s) s)

-- the scene's paths, the runs that are inserted, and a path for each open clip
abbrev pub path_count : Inserted → Scene → ℕ
path_count i s = s.paths + i.runs + s.open_clips

-- a base is the number of words before its stream
abbrev pub layout_with : Inserted → Scene → SceneBufferSizes → Layout
layout_with i s z = record {
  n_draw_objects = path_count i s;
  n_paths = path_count i s;
  n_clips = s.clips + s.open_clips;
  bin_data_start = sum_by info_size s.draw_tags;
  path_tag_base = 0;
  path_data_base = z.path_tag_padded / 4;
  draw_tag_base = (z.path_tag_padded + z.path_data) / 4;
  draw_data_base = (z.path_tag_padded + z.path_data + z.draw_tags) / 4;
  transform_base = (z.path_tag_padded + z.path_data + z.draw_tags + z.draw_data) / 4;
  style_base = (z.path_tag_padded + z.path_data + z.draw_tags + z.draw_data + z.transforms) / 4;
}

abbrev pub layout_of : Meaning → Scene → Layout
layout_of m s = layout_with (inserted_by m s) s (sizes_with (inserted_by m s) s)
