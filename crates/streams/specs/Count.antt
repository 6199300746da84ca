-- How many runs go into a page, and how many entries they insert.
use Rattle.std.specs.Prelude.{ℕ, ◌+◌, ◌≤◌, cond, List, sum_by}
use Rattle.records.specs.declared.glyph.Glyph.{Glyph}
use Rattle.records.specs.declared.glyph.GlyphRun.{GlyphRun}
use Rattle.supply.specs.Meaning.{Meaning}
use Rattle.streams.specs.Inserted.{session_of}
use Rattle.streams.specs.Kind.{glyphs_count, run_count, runs_count}
use Rattle.streams.specs.Kinds.{tags_kind, data_kind, transforms_kind, styles_kind}
use Rattle.streams.specs.declared.inserted.Inserted.{Inserted}

abbrev pub run_of : Meaning → GlyphRun → ℕ
run_of m r = cond (session_of m r) 1 0

-- by one run that has a session, over its glyphs
abbrev pub glyphs_inserted : Meaning → List Glyph → GlyphRun → Inserted
glyphs_inserted m gs r = record {
  runs = 1;
  path_tags = glyphs_count tags_kind m gs r;
  path_data = glyphs_count data_kind m gs r;
  transforms = glyphs_count transforms_kind m gs r;
  styles = glyphs_count styles_kind m gs r;
}

-- by one run
abbrev pub run_inserted : Meaning → List Glyph → GlyphRun → Inserted
run_inserted m gs r = record {
  runs = run_of m r;
  path_tags = run_count tags_kind m gs r;
  path_data = run_count data_kind m gs r;
  transforms = run_count transforms_kind m gs r;
  styles = run_count styles_kind m gs r;
}

-- by all runs
abbrev pub all_inserted : Meaning → List Glyph → List GlyphRun → Inserted
all_inserted m gs rs = record {
  runs = sum_by (run_of m) rs;
  path_tags = runs_count tags_kind m gs rs;
  path_data = runs_count data_kind m gs rs;
  transforms = runs_count transforms_kind m gs rs;
  styles = runs_count styles_kind m gs rs;
}

-- at most k runs, and n entries in each stream
pub record AtMost (k n : ℕ) (c : Inserted) : Type 0 where
  pub runs : c.runs ≤ k
  pub path_tags : c.path_tags ≤ n
  pub path_data : c.path_data ≤ n
  pub transforms : c.transforms ≤ n
  pub styles : c.styles ≤ n

abbrev pub plus : Inserted → Inserted → Inserted
plus a b = record {
  runs = a.runs + b.runs;
  path_tags = a.path_tags + b.path_tags;
  path_data = a.path_data + b.path_data;
  transforms = a.transforms + b.transforms;
  styles = a.styles + b.styles;
}
