-- The counts of two scenes, added.
use Rattle.std.specs.Prelude.{◌+◌, ◌^◌, ◌<◌}
use Rattle.records.specs.declared.scene.Counts.{Counts}

abbrev pub added : Counts → Counts → Counts
added a b = record {
  n_paths = a.n_paths + b.n_paths;
  n_path_segments = a.n_path_segments + b.n_path_segments;
  n_clips = a.n_clips + b.n_clips;
  n_open_clips = a.n_open_clips + b.n_open_clips;
}

-- each sum has 32 bits
pub record Fit (a b : Counts) : Type 0 where
  pub n_paths : a.n_paths + b.n_paths < 2 ^ 32
  pub n_path_segments : a.n_path_segments + b.n_path_segments < 2 ^ 32
  pub n_clips : a.n_clips + b.n_clips < 2 ^ 32
  pub n_open_clips : a.n_open_clips + b.n_open_clips < 2 ^ 32
