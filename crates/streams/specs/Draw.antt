-- The draw data of a scene, with the words that patches bind late.
use Rattle.std.specs.Prelude.{ℕ, ◌+◌, ◌≤◌, List, [], ◌∷◌, length, Some, None, Option}
use Rattle.records.specs.declared.patch.Patch.{Patch}
use Rattle.records.specs.declared.patch.Patch.TheVariants.{Ramp, GlyphRun as Run, Image}
use Rattle.streams.specs.Splice.{Cut, spliced}

-- the words that patch k binds late, in place of as many of its own
abbrev pub Late : Type 0
Late = ℕ → List ℕ

-- where a patch's own words begin
abbrev pub owned_from : Patch → Option ℕ
owned_from (Ramp o a b e) = Some o
owned_from (Run i) = None
owned_from (Image o id w h) = Some o

-- a ramp owns one word, a picture two
abbrev pub Owned : Late → ℕ → List Patch → Type 0
Owned late k [] = Unit {0}
Owned late k (Ramp o a b e ∷ ps) = (length (late k) ≤ 1) × Owned late (k + 1) ps
Owned late k (Run i ∷ ps) = Owned late (k + 1) ps
Owned late k (Image o id w h ∷ ps) = (length (late k) ≤ 2) × Owned late (k + 1) ps

abbrev pub late_cut : Late → ℕ → ℕ → Cut ℕ
late_cut late k o = record { place = o; gone = length (late k); put = late k }

-- of the patches from number k on
abbrev pub draw_data_cuts : Late → ℕ → List Patch → List (Cut ℕ)
draw_data_cuts late k [] = []
draw_data_cuts late k (Ramp o a b e ∷ ps) = late_cut late k o ∷ draw_data_cuts late (k + 1) ps
draw_data_cuts late k (Run i ∷ ps) = draw_data_cuts late (k + 1) ps
draw_data_cuts late k (Image o id w h ∷ ps) = late_cut late k o ∷ draw_data_cuts late (k + 1) ps

abbrev pub bound_draw_data : Late → List ℕ → List Patch → List ℕ
bound_draw_data late xs ps = spliced 0 xs (draw_data_cuts late 0 ps)
