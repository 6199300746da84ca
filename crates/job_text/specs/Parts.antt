-- What a cutter of a text has still to give.
use Rattle.std.specs.Prelude.{ℕ, List, []}
use Rattle.std.specs.Option.{option_map, option_map_or}
use Rattle.job_text.specs.Words.{parts_of}
use Rattle.job_text.specs.declared.parts.Parts.{Parts}

abbrev pub left : Parts → List (List ℕ)
left p = option_map_or (parts_of p.between) (option_map (λ x. x.now) p.rest) []
