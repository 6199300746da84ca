-- What a scene call answers: the first question that answers no, or the scene after it.
use Rattle.std.specs.Prelude.{◌≡◌, Bool, cond, Some, None, Ok, Err, Option, Result}
use Rattle.records.specs.declared.refusal.Refusal.{Refusal}
use Rattle.records.specs.declared.refusal.Refusal.TheVariants.{NotFinite, OutOfRange, Full, TooMany}
use Rattle.encoding.specs.Scene.{Scene, meaning, room}
use Rattle.encoding.specs.declared.encoding.Encoding.{Encoding}

-- the four questions, each by its answer
abbrev pub asked : Bool → Bool → Bool → Bool → Option Refusal
asked finite ranged spacious few =
    cond finite (cond ranged (cond spacious (cond few None (Some TooMany)) (Some Full)) (Some OutOfRange)) (Some NotFinite)

-- a refused call leaves the encoding as found; an accepted one leaves the room of each list
abbrev pub Answers : Encoding → Option Refusal → Scene → Result (Unit {0}) Refusal → Encoding → Type 0
Answers s refusal after (Ok x) e = (refusal ≡ None) × (meaning e ≡ after) × (room e ≡ room s)
Answers s refusal after (Err n) e = (refusal ≡ Some n) × (e ≡ s)
