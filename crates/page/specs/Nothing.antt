-- A supply without a session, and late-bound words of which there are none.
use Rattle.std.specs.Prelude.{false, [], None}
use Rattle.supply.specs.Meaning.{Meaning}
use Rattle.streams.specs.Draw.{Late}

abbrev pub no_supply : Meaning
no_supply = record { session = λ _ _ _. false; outline = λ _ _ _ _. None }

abbrev pub no_late : Late
no_late _ = []
