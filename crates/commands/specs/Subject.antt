-- What a command is about, by the words that follow its verb.
use Rattle.std.specs.Prelude.{◌≡◌, ℕ, true, List, Some}
use Rattle.job_text.specs.Names.{name_text, padded}
use Rattle.job_text.specs.Words.{first_word, after_word}
use Rattle.job_text.specs.declared.name.Name.{Name}
use Rattle.commands.specs.Stream.{stream_of}
use Rattle.commands.specs.declared.append.BothNames.{BothNames}
use Rattle.commands.specs.declared.stream.Stream.{Stream}

-- the first word is this name
abbrev pub BeginsWithName : List ℕ → Name → Type 0
BeginsWithName line name = (name_text (first_word line) ≡ true) × (name.bytes ≡ padded (first_word line))

abbrev pub BeginsWithBoth : List ℕ → BothNames → Type 0
BeginsWithBoth line both = BeginsWithName line both.scene × BeginsWithName (after_word line) both.other

abbrev pub BeginsWithStream : List ℕ → Stream → Type 0
BeginsWithStream line stream = stream_of (first_word line) ≡ Some stream
