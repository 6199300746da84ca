-- The key that a run's glyphs are asked for by.
use Rattle.records.specs.declared.glyph.RunAttributes.{RunAttributes}
use Rattle.supply.specs.declared.session_key.SessionKey.{SessionKey}

abbrev pub key_of : RunAttributes → SessionKey
key_of a = record { font = a.font; style = a.style; size = a.font_size }
