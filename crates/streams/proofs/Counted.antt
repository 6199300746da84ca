-- How many entries a stream of any glyph supply has: what EntryCounted says, of its kind at one supply.
use Rattle.std.proofs.Common.{◌≡◌, ℕ, ◌+◌, ◌<◌, ◌≤◌, true, List, [], ◌∷◌, ◌++◌, length, get_or, drop, refl}
use Rattle.std.specs.List.{flat_map}
use Rattle.byte_writers.specs.declared.writer.Writer.{Writer}
use Rattle.records.specs.declared.glyph.Glyph.{Glyph}
use Rattle.records.specs.declared.glyph.GlyphRun.{GlyphRun}
use Rattle.supply.specs.Meaning.{Meaning}
use Rattle.streams.specs.Inserted.{session_of}
use Rattle.streams.specs.Splice.{Cuts}
use Rattle.streams.specs.Kind.{Kind, put_of, range_of, cuts_of, stream_of, run_count, stream_count}
use Rattle.streams.specs.EntryKind.{EntryKind}
use Rattle.streams.specs.EntryKinds.{at_supply}
use Rattle.streams.proofs.Left.{Left}
use Rattle.streams.proofs.EntryCounted.{entry_run_counted, entry_stream_counted, entry_put_by, entry_next_cut, entry_no_run_left}

module _ {X : Type 0} (K : Kind X) (m : Meaning) where
  -- its bytes do not count here
  abbrev kind : EntryKind X
  kind = at_supply (λ _. []) 0 (λ _. refl) K m

  -- a run puts as many entries as it counts
  pub run_counted : (gs : List Glyph) (r : GlyphRun) → length (put_of K m gs r) ≡ run_count K m gs r
  run_counted gs r = entry_run_counted kind gs r

  pub stream_counted : (xs : List X) (gs : List Glyph) (rs : List GlyphRun) → Cuts (length xs) 0 (cuts_of K m gs rs) → length (stream_of K m xs gs rs) ≡ stream_count K m (length xs) gs rs
  stream_counted xs gs rs h = entry_stream_counted kind xs gs rs h

  -- a run that has a session
  pub put_by : (gs : List Glyph) (r : GlyphRun) → true ≡ session_of m r → put_of K m gs r ≡ flat_map (K.each m r) gs ++ K.close r
  put_by gs r e = entry_put_by kind gs r e

  -- a loop over the runs, at run i, which goes to place p
  module _ {f : X → List ℕ} {before after : Writer} {xs W : List X} {from : ℕ} (gs : List Glyph) (rs : List GlyphRun) (i : ℕ) (g : Left f before after xs W (cuts_of K m gs (drop i rs)) from) where
    pub next_cut : (d : GlyphRun) (p : ℕ) → i < length rs → p ≡ K.place (get_or rs i d).stream_offsets
        → Left f before after xs W (record { place = p; gone = 0; put = put_of K m (range_of gs (get_or rs i d)) (get_or rs i d) } ∷ cuts_of K m gs (drop (i + 1) rs)) from
    next_cut d p h e = entry_next_cut kind gs rs i g d p h e

    pub no_run_left : length rs ≤ i → Left f before after xs W [] from
    no_run_left h = entry_no_run_left kind gs rs i g h
