-- A stream has as many entries as it counts, and its runs are cuts.
use Rattle.std.proofs.Common.{◌≡◌, ℕ, ◌+◌, ◌<◌, ◌≤◌, true, false, cond, List, [], ◌∷◌, ◌++◌, length, get_or, drop, sum_by, sym, refl, ap, subst, arith}
use Rattle.std.specs.List.{flat_map}
use Rattle.std.proofs.lemmas.List.{drop_more, drop_all, length-append}
use Rattle.std.proofs.lemmas.List.Concat.{length-flat_map}
use Rattle.std.proofs.lemmas.List.Sums.{sum_by-cons}
use Rattle.byte_writers.specs.declared.writer.Writer.{Writer}
use Rattle.records.specs.declared.glyph.Glyph.{Glyph}
use Rattle.records.specs.declared.glyph.GlyphRun.{GlyphRun}
use Rattle.streams.specs.Splice.{Cut, Cuts}
use Rattle.streams.specs.Kind.{range_of}
use Rattle.streams.specs.EntryKind.{EntryKind, entry_put, entry_cut, entry_cuts, entry_stream, entry_run_count, entry_runs_count, entry_stream_count}
use Rattle.streams.proofs.Left.{Left, counted}

module _ {X : Type 0} (K : EntryKind X) where
  -- a run puts as many entries as it counts
  pub entry_run_counted : (gs : List Glyph) (r : GlyphRun) → length (entry_put K gs r) ≡ entry_run_count K gs r
  entry_run_counted gs r =
      let a = length-append (flat_map (K.each r) gs) (K.close r) in
      let b = length-flat_map (K.each r) gs in
      let e : length (flat_map (K.each r) gs ++ K.close r) ≡ length (K.close r) + sum_by (λ g. length (K.each r g)) gs = omega arith in
      elim (K.session r) as (λ v. length (cond v (flat_map (K.each r) gs ++ K.close r) []) ≡ cond v (length (K.close r) + sum_by (λ g. length (K.each r g)) gs) 0) [ true ↦ e | false ↦ refl ]

  none_gone : (gs : List Glyph) (rs : List GlyphRun) → sum_by (λ c. c.gone) (entry_cuts K gs rs) ≡ 0
  none_gone gs [] = refl
  none_gone gs (r ∷ rs) = let s = sum_by-cons (λ (c : Cut X). c.gone) (entry_cut K gs r) (entry_cuts K gs rs) in let ih = none_gone gs rs in omega arith

  all_put : (gs : List Glyph) (rs : List GlyphRun) → sum_by (λ c. length c.put) (entry_cuts K gs rs) ≡ entry_runs_count K gs rs
  all_put gs [] = refl
  all_put gs (r ∷ rs) =
      let s = sum_by-cons (λ (c : Cut X). length c.put) (entry_cut K gs r) (entry_cuts K gs rs) in
      let t = sum_by-cons (λ r. entry_run_count K (range_of gs r) r) r rs in
      let e = entry_run_counted (range_of gs r) r in
      let ih = all_put gs rs in
      omega arith

  pub entry_stream_counted : (xs : List X) (gs : List Glyph) (rs : List GlyphRun) → Cuts (length xs) 0 (entry_cuts K gs rs) → length (entry_stream K xs gs rs) ≡ entry_stream_count K (length xs) gs rs
  entry_stream_counted xs gs rs h = let a = counted xs 0 (entry_cuts K gs rs) h in let b = none_gone gs rs in let c = all_put gs rs in omega arith

  -- a run that has a session
  pub entry_put_by : (gs : List Glyph) (r : GlyphRun) → true ≡ K.session r → entry_put K gs r ≡ flat_map (K.each r) gs ++ K.close r
  entry_put_by gs r e = ap (λ b. cond b (flat_map (K.each r) gs ++ K.close r) []) (sym e)

  -- a loop over the runs, at run i, which goes to place p
  module _ {f : X → List ℕ} {before after : Writer} {xs W : List X} {from : ℕ} (gs : List Glyph) (rs : List GlyphRun) (i : ℕ) (g : Left f before after xs W (entry_cuts K gs (drop i rs)) from) where
    pub entry_next_cut : (d : GlyphRun) (p : ℕ) → i < length rs → p ≡ K.place (get_or rs i d).stream_offsets
        → Left f before after xs W (record { place = p; gone = 0; put = entry_put K (range_of gs (get_or rs i d)) (get_or rs i d) } ∷ entry_cuts K gs (drop (i + 1) rs)) from
    entry_next_cut d p h e =
        subst (λ q. Left f before after xs W (record { place = q; gone = 0; put = entry_put K (range_of gs (get_or rs i d)) (get_or rs i d) } ∷ entry_cuts K gs (drop (i + 1) rs)) from) (sym e)
        (subst (λ q. Left f before after xs W (entry_cuts K gs q) from) (drop_more rs i d h) g)

    pub entry_no_run_left : length rs ≤ i → Left f before after xs W [] from
    entry_no_run_left h = subst (λ q. Left f before after xs W (entry_cuts K gs q) from) (drop_all i rs h) g
