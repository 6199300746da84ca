-- The sheet of some rows.
use Rattle.std.proofs.Common.{◌≡◌, ℕ, zero, suc, ◌+◌, ◌-◌, ◌*◌, ◌<◌, ◌≤◌, List, [], ◌∷◌, ◌++◌, map, length, get_or, take, drop, replicate, refl, sym, ap, ◌∙◌, arith}
use borrow.Rule.Slice.PartMut.{put_mid}
use Rattle.std.specs.List.{flat_map}
use Rattle.std.proofs.lemmas.List.FromFn.{length-map-range_with_len}
use Rattle.std.proofs.lemmas.List.{length-append, length-replicate, append_assoc, append-nil, take_at, drop_at, drop-drop, drop_all}
use Rattle.draw.specs.Color.{stop_of}
use Rattle.draw.specs.Ramp.{sample_of}
use Rattle.ramps.specs.Rows.{RampRow, no_row}
use Rattle.ramps.specs.Sheet.{row_words, part, sheet_of}

wide : (r : RampRow) → length (row_words r) ≡ 512
wide r = length-map-range_with_len (sample_of (map stop_of r.key)) 0 512

pub length_joined : (rs : List RampRow) → length (flat_map row_words rs) ≡ 512 * length rs
length_joined [] = refl
length_joined (r ∷ rs) = let e = length-append (row_words r) (flat_map row_words rs) in let n = wide r in let ih = length_joined rs in omega arith

part_joined : (rs : List RampRow) (more : List ℕ) (i : ℕ) → i < length rs → part i (flat_map row_words rs ++ more) ≡ row_words (get_or rs i no_row)
part_joined [] more i h = absurd (omega arith)
part_joined (r ∷ rs) more zero h = ap (take 512) (append_assoc (row_words r) (flat_map row_words rs) more) ∙ take_at (row_words r) (flat_map row_words rs ++ more) 512 (wide r)
part_joined (r ∷ rs) more (suc i) h =
    let all = row_words r ++ (flat_map row_words rs ++ more) in
    let m : 512 * suc i ≡ 512 + 512 * i = omega arith in
    ap (λ ys. take 512 (drop (512 * suc i) ys)) (append_assoc (row_words r) (flat_map row_words rs) more)
    ∙ ap (λ k. take 512 (drop k all)) m
    ∙ ap (take 512) (sym (drop-drop (512 * i) 512 all) ∙ ap (drop (512 * i)) (drop_at (row_words r) (flat_map row_words rs ++ more) 512 (wide r)))
    ∙ part_joined rs more i (omega arith)

pub sheet_part : (rs : List RampRow) (i : ℕ) → i < length rs → part i (sheet_of rs) ≡ row_words (get_or rs i no_row)
sheet_part rs i h = part_joined rs _ i h

pub sheet_long : (rs : List RampRow) → length rs ≤ 96 → length (sheet_of rs) ≡ 49152
sheet_long rs h = let n = length_joined rs in simp (length-append, length-replicate) (omega arith)

pub sheet_unused : (rs : List RampRow) → drop (512 * length rs) (sheet_of rs) ≡ replicate (49152 - 512 * length rs) 0
sheet_unused rs = drop_at (flat_map row_words rs) _ (512 * length rs) (length_joined rs)

-- a write from a to the end
pub written_rest : (a k : ℕ) (xs rest ys : List ℕ) → length xs ≡ a → length rest ≤ k → put_mid a k (xs ++ rest) ys ≡ xs ++ ys
written_rest a k xs rest ys h l = rw (take_at xs rest a h, drop_at xs rest a h, drop_all k rest l, append-nil)
