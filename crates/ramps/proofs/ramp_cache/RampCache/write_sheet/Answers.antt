use Rattle.std.proofs.Common.{◌≡◌, ℕ, ◌-◌, ◌*◌, List, ◌++◌, length, drop, replicate, ap, ◌∙◌, arith, length-append, length-drop, length-take}
use Rattle.std.specs.List.{flat_map}
use Rattle.ramps.specs.Cache.{rows_in}
use Rattle.ramps.specs.Sheet.{row_words}
use Rattle.ramps.proofs.Sheets.{length_joined, written_rest}
use Rattle.ramps.proofs.ramp_cache.RampCache.write_sheet.Goals as goal

as_many : {xs : List ℕ} (m n : ℕ) → xs ≡ replicate m 0 → m ≡ n → xs ≡ replicate n 0
as_many m n e h = e ∙ ap (λ (k : ℕ). replicate k 0) h

pub returns : goal.returns
returns c =
    let rs = rows_in c.args.self.now in
    let words = c.ramps.result.data.now in
    let front = c.copy_from_slice.new.self in
    let back = c.fill.new.self in
    let e : front ≡ words = c.copy_from_slice.ensures.after in
    let n : length words ≡ 512 * length rs = ap length c.ramps.ensures.samples ∙ length_joined rs in
    let l : length front ≡ length words = ap length e in
    let z = as_many _ (49152 - 512 * length rs) (c.fill.ensures.after (λ y q. q)) (simp (length-take, length-drop, length-append) (omega arith)) in
    written_rest (length words) _ front (drop (length words - 0) c.args.sheet.now) back l (simp length-append (omega arith))
    ∙ ap (λ xs. xs ++ back) (e ∙ c.ramps.ensures.samples) ∙ ap (λ ys. flat_map row_words rs ++ ys) z
