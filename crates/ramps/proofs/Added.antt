-- The rows after a gradient has got its row.
use Rattle.std.proofs.Common.{◌≡◌, ℕ, ◌<◌, List, [], ◌∷◌, ◌++◌, map, length, set, cond, Some, None, Ok, Err, Option, sym, ap, ◌∙◌, arith, length-take}
use Rattle.std.specs.Option.{option_or}
use Rattle.std.proofs.lemmas.Bool.{lt-ltb}
use Rattle.std.proofs.lemmas.List.{map-set, map-append, length-map}
use Rattle.draw.specs.declared.color.StopBits.{StopBits}
use Rattle.ramps.specs.declared.fault.RampFault.TheVariants.{Full}
use Rattle.ramps.specs.declared.rows.Row.{Row}
use Rattle.ramps.specs.declared.rows.Rows.{Rows}
use Rattle.ramps.specs.Laws.{Sound}
use Rattle.ramps.specs.Rows.{used_on, row_with, rewritable, put_at, added}
use Rattle.ramps.specs.View.{row_of}
use Rattle.ramps.specs.Held.{rows_of}

module _ (p n : ℕ) (k : List StopBits) (old new : List Row) (row : Row) (q : row_of row ≡ used_on p k) (o : Option ℕ)
    (e : o ≡ option_or (row_with k (map row_of old)) (rewritable p (map row_of old))) where
  pub set_added : (at : ℕ) → o ≡ Some at → new ≡ set old at row → added p n k (map row_of old) ≡ Ok (map row_of new)
  set_added at h c = ap (put_at p n k (map row_of old)) (sym e ∙ h) ∙ ap Ok (ap (set (map row_of old) at) (sym q) ∙ sym (ap (map row_of) c ∙ map-set row_of old at row))

  pub push_added : o ≡ None → length (map row_of old) < 96 → new ≡ old ++ row ∷ [] → added p n k (map row_of old) ≡ Ok (map row_of new)
  push_added h l c =
      ap (put_at p n k (map row_of old)) (sym e ∙ h)
      ∙ ap (λ b. cond b (Ok (map row_of old ++ used_on p k ∷ [])) (Err (Full n))) (lt-ltb (length (map row_of old)) 96 l)
      ∙ ap Ok (ap (λ r. map row_of old ++ r ∷ []) (sym q) ∙ sym (ap (map row_of) c ∙ map-append row_of old (row ∷ [])))

pub rows_sound : (t : Rows) → Sound (rows_of t)
rows_sound t = record { few = simp (length-map, length-take) (omega (arith, t.rows.few)); distinct = t.distinct }
