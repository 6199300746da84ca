-- One gradient takes one of four steps.
use Rattle.std.proofs.Common.{◌≡◌, ℕ, ◌<◌, ◌≤◌, Bool, true, false, cond, ltb, leb, List, [], ◌∷◌, ◌++◌, length, get_or, Some, None, Ok, Err, Option, sym, refl, ap, ◌∙◌, arith}
use Rattle.std.specs.List.{position, position_or_len}
use Rattle.std.proofs.lemmas.List.Quantifiers.{position-Some}
use Rattle.std.proofs.lemmas.List.Sums.{fails_before_first}
use Rattle.std.specs.Option.{option_or}
use Rattle.std.proofs.lemmas.Bool.{both_ways, ltb-true, ltb-false, leb-true, leb-false}
use Rattle.draw.specs.declared.color.StopBits.{StopBits}
use Rattle.ramps.specs.declared.fault.RampFault.TheVariants.{Full}
use Rattle.ramps.specs.Keys.{same_key}
use Rattle.ramps.specs.Rows.{RampRow, used_on, no_row, has_key, is_stale, row_with, rewritable, put_at, added}
use Rattle.ramps.specs.Laws.{key_at, New, NoneStale, Step, again, rewrites, adds, refuses}
use Rattle.ramps.proofs.SameKeys.{key_decides}

none_go : (t : RampRow → Bool) (rs : List RampRow) (b : Bool) → ltb (position_or_len t rs) (length rs) ≡ b
    → cond b (Some (position_or_len t rs)) None ≡ None → length rs ≤ position_or_len t rs
none_go t rs true h e = cc
none_go t rs false h e = ltb-false _ _ h

-- no row passes
none_from : (t : RampRow → Bool) (rs : List RampRow) → position t rs ≡ None → (j : ℕ) → j < length rs → t (get_or rs j no_row) ≡ false
none_from t rs e j h = let f = none_go t rs _ refl e in fails_before_first t rs j no_row (omega arith)

pub new_from : (k : List StopBits) (rs : List RampRow) → row_with k rs ≡ None → New k rs
new_from k rs e i h q =
    both_ways (same_key (key_at rs i) k) (none_from (has_key k) rs e i h) (ap (same_key (key_at rs i)) (sym q) ∙ (key_decides (key_at rs i) (key_at rs i)).1 refl)

module _ (p n : ℕ) (k : List StopBits) (rs : List RampRow) where
  fresh : position (is_stale p) rs ≡ None → NoneStale p (length rs) rs
  fresh e j h = ltb-false _ _ (none_from (is_stale p) rs e j h)

  push_step : New k rs → (64 ≤ length rs → NoneStale p (length rs) rs) → (b : Bool) → ltb (length rs) 96 ≡ b
      → Step p n k rs (cond b (Ok (rs ++ used_on p k ∷ [])) (Err (Full n)))
  push_step u f true e = adds u f (ltb-true _ _ e)
  push_step u f false e = let h = ltb-false (length rs) 96 e in refuses u (f (omega arith)) h

  stale_step : New k rs → 64 ≤ length rs → (o : Option ℕ) → position (is_stale p) rs ≡ o → Step p n k rs (put_at p n k rs o)
  stale_step u h None e = push_step u (λ _. fresh e) (ltb (length rs) 96) refl
  stale_step u h (Some at) e =
      let f = position-Some (is_stale p) rs at no_row e in
      rewrites u h at f.0 (ltb-true _ _ f.1) (λ j l. ltb-false _ _ (f.2 j l))

  new_step : New k rs → (b : Bool) → leb 64 (length rs) ≡ b → Step p n k rs (put_at p n k rs (cond b (position (is_stale p) rs) None))
  new_step u true e = stale_step u (leb-true _ _ e) (position (is_stale p) rs) refl
  new_step u false e = push_step u (λ h. absurd (omega (arith, leb-false 64 (length rs) e))) (ltb (length rs) 96) refl

  key_step : (o : Option ℕ) → row_with k rs ≡ o → Step p n k rs (put_at p n k rs (option_or o (rewritable p rs)))
  key_step None e = new_step (new_from k rs e) (leb 64 (length rs)) refl
  key_step (Some at) e = let f = position-Some (has_key k) rs at no_row e in again at f.0 ((key_decides _ _).0 f.1)

  pub step_law : Step p n k rs (added p n k rs)
  step_law = key_step (row_with k rs) refl
