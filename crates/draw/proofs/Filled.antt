-- A list whose first places are written one after the other.
use Rattle.std.proofs.Common.{◌≡◌, ℕ, ◌+◌, ◌<◌, ◌≤◌, min, List, [], ◌∷◌, ◌++◌, map, length, get_or, take, drop, set, ap, ◌∙◌, inl, inr, append_assoc, arith}
use Rattle.std.specs.List.{range_with_len}
use Rattle.std.proofs.lemmas.List.{append-nil, drop_more, set_at, drop_all, take_all}
use Rattle.std.proofs.lemmas.List.FromFn.{length-map-range_with_len, map-range_with_len_more, take-map-range_with_len}
use Rattle.std.proofs.lemmas.Bool.{cases_lt}

module _ {X : Type 0} (f : ℕ → X) (old : List X) where
  -- the first i places hold f of their index, the others are as before
  abbrev pub Filled : ℕ → List X → Type 0
  Filled i row = row ≡ map f (range_with_len 0 i) ++ drop i old

  pub filled_more : (i : ℕ) (row : List X) (x : X) → i < length old → Filled i row → x ≡ f i → Filled (i + 1) (set row i x)
  filled_more i row x h q e =
      let p : set row i x ≡ map f (range_with_len 0 i) ++ x ∷ drop (i + 1) old =
      ap (λ l. set l i x) (q ∙ ap (λ l. map f (range_with_len 0 i) ++ l) (drop_more old i x h))
      ∙ set_at (map f (range_with_len 0 i)) (get_or old i x) (drop (i + 1) old) x i (length-map-range_with_len f 0 i) in
      p ∙ rw (e, map-range_with_len_more f 0 i i (omega arith), append_assoc)

  -- what the first n places take of a longer or a shorter list
  pub filled_all : (n i : ℕ) (row : List X) → i ≡ min (length old) n → Filled i row → row ≡ take (length old) (map f (range_with_len 0 n)) ++ drop n old
  filled_all n i row e q =
      elim (cases_lt n (length old)) [
        | inl h ↦
            let k : i ≡ n = omega arith in
            let l : length (map f (range_with_len 0 n)) ≤ length old = rw length-map-range_with_len (omega arith) in
            rw (take_all (length old) (map f (range_with_len 0 n)) l, ← k) q
        | inr h ↦
            let k : length old ≡ i = omega arith in
            let d : drop i old ≡ [] = drop_all i old (omega arith) in
            let t : take (length old) (map f (range_with_len 0 n)) ≡ map f (range_with_len 0 i) = rw k (take-map-range_with_len f 0 n i (omega arith)) in
            rw (t, drop_all n old h, ← d) q
      ]

  pub filled_whole : (n i : ℕ) (row : List X) → i ≡ min (length old) n → length old ≡ n → Filled i row → row ≡ map f (range_with_len 0 n)
  filled_whole n i row e w q =
      let k : i ≡ n = omega arith in
      let d : drop i old ≡ [] = drop_all i old (omega arith) in
      q ∙ rw (d, append-nil, k)
