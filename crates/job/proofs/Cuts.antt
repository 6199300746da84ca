-- Where a text is cut into its first line and the others.
use Rattle.std.proofs.Common.{◌≡◌, ℕ, ◌+◌, ◌<◌, Bool, true, false, cond, not, eqb, List, [], ◌∷◌, length, map, take, drop, Some, None, Option, refl, ap, ◌∙◌, one-add, arith}
use Rattle.std.specs.Option.{option_map, unwrap_or}
use Rattle.job_text.specs.Words.{up_to, past_first, without_return}
use Rattle.job.specs.Lines.{onto_first, ended_lines, lines}

abbrev cut_at : ℕ → List ℕ → List (List ℕ)
cut_at n text = take n text ∷ ended_lines (unwrap_or (past_first (drop n text)) [])

cut_ended : (c : ℕ) (cs : List ℕ) → ended_lines (c ∷ cs) ≡ cut_at (up_to 10 (c ∷ cs)) (c ∷ cs)
cut_ended c [] = at (eqb c 10)
  where
    at : (b : Bool) → cond b ([] ∷ []) ((c ∷ []) ∷ []) ≡ cut_at (cond (not b) 1 0) (c ∷ [])
    at true = refl
    at false = refl
cut_ended c (d ∷ ds) = at (eqb c 10) (cut_ended d ds)
  where
    at : (b : Bool) → ended_lines (d ∷ ds) ≡ cut_at (up_to 10 (d ∷ ds)) (d ∷ ds) → cond b ([] ∷ ended_lines (d ∷ ds)) (onto_first c (ended_lines (d ∷ ds))) ≡ cut_at (cond (not b) (1 + up_to 10 (d ∷ ds)) 0) (c ∷ d ∷ ds)
    at true h = refl
    at false h = ap (onto_first c) h ∙ rw (one-add (up_to 10 (d ∷ ds)))

module _ {X : Type 0} (now : X → List ℕ) where
  pub or_empty : (o : Option X) (none : X) → now none ≡ [] → now (unwrap_or o none) ≡ unwrap_or (option_map now o) []
  or_empty None none h = h
  or_empty (Some x) none h = refl

pub cut : (text front rest : List ℕ) (back : Option (List ℕ)) → 0 < length text → front ≡ take (up_to 10 text) text → back ≡ past_first (drop (up_to 10 text) text) → rest ≡ unwrap_or back [] → lines text ≡ without_return front ∷ lines rest
cut [] front rest back h is past or = absurd (omega arith)
cut (c ∷ cs) front rest back h is past or = rw (or, past, is) (ap (map without_return) (cut_ended c cs))
