-- Where a text is cut into its first part and the others.
use Rattle.std.proofs.Common.{◌≡◌, ℕ, ◌+◌, Bool, true, false, cond, not, eqb, List, [], ◌∷◌, take, drop, Some, Option, refl, ap, ◌∙◌, one-add}
use Rattle.std.specs.Option.{option_map_or}
use Rattle.job_text.specs.Words.{up_to, onto, parts_of, past_first}

-- the cut after n bytes
abbrev cut_at : ℕ → ℕ → List ℕ → List (List ℕ)
cut_at byte n text = take n text ∷ option_map_or (parts_of byte) (past_first (drop n text)) []

at_first : (byte : ℕ) (text : List ℕ) → parts_of byte text ≡ cut_at byte (up_to byte text) text
at_first byte [] = refl
at_first byte (c ∷ cs) = at (eqb c byte) (at_first byte cs)
  where
    at : (b : Bool) → parts_of byte cs ≡ cut_at byte (up_to byte cs) cs → cond b ([] ∷ parts_of byte cs) (onto c (parts_of byte cs)) ≡ cut_at byte (cond (not b) (1 + up_to byte cs) 0) (c ∷ cs)
    at true h = refl
    at false h = ap (onto c) h ∙ rw one-add

pub cut : (byte : ℕ) (text part : List ℕ) (rest rest' : Option (List ℕ)) → rest ≡ Some text → part ≡ take (up_to byte text) text → rest' ≡ past_first (drop (up_to byte text) text) → option_map_or (parts_of byte) rest [] ≡ part ∷ option_map_or (parts_of byte) rest' []
cut byte text part rest rest' is front past = rw (is, past, front) (at_first byte text)
