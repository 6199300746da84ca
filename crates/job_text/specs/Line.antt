-- What one call of `next` takes of a line.
use Rattle.std.specs.Prelude.{◌≡◌, ℕ, ◌<◌, List, length, Option, MatchOption}
use Rattle.std.specs.Borrow.{Bor}
use Rattle.job_text.specs.Words.{first_word, after_word}
use Rattle.job_text.specs.declared.line.Line.{Line}

-- the first word comes, or none where it is empty, and what follows it stays
pub record TakesWord (old : Line) (r : Option (Bor (List ℕ))) (new : Line) : Type 0 where
  pub after : new.rest.now ≡ after_word old.rest.now
  pub word : MatchOption r (length (first_word old.rest.now) ≡ 0) (λ w. (w.now ≡ first_word old.rest.now) × (0 < length w.now))
