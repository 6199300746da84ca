-- What a word gives as a name.
use Rattle.std.specs.Prelude.{◌≡◌, ℕ, List, Result, is_ok, IfOk}
use Rattle.std.specs.Borrow.{Bor}
use Rattle.job_text.specs.Names.{name_text, padded}
use Rattle.job_text.specs.declared.name.Name.{Name}
use Rattle.job_text.specs.declared.name.NameError.{NameError}

-- the name that the word is, if it is one
pub record ReadsName (word : Bor (List ℕ)) (r : Result Name NameError) : Type 0 where
  pub test : is_ok r ≡ name_text word.now
  pub held : IfOk r (λ n. n.bytes ≡ padded word.now)
