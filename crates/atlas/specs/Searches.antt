-- What the first number that gives anything gives.
use Rattle.std.specs.Prelude.{◌≡◌, ℕ, zero, suc, ◌+◌, ◌<◌, ◌≤◌, Some, None, Option, ◌≢◌}
use Rattle.std.specs.Option.{option_or}
use Rattle.std.proofs.Common.{sym, ◌∙◌, arith}
use Rattle.std.proofs.Math.Path.{ap, refl}
use Rattle.std.proofs.Math.Logic.{⊎_elim}
use Rattle.std.proofs.lemmas.Bool.{cases_eq}
use Rattle.std.proofs.lemmas.Option.{none-some}
use Rattle.atlas.specs.Search.{first_of}

pub none_unless : {X : Type 0} (o : Option X) → ((x : X) → o ≢ Some x) → o ≡ None
none_unless None f = refl
none_unless (Some x) f = absurd (f x refl)

-- v comes from `at`, and before that comes nothing
pub record Found {X : Type 0} (f : ℕ → Option X) (n i : ℕ) (v : X) : Type 0 where
  pub at : ℕ
  pub gives : f at ≡ Some v
  pub after : i ≤ at
  pub within : at < i + n
  pub before : (j : ℕ) → i ≤ j → j < at → f j ≡ None

module _ {X : Type 0} (f : ℕ → Option X) where
  pub first_is : (n i k : ℕ) (v : X) → i ≤ k → k < i + n → ((j : ℕ) → i ≤ j → j < k → f j ≡ None) → f k ≡ Some v → first_of f n i ≡ Some v
  unfolding first_of
  first_is zero i k v a b g e = absurd (omega arith)
  first_is (suc n) i k v a b g e =
      ⊎_elim
      (λ q. ap (λ o. option_or o (first_of f n (i + 1))) (ap f q ∙ e))
      (λ q. ap (λ o. option_or o (first_of f n (i + 1))) (g i (omega arith) (omega arith)) ∙ first_is n (i + 1) k v (omega arith) (omega arith) (λ j c d. g j (omega arith) d) e)
      (cases_eq i k)

  pub first_none : (n i : ℕ) → ((j : ℕ) → i ≤ j → j < i + n → f j ≡ None) → first_of f n i ≡ None
  unfolding first_of
  first_none zero i g = refl
  first_none (suc n) i g = ap (λ o. option_or o (first_of f n (i + 1))) (g i (omega arith) (omega arith)) ∙ first_none n (i + 1) (λ j a b. g j (omega arith) (omega arith))

  pub first_found : (n i : ℕ) (v : X) → first_of f n i ≡ Some v → Found f n i v
  unfolding first_of
  first_found zero i v e = absurd (none-some v e)
  first_found (suc n) i v e = look (f i) refl e (first_found n (i + 1) v)
    where
      look : (o : Option X) → f i ≡ o → option_or o (first_of f n (i + 1)) ≡ Some v → (first_of f n (i + 1) ≡ Some v → Found f n (i + 1) v) → Found f (suc n) i v
      look None q e rest =
          let r = rest e in
          record { at = r.at; gives = r.gives; after = omega arith; within = omega arith; before = λ j a b. ⊎_elim (λ s. ap f (sym s) ∙ q) (λ s. r.before j (omega arith) b) (cases_eq i j) }
      look (Some u) q e rest = record { at = i; gives = q ∙ e; after = omega arith; within = omega arith; before = λ j a b. absurd (omega arith) }

  pub none_first : (n i : ℕ) → first_of f n i ≡ None → (j : ℕ) → i ≤ j → j < i + n → f j ≡ None
  unfolding first_of
  none_first zero i e j a b = absurd (omega arith)
  none_first (suc n) i e j a b = look (f i) refl e (λ g. none_first n (i + 1) g j)
    where
      look : (o : Option X) → f i ≡ o → option_or o (first_of f n (i + 1)) ≡ None → (first_of f n (i + 1) ≡ None → i + 1 ≤ j → j < (i + 1) + n → f j ≡ None) → f j ≡ None
      look None q e rest = ⊎_elim (λ s. ap f (sym s) ∙ q) (λ s. rest e (omega arith) (omega arith)) (cases_eq i j)
      look (Some u) q e rest = absurd (none-some u (sym e))

pub first_same : {X : Type 0} (f g : ℕ → Option X) (n i : ℕ) → ((k : ℕ) → f k ≡ g k) → first_of f n i ≡ first_of g n i
unfolding first_of
first_same f g zero i e = refl
first_same f g (suc n) i e = ap (λ o. option_or o (first_of f n (i + 1))) (e i) ∙ ap (option_or (g i)) (first_same f g n (i + 1) e)
