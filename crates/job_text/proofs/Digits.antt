-- A loop that reads digits.
use Rattle.std.proofs.Common.{◌≡◌, ℕ, ◌+◌, ◌*◌, ◌<◌, ◌≤◌, Bool, true, false, cond, ltb, List, [], ◌∷◌, length, get_or, drop, Some, None, sym, refl, ap, ◌∙◌, mul-le-mul_left, mul-one, arith}
use Rattle.std.specs.Char.{digit_value}
use Rattle.std.proofs.lemmas.List.{at_drop_more}
use Rattle.std.proofs.lemmas.Bool.{lt-ltb, le-ltb, cond-true, cond-false}
use Rattle.job_text.specs.Numerals.{read_on, below, numeral}

-- a number that has passed the limit stays past it
past : (base limit n : ℕ) (cs : List ℕ) → 1 ≤ base → limit ≤ n → below limit (read_on base n cs) ≡ None
past base limit n [] some large = cond-false (ltb n limit) (Some n) None (le-ltb n limit large)
past base limit n (c ∷ cs) some large =
    let m = n * base + digit_value c in
    let wide : n ≤ n * base = rw mul-one at (mul-le-mul_left n some) in
    either (ltb (digit_value c) base) (past base limit m cs some (omega arith))
  where
    either : (b : Bool) → below limit (read_on base (n * base + digit_value c) cs) ≡ None → below limit (cond b (read_on base (n * base + digit_value c) cs) None) ≡ None
    either true h = h
    either false h = refl

pub some_digits : (base limit : ℕ) (text : List ℕ) → 0 < length text → numeral base limit text ≡ below limit (read_on base 0 text)
some_digits base limit [] h = absurd (omega arith)
some_digits base limit (c ∷ cs) h = refl

-- at the digit d, at place i, with the number n so far
pub record Turn (base limit n i d : ℕ) (text : List ℕ) : Type 0 where
  pub inside : i < length text
  pub digit : d ≡ digit_value (get_or text i 0)
  pub reads : below limit (read_on base n (drop i text)) ≡ below limit (read_on base 0 text)

module _ {base limit n i d : ℕ} {text : List ℕ} (t : Turn base limit n i d text) where
  turn : below limit (cond (ltb d base) (read_on base (n * base + d) (drop (i + 1) text)) None) ≡ numeral base limit text
  turn =
      ap (λ e. below limit (cond (ltb e base) (read_on base (n * base + e) (drop (i + 1) text)) None)) t.digit
      ∙ sym (at_drop_more (λ l. below limit (read_on base n l)) text i 0 t.inside) ∙ t.reads ∙ sym (some_digits base limit text (omega arith))

  pub goes : d < base → below limit (read_on base (n * base + d) (drop (i + 1) text)) ≡ below limit (read_on base 0 text)
  goes small =
      ap (below limit) (sym (cond-true (ltb d base) _ None (lt-ltb d base small))) ∙ turn ∙ some_digits base limit text (omega arith)

  pub stops : base ≤ d → None ≡ numeral base limit text
  stops large = ap (below limit) (sym (cond-false (ltb d base) _ None (le-ltb d base large))) ∙ turn

  pub overflows : d < base → limit ≤ n * base + d → None ≡ numeral base limit text
  overflows small large =
      sym (past base limit (n * base + d) (drop (i + 1) text) (omega arith) large) ∙ goes small ∙ sym (some_digits base limit text (omega arith))
