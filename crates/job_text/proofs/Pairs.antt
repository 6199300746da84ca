-- Two hexadecimal digits to a byte, as the crate `hex` reads them.
use Rattle.std.proofs.Common.{◌≡◌, ℕ, ◌+◌, ◌*◌, ◌/◌, ◌%◌, Bool, true, false, cond, ◌&&◌, eqb, ltb, List, [], ◌∷◌, length, Some, None, Option, Ok, Err, Result, MatchResult, refl, ap, ap₂, sym, ◌∙◌, subst, arith, eqb-true}
use Rattle.std.specs.Char.{digit_value}
use Rattle.std.proofs.lemmas.Bool.Decides.{nat_tests}
use Rattle.hex.specs.Hex.{◌>>=◌, hex_digit_value, digit_or_error, decode_of, decode_pairs, decode_sized, pair_value}
use Rattle.hex.specs.declared.error.FromHexError.{FromHexError}
use Rattle.hex.specs.declared.error.FromHexError.TheVariants.{OddLength}
use Rattle.job_text.specs.Numerals.{byte_of, before, bytes_of}

digit : (c : ℕ) → hex_digit_value c ≡ cond (ltb (digit_value c) 16) (Some (digit_value c)) None
digit c = grind (arith, nat_tests)

-- the crate's answer is the one that is wanted
abbrev Agrees : {X : Type 0} → Result X FromHexError → Option X → Type 0
Agrees r o = MatchResult r (λ x. o ≡ Some x) (λ _. o ≡ None)

pair : (a b i : ℕ) → Agrees (pair_value a b i) (byte_of a b)
pair a b i = rw (digit a, digit b) (both (ltb (digit_value a) 16) (ltb (digit_value b) 16) (digit_value a) (digit_value b))
  where
    both : (p q : Bool) (m n : ℕ) → Agrees (digit_or_error a i (cond p (Some m) None) >>= (λ h. digit_or_error b (i + 1) (cond q (Some n) None) >>= (λ l. Ok (h * 16 + l)))) (cond (p && q) (Some (16 * m + n)) None)
    both true true m n = ap Some (omega arith)
    both true false m n = refl
    both false q m n = refl

next : (r : Result ℕ FromHexError) (rs : Result (List ℕ) FromHexError) (o : Option ℕ) (os : Option (List ℕ)) → Agrees r o → Agrees rs os → Agrees (r >>= (λ x. rs >>= (λ xs. Ok (x ∷ xs)))) (before o os)
next (Ok x) (Ok xs) o os h k = ap₂ before h k
next (Ok x) (Err e) o os h k = ap₂ before h k
next (Err e) rs o os h k = ap (λ p. before p os) h

pairs : (i : ℕ) (text : List ℕ) → Agrees (decode_pairs i text) (bytes_of text)
unfolding decode_pairs
pairs i [] = refl
pairs i (a ∷ []) = refl
pairs i (a ∷ b ∷ cs) =
    next (pair_value a b i) (decode_pairs (i + 2) cs) (byte_of a b) (bytes_of cs) (pair a b i) (pairs (i + 2) cs)

pub odd : (text : List ℕ) → length text % 2 ≡ 1 → bytes_of text ≡ None
odd [] h = absurd (omega arith)
odd (a ∷ []) h = refl
odd (a ∷ b ∷ cs) h = ap (before (byte_of a b)) (odd cs (omega arith)) ∙ none (byte_of a b)
  where
    none : (o : Option ℕ) → before o None ≡ None
    none None = refl
    none (Some x) = refl

whole : (text : List ℕ) → Agrees (decode_of text) (bytes_of text)
whole text = at (eqb (length text % 2) 1) (λ h. odd text (eqb-true _ 1 h))
  where
    at : (b : Bool) → (b ≡ true → bytes_of text ≡ None) → Agrees (cond b (Err OddLength) (decode_pairs 0 text)) (bytes_of text)
    at true h = h refl
    at false h = pairs 0 text

-- into room for as many bytes as there are pairs
sized : (text : List ℕ) → decode_sized text (length text / 2) ≡ decode_of text
sized text = grind (arith)

given : (d : Result (List ℕ) FromHexError) (o : Option (List ℕ)) (r : Result Unit FromHexError) (out : List ℕ) → Agrees d o → MatchResult d (λ bytes. (r ≡ Ok tt) × (out ≡ bytes)) (λ e. r ≡ Err e) → MatchResult r (λ _. o ≡ Some out) (λ _. o ≡ None)
given (Ok bytes) o r out h m = rw m.0 (h ∙ ap Some (sym m.1))
given (Err e) o r out h m = rw m h

-- what decoding into n bytes of room answers and leaves there
pub written : (text : List ℕ) (n : ℕ) (r : Result Unit FromHexError) (out : List ℕ) → n ≡ length text / 2 → MatchResult (decode_sized text n) (λ bytes. (r ≡ Ok tt) × (out ≡ bytes)) (λ e. r ≡ Err e) → MatchResult r (λ _. bytes_of text ≡ Some out) (λ _. bytes_of text ≡ None)
written text n r out q m = given (decode_sized text n) (bytes_of text) r out (subst (λ k. Agrees (decode_sized text k) (bytes_of text)) (sym q) (subst (λ d. Agrees d (bytes_of text)) (sym (sized text)) (whole text))) m
