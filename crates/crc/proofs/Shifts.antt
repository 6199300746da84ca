-- Shifts respect the exclusive or, and eight of them are one step of the table.
use Rattle.std.proofs.Common.{◌≡◌, ℕ, zero, suc, ◌+◌, ◌*◌, ◌/◌, ◌%◌, ◌^◌, ◌<◌, List, [], ◌∷◌, length, sym, refl, ap, ◌∙◌, ap₂, zero-lt-suc, mul_assoc, suc-add, pow-suc, div-add-mod', zero-add, mul-one, mul-div_cancel, arith}
use native.Mathlib.Nat.{mul-mod_left, div-eq_of_lt}
use lib.Bits.{bit_xor, xor_comm, xor_assoc, xor_zero_r, xor_shr, xor_mod, xor_shifted}
use Rattle.std.specs.List.{AllByRecursion}
use Rattle.crc.specs.Crc.{added, shift, shifts, fed_byte, fed, followed}

xor_swap : (a b c d : ℕ) → bit_xor (bit_xor a b) (bit_xor c d) ≡ bit_xor (bit_xor a c) (bit_xor b d)
xor_swap a b c d =
    xor_assoc a b (bit_xor c d)
    ∙ ap (bit_xor a) (sym (xor_assoc b c d) ∙ ap (λ (x : ℕ). bit_xor x d) (xor_comm b c) ∙ xor_assoc c b d)
    ∙ sym (xor_assoc a c (bit_xor b d))

added_xor : (p q : ℕ) → p < 2 → q < 2 → added (bit_xor p q) ≡ bit_xor (added p) (added q)
added_xor zero q hp hq = refl
added_xor (suc zero) zero hp hq = refl
added_xor (suc zero) (suc zero) hp hq = refl
added_xor (suc zero) (suc (suc q)) hp hq = absurd (omega arith)
added_xor (suc (suc p)) q hp hq = absurd (omega arith)

shift_xor : (x y : ℕ) → shift (bit_xor x y) ≡ bit_xor (shift x) (shift y)
unfolding shift
shift_xor x y =
    ap₂ (λ (h l : ℕ). bit_xor h (added l)) (xor_shr x y 1) (xor_mod x y 1)
    ∙ ap (bit_xor (bit_xor (x / 2) (y / 2))) (added_xor (x % 2) (y % 2) (omega arith) (omega arith))
    ∙ xor_swap (x / 2) (y / 2) (added (x % 2)) (added (y % 2))

pub shifts_xor : (n x y : ℕ) → shifts n (bit_xor x y) ≡ bit_xor (shifts n x) (shifts n y)
unfolding shifts
shifts_xor zero x y = refl
shifts_xor (suc n) x y = ap (shifts n) (shift_xor x y) ∙ shifts_xor n (shift x) (shift y)

pub shifts_add : (m n x : ℕ) → shifts (m + n) x ≡ shifts n (shifts m x)
unfolding shifts
shifts_add zero n x = ap (λ (k : ℕ). shifts k x) (zero-add n)
shifts_add (suc m) n x = ap (λ (k : ℕ). shifts k x) (suc-add m n) ∙ shifts_add m n (shift x)

shift_double : (x : ℕ) → shift (x * 2) ≡ x
unfolding shift
shift_double x =
    ap₂ (λ (h l : ℕ). bit_xor h (added l)) (mul-div_cancel x (zero-lt-suc 1)) (mul-mod_left x 2) ∙ xor_zero_r x

-- what lies above n bits comes down whole
pub shifts_out : (n x : ℕ) → shifts n (x * 2 ^ n) ≡ x
unfolding shifts
shifts_out zero x = mul-one x
shifts_out (suc n) x =
    ap (λ (y : ℕ). shifts n (shift y)) (ap (λ (p : ℕ). x * p) (pow-suc 2 n) ∙ sym (mul_assoc x (2 ^ n) 2))
    ∙ ap (shifts n) (shift_double (x * 2 ^ n)) ∙ shifts_out n x

-- h above n bits, and l in them
pub shifts_parts : (n h l : ℕ) → l < 2 ^ n → shifts n (h * 2 ^ n + l) ≡ bit_xor h (shifts n l)
shifts_parts n h l s =
    ap (shifts n) (sym (xor_shifted h n l s)) ∙ shifts_xor n (h * 2 ^ n) l ∙ ap (λ (x : ℕ). bit_xor x (shifts n l)) (shifts_out n h)

-- a step by the table
pub by_table : (c b : ℕ) → b < 256 → fed_byte c b ≡ bit_xor (c / 256) (shifts 8 (bit_xor c b % 256))
by_table c b small =
    let y = bit_xor c b in
    ap (shifts 8) (sym (div-add-mod' y 256)) ∙ shifts_parts 8 (y / 256) (y % 256) (omega arith)
    ∙ ap (λ (h : ℕ). bit_xor h (shifts 8 (y % 256))) (xor_shr c b 8 ∙ ap (bit_xor (c / 256)) (div-eq_of_lt small) ∙ xor_zero_r (c / 256))

-- a state is fed its parts apart
fed_xor : (c d : ℕ) (bs : List ℕ) → fed (bit_xor c d) bs ≡ bit_xor (shifts (8 * length bs) d) (fed c bs)
unfolding shifts
fed_xor c d [] = xor_comm c d
fed_xor c d (b ∷ bs) =
    let later = shifts_add 8 (8 * length bs) d in
    ap (λ x. fed (shifts 8 x) bs) (xor_assoc c d b ∙ ap (bit_xor c) (xor_comm d b) ∙ sym (xor_assoc c b d))
    ∙ ap (λ x. fed x bs) (shifts_xor 8 (bit_xor c b) d)
    ∙ fed_xor (shifts 8 (bit_xor c b)) (shifts 8 d) bs
    ∙ ap (λ x. bit_xor x (fed (shifts 8 (bit_xor c b)) bs)) (sym later ∙ ap (λ k. shifts k d) (eight (length bs)))
  where
    eight : (n : ℕ) → 8 + 8 * n ≡ 8 * suc n
    eight n = omega arith

-- one byte, and those after it
peel : (c b : ℕ) (bs : List ℕ) → b < 256 → fed c (b ∷ bs) ≡ bit_xor (followed (length bs) (bit_xor c b % 256)) (fed (c / 256) bs)
peel c b bs small =
    ap (λ x. fed x bs) (by_table c b small) ∙ fed_xor (c / 256) (shifts 8 (bit_xor c b % 256)) bs
    ∙ ap (λ x. bit_xor x (fed (c / 256) bs)) (sym (shifts_add 8 (8 * length bs) (bit_xor c b % 256)) ∙ ap (λ k. shifts k (bit_xor c b % 256)) (more (length bs)))
  where
    more : (n : ℕ) → 8 + 8 * n ≡ 8 * (n + 1)
    more n = omega arith

abbrev pub peeled : ℕ → List ℕ → ℕ
peeled c [] = c
peeled c (b ∷ bs) = bit_xor (followed (length bs) (bit_xor c b % 256)) (peeled (c / 256) bs)

pub fed_peeled : (c : ℕ) (bs : List ℕ) → AllByRecursion (λ b. b < 256) bs → fed c bs ≡ peeled c bs
fed_peeled c [] small = refl
fed_peeled c (b ∷ bs) small =
    peel c b bs small.0 ∙ ap (bit_xor (followed (length bs) (bit_xor c b % 256))) (fed_peeled (c / 256) bs small.1)
