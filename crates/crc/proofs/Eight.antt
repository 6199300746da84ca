-- Eight bytes at a time.
use Rattle.std.proofs.Common.{◌≡◌, ℕ, ◌+◌, ◌*◌, ◌/◌, ◌%◌, ◌^◌, ◌<◌, List, [], ◌∷◌, length, get_or, sym, refl, ap, ◌∙◌, arith}
use lib.Bits.{bit_xor, xor_assoc, xor_zero_r, xor_shr, xor_mod}
use Rattle.std.proofs.lemmas.List.FromFn.{fill_by_all}
use Rattle.std.proofs.ByRecursion.{All-from_get_or}
use Rattle.crc.specs.Crc.{fed, followed}
use Rattle.crc.proofs.Shifts.{peeled, fed_peeled}

-- the byte of s ^ w at bit k
byte_at : (k s w h b : ℕ) → w / 2 ^ k % 256 ≡ b → s / 2 ^ k ≡ h → bit_xor h b % 256 ≡ bit_xor s w / 2 ^ k % 256
byte_at k s w h b wb sh =
    let low : b % 256 ≡ w / 2 ^ k % 256 = omega arith in
    ap (λ x. bit_xor x b % 256) (sym sh) ∙ xor_mod (s / 2 ^ k) b 8 ∙ ap (bit_xor (s / 2 ^ k % 256)) low
    ∙ sym (xor_mod (s / 2 ^ k) (w / 2 ^ k) 8) ∙ ap (λ x. x % 256) (sym (xor_shr s w k))

nest : (a b c d e f g h : ℕ) → bit_xor (bit_xor (bit_xor (bit_xor (bit_xor (bit_xor (bit_xor a b) c) d) e) f) g) h ≡ bit_xor a (bit_xor b (bit_xor c (bit_xor d (bit_xor e (bit_xor f (bit_xor g (bit_xor h 0)))))))
nest a b c d e f g h = simp (xor_assoc, xor_zero_r)

-- w is the first four bytes of b
module _ (s w : ℕ) (b : List ℕ) (long : length b ≡ 8) (bytes : (i : ℕ) → get_or b i 0 < 256) (small : s < 2 ^ 32) (e : w ≡ get_or b 0 0 + get_or b 1 0 * 256 + get_or b 2 0 * 65536 + get_or b 3 0 * 16777216) where
  high : (k i h n : ℕ) → w / 2 ^ k % 256 ≡ get_or b i 0 → s / 2 ^ k ≡ h → followed n (bit_xor s w / 2 ^ k % 256) ≡ followed n (bit_xor h (get_or b i 0) % 256)
  high k i h n wb sh = ap (followed n) (sym (byte_at k s w h (get_or b i 0) wb sh))

  low : (i h n : ℕ) → h ≡ 0 → followed n (get_or b i 0) ≡ followed n (bit_xor h (get_or b i 0) % 256)
  low i h n none = sym (ap (λ z. followed n (bit_xor z (get_or b i 0) % 256)) none ∙ ap (followed n) (omega (arith, bytes i)))

  listed : fed s b ≡ peeled s (get_or b 0 0 ∷ get_or b 1 0 ∷ get_or b 2 0 ∷ get_or b 3 0 ∷ get_or b 4 0 ∷ get_or b 5 0 ∷ get_or b 6 0 ∷ get_or b 7 0 ∷ [])
  listed =
      fed_peeled s b (All-from_get_or (λ x. x < 256) b 0 (λ i h. bytes i)) ∙ ap (peeled s) (fill_by_all (λ k. get_or b k 0) b 8 0 long (λ k h. refl))

  -- each byte's part, and all together
  pub spread : (y0 y1 y2 y3 y4 y5 y6 y7 : ℕ) → y0 ≡ followed 7 (bit_xor s w % 256) → y1 ≡ followed 6 (bit_xor s w / 256 % 256) → y2 ≡ followed 5 (bit_xor s w / 65536 % 256) → y3 ≡ followed 4 (bit_xor s w / 16777216 % 256) → y4 ≡ followed 3 (get_or b 4 0) → y5 ≡ followed 2 (get_or b 5 0) → y6 ≡ followed 1 (get_or b 6 0) → y7 ≡ followed 0 (get_or b 7 0) → bit_xor (bit_xor (bit_xor (bit_xor (bit_xor (bit_xor (bit_xor y0 y1) y2) y3) y4) y5) y6) y7 ≡ fed s b
  spread y0 y1 y2 y3 y4 y5 y6 y7 e0 e1 e2 e3 e4 e5 e6 e7 =
      let b0 = bytes 0 in
      let b1 = bytes 1 in
      let b2 = bytes 2 in
      let b3 = bytes 3 in
      let s1 = s / 256 in
      let s2 = s1 / 256 in
      let s3 = s2 / 256 in
      let s4 = s3 / 256 in
      let f0 = e0 ∙ ap (followed 7) (omega arith) ∙ high 0 0 s 7 (omega arith) (omega arith) in
      let f1 = e1 ∙ high 8 1 s1 6 (omega arith) refl in
      let f2 = e2 ∙ high 16 2 s2 5 (omega arith) (omega arith) in
      let f3 = e3 ∙ high 24 3 s3 4 (omega arith) (omega arith) in
      let f4 = e4 ∙ low 4 s4 3 (omega arith) in
      let f5 = e5 ∙ low 5 (s4 / 256) 2 (omega arith) in
      let f6 = e6 ∙ low 6 (s4 / 256 / 256) 1 (omega arith) in
      let f7 = e7 ∙ low 7 (s4 / 256 / 256 / 256) 0 (omega arith) in
      let none : 0 ≡ s4 / 256 / 256 / 256 / 256 = omega arith in
      nest y0 y1 y2 y3 y4 y5 y6 y7 ∙ cc (f0, f1, f2, f3, f4, f5, f6, f7, none, listed)
