-- Writes into a list, one after another.
use Rattle.std.proofs.Common.{◌≡◌, ℕ, ◌+◌, ◌*◌, ◌<◌, ◌≤◌, List, [], ◌∷◌, ◌++◌, length, get_or, take, drop, sym, refl, ap, ◌∙◌, subst, append_assoc, append-nil, mul-zero, mul-one, mul-add, arith}
use Rattle.std.specs.List.{flat_map}
use Rattle.std.proofs.lemmas.List.{take_at, drop_at, drop-drop, map-id, take-append-drop, take_more, flat_map_more, length-append, length-take-le}
use Rattle.std.proofs.lemmas.List.Concat.{flat_map_single}
use Rattle.std.proofs.lemmas.List.Folds.{length-flat_map-take}
use Rattle.std.proofs.Math.Nat.{mul-le-mul_left}
use Rattle.byte_writers.specs.Bytes.{byte}
use Rattle.byte_writers.specs.Put.{Put}
use Rattle.byte_writers.specs.Wrote.{Wrote}
use Rattle.byte_writers.specs.declared.writer.Writer.{Writer}

-- nothing is put
pub none_put : (D : List ℕ) (at : ℕ) → Put D at [] at D
none_put D at = record { size = omega arith; bytes = sym (ap (λ q. q ++ drop at D) (append-nil (take at D)) ∙ take-append-drop at D) }

pub put_as : {D out xs ys : List ℕ} {at n : ℕ} → xs ≡ ys → Put D at xs n out → Put D at ys n out
put_as {D = D} {out = out} {at = at} {n = n} e p = subst (λ ys. Put D at ys n out) e p

-- one write after another
pub put_then : {D mid out xs ys : List ℕ} {at m n : ℕ} → at ≤ length D → Put D at xs m mid → Put mid m ys n out → Put D at (xs ++ ys) n out
put_then {D = D} {mid = mid} {out = out} {xs = xs} {ys = ys} {at = at} {m = m} {n = n} h p q =
    let l : length (take at D ++ xs) ≡ m = omega (arith, length-append (take at D) xs, length-take-le at D h, p.size) in
    let front : take m mid ≡ take at D ++ xs = ap (take m) p.bytes ∙ take_at (take at D ++ xs) (drop m D) m l in
    let back : drop m mid ≡ drop m D = ap (drop m) p.bytes ∙ drop_at (take at D ++ xs) (drop m D) m l in
    let rest : drop n mid ≡ drop n D
    = ap (λ k. drop k mid) q.size ∙ sym (drop-drop (length ys) m mid) ∙ ap (drop (length ys)) back ∙ drop-drop (length ys) m D ∙ ap (λ k. drop k D) (sym q.size) in
    record { size = omega (arith, length-append xs ys, p.size, q.size); bytes = q.bytes ∙ rw (front, rest) (ap (λ v. v ++ drop n D) (append_assoc (take at D) xs ys)) }

-- the same of a writer
pub none_wrote : (w : Writer) → Wrote w [] w
none_wrote w = record { same = refl; long = refl; put = none_put w.out.now w.at }

pub wrote_as : {w v : Writer} {xs ys : List ℕ} → xs ≡ ys → Wrote w xs v → Wrote w ys v
wrote_as e p = record { same = p.same; long = p.long; put = put_as e p.put }

pub wrote_then : {w u v : Writer} {xs ys : List ℕ} → w.at ≤ length w.out.now → Wrote w xs u → Wrote u ys v → Wrote w (xs ++ ys) v
wrote_then h p q = record { same = q.same ∙ p.same; long = q.long ∙ p.long; put = put_then h p.put q.put }

-- entries of w bytes
pub length_wide : {X : Type 0} (f : X → List ℕ) (w : ℕ) → ((x : X) → length (f x) ≡ w) → (xs : List X) → length (flat_map f xs) ≡ w * length xs
length_wide f w e [] = sym (mul-zero w)
length_wide f w e (x ∷ xs) = omega (arith, length-append (f x) (flat_map f xs), e x, length_wide f w e xs, mul-add w (length xs) 1, mul-one w)

pub flat_map_byte : (xs : List ℕ) → flat_map byte xs ≡ xs
flat_map_byte xs = flat_map_single (λ (x : ℕ). x) xs ∙ map-id xs

pub wide_le : (w a b n : ℕ) → a + b ≤ n → w * a + w * b ≤ w * n
wide_le w a b n h = omega (arith, mul-add w a b, mul-le-mul_left {m = a + b} {n = n} w h)

-- a loop that writes f of each of xs, at element i
pub flat_map_step : {X Y : Type 0} (f : X → List Y) (xs : List X) (i : ℕ) (d : X) → i < length xs → flat_map f (take (i + 1) xs) ≡ flat_map f (take i xs) ++ f (get_or xs i d)
flat_map_step f xs i d h = ap (flat_map f) (take_more xs i d h) ∙ sym (flat_map_more f [] (take i xs) (get_or xs i d))

pub room : {X Y : Type 0} (f : X → List Y) (w : ℕ) (xs : List X) (i : ℕ) (d : X) → i < length xs → w * length (flat_map f (take i xs)) + w * length (f (get_or xs i d)) ≤ w * length (flat_map f xs)
room f w xs i d h = wide_le w (length (flat_map f (take i xs))) (length (f (get_or xs i d))) (length (flat_map f xs)) (length-flat_map-take f xs i d h)
