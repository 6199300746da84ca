-- The parts of a list between rising places.
use Rattle.std.proofs.Common.{◌≡◌, ℕ, ◌+◌, ◌-◌, ◌*◌, ◌≤◌, Bool, true, false, cond, List, [], ◌++◌, length, take, drop, Ok, Err, Result, sym, refl, ap, ◌∙◌, append_assoc, arith}
use native.Mathlib.Nat.{sub-zero}
use Rattle.std.specs.List.{between}
use Rattle.std.proofs.lemmas.List.{take-append-drop, take-take, take_at, drop_at, length-append}
use Rattle.std.proofs.lemmas.Slice.{between_is}
use Rattle.std.proofs.lemmas.Bool.{le-leb, leb-true, and_from, and_parts, cond-true}
use Rattle.page.specs.Opened.{reader_of}
use Rattle.page.specs.declared.refusal.Misplaced.{Misplaced}
use Rattle.page.specs.Parts.{Rising, part, lies, all_parts, path_tags_part, path_data_part, draw_tags_part, draw_data_part, transforms_part, styles_part}
use Rattle.page.specs.declared.layout.Layout.{Layout}

pub rising : (n : ℕ) (l : Layout) → lies n l ≡ true → Rising n l
rising n l h =
    let e = and_parts _ _ h in
    let d = and_parts _ _ e.0 in
    let c = and_parts _ _ d.0 in
    let b = and_parts _ _ c.0 in
    let a = and_parts _ _ b.0 in
    record {
      path_tags = leb-true _ _ a.0;
      path_data = leb-true _ _ a.1;
      draw_tags = leb-true _ _ b.1;
      draw_data = leb-true _ _ c.1;
      transforms = leb-true _ _ d.1;
      styles = leb-true _ _ e.1;
    }

pub lies_rising : (n : ℕ) (l : Layout) → Rising n l → lies n l ≡ true
lies_rising n l r =
    and_from _ _ (and_from _ _ (and_from _ _ (and_from _ _ (and_from _ _ (le-leb _ _ r.path_tags) (le-leb _ _ r.path_data))
    (le-leb _ _ r.draw_tags)) (le-leb _ _ r.draw_data)) (le-leb _ _ r.transforms)) (le-leb _ _ r.styles)

-- what the reader accepts
pub accepted_lies : (xs : List ℕ) (l : Layout) → reader_of xs l ≡ Ok (xs, l) → lies (length xs) l ≡ true
accepted_lies xs l =
    let P : Bool → Type 0 = λ b. ◌≡◌ {A = Result (List ℕ × Layout) Misplaced} (cond b (Ok (xs, l)) (Err (record {}))) (Ok (xs, l)) → b ≡ true in
    elim (lies (length xs) l) as P [ true ↦ λ _. refl | false ↦ λ e. let z : ◌≡◌ {A = ℕ} 0 1 = cc in absurd (omega arith) ]

pub lies_accepted : (xs : List ℕ) (l : Layout) → Rising (length xs) l → reader_of xs l ≡ Ok (xs, l)
lies_accepted xs l r = cond-true _ _ _ (lies_rising (length xs) l r)

-- one part more
joins : {X : Type 0} (xs P : List X) (i j : ℕ) → P ≡ take i xs → i ≤ j → P ++ between i j xs ≡ take j xs
joins xs P i j e h =
    ap (λ p. p ++ between i j xs) (e ∙ sym (take-take i j xs h)) ∙ ap (λ q. take i (take j xs) ++ q) (between_is xs i j) ∙ take-append-drop i (take j xs)

pub rejoined : (xs : List ℕ) (l : Layout) → Rising (length xs) l → l.path_tag_base ≡ 0 → all_parts xs l ≡ xs
rejoined xs l r z =
    let p : part xs l.path_tag_base l.path_data_base ≡ take (4 * l.path_data_base) xs
    = ap (λ k. between (4 * k) (4 * l.path_data_base) xs) z ∙ ap (λ n. take n xs) (sub-zero _) in
    let q = joins xs _ _ _ p (omega (arith, r.path_data)) in
    let u = joins xs _ _ _ q (omega (arith, r.draw_tags)) in
    let v = joins xs _ _ _ u (omega (arith, r.draw_data)) in
    let w = joins xs _ _ _ v (omega (arith, r.transforms)) in
    ap (λ t. t ++ drop (4 * l.style_base) xs) w ∙ take-append-drop (4 * l.style_base) xs

-- the part that lies behind P and before Q
middle : (P xs Q W : List ℕ) (i j : ℕ) → W ≡ (P ++ xs) ++ Q → 4 * i ≡ length P → 4 * j ≡ length P + length xs → part W i j ≡ xs
middle P xs Q W i j e h k =
    let n : 4 * j - 4 * i ≡ length xs = omega arith in
    ap (λ v. between (4 * i) (4 * j) v) (e ∙ append_assoc P xs Q)
    ∙ ap (take (4 * j - 4 * i)) (drop_at P (xs ++ Q) (4 * i) (sym h)) ∙ take_at xs Q (4 * j - 4 * i) (sym n)

-- six lists one after the other, and a layout whose bases stand between them
pub record Six (W a b c d e f : List ℕ) (l : Layout) : Type 0 where
  pub rising : Rising (length W) l
  pub path_tags : path_tags_part W l ≡ a
  pub path_data : path_data_part W l ≡ b
  pub draw_tags : draw_tags_part W l ≡ c
  pub draw_data : draw_data_part W l ≡ d
  pub transforms : transforms_part W l ≡ e
  pub styles : styles_part W l ≡ f

pub six_parts : (a b c d e f : List ℕ) (l : Layout) → l.path_tag_base ≡ 0 → 4 * l.path_data_base ≡ length a → 4 * l.draw_tag_base ≡ length a + length b
    → 4 * l.draw_data_base ≡ length a + length b + length c → 4 * l.transform_base ≡ length a + length b + length c + length d
    → 4 * l.style_base ≡ length a + length b + length c + length d + length e → Six (a ++ b ++ c ++ d ++ e ++ f) a b c d e f l
six_parts a b c d e f l z za zb zc zd ze =
    let W = a ++ b ++ c ++ d ++ e ++ f in
    let p = length-append a b in
    let q = length-append (a ++ b) c in
    let u = length-append (a ++ b ++ c) d in
    let v = length-append (a ++ b ++ c ++ d) e in
    let w = length-append (a ++ b ++ c ++ d ++ e) f in
    record {
      rising = record { path_tags = omega arith; path_data = omega arith; draw_tags = omega arith; draw_data = omega arith; transforms = omega arith; styles = omega arith };
      path_tags = middle [] a (b ++ (c ++ (d ++ (e ++ f)))) W l.path_tag_base l.path_data_base (simp append_assoc) (omega arith) (omega arith);
      path_data = middle a b (c ++ (d ++ (e ++ f))) W l.path_data_base l.draw_tag_base (simp append_assoc) za zb;
      draw_tags = middle (a ++ b) c (d ++ (e ++ f)) W l.draw_tag_base l.draw_data_base (simp append_assoc) (omega arith) (omega arith);
      draw_data = middle (a ++ b ++ c) d (e ++ f) W l.draw_data_base l.transform_base (simp append_assoc) (omega arith) (omega arith);
      transforms = middle (a ++ b ++ c ++ d) e f W l.transform_base l.style_base refl (omega arith) (omega arith);
      styles = drop_at (a ++ b ++ c ++ d ++ e) f (4 * l.style_base) (omega arith);
    }
