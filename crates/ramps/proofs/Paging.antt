-- A gradient's row, once found, stays the row of its key to the end of the page.
use Rattle.std.proofs.Common.{◌≡◌, ℕ, zero, suc, ◌+◌, ◌<◌, ◌≤◌, ◌⊎◌, List, [], ◌∷◌, ◌++◌, length, get_or, set, Some, None, Ok, Err, Option, sym, refl, ap, ◌∙◌, subst, inl, inr, arith, length-take}
use Rattle.std.specs.List.{between}
use Rattle.std.proofs.lemmas.List.{length-set, get_or-set_same, get_or-set_other, get_or_append_left, length_push, get_or_push, get_or-take}
use Rattle.std.proofs.lemmas.List.Quantifiers.{position-Some}
use Rattle.std.proofs.lemmas.Bool.{cases_eq}
use Rattle.draw.specs.declared.color.StopBits.{StopBits}
use Rattle.records.specs.declared.patch.Patch.{Patch}
use Rattle.records.specs.declared.patch.Patch.TheVariants.{Ramp, GlyphRun, Image}
use Rattle.ramps.specs.Rows.{RampRow, used_on, no_row, has_key, row_with, Chosen, added, added_for, added_from, and_then, maintained, rows_for}
use Rattle.ramps.specs.Sheet.{row_words}
use Rattle.ramps.specs.Laws.{key_at, last_at, Step, again, rewrites, adds, refuses, Distinct, Sound, Kept, Finds, FindsFor, Page}
use Rattle.ramps.proofs.SameKeys.{key_decides}
use Rattle.ramps.proofs.Sheets.{sheet_part}
use Rattle.ramps.proofs.Stepping.{new_from, step_law}

abbrev key_of : RampRow → List StopBits
key_of r = r.key

-- a row found by its key, where keys are distinct
row_go : (ts : List RampRow) (k : List StopBits) (at : ℕ) (o : Option ℕ) → row_with k ts ≡ o → Sound ts → at < length ts → key_at ts at ≡ k → row_with k ts ≡ Some at
row_go ts k at None e s h q = absurd (new_from k ts e at h q)
row_go ts k at (Some b) e s h q =
    let f = position-Some (has_key k) ts b no_row e in
    e ∙ ap Some (s.distinct b at f.0 h ((key_decides _ _).0 f.1 ∙ sym q))

row_at : (ts : List RampRow) (k : List StopBits) (at : ℕ) → Sound ts → at < length ts → key_at ts at ≡ k → row_with k ts ≡ Some at
row_at ts k at = row_go ts k at (row_with k ts) refl

-- ---- one row is set or added

-- ts is rs but for the row `at`, which is v
record Changed (rs : List RampRow) (at : ℕ) (v : RampRow) (ts : List RampRow) : Type 0 where
  within : at < length ts
  grows : length rs ≤ length ts
  here : get_or ts at no_row ≡ v
  there : (i : ℕ) → i < length ts → (i ≡ at → ⊥) → (i < length rs) × (get_or ts i no_row ≡ get_or rs i no_row)

set_changed : (rs : List RampRow) (at : ℕ) (v : RampRow) → at < length rs → Changed rs at v (set rs at v)
set_changed rs at v l =
    let n = length-set rs at v in
    record { within = omega arith; grows = omega arith; here = get_or-set_same rs at v no_row l; there = λ i h d. (omega arith, get_or-set_other rs at i v no_row d) }

push_changed : (rs : List RampRow) (v : RampRow) → Changed rs (length rs) v (rs ++ v ∷ [])
push_changed rs v =
    let n = length_push rs v in
    record {
      within = omega arith;
      grows = omega arith;
      here = get_or_push rs v no_row (length rs) refl;
      there = λ i h d. (let l : i < length rs = omega arith in (l, get_or_append_left rs (v ∷ []) no_row i l));
    }

module _ (rs ts : List RampRow) (at : ℕ) (v : RampRow) (c : Changed rs at v ts) where
  here_key : (i : ℕ) → i ≡ at → key_at ts i ≡ v.key
  here_key i e = ap (key_at ts) e ∙ ap key_of c.here

  changed_distinct : Sound rs → ((j : ℕ) → j < length rs → (j ≡ at → ⊥) → key_at rs j ≡ v.key → ⊥) → (i j : ℕ) → i < length ts → j < length ts
      → key_at ts i ≡ key_at ts j → ((i ≡ at) ⊎ (i ≡ at → ⊥)) → ((j ≡ at) ⊎ (j ≡ at → ⊥)) → i ≡ j
  changed_distinct s o i j h m e (inl a) (inl b) = omega arith
  changed_distinct s o i j h m e (inl a) (inr b) = let f = c.there j m b in absurd (o j f.0 b (ap key_of (sym f.1) ∙ sym e ∙ here_key i a))
  changed_distinct s o i j h m e (inr a) (inl b) = let f = c.there i h a in absurd (o i f.0 a (ap key_of (sym f.1) ∙ e ∙ here_key j b))
  changed_distinct s o i j h m e (inr a) (inr b) =
      let f = c.there i h a in
      let g = c.there j m b in
      s.distinct i j f.0 g.0 (ap key_of (sym f.1) ∙ e ∙ ap key_of g.1)

  changed_kept : (p : ℕ) → (at < length rs → last_at rs at ≡ p → v ≡ get_or rs at no_row) → (i : ℕ) → i < length rs → last_at rs i ≡ p
      → ((i ≡ at) ⊎ (i ≡ at → ⊥)) → get_or ts i no_row ≡ get_or rs i no_row
  changed_kept p o i h e (inl a) =
      ap (λ n. get_or ts n no_row) a ∙ c.here ∙ o (omega arith) (ap (last_at rs) (sym a) ∙ e) ∙ ap (λ n. get_or rs n no_row) (sym a)
  changed_kept p o i h e (inr a) = let g = c.grows in (c.there i (omega arith) a).1

-- ---- one patch

-- some row has the key, used on page p
record Holds (p : ℕ) (k : List StopBits) (ts : List RampRow) : Type 0 where
  row : ℕ
  within : row < length ts
  is : get_or ts row no_row ≡ used_on p k

abbrev HoldsFor : ℕ → List StopBits → List RampRow → Patch → Type 0
HoldsFor p stops ts (Ramp o a b e) = Holds p (between a b stops) ts
HoldsFor p stops ts (GlyphRun i) = Unit {0}
HoldsFor p stops ts (Image o id w h) = Unit {0}

record Took (p : ℕ) (rs ts : List RampRow) (Held : Type 0) : Type 0 where
  sound : Sound ts
  kept : Kept p rs ts
  held : Held

abbrev Takes : ℕ → List RampRow → (List RampRow → Type 0) → Chosen → Type 0
Takes p rs Held (Ok ts) = Took p rs ts (Held ts)
Takes p rs Held (Err f) = Unit {0}

-- a row gets the key k, which no other has, and stays if page p used it before
changed_takes : (p : ℕ) (k : List StopBits) (rs ts : List RampRow) (at : ℕ) → Changed rs at (used_on p k) ts → length ts ≤ 96 → Sound rs
    → ((j : ℕ) → j < length rs → (j ≡ at → ⊥) → key_at rs j ≡ k → ⊥) → (at < length rs → last_at rs at ≡ p → used_on p k ≡ get_or rs at no_row) → Took p rs ts (Holds p k ts)
changed_takes p k rs ts at c l s o q =
    let g = c.grows in
    record {
      sound = record { few = l; distinct = λ i j h m e. changed_distinct rs ts at (used_on p k) c s o i j h m e (cases_eq i at) (cases_eq j at) };
      kept = λ i h e. (omega arith, changed_kept rs ts at (used_on p k) c p q i h e (cases_eq i at));
      held = record { row = at; within = c.within; is = c.here };
    }

step_takes : (p n : ℕ) (k : List StopBits) (rs : List RampRow) (o : Chosen) → Sound rs → Step p n k rs o → Takes p rs (Holds p k) o
step_takes p n k rs _ s (again i h q) =
    let m = length-set rs i (used_on p k) in
    let f = s.few in
    changed_takes p k rs _ i (set_changed rs i _ h) (omega arith) s (λ j l d e. d (s.distinct j i l h (e ∙ sym q)))
    (λ l z. ap (used_on p) (sym q) ∙ ap (λ y. used_on y (key_at rs i)) (sym z))
step_takes p n k rs _ s (rewrites u w i h old least) =
    let m = length-set rs i (used_on p k) in
    let f = s.few in
    changed_takes p k rs _ i (set_changed rs i _ h) (omega arith) s (λ j l d e. u j l e) (λ l z. absurd (omega arith))
step_takes p n k rs _ s (adds u w h) =
    let m = length_push rs (used_on p k) in
    changed_takes p k rs _ (length rs) (push_changed rs _) (omega arith) s (λ j l d e. u j l e) (λ l z. absurd (omega arith))
step_takes p n k rs _ s (refuses u w h) = tt

-- rows stay distinct
pub added_distinct : (p n : ℕ) (k : List StopBits) (rs ts : List RampRow) → Sound rs → added p n k rs ≡ Ok ts → Distinct ts
added_distinct p n k rs ts s e =
    let t : Took p rs ts (Holds p k ts) = subst (Takes p rs (Holds p k)) e (step_takes p n k rs (added p n k rs) s (step_law p n k rs)) in
    t.sound.distinct

module _ (p : ℕ) (stops : List StopBits) where
  patch_takes : (n : ℕ) (x : Patch) (rs : List RampRow) → Sound rs → Takes p rs (λ ts. HoldsFor p stops ts x) (added_for p stops n x rs)
  patch_takes n (Ramp o a b e) rs s = step_takes p n (between a b stops) rs _ s (step_law p n (between a b stops) rs)
  patch_takes n (GlyphRun i) rs s = record { sound = s; kept = λ i h e. (h, refl); held = tt }
  patch_takes n (Image o id w h) rs s = record { sound = s; kept = λ i h e. (h, refl); held = tt }

  -- ---- all patches, the first of which is patch n

  record Passed (n : ℕ) (xs : List Patch) (rs ts : List RampRow) : Type 0 where
    sound : Sound ts
    finds : (i : ℕ) (d : Patch) → i < length xs → FindsFor p stops ts (get_or xs i d)
    kept : (before later : List Patch) (ms : List RampRow) → xs ≡ before ++ later → added_from p stops n before rs ≡ Ok ms → Kept p ms ts

  abbrev Passes : ℕ → List Patch → List RampRow → Chosen → Type 0
  Passes n xs rs (Ok ts) = Passed n xs rs ts
  Passes n xs rs (Err f) = Unit {0}

  kept_on : (rs ms ts : List RampRow) → Kept p rs ms → Kept p ms ts → Kept p rs ts
  kept_on rs ms ts a b i h e =
      let f = a i h e in
      let g = b i f.0 (ap (λ (x : RampRow). x.last) f.1 ∙ e) in
      (g.0, g.1 ∙ f.1)

  found_on : (k : List StopBits) (ms ts : List RampRow) → Sound ts → Kept p ms ts → Holds p k ms → Finds p k ts
  found_on k ms ts s kp a =
      let f = kp a.row a.within (ap (λ (x : RampRow). x.last) a.is) in
      let e = f.1 ∙ a.is in
      record {
        row = a.row;
        found = row_at ts k a.row s f.0 (ap key_of e);
        within = f.0;
        holds = e;
        samples = sheet_part ts a.row f.0 ∙ ap row_words e;
      }

  found_for : (x : Patch) (ms ts : List RampRow) → Sound ts → Kept p ms ts → HoldsFor p stops ms x → FindsFor p stops ts x
  found_for (Ramp o a b e) ms ts s kp h = found_on (between a b stops) ms ts s kp h
  found_for (GlyphRun i) ms ts s kp h = tt
  found_for (Image o id w g) ms ts s kp h = tt

  none_kept : (n : ℕ) (rs : List RampRow) (before later : List Patch) (ms : List RampRow) → [] ≡ before ++ later → added_from p stops n before rs ≡ Ok ms → Kept p ms rs
  none_kept n rs [] later ms q r = let z : rs ≡ ms = cc in subst (λ (ys : List RampRow). Kept p ys rs) z (λ i h e. (h, refl))
  none_kept n rs (x ∷ xs) later ms q r = cc

  module _ (n : ℕ) (x : Patch) (xs : List Patch) (rs ms ts : List RampRow) (e : added_for p stops n x rs ≡ Ok ms) (a : Took p rs ms (HoldsFor p stops ms x)) (d : Passed (n + 1) xs ms ts) where
    rest_kept : Kept p ms ts
    rest_kept = d.kept [] xs ms refl refl

    more_finds : (i : ℕ) (b : Patch) → i < length (x ∷ xs) → FindsFor p stops ts (get_or (x ∷ xs) i b)
    more_finds zero b h = found_for x ms ts d.sound rest_kept a.held
    more_finds (suc i) b h = d.finds i b (omega arith)

    more_kept : (before later : List Patch) (ys : List RampRow) → (x ∷ xs) ≡ before ++ later → added_from p stops n before rs ≡ Ok ys → Kept p ys ts
    more_kept [] later ys q r = let z : rs ≡ ys = cc in subst (λ (zs : List RampRow). Kept p zs ts) z (kept_on rs ms ts a.kept rest_kept)
    more_kept (b ∷ bs) later ys q r =
        let h : x ≡ b = cc in
        let t : xs ≡ bs ++ later = cc in
        d.kept bs later ys t (ap (λ o. and_then o (added_from p stops (n + 1) bs)) (sym e ∙ ap (λ y. added_for p stops n y rs) h) ∙ r)

  more_passes : (n : ℕ) (x : Patch) (xs : List Patch) (rs ms : List RampRow) (o : Chosen) → added_for p stops n x rs ≡ Ok ms → Took p rs ms (HoldsFor p stops ms x)
      → Passes (n + 1) xs ms o → Passes n (x ∷ xs) rs o
  more_passes n x xs rs ms (Ok ts) e a d = record { sound = d.sound; finds = more_finds n x xs rs ms ts e a d; kept = more_kept n x xs rs ms ts e a d }
  more_passes n x xs rs ms (Err f) e a d = tt

  go_on : (n : ℕ) (x : Patch) (xs : List Patch) (rs : List RampRow) (o : Chosen) → added_for p stops n x rs ≡ o → Takes p rs (λ ts. HoldsFor p stops ts x) o
      → ((ms : List RampRow) → Sound ms → Passes (n + 1) xs ms (added_from p stops (n + 1) xs ms)) → Passes n (x ∷ xs) rs (and_then o (added_from p stops (n + 1) xs))
  go_on n x xs rs (Ok ms) e a rest = more_passes n x xs rs ms (added_from p stops (n + 1) xs ms) e a (rest ms a.sound)
  go_on n x xs rs (Err f) e a rest = tt

  all_pass : (n : ℕ) (xs : List Patch) (rs : List RampRow) → Sound rs → Passes n xs rs (added_from p stops n xs rs)
  all_pass n [] rs s = record { sound = s; finds = λ i d h. absurd (omega arith); kept = none_kept n rs }
  all_pass n (x ∷ xs) rs s = go_on n x xs rs (added_for p stops n x rs) refl (patch_takes n x rs s) (all_pass (n + 1) xs)

pub maintained_distinct : (rs : List RampRow) → Distinct rs → Distinct (maintained rs)
maintained_distinct rs s i j h m e =
    let n = length-take 64 rs in
    let a : i < 64 = omega arith in
    let b : j < 64 = omega arith in
    s i j (omega arith) (omega arith) (ap key_of (sym (get_or-take 64 rs i no_row a)) ∙ e ∙ ap key_of (get_or-take 64 rs j no_row b))

maintained_sound : (rs : List RampRow) → Sound rs → Sound (maintained rs)
maintained_sound rs s = let n = length-take 64 rs in let f = s.few in record { few = omega arith; distinct = maintained_distinct rs s.distinct }

pub page_law : (p : ℕ) (stops : List StopBits) (patches : List Patch) (rs ts : List RampRow) → Sound rs → rows_for p stops patches rs ≡ Ok ts → Page p stops patches rs ts
page_law p stops patches rs ts s e =
    let d : Passed p stops 0 patches (maintained rs) ts =
    subst (Passes p stops 0 patches (maintained rs)) e (all_pass p stops 0 patches (maintained rs) (maintained_sound rs s)) in
    record { sound = d.sound; finds = d.finds; kept = d.kept }
