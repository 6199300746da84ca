-- What both atlases need to know of their slots.
use Rattle.std.specs.Prelude.{◌≡◌, ℕ, zero, suc, ◌+◌, ◌<◌, ◌≤◌, true, false, cond, not, ◌⊎◌, List, [], ◌∷◌, length, replicate, is_none, is_some, position, unwrap_or, nat_lt, Some, None, Option, ◌==◌, ◌≢◌, slice_set, count_by, refl}
use Rattle.std.proofs.Common.{sym, ap, subst, ◌∙◌, inl, inr, ⊎_elim, arith, length-set, get_or-set_same, get_or-set_other}
use Rattle.std.specs.List.{AllByRecursion}
use Rattle.std.proofs.lemmas.List.Sums.{sum_by-set, count_by-le-length, prefix_len-le-length}
use Rattle.std.proofs.lemmas.List.{length-replicate, set_past, get_or_past}
use Rattle.std.proofs.lemmas.Bool.{cases_eq, cases_lt, cases_Bool, cond-true, cond-false, eq-eqb, ne_eqb, ltb-true, lt-ltb, le-ltb, le-leb, leb-true, and_parts, and_from, not-true, not_from_false, false≢true}
use Rattle.std.proofs.lemmas.Option.{none-some}
use Rattle.atlas.specs.declared.rect.Rect.{Rect}
use Rattle.atlas.specs.Rects.{Apart, Inside, rect, meets}
use Rattle.atlas.specs.Kind.{InUse}
use Rattle.atlas.specs.Slots.{Slots, slot, vacant, allowed, misses, clear, Lies, Separate, both_miss, SquareSound}
use Rattle.atlas.specs.RectFacts.{apart_missed, apart_sym}

-- the first empty slot
pub vacant_empty : (ss : Slots) → slot ss (vacant ss) ≡ None
vacant_empty [] = refl
vacant_empty (None ∷ ss) = refl
vacant_empty (Some r ∷ ss) = let e : 1 + vacant ss ≡ suc (vacant ss) = omega arith in ap (slot (Some r ∷ ss)) e ∙ vacant_empty ss

pub vacant_or : (ss : Slots) (n : ℕ) → length ss ≡ n → unwrap_or (position is_none ss) n ≡ vacant ss
vacant_or ss n e =
    let l = prefix_len-le-length (λ o. not (is_none o)) ss in
    ⊎_elim
    (λ u. ap (λ o. unwrap_or o n) (cond-true (nat_lt (vacant ss) (length ss)) (Some (vacant ss)) None (lt-ltb _ _ u)))
    (λ u. ap (λ o. unwrap_or o n) (cond-false (nat_lt (vacant ss) (length ss)) (Some (vacant ss)) None (le-ltb _ _ u)) ∙ omega arith)
    (cases_lt (vacant ss) (length ss))

pub record Allowed (ss : Slots) (w h : ℕ) : Type 0 where
  pub wide : 1 ≤ w
  pub high : 1 ≤ h
  pub space : vacant ss < 256

pub allowed_parts : (ss : Slots) (w h : ℕ) → allowed ss w h ≡ true → Allowed ss w h
allowed_parts ss w h e =
    let p = and_parts _ _ e in
    let q = and_parts _ _ p.1 in
    record { wide = leb-true _ _ p.0; high = leb-true _ _ q.0; space = ltb-true _ _ q.1 }

pub allowed_from : (ss : Slots) (w h : ℕ) → 1 ≤ w → 1 ≤ h → vacant ss < 256 → allowed ss w h ≡ true
allowed_from ss w h a b c = and_from _ _ (le-leb _ _ a) (and_from _ _ (le-leb _ _ b) (lt-ltb _ _ c))

-- what an atlas gives is o, if the size is allowed
module _ (ss : Slots) (w h : ℕ) (o : Option (ℕ × ℕ)) where
  pub gives_when : allowed ss w h ≡ true → cond (allowed ss w h) o None ≡ o
  gives_when t = cond-true (allowed ss w h) o None t

  pub gives_none : allowed ss w h ≡ false → cond (allowed ss w h) o None ≡ None
  gives_none t = cond-false (allowed ss w h) o None t

  pub record Gave (p : ℕ × ℕ) : Type 0 where
    pub may : Allowed ss w h
    pub found : o ≡ Some p

  pub gave : (p : ℕ × ℕ) → cond (allowed ss w h) o None ≡ Some p → Gave p
  gave p e =
      ⊎_elim
      (λ t. record { may = allowed_parts ss w h t; found = sym (gives_when t) ∙ e })
      (λ t. absurd (none-some p (sym (gives_none t) ∙ e)))
      (cases_Bool (allowed ss w h))

-- a slot that is set
pub slot_set : (ss : Slots) (v i : ℕ) (o : Option Rect) → v < length ss → slot (slice_set ss v o) i ≡ cond (i == v) o (slot ss i)
slot_set ss v i o h =
    ⊎_elim
    (λ e. ap (slot (slice_set ss v o)) e ∙ get_or-set_same ss v o None h ∙ sym (cond-true (i == v) o (slot ss i) (eq-eqb i v e)))
    (λ ne. get_or-set_other ss v i o None ne ∙ sym (cond-false (i == v) o (slot ss i) (ne_eqb i v ne)))
    (cases_eq i v)

-- past the end there is nothing to empty
pub slot_emptied : (ss : Slots) (v i : ℕ) → slot (slice_set ss v None) i ≡ cond (i == v) None (slot ss i)
slot_emptied ss v i =
    ⊎_elim
    (λ l. slot_set ss v i None l)
    (λ l. ap (λ t. slot t i) (set_past ss v None l) ∙ ⊎_elim
    (λ e. ap (slot ss) e ∙ get_or_past ss v None l ∙ sym (cond-true (i == v) None (slot ss i) (eq-eqb i v e)))
    (λ ne. sym (cond-false (i == v) None (slot ss i) (ne_eqb i v ne)))
    (cases_eq i v))
    (cases_lt v (length ss))

pub slot_none : (n i : ℕ) → slot (replicate n None) i ≡ None
slot_none zero i = refl
slot_none (suc n) zero = refl
slot_none (suc n) (suc i) = slot_none n i

-- what a slot held before
pub slot_after : (ss : Slots) (v : ℕ) (n : Rect) (i : ℕ) (r : Rect) → v < length ss → slot (slice_set ss v (Some n)) i ≡ Some r → ((i ≡ v) × (n ≡ r)) ⊎ ((i ≢ v) × (slot ss i ≡ Some r))
slot_after ss v n i r l e =
    ⊎_elim
    (λ q. inl (q, let p = slot_set ss v i (Some n) l ∙ cond-true (i == v) (Some n) (slot ss i) (eq-eqb i v q) in cc))
    (λ q. inr (q, sym (slot_set ss v i (Some n) l ∙ cond-false (i == v) (Some n) (slot ss i) (ne_eqb i v q)) ∙ e))
    (cases_eq i v)

pub slot_before : (ss : Slots) (v i : ℕ) (r : Rect) → slot (slice_set ss v None) i ≡ Some r → slot ss i ≡ Some r
slot_before ss v i r e =
    ⊎_elim
    (λ q. absurd (none-some r (sym (slot_emptied ss v i ∙ cond-true (i == v) None (slot ss i) (eq-eqb i v q)) ∙ e)))
    (λ q. sym (slot_emptied ss v i ∙ cond-false (i == v) None (slot ss i) (ne_eqb i v q)) ∙ e)
    (cases_eq i v)

-- how many are live
abbrev live_count : Slots → ℕ
live_count ss = count_by is_some ss

count_set : (ss : Slots) (i : ℕ) (o : Option Rect) → i < length ss → live_count (slice_set ss i o) + cond (is_some (slot ss i)) 1 0 ≡ live_count ss + cond (is_some o) 1 0
count_set ss i o l = sum_by-set (λ t. cond (is_some t) 1 0) ss i o None l

count_emptied : (ss : Slots) (i : ℕ) → is_some (slot ss i) ≡ true → live_count (slice_set ss i None) + 1 ≡ live_count ss
count_emptied ss i e =
    ⊎_elim
    (λ l. let p = count_set ss i None l in let k : ◌≡◌ {A = ℕ} (cond (is_some (slot ss i)) 1 0) 1 = cond-true _ 1 0 e in omega arith)
    (λ l. absurd (false≢true (sym (ap is_some (get_or_past ss i None l)) ∙ e)))
    (cases_lt i (length ss))

count_vacant : (ss : Slots) → vacant ss < length ss → live_count ss < length ss
count_vacant ss h =
    let r : Option Rect = Some (rect 0 0 0 0) in
    let p = count_set ss (vacant ss) r h in
    let k : ◌≡◌ {A = ℕ} (cond (is_some (slot ss (vacant ss))) 1 0) 0 = cond-false _ 1 0 (ap is_some (vacant_empty ss)) in
    let l = count_by-le-length is_some (slice_set ss (vacant ss) r) in
    let n = length-set ss (vacant ss) r in
    omega arith

still_used : (ss : Slots) (v : ℕ) (is : List ℕ) → AllByRecursion (λ j. j ≢ v) is → InUse (slot ss) is → InUse (slot (slice_set ss v None)) is
still_used ss v [] d u = tt
still_used ss v (i ∷ is) d u = (ap is_some (slot_emptied ss v i ∙ cond-false (i == v) None (slot ss i) (ne_eqb i v d.0)) ∙ u.0, u.1, still_used ss v is d.1 u.2)

used_counted : (ss : Slots) (is : List ℕ) → InUse (slot ss) is → length is ≤ live_count ss
used_counted ss [] u = omega arith
used_counted ss (i ∷ is) u =
    let p = count_emptied ss i u.0 in
    let q = used_counted (slice_set ss i None) is (still_used ss i is u.1 u.2) in
    omega arith

pub used_few : (ss : Slots) (is : List ℕ) → length ss ≡ 256 → InUse (slot ss) is → length is ≤ 256
used_few ss is l u = let p = used_counted ss is u in let q = count_by-le-length is_some ss in omega arith

-- with 256 live no slot is empty
pub used_full : (ss : Slots) (w h : ℕ) (is : List ℕ) → length ss ≡ 256 → InUse (slot ss) is → length is ≡ 256 → allowed ss w h ≡ false
used_full ss w h is l u n =
    ⊎_elim
    (λ t. let p = (allowed_parts ss w h t).space in let q = count_vacant ss (omega arith) in let k = used_counted ss is u in absurd (omega arith))
    (λ t. t)
    (cases_Bool (allowed ss w h))

-- with nothing live the first slot is empty
pub none_vacant : (ss : Slots) → ((i : ℕ) → slot ss i ≡ None) → vacant ss ≡ 0
none_vacant [] f = refl
none_vacant (None ∷ ss) f = refl
none_vacant (Some t ∷ ss) f = absurd (none-some t (sym (f 0)))

-- clear of every live rectangle
pub clear_at : (r : Rect) (ss : Slots) (i : ℕ) (t : Rect) → clear r ss ≡ true → slot ss i ≡ Some t → meets r t ≡ false
clear_at r [] i t e q = absurd (none-some t q)
clear_at r (s ∷ ss) zero t e q = not-true _ (ap (misses r) (sym q) ∙ (and_parts (misses r s) (clear r ss) e).0)
clear_at r (s ∷ ss) (suc i) t e q = clear_at r ss i t (and_parts (misses r s) (clear r ss) e).1 q

pub clear_from : (r : Rect) (ss : Slots) → ((i : ℕ) (t : Rect) → slot ss i ≡ Some t → meets r t ≡ false) → clear r ss ≡ true
clear_from r [] f = refl
clear_from r (None ∷ ss) f = clear_from r ss (λ i t q. f (suc i) t q)
clear_from r (Some t ∷ ss) f = and_from _ _ (not_from_false _ (f 0 t refl)) (clear_from r ss (λ i u q. f (suc i) u q))

-- apart from one another
abbrev AllApart : Slots → Type 0
AllApart ss = (i j : ℕ) (r t : Rect) → (i ≢ j) → slot ss i ≡ Some r → slot ss j ≡ Some t → meets r t ≡ false

pub separate_at : (ss : Slots) → Separate ss → AllApart ss
separate_at ss sep i j r t ne e q = not-true _ (ap (misses r) (sym q) ∙ ap (λ o. both_miss o (slot ss j)) (sym e) ∙ sep i j ne)

separate_from : (ss : Slots) → AllApart ss → Separate ss
separate_from ss f i j ne = look (slot ss i) (slot ss j) refl refl
  where
    look : (a b : Option Rect) → slot ss i ≡ a → slot ss j ≡ b → both_miss a b ≡ true
    look None b p q = refl
    look (Some r) None p q = refl
    look (Some r) (Some t) p q = not_from_false _ (f i j r t ne p q)

module _ (S : ℕ) (ss : Slots) (lie : Lies S ss) (sep : Separate ss) where
  -- one rectangle more, inside and clear of every live one
  pub lies_set : (v : ℕ) (n : Rect) → v < length ss → Inside S n → Lies S (slice_set ss v (Some n))
  lies_set v n l a i r e = ⊎_elim (λ c. subst (Inside S) c.1 a) (λ c. lie i r c.1) (slot_after ss v n i r l e)

  pub separate_set : (v : ℕ) (n : Rect) → v < length ss → ((i : ℕ) (r : Rect) → slot ss i ≡ Some r → Apart n r) → Separate (slice_set ss v (Some n))
  separate_set v n l f = separate_from (slice_set ss v (Some n)) (λ i j r t ne e q. ⊎_elim
      (λ c. ⊎_elim
      (λ d. absurd (ne (c.0 ∙ sym d.0)))
      (λ d. ap (λ z. meets z t) (sym c.1) ∙ apart_missed n t (f j t d.1))
      (slot_after ss v n j t l q))
      (λ c. ⊎_elim
      (λ d. ap (meets r) (sym d.1) ∙ apart_missed r n (apart_sym n r (f i r c.1)))
      (λ d. separate_at ss sep i j r t ne c.1 d.1)
      (slot_after ss v n j t l q))
      (slot_after ss v n i r l e))

  -- one rectangle less
  pub lies_emptied : (v : ℕ) → Lies S (slice_set ss v None)
  lies_emptied v i r e = lie i r (slot_before ss v i r e)

  pub separate_emptied : (v : ℕ) → Separate (slice_set ss v None)
  separate_emptied v = separate_from (slice_set ss v None) (λ i j r t ne e q. separate_at ss sep i j r t ne (slot_before ss v i r e) (slot_before ss v j t q))

pub lies_none : (S n : ℕ) → Lies S (replicate n None)
lies_none S n i r e = absurd (none-some r (sym (slot_none n i) ∙ e))

pub separate_none : (n : ℕ) → Separate (replicate n None)
separate_none n i j ne = ap (λ o. both_miss o (slot (replicate n None) j)) (slot_none n i)

module _ (S : ℕ) (ss : Slots) (v : SquareSound S ss) where
  pub sound_set : (k : ℕ) (n : Rect) → k < 256 → Inside S n → ((i : ℕ) (r : Rect) → slot ss i ≡ Some r → Apart n r) → SquareSound S (slice_set ss k (Some n))
  sound_set k n u a f =
      let l : k < length ss = omega (arith, v.whole) in
      record {
        small = v.small;
        whole = length-set ss k (Some n) ∙ v.whole;
        lies = lies_set S ss v.lies v.separate k n l a;
        separate = separate_set S ss v.lies v.separate k n l f;
      }

  pub sound_emptied : (k : ℕ) → SquareSound S (slice_set ss k None)
  sound_emptied k = record {
    small = v.small;
    whole = length-set ss k None ∙ v.whole;
    lies = lies_emptied S ss v.lies v.separate k;
    separate = separate_emptied S ss v.lies v.separate k;
  }

pub sound_none : (S : ℕ) → S ≤ 8192 → SquareSound S (replicate 256 None)
sound_none S u = record { small = u; whole = length-replicate {A = Option Rect} 256 None; lies = lies_none S 256; separate = separate_none 256 }
