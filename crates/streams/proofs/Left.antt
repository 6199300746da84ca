-- A stream half written: what is written, with the cuts that are left, is the whole.
use Rattle.std.proofs.Common.{◌≡◌, ℕ, ◌+◌, ◌-◌, ◌*◌, ◌≤◌, List, [], ◌∷◌, ◌++◌, length, drop, sum_by, sym, refl, ap, ◌∙◌, subst, append_assoc, mul-add, arith}
use Rattle.std.specs.List.{flat_map, between}
use Rattle.std.proofs.lemmas.List.{length-append, length-drop}
use Rattle.std.proofs.lemmas.List.Edits.{length-between}
use Rattle.std.proofs.lemmas.List.Sums.{sum_by-cons}
use Rattle.std.proofs.lemmas.Grind.{flat_map-append}
use Rattle.byte_writers.specs.Wrote.{Wrote}
use Rattle.byte_writers.specs.declared.writer.Writer.{Writer}
use Rattle.byte_writers.proofs.Puts.{none_wrote, wrote_as, wrote_then, length_wide}
use Rattle.streams.specs.Splice.{Cut, spliced, Cuts}

cuts_end : {X : Type 0} (n f : ℕ) (cs : List (Cut X)) → Cuts n f cs → f ≤ n
cuts_end n f [] h = h
cuts_end n f (c ∷ cs) h = let k = cuts_end n (c.place + c.gone) cs h.1 in omega arith

-- the length, by what goes and what comes
pub counted : {X : Type 0} (xs : List X) (from : ℕ) (cs : List (Cut X)) → Cuts (length xs) from cs
    → length (spliced from xs cs) + sum_by (λ c. c.gone) cs ≡ (length xs - from) + sum_by (λ c. length c.put) cs
counted xs from [] h = let a = length-drop from xs in omega arith
counted xs from (c ∷ cs) h =
    let p = c.place in
    let e = cuts_end (length xs) (p + c.gone) cs h.1 in
    let ih = counted xs (p + c.gone) cs h.1 in
    let a = length-append (between from p xs) (c.put ++ spliced (p + c.gone) xs cs) in
    let b = length-append c.put (spliced (p + c.gone) xs cs) in
    let l = length-between xs from p (omega arith) in
    let s = sum_by-cons (λ c. c.gone) c cs in
    let t = sum_by-cons (λ c. length c.put) c cs in
    omega arith

pub record Left {X : Type 0} (f : X → List ℕ) (before after : Writer) (xs W : List X) (cs : List (Cut X)) (from : ℕ) : Type 0 where
  pub written : List X
  pub wrote : Wrote before (flat_map f written) after
  pub whole : written ++ spliced from xs cs ≡ W
  pub cuts : Cuts (length xs) from cs

-- before the first write
pub begun : {X : Type 0} (f : X → List ℕ) (w : Writer) (xs : List X) (cs : List (Cut X)) → Cuts (length xs) 0 cs → Left f w w xs (spliced 0 xs cs) cs 0
begun f w xs cs h = record { written = []; wrote = none_wrote w; whole = refl; cuts = h }

module _ {X : Type 0} {f : X → List ℕ} {before mid : Writer} {xs W : List X} {from : ℕ} where
  pub left_as : {cs : List (Cut X)} {after : Writer} {n : ℕ} → after ≡ mid → n ≡ from → Left f before mid xs W cs from → Left f before after xs W cs n
  left_as {cs = cs} {n = n} e q g = subst (λ v. Left f before v xs W cs n) (sym e) (subst (λ n. Left f before mid xs W cs n) (sym q) g)

  module _ {c : Cut X} {cs : List (Cut X)} (g : Left f before mid xs W (c ∷ cs) from) where
    pub rises : (from ≤ c.place) × (c.place + c.gone ≤ length xs)
    rises = (g.cuts.0, cuts_end (length xs) (c.place + c.gone) cs g.cuts.1)

    whole_on : (g.written ++ (between from c.place xs ++ c.put)) ++ spliced (c.place + c.gone) xs cs ≡ W
    whole_on = simp append_assoc g.whole

    -- entries of w bytes
    pub room : (w : ℕ) → ((x : X) → length (f x) ≡ w) → mid.at + w * length (between from c.place xs) + w * length c.put ≤ before.at + w * length W
    room w e =
        let t = g.written ++ (between from c.place xs ++ c.put) in
        let a = ap (λ n. w * n) (ap length (sym whole_on) ∙ length-append t (spliced (c.place + c.gone) xs cs)) in
        let b = ap (λ n. w * n) (length-append g.written (between from c.place xs ++ c.put)) in
        let d = ap (λ n. w * n) (length-append (between from c.place xs) c.put) in
        omega (
          arith,
          g.wrote.put.size,
          length_wide f w e g.written,
          mul-add w (length t) (length (spliced (c.place + c.gone) xs cs)),
          mul-add w (length g.written) (length (between from c.place xs ++ c.put)),
          mul-add w (length (between from c.place xs)) (length c.put),
        )

    pub advance : {next after : Writer} → before.at ≤ length before.out.now → Wrote mid (flat_map f (between from c.place xs)) next → Wrote next (flat_map f c.put) after
        → Left f before after xs W cs (c.place + c.gone)
    advance l u v =
        let part = between from c.place xs in
        let q : (flat_map f g.written ++ flat_map f part) ++ flat_map f c.put ≡ flat_map f (g.written ++ (part ++ c.put))
        = append_assoc (flat_map f g.written) (flat_map f part) (flat_map f c.put)
        ∙ ap (λ v. flat_map f g.written ++ v) (sym (flat_map-append f part c.put)) ∙ sym (flat_map-append f g.written (part ++ c.put)) in
        record { written = g.written ++ (part ++ c.put); wrote = wrote_as q (wrote_then l (wrote_then l g.wrote u) v); whole = whole_on; cuts = g.cuts.1 }

  module _ (g : Left f before mid xs W [] from) where
    pub rest : (part : List X) → part ≡ drop from xs → (w : ℕ) → ((x : X) → length (f x) ≡ w) → mid.at + w * length part ≡ before.at + w * length W
    rest part p w e =
        let a = ap (λ n. w * n) (ap length (sym g.whole) ∙ length-append g.written (drop from xs)) in
        let b = ap (λ q. w * length q) p in
        omega (arith, g.wrote.put.size, length_wide f w e g.written, mul-add w (length g.written) (length (drop from xs)))

    pub ended : {after : Writer} (part : List X) → part ≡ drop from xs → before.at ≤ length before.out.now → Wrote mid (flat_map f part) after → Wrote before (flat_map f W) after
    ended part p l u = wrote_as (ap (λ q. flat_map f g.written ++ flat_map f q) p ∙ sym (flat_map-append f g.written (drop from xs)) ∙ ap (flat_map f) g.whole) (wrote_then l g.wrote u)
