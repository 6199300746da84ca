-- A list that is read entry by entry.
use Rattle.std.proofs.Common.{◌≡◌, ℕ, ◌<◌, List, [], ◌∷◌, ◌++◌, length, get_or, Some, None, Option, sym, refl, ap, ◌∙◌, subst, append_assoc, append-nil, arith, length-append}
use Rattle.std.proofs.lemmas.List.{get_or_at}
use Rattle.commands.specs.Entries.{ReadAll, ReadNot}

module _ {X : Type 0} (R : List ℕ → Option X → Type 0) where
  push : (ts : List (List ℕ)) (t : List ℕ) (xs : List X) (x : X) → ReadAll R ts xs → R t (Some x) → ReadAll R (ts ++ t ∷ []) (xs ++ x ∷ [])
  push [] t [] x h r = (r, tt)
  push [] t (y ∷ ys) x h r = absurd h
  push (s ∷ ts) t [] x h r = absurd h
  push (s ∷ ts) t (y ∷ ys) x h r = (h.0, push ts t ys x h.1 r)

  -- of all the texts, xs is read and rest is to come
  pub record Sofar (all : List (List ℕ)) (xs : List X) (rest : List (List ℕ)) : Type 0 where
    pub done : List (List ℕ)
    pub whole : all ≡ done ++ rest
    pub read : ReadAll R done xs

  pub start : (all : List (List ℕ)) → Sofar all [] all
  start all = record { done = []; whole = refl; read = tt }

  module _ {all : List (List ℕ)} {xs : List X} {t : List ℕ} {rest : List (List ℕ)} (h : Sofar all xs (t ∷ rest)) where
    pub one_more : (x : X) → R t (Some x) → Sofar all (xs ++ x ∷ []) rest
    one_more x r = record {
      done = h.done ++ t ∷ [];
      whole = h.whole ∙ sym (append_assoc h.done (t ∷ []) rest);
      read = push h.done t xs x h.read r;
    }

    pub not_read : R t None → ReadNot R all
    not_read r = (
      length h.done,
      subst (λ l. length h.done < length l) (sym h.whole) (simp length-append (omega arith)),
      subst (λ l. R l None) (sym (ap (λ l. get_or l (length h.done) []) h.whole ∙ get_or_at h.done t rest [] _ refl)) r,
    )

  pub all_read : {all : List (List ℕ)} {xs : List X} → Sofar all xs [] → ReadAll R all xs
  all_read h = subst (λ l. ReadAll R l _) (sym (h.whole ∙ append-nil h.done)) h.read
