-- What packing answers and leaves, by whether the length fits.
use Rattle.std.proofs.Common.{◌≡◌, ℕ, ◌≤◌, Bool, true, false, cond, List, ◌++◌, length, drop, Some, None, Ok, Err, Option, refl, ap, ◌∙◌}
use Rattle.std.proofs.lemmas.Bool.{leb-true, and_parts}
use Rattle.supply.specs.Meaning.{Meaning}
use Rattle.streams.specs.Draw.{Late}
use Rattle.streams.specs.declared.inserted.Inserted.{Inserted}
use Rattle.encoding.specs.Scene.{Scene}
use Rattle.page.specs.Page.{page_of}
use Rattle.page.specs.Layout.{inserted_by, sizes_with, buffer_size, page_length, layout_with, layout_of}
use Rattle.page.specs.Pack.{fits, too_long, answered, written, pack_answer, pack_buffer}
use Rattle.page.specs.declared.layout.Layout.{Layout}
use Rattle.page.specs.declared.layout.SceneBufferSizes.{SceneBufferSizes}
use Rattle.page.specs.declared.refusal.TooLong.{TooLong}

module _ (m : Meaning) (s : Scene) (i : Inserted) (z : SceneBufferSizes) (p : i ≡ inserted_by m s) (q : z ≡ sizes_with i s) where
  pub sized : buffer_size z ≡ page_length m s
  sized = ap buffer_size q ∙ ap (λ v. buffer_size (sizes_with v s)) p

  pub laid : layout_with i s z ≡ layout_of m s
  laid = ap (layout_with i s) q ∙ ap (λ v. layout_with v s (sizes_with v s)) p

not_long : (n room : ℕ) → None ≡ too_long n room → fits n room ≡ true
not_long n room =
    let P : Bool → Type 0 = λ b. ◌≡◌ {A = Option TooLong} None (cond b None (Some (record { needed = n }))) → b ≡ true in
    elim (fits n room) as P [ true ↦ λ _. refl | false ↦ λ e. absurd (cc) ]

pub has_room : (n room : ℕ) → None ≡ too_long n room → n ≤ room
has_room n room h = leb-true _ _ (and_parts _ _ (not_long n room h)).1

module _ (m : Meaning) (late : Late) (s : Scene) (D : List ℕ) (n : ℕ) (e : n ≡ page_length m s) where
  module _ (q : TooLong) (h : Some q ≡ too_long n (length D)) where
    pub refused_answer : Err q ≡ pack_answer m s (length D)
    refused_answer = ap (answered (layout_of m s) (page_length m s)) (h ∙ ap (λ k. too_long k (length D)) e)

    pub refused_buffer : D ≡ pack_buffer m late s D
    refused_buffer = ap (written (page_of m late s) (page_length m s) D) (h ∙ ap (λ k. too_long k (length D)) e)

  module _ (h : None ≡ too_long n (length D)) where
    pub packed_answer : (l : Layout) (j : ℕ) → l ≡ layout_of m s → j ≡ n → Ok (l, j) ≡ pack_answer m s (length D)
    packed_answer l j u v =
        ap (λ w. Ok (w, j)) u ∙ ap (λ w. Ok (layout_of m s, w)) (v ∙ e) ∙ ap (answered (layout_of m s) (page_length m s)) (h ∙ ap (λ k. too_long k (length D)) e)

    pub packed_buffer : (out : List ℕ) (j : ℕ) → out ≡ page_of m late s ++ drop j D → j ≡ n → out ≡ pack_buffer m late s D
    packed_buffer out j u v =
        u ∙ ap (λ w. page_of m late s ++ drop w D) (v ∙ e) ∙ ap (written (page_of m late s) (page_length m s) D) (h ∙ ap (λ k. too_long k (length D)) e)
