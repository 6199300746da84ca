use Rattle.std.proofs.Common.{◌≡◌, ℕ, ◌+◌, List, [], ◌∷◌, ◌++◌, length, take, drop, Some, None, Ok, Option, sym, refl, ap, ◌∙◌, subst, arith}
use Rattle.std.proofs.lemmas.List.{take_at}
use Rattle.records.specs.declared.patch.Patch.{Patch}
use Rattle.records.specs.declared.patch.Patch.TheVariants.{Ramp, GlyphRun as Run, Image}
use Rattle.supply.specs.Meaning.{Meaning}
use Rattle.streams.specs.Draw.{Late, Owned}
use Rattle.encoding.specs.Scene.{Scene, Sound}
use Rattle.page.specs.Page.{page_of, path_tag_stream, path_data_stream, draw_tag_stream, draw_data_stream, transform_stream, style_stream}
use Rattle.page.specs.Layout.{page_length, layout_of}
use Rattle.page.specs.Pack.{answered, written, too_long}
use Rattle.page.specs.Plain.{plain_page, plain_refusal}
use Rattle.page.specs.declared.layout.Layout.{Layout}
use Rattle.page.specs.Nothing.{no_supply, no_late}
use Rattle.page.specs.Laws.{ReadsBack}
use Rattle.page.proofs.Lengths.{long, page_long}
use Rattle.page.proofs.Parts.{lies_accepted, rejoined, six_parts}
use Rattle.page.proofs.laws.pages_read_back.Goals as goal

module _ (m : Meaning) (late : Late) (s : Scene) (h : Sound s) (w : Owned late 0 s.patches) where
  reads : ReadsBack m late s (page_of m late s) (layout_of m s)
  reads =
      let l = layout_of m s in
      let a = path_tag_stream m s in
      let b = path_data_stream m s in
      let c = draw_tag_stream s in
      let d = draw_data_stream late s in
      let e = transform_stream m s in
      let f = style_stream m s in
      let z = long m s h late w in
      let r = six_parts a b c d e f l refl (omega arith) (omega arith) (omega arith) (omega arith) (omega arith) in
      record {
        accepted = lies_accepted _ l r.rising;
        path_tags = r.path_tags;
        path_data = r.path_data;
        draw_tags = r.draw_tags;
        draw_data = r.draw_data;
        transforms = r.transforms;
        styles = r.styles;
        whole = rejoined _ l r.rising refl;
      }

-- an answer with a layout has the page in the buffer
packed_only : {X : Type 0} (L : Layout) (N : ℕ) (P before : List ℕ) (o : Option X) (l : Layout) (n : ℕ) → length P ≡ N
    → answered L N o ≡ Ok (l, n) → (L ≡ l) × (P ≡ take n (written P N before o))
packed_only L N P before None l n k e =
    let p : ◌≡◌ {A = Layout × ℕ} (L, N) (l, n) = cc in
    (ap (λ q. q.0) p, sym (ap (λ j. take j (P ++ drop N before)) (sym (ap (λ q. q.1) p)) ∙ take_at P (drop N before) N k))
packed_only L N P before (Some q) l n k e = let z : ◌≡◌ {A = ℕ} 0 1 = cc in absurd (omega arith)

reads_as : (m : Meaning) (late : Late) (s : Scene) {P Q : List ℕ} {l j : Layout} → (l ≡ j) × (P ≡ Q) → ReadsBack m late s P l → ReadsBack m late s Q j
reads_as m late s {P = P} {j = j} e r = subst (λ v. ReadsBack m late s v j) e.1 (subst (λ v. ReadsBack m late s P v) e.0 r)

owned_none : (k : ℕ) (ps : List Patch) → Owned no_late k ps
owned_none k [] = tt
owned_none k (Ramp o a b e ∷ ps) = (omega arith, owned_none (k + 1) ps)
owned_none k (Run i ∷ ps) = owned_none (k + 1) ps
owned_none k (Image o id w h ∷ ps) = (omega arith, owned_none (k + 1) ps)

pub returns : goal.returns
returns c = record {
  pack = λ m late s before l n h w e.
      reads_as m late s (packed_only _ _ (page_of m late s) before (too_long (page_length m s) (length before)) l n (page_long m s h late w) e) (reads m late s h w);
  plain = λ s before l n h e.
      let w = owned_none 0 s.patches in
      reads_as no_supply no_late s (packed_only _ _ (plain_page s) before (plain_refusal s (length before)) l n (page_long no_supply s h no_late w) e) (reads no_supply no_late s h w);
}
