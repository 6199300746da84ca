-- The streams of a page, and the page, are as long as the arithmetic says.
use Rattle.std.proofs.Common.{◌≡◌, ℕ, ◌+◌, ◌-◌, ◌*◌, ◌≤◌, List, ◌++◌, length, replicate, refl, ap, ◌∙◌, arith}
use Rattle.std.proofs.lemmas.List.{length-append, length-replicate}
use Rattle.byte_writers.specs.Bytes.{word_bytes, transform_bytes, style_bytes}
use Rattle.byte_writers.proofs.Puts.{length_wide}
use Rattle.supply.specs.Meaning.{Meaning}
use Rattle.streams.specs.Kind.{stream_of}
use Rattle.streams.specs.Kinds.{tags_kind, data_kind, transforms_kind, styles_kind}
use Rattle.streams.specs.Draw.{Late, Owned, bound_draw_data}
use Rattle.streams.proofs.Counted.{stream_counted}
use Rattle.streams.proofs.Draw.{draw_counted}
use Rattle.encoding.specs.Scene.{Scene, Sound}
use Rattle.page.specs.Page.{padded, with_padding, closed_tags, path_tag_stream, path_data_stream, draw_tag_stream, draw_data_stream, transform_stream, style_stream, page_of}
use Rattle.page.specs.Layout.{inserted_by, sizes_with, page_length}
use Rattle.page.proofs.Kept.{tags_kept, data_kept, transforms_kept, styles_kept, draw_kept}

pub le_padded : (n : ℕ) → n ≤ padded n
le_padded n = omega arith

pub with_padding_long : (ts : List ℕ) → length (with_padding ts) ≡ padded (length ts)
with_padding_long ts =
    let a = length-append ts (replicate (padded (length ts) - length ts) 0) in
    let b = length-replicate {A = ℕ} (padded (length ts) - length ts) 0 in
    let c = le_padded (length ts) in
    omega arith

six_long : (a b c d e f : List ℕ) → length (a ++ b ++ c ++ d ++ e ++ f) ≡ length a + length b + length c + length d + length e + length f
six_long a b c d e f = simp length-append

pub record Long (m : Meaning) (late : Late) (s : Scene) : Type 0 where
  pub path_tags : length (path_tag_stream m s) ≡ (sizes_with (inserted_by m s) s).path_tag_padded
  pub path_data : length (path_data_stream m s) ≡ (sizes_with (inserted_by m s) s).path_data
  pub draw_tags : length (draw_tag_stream s) ≡ (sizes_with (inserted_by m s) s).draw_tags
  pub draw_data : length (draw_data_stream late s) ≡ (sizes_with (inserted_by m s) s).draw_data
  pub transforms : length (transform_stream m s) ≡ (sizes_with (inserted_by m s) s).transforms
  pub styles : length (style_stream m s) ≡ (sizes_with (inserted_by m s) s).styles

module _ (m : Meaning) (s : Scene) (h : Sound s) where
  pub tag_count : length (stream_of tags_kind m s.path_tags s.glyphs s.runs) ≡ length s.path_tags + (inserted_by m s).path_tags
  tag_count = stream_counted tags_kind m s.path_tags s.glyphs s.runs (tags_kept s h m)

  closed_long : length (closed_tags m s) ≡ length s.path_tags + (inserted_by m s).path_tags + s.open_clips
  closed_long = omega (arith, length-append (stream_of tags_kind m s.path_tags s.glyphs s.runs) (replicate s.open_clips 0x10), tag_count, length-replicate {A = ℕ} s.open_clips 0x10)

  module _ (late : Late) (w : Owned late 0 s.patches) where
    pub long : Long m late s
    long =
        let t = stream_counted data_kind m s.path_data s.glyphs s.runs (data_kept s h m) in
        let u = stream_counted transforms_kind m s.transforms s.glyphs s.runs (transforms_kept s h m) in
        let v = stream_counted styles_kind m s.styles s.glyphs s.runs (styles_kept s h m) in
        let ends = s.draw_tags ++ replicate s.open_clips 0x21 in
        record {
          path_tags = with_padding_long (closed_tags m s) ∙ ap padded closed_long;
          path_data = length_wide word_bytes 4 (λ _. refl) (stream_of data_kind m s.path_data s.glyphs s.runs) ∙ ap (λ n. 4 * n) t;
          draw_tags = omega (arith, length_wide word_bytes 4 (λ _. refl) ends, length-append s.draw_tags (replicate s.open_clips 0x21), length-replicate {A = ℕ} s.open_clips 0x21);
          draw_data = length_wide word_bytes 4 (λ _. refl) (bound_draw_data late s.draw_data s.patches) ∙ ap (λ n. 4 * n) (draw_counted late s.draw_data s.patches (draw_kept s h late w));
          transforms = length_wide transform_bytes 24 (λ _. refl) (stream_of transforms_kind m s.transforms s.glyphs s.runs) ∙ ap (λ n. 24 * n) u;
          styles = length_wide style_bytes 8 (λ _. refl) (stream_of styles_kind m s.styles s.glyphs s.runs) ∙ ap (λ n. 8 * n) v;
        }

    pub page_long : length (page_of m late s) ≡ page_length m s
    page_long =
        let n = six_long (path_tag_stream m s) (path_data_stream m s) (draw_tag_stream s) (draw_data_stream late s) (transform_stream m s) (style_stream m s) in
        omega (arith, long)
