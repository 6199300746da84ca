-- Lists and entries that are moved twice.
use Rattle.std.proofs.Common.{◌≡◌, ℕ, ◌+◌, List, [], ◌∷◌, ◌++◌, map, length, take, None, refl, ap, ◌∙◌, append_assoc, add_assoc, arith, length-append}
use Rattle.std.proofs.lemmas.List.{take_at, map-append, length-map}
use Rattle.records.specs.Moved.{past, moved_patch, moved_run, under}
use Rattle.records.specs.declared.patch.Patch.{Patch}
use Rattle.records.specs.declared.patch.Patch.TheVariants.{Ramp, GlyphRun as Run, Image}
use Rattle.records.specs.declared.glyph.GlyphRun.{GlyphRun}
use Rattle.records.specs.declared.glyph.StreamOffsets.{StreamOffsets}
use Rattle.math.specs.declared.transform.Transform.{Transform}
use Rattle.encoding.specs.Scene.{Scene, ends}
use Rattle.encoding.specs.Appended.{appended}

pub begins : {X : Type 0} (xs ys : List X) → take (length xs) (xs ++ ys) ≡ xs
begins xs ys = take_at xs ys (length xs) refl

cons_same : {X : Type 0} {x y : X} {xs ys : List X} → x ≡ y → xs ≡ ys → ◌≡◌ {A = List X} (x ∷ xs) (y ∷ ys)
cons_same e f = cc

-- moved by b and then by a is moved by both
patch_twice : (w s r w' s' r' w'' s'' r'' : ℕ) → w'' ≡ w + w' → s'' ≡ s + s' → r'' ≡ r + r'
    → (p : Patch) → moved_patch w'' s'' r'' p ≡ moved_patch w s r (moved_patch w' s' r' p)
patch_twice w s r w' s' r' w'' s'' r'' e f g (Ramp o a b x) =
    let i : o + w'' ≡ (o + w') + w = omega arith in
    let j : a + s'' ≡ (a + s') + s = omega arith in
    let k : b + s'' ≡ (b + s') + s = omega arith in
    cc
patch_twice w s r w' s' r' w'' s'' r'' e f g (Run i) = ap Run (omega arith)
patch_twice w s r w' s' r' w'' s'' r'' e f g (Image o id x y) = ap (λ n. Image n id x y) (omega arith)

pub patches_twice : (w s r w' s' r' w'' s'' r'' : ℕ) → w'' ≡ w + w' → s'' ≡ s + s' → r'' ≡ r + r'
    → (ps : List Patch) → map (moved_patch w'' s'' r'') ps ≡ map (moved_patch w s r) (map (moved_patch w' s' r') ps)
patches_twice w s r w' s' r' w'' s'' r'' e f g [] = refl
patches_twice w s r w' s' r' w'' s'' r'' e f g (p ∷ ps) =
    cons_same (patch_twice w s r w' s' r' w'' s'' r'' e f g p) (patches_twice w s r w' s' r' w'' s'' r'' e f g ps)

-- without a transform nothing is multiplied
pub under_none : (ts : List Transform) → map (under None) ts ≡ ts
under_none [] = refl
under_none (t ∷ ts) = ap (λ us. t ∷ us) (under_none ts)

past_twice : (a b : Scene) (r : StreamOffsets) → past (ends (appended a b None)) r ≡ past (ends a) (past (ends b) r)
past_twice a b r =
    let i : r.path_tags + length (a.path_tags ++ b.path_tags) ≡ (r.path_tags + length b.path_tags) + length a.path_tags = omega (arith, length-append a.path_tags b.path_tags) in
    let j : r.path_data + length (a.path_data ++ b.path_data) ≡ (r.path_data + length b.path_data) + length a.path_data = omega (arith, length-append a.path_data b.path_data) in
    let k : r.draw_tags + length (a.draw_tags ++ b.draw_tags) ≡ (r.draw_tags + length b.draw_tags) + length a.draw_tags = omega (arith, length-append a.draw_tags b.draw_tags) in
    let l : r.draw_data + length (a.draw_data ++ b.draw_data) ≡ (r.draw_data + length b.draw_data) + length a.draw_data = omega (arith, length-append a.draw_data b.draw_data) in
    let m : r.transforms + length (a.transforms ++ map (under None) b.transforms) ≡ (r.transforms + length b.transforms) + length a.transforms
    = rw (under_none b.transforms) (omega (arith, length-append a.transforms b.transforms)) in
    let n : r.styles + length (a.styles ++ b.styles) ≡ (r.styles + length b.styles) + length a.styles = omega (arith, length-append a.styles b.styles) in
    cc

run_twice : (a b : Scene) (r : GlyphRun)
    → moved_run None (ends (appended a b None)) (length (appended a b None).glyphs) r
    ≡ moved_run None (ends a) (length a.glyphs) (moved_run None (ends b) (length b.glyphs) r)
run_twice a b r =
    let e = past_twice a b r.stream_offsets in
    let i : r.glyphs_start + length (a.glyphs ++ b.glyphs) ≡ (r.glyphs_start + length b.glyphs) + length a.glyphs = omega (arith, length-append a.glyphs b.glyphs) in
    let j : r.glyphs_end + length (a.glyphs ++ b.glyphs) ≡ (r.glyphs_end + length b.glyphs) + length a.glyphs = omega (arith, length-append a.glyphs b.glyphs) in
    cc

pub runs_twice : (a b : Scene) (rs : List GlyphRun)
    → map (moved_run None (ends (appended a b None)) (length (appended a b None).glyphs)) rs
    ≡ map (moved_run None (ends a) (length a.glyphs)) (map (moved_run None (ends b) (length b.glyphs)) rs)
runs_twice a b [] = refl
runs_twice a b (r ∷ rs) = cons_same (run_twice a b r) (runs_twice a b rs)

pub associates : (a b c : Scene) → appended (appended a b None) c None ≡ appended a (appended b c None) None
associates a b c =
    let p1 = append_assoc a.path_tags b.path_tags c.path_tags in
    let p2 = append_assoc a.path_data b.path_data c.path_data in
    let p3 = append_assoc a.draw_tags b.draw_tags c.draw_tags in
    let p4 = append_assoc a.draw_data b.draw_data c.draw_data in
    let bt = under_none b.transforms in
    let ct = under_none c.transforms in
    let bct = under_none (b.transforms ++ c.transforms) in
    let p5 = append_assoc a.transforms b.transforms c.transforms in
    let p6 = append_assoc a.styles b.styles c.styles in
    let move = moved_patch (length a.draw_data) (length a.stops) (length a.runs) in
    let moved = map (moved_patch (length b.draw_data) (length b.stops) (length b.runs)) c.patches in
    let p7 = append_assoc a.patches (map move b.patches) (map move moved) in
    let m7 = map-append move b.patches moved in
    let lw = length-append a.draw_data b.draw_data in
    let ls = length-append a.stops b.stops in
    let lr : length (a.runs ++ map (moved_run None (ends a) (length a.glyphs)) b.runs) ≡ length a.runs + length b.runs
    = length-append a.runs (map (moved_run None (ends a) (length a.glyphs)) b.runs) ∙ ap (λ n. length a.runs + n) (length-map b.runs (moved_run None (ends a) (length a.glyphs))) in
    let t7 = patches_twice (length a.draw_data) (length a.stops) (length a.runs) (length b.draw_data) (length b.stops) (length b.runs) _ _ _ lw ls lr c.patches in
    let p8 = append_assoc a.stops b.stops c.stops in
    let p9 = append_assoc a.glyphs b.glyphs c.glyphs in
    let turn = moved_run None (ends a) (length a.glyphs) in
    let turned = map (moved_run None (ends b) (length b.glyphs)) c.runs in
    let p10 = append_assoc a.runs (map turn b.runs) (map turn turned) in
    let m10 = map-append turn b.runs turned in
    let t10 = runs_twice a b c.runs in
    let q1 = add_assoc a.paths b.paths c.paths in
    let q2 = add_assoc a.segments b.segments c.segments in
    let q3 = add_assoc a.clips b.clips c.clips in
    let q4 = add_assoc a.open_clips b.open_clips c.open_clips in
    cc
