-- The laws of the corner atlas.
use Rattle.std.specs.Prelude.{◌≡◌, ℕ, ◌≤◌, min, true, false, replicate, is_some, Some, None, Option, slice_set, refl}
use Rattle.std.proofs.Common.{sym, ap, ◌∙◌, subst, arith}
use Rattle.std.proofs.lemmas.List.{set-get_or}
use Rattle.std.proofs.lemmas.Bool.{both_ways}
use Rattle.std.proofs.lemmas.Option.{none-some}
use Rattle.atlas.specs.declared.corner_atlas.CornerAtlas.{CornerAtlas}
use Rattle.atlas.specs.Rects.{rect}
use Rattle.atlas.specs.Slots.{slot, vacant, allowed}
use Rattle.atlas.specs.Kind.{AtlasLaws, Free}
use Rattle.atlas.specs.Corner.{Cornered, CornerSound, corner, corner_gives, corner_put, least_place, free_at, Least, TakesLeast}
use Rattle.atlas.specs.CornerView.{cornered}
use Rattle.atlas.specs.RectFacts.{missed, apart_missed}
use Rattle.atlas.specs.Searches.{none_unless}
use Rattle.atlas.specs.SlotFacts.{vacant_empty, slot_set, slot_emptied, slot_none, none_vacant, used_few, used_full, clear_at, clear_from, separate_at, sound_set, sound_emptied, sound_none, allowed_from, gives_when, gives_none, gave}
use Rattle.atlas.specs.Corners.{Sought, free_parts, free_from, First, place_first, nowhere}

module _ (s : Cornered) (w h : ℕ) where
  abbrev sought : Sought
  sought = record { side = s.side; slots = s.slots; width = w; height = h }

  -- a free place, as the search tests it and as the law says it
  pub is_free : (x y : ℕ) → free_at s.side s.slots w h y x ≡ true → Free corner s w h x y
  is_free x y e =
      let f = free_parts sought x y e in
      record { inside = (f.right, f.low); clear = λ i r q. missed (rect x y w h) r (clear_at (rect x y w h) s.slots i r f.clear q) }

  not_free : (x y : ℕ) → free_at s.side s.slots w h y x ≡ false → Free corner s w h x y → ⊥
  not_free x y e f =
      both_ways _ e (free_from sought x y (record {
        right = f.inside.0;
        low = f.inside.1;
        clear = clear_from (rect x y w h) s.slots (λ i t q. apart_missed (rect x y w h) t (f.clear i t q));
      }))

  pub first_least : (x y : ℕ) → First sought x y → Least s w h x y
  first_least x y p = record { free = is_free x y p.free; above = λ a b u. not_free a b (p.above a b u); left = λ a u. not_free a y (p.left a u) }

  abbrev least : Option (ℕ × ℕ)
  least = least_place s.side s.slots w h

  pub gave_least : (x y : ℕ) → corner_gives s w h ≡ Some (x, y) → First sought x y
  gave_least x y e = place_first sought x y (gave s.slots w h least (x, y) e).found

  pub found_free : (x y : ℕ) → least_place s.side s.slots w h ≡ Some (x, y) → Free corner s w h x y
  found_free x y e = is_free x y (place_first sought x y e).free

  pub takes_least : TakesLeast s w h (corner_gives s w h)
  takes_least = record {
    least = λ x y e. first_least x y (gave_least x y e);
    none = λ a e x y. not_free x y (nowhere sought (sym (gives_when s.slots w h least a) ∙ e) x y);
  }

  -- the same of what a search of an allowed size found
  pub takes_found : (o : Option (ℕ × ℕ)) → o ≡ least_place s.side s.slots w h → allowed s.slots w h ≡ true → TakesLeast s w h o
  takes_found o e t = subst (TakesLeast s w h) (sym (e ∙ sym (gives_when s.slots w h least t))) takes_least

  sound_put : (o : Option (ℕ × ℕ)) → corner_gives s w h ≡ o → CornerSound s → CornerSound (corner_put o s w h)
  sound_put None e v = v
  sound_put (Some p) e v = let f = is_free p.0 p.1 (gave_least p.0 p.1 e).free in sound_set s.side s.slots v (vacant s.slots) (rect p.0 p.1 w h) (gave s.slots w h least p e).may.space f.inside f.clear

  side_put : (o : Option (ℕ × ℕ)) → (corner_put o s w h).side ≡ s.side
  side_put None = refl
  side_put (Some p) = refl

  roomy_in : ((i : ℕ) → slot s.slots i ≡ None) → 1 ≤ w → w ≤ s.side → 1 ≤ h → h ≤ s.side → is_some (corner_gives s w h) ≡ true
  roomy_in f w1 wS h1 hS = look (corner_gives s w h) refl
    where
      look : (o : Option (ℕ × ℕ)) → corner_gives s w h ≡ o → is_some o ≡ true
      look (Some p) e = refl
      look None e =
          let u = none_vacant s.slots f in
          absurd (takes_least.none (allowed_from s.slots w h w1 h1 (omega arith)) e 0 0 (record { inside = (omega arith, omega arith); clear = λ i r q. absurd (none-some r (sym (f i) ∙ q)) }))

pub corner_laws : AtlasLaws corner
corner_laws = record {
  sound_empty = λ n. sound_none (min n 8192) (omega arith);
  sound_placed = λ s w h v. sound_put s w h (corner_gives s w h) refl v;
  sound_freed = λ s i v. sound_emptied s.side s.slots v i;
  small = λ s v. v.small;
  side_empty = λ n. refl;
  capped = λ n u. ap (λ k. record { side = k; slots = replicate 256 None }) (omega arith);
  side_placed = λ s w h. side_put s w h (corner_gives s w h);
  side_freed = λ s i. refl;
  free = λ s w h x y v e. is_free s w h x y (gave_least s w h x y e).free;
  sized = λ s w h x y e. let g = (gave s.slots w h (least s w h) (x, y) e).may in (g.wide, g.high);
  sideless = λ s w h v z. none_unless (corner_gives s w h) (λ p e. let f = (is_free s w h p.0 p.1 (gave_least s w h p.0 p.1 e).free).inside.0 in let k = (gave s.slots w h (least s w h) p e).may.wide in omega arith);
  unused = λ s w h x y v e. vacant_empty s.slots;
  adds = λ s w h x y i v e. ap (λ o. slot (corner_put o s w h).slots i) e ∙ slot_set s.slots (vacant s.slots) i _ (let g = (gave s.slots w h (least s w h) (x, y) e).may.space in let l = v.whole in omega arith);
  none_same = λ s w h e. ap (λ o. corner_put o s w h) e;
  removes = λ s j i v. slot_emptied s.slots j i;
  absent_same = λ s j q. ap (λ t. record { side = s.side; slots = t }) (ap (slice_set s.slots j) (sym q) ∙ set-get_or s.slots j None);
  live_empty = λ n i. slot_none 256 i;
  roomy = λ s w h v f w1 wS h1 hS. roomy_in s w h f w1 wS h1 hS;
  inside = λ s i r v e. v.lies i r e;
  apart = λ s i j r t v ne e q. missed r t (separate_at s.slots v.separate i j r t ne e q);
  few = λ s is v u. used_few s.slots is v.whole u;
  full = λ s w h is v u n. gives_none s.slots w h (least s w h) (used_full s.slots w h is v.whole u n);
}

pub state_sound : (a : CornerAtlas) → CornerSound (cornered a)
state_sound a = a.square.sound
