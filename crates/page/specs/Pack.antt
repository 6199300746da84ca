-- What packing a page answers, and what the buffer then holds.
use Rattle.std.specs.Prelude.{ℕ, Bool, cond, ◌&&◌, List, ◌++◌, length, drop, Some, None, Ok, Err, Option, Result, nat_le}
use Rattle.supply.specs.Meaning.{Meaning}
use Rattle.streams.specs.Draw.{Late}
use Rattle.encoding.specs.Scene.{Scene}
use Rattle.page.specs.Page.{page_of}
use Rattle.page.specs.Layout.{page_length, layout_of}
use Rattle.page.specs.declared.layout.Layout.{Layout}
use Rattle.page.specs.declared.refusal.TooLong.{TooLong}

-- the layout and the length, unless it is refused
abbrev pub answered : {X : Type 0} → Layout → ℕ → Option X → Result (Layout × ℕ) X
answered l n None = Ok (l, n)
answered l n (Some q) = Err q

-- the page and behind it what was there; a refusal leaves all as it was
abbrev pub written : {X : Type 0} → List ℕ → ℕ → List ℕ → Option X → List ℕ
written page n before None = page ++ drop n before
written page n before (Some q) = before

-- a page is at most 1,073,741,824 bytes, and no longer than the buffer
abbrev pub fits : ℕ → ℕ → Bool
fits n room = nat_le n 1073741824 && nat_le n room

abbrev pub too_long : ℕ → ℕ → Option TooLong
too_long n room = cond (fits n room) None (Some (record { needed = n }))

abbrev pub pack_answer : Meaning → Scene → ℕ → Result (Layout × ℕ) TooLong
pack_answer m s room = answered (layout_of m s) (page_length m s) (too_long (page_length m s) room)

abbrev pub pack_buffer : Meaning → Late → Scene → List ℕ → List ℕ
pack_buffer m late s before = written (page_of m late s) (page_length m s) before (too_long (page_length m s) (length before))
