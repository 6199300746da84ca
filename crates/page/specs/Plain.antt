-- The plain pack, of a scene without patches.
use Rattle.std.specs.Prelude.{ℕ, cond, List, [], ◌∷◌, length, Some, Option, Result, ◌==◌}
use Rattle.std.specs.Option.{option_map}
use Rattle.encoding.specs.Scene.{Scene}
use Rattle.page.specs.Page.{page_of}
use Rattle.page.specs.Layout.{page_length, layout_of}
use Rattle.page.specs.Nothing.{no_supply, no_late}
use Rattle.page.specs.Pack.{answered, written, too_long}
use Rattle.page.specs.declared.layout.Layout.{Layout}
use Rattle.page.specs.declared.refusal.TooLong.{TooLong}
use Rattle.page.specs.declared.refusal.PackRefusal.{PackRefusal}
use Rattle.page.specs.declared.refusal.PackRefusal.TheVariants.{LateBound, TooLong as Long}

-- the number of the question that a refusal answers with no, and its values: 13 has the length needed
abbrev pub question_of : PackRefusal → ℕ × List ℕ
question_of LateBound = (5, [])
question_of (Long q) = (13, q.needed ∷ [])

abbrev pub refusal_of : TooLong → PackRefusal
refusal_of q = Long q

abbrev pub plain_page : Scene → List ℕ
plain_page s = page_of no_supply no_late s

abbrev pub plain_layout : Scene → Layout
plain_layout s = layout_of no_supply s

abbrev pub plain_length : Scene → ℕ
plain_length s = page_length no_supply s

-- first any patch, then the length
abbrev pub plain_refusal : Scene → ℕ → Option PackRefusal
plain_refusal s room = cond (length s.patches == 0) (option_map refusal_of (too_long (plain_length s) room)) (Some LateBound)

abbrev pub plain_answer : Scene → ℕ → Result (Layout × ℕ) PackRefusal
plain_answer s room = answered (plain_layout s) (plain_length s) (plain_refusal s room)

abbrev pub plain_buffer : Scene → List ℕ → List ℕ
plain_buffer s before = written (plain_page s) (plain_length s) before (plain_refusal s (length before))
