use Rattle.std.proofs.Common.{◌≡◌, length, get_or, ap, ◌∙◌, arith}
use Rattle.crc.specs.Crc.{followed}
use Rattle.crc.proofs.Eight.{spread}
use Rattle.crc.proofs.sums.next_eight.Goals as goal

pub returns : goal.returns
returns c =
    let b = c.args.b.now in
    let x = c.to_le_bytes-x.ensures in
    let long : length b ≡ 8 = omega arith in
    spread c.args.state c.from_le_bytes.result b long c.fits-b (omega arith) c.from_le_bytes.ensures _ _ _ _ _ _ _ _
    (c.entry.ensures ∙ ap (λ l. followed 7 (get_or l 0 0)) x)
    (c.entry-2.ensures ∙ ap (λ l. followed 6 (get_or l 1 0)) x)
    (c.entry-3.ensures ∙ ap (λ l. followed 5 (get_or l 2 0)) x)
    (c.entry-4.ensures ∙ ap (λ l. followed 4 (get_or l 3 0)) x)
    c.entry-5.ensures
    c.entry-6.ensures
    c.entry-7.ensures
    c.entry-8.ensures
