use Rattle.std.proofs.Common.{◌≡◌, ◌/◌, fold, length, rules}
use Rattle.std.proofs.iter.runs.Made.{chains}
use Rattle.crc.specs.Crc.{fed}
use Rattle.crc.proofs.Parts.{by_chunks, on}
use Rattle.crc.proofs.sums.Crc32.update.Goals as goal

pub returns : goal.returns
returns c =
    let s = c.args.self.now.state in
    let bytes = c.args.bytes.now in
    let eights : c.fold-state.result ≡ fold fed s c.as_chunks.result.0.now = search (rules, chains) in
    let rest : c.fold-self.result ≡ fed c.fold-state.result c.as_chunks.result.1.now = search (rules, chains) in
    let whole : c.fold-self.result ≡ fed s bytes =
    rw (rest, eights, c.as_chunks.ensures.front, c.as_chunks.ensures.back, by_chunks 8 (length bytes / 8) s bytes) in
    record { state = whole; seen = on s _ bytes whole }
