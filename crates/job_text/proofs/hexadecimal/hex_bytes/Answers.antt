use Rattle.std.proofs.Common.{◌≡◌, ◌++◌, None, Some, MatchResult, length, take, drop, ap, sym, subst, ◌∙◌, arith}
use Rattle.std.proofs.Math.Seq.{take-append_seam}
use Rattle.std.proofs.lemmas.Result.{err_from_is_err_and}
use Rattle.job_text.specs.Numerals.{bytes_of}
use Rattle.job_text.proofs.Pairs.{written}
use Rattle.job_text.proofs.hexadecimal.hex_bytes.Goals as goal

pub returns-in_err-decode_to_slice : goal.returns-in_err-decode_to_slice
returns-in_err-decode_to_slice c =
    let text = c.args.text.now in
    let out = c.decode_to_slice.new.out in
    let m = written text (length c.as_mut_slice.result.now) c.decode_to_slice.result out (omega (arith, c.in_ok-resize.ensures.len, c.as_mut_slice.ensures.len)) c.decode_to_slice.ensures.value in
    let none : bytes_of text ≡ None = subst (λ r. MatchResult r (λ _. bytes_of text ≡ Some out) (λ _. bytes_of text ≡ None)) c.in_err-decode_to_slice.was m in
    let p = err_from_is_err_and c.from_residual-in_err-decode_to_slice.result c.from_residual-in_err-decode_to_slice.ensures.1 in
    rw p.1 (λ _. none)

pub returns : goal.returns
returns c =
    let text = c.args.text.now in
    let out = c.decode_to_slice.new.out in
    let rest = drop (length out) c.resize.new.self.items in
    let m = written text (length c.as_mut_slice.result.now) c.decode_to_slice.result out (omega (arith, c.in_ok-resize.ensures.len, c.as_mut_slice.ensures.len)) c.decode_to_slice.ensures.value in
    let some : bytes_of text ≡ Some out = subst (λ r. MatchResult r (λ _. bytes_of text ≡ Some out) (λ _. bytes_of text ≡ None)) c.in_ok-decode_to_slice.was m in
    some ∙ ap Some (sym (ap (λ n. take n (out ++ rest)) (omega arith) ∙ take-append_seam out rest))
