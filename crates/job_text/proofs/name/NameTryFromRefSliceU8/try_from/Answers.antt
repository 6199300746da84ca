use Rattle.std.proofs.Common.{◌++◌, length, ap₂}
use Rattle.std.proofs.lemmas.List.{drop-replicate}
use Rattle.job_text.proofs.name.NameTryFromRefSliceU8.try_from.Goals as goal

pub returns : goal.returns
returns c = record {
  test = c.if-not-is_name.ensures;
  held = ap₂ ◌++◌ c.copy_from_slice.ensures.after (drop-replicate (length c.args.word.now) 32 0);
}
