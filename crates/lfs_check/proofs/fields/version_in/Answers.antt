use Rattle.std.proofs.Common.{ap, ◌∙◌, arith, slice_index, drop}
use Rattle.lfs_format.specs.Words.{words_of}
use Rattle.lfs_format.proofs.Words.{words_of-take}
use Rattle.lfs_check.proofs.fields.version_in.Goals as goal

pub returns : goal.returns
unfolding words_of
returns c = c.read_u32.ensures ∙ ap (λ ws. slice_index ws 0) (words_of-take 1 4 (drop 492 c.args.bytes.now) (omega arith))
