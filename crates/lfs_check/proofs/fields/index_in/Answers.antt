use Rattle.std.proofs.Common.{ap, ◌∙◌, arith, drop, ◌+◌, ◌*◌, ◌%◌}
use Rattle.lfs_format.proofs.Words.{words_of-take}
use Rattle.lfs_format.specs.Indexes.{index_of_words, index_of}
use Rattle.lfs_check.proofs.fields.index_in.Goals as goal

pub returns : goal.returns
returns c = c.index_from.ensures ∙ ap index_of_words (words_of-take 18 _ _ (omega arith)) ∙ ap (λ b. index_of (drop (512 * b + 72 * (c.args.i % 7)) c.args.bytes.now)) c.block_of_index.ensures
