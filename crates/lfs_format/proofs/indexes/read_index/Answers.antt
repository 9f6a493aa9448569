use Rattle.std.proofs.Common.{ap, ◌∙◌, arith}
use Rattle.lfs_format.proofs.Words.{words_of-take}
use Rattle.lfs_format.specs.Indexes.{index_of_words}
use Rattle.lfs_format.proofs.indexes.read_index.Goals as goal

pub returns : goal.returns
returns c = c.index_from.ensures ∙ ap index_of_words (words_of-take 18 _ _ (omega arith))
