use Rattle.std.proofs.Common.{◌≡◌, ◌≤◌, drop, ap, ◌∙◌, arith, length, length-drop}
use Rattle.std.proofs.lemmas.List.{take_all}
use Rattle.lfs_format.specs.Words.{words_of}
use Rattle.lfs_format.proofs.Words.{words_of-read, length-words_of}
use Rattle.lfs_format.specs.Indexes.{index_of_words}
use Rattle.lfs_format.proofs.indexes.index_from.Goals as goal

pub returns : goal.returns
returns c =
    let e : c.read_u32_into.new.dst ≡ words_of 18 c.args.part.now = words_of-read 18 c.args.part.now c.read_u32_into.new.dst (omega arith) c.read_u32_into.ensures in
    let l : length (drop 2 c.read_u32_into.new.dst) ≤ 16 = omega (arith, length-drop 2 c.read_u32_into.new.dst, ap length e, length-words_of 18 c.args.part.now) in
    let rest : c.copy_from_slice.new.self ≡ drop 2 c.read_u32_into.new.dst = c.copy_from_slice.ensures.after ∙ take_all 16 (drop 2 c.read_u32_into.new.dst) l in
    rw rest (ap index_of_words e)
