use Rattle.std.proofs.Common.{◌≡◌, ◌∙◌, ap, take, drop, arith, ◌-◌, length}
use Rattle.lfs_format.specs.Words.{words_of}
use Rattle.lfs_format.proofs.Words.{words_of-read, words_of-take}
use Rattle.lfs_format.specs.Directory.{entry_1_made}
use Rattle.lfs_format.proofs.dirs_1.entry_1_from.Goals as goal

pub returns : goal.returns
returns c =
    let p = c.args.part.now in
    let w : c.read_u32_into.new.dst ≡ words_of 2 p = words_of-read 2 (take 8 p) c.read_u32_into.new.dst (omega arith) c.read_u32_into.ensures ∙ words_of-take 2 8 p (omega arith) in
    let k : length p - 8 ≡ 16 = omega arith in
    let n : c.copy_from_slice.new.self ≡ take 16 (drop 8 p) = c.copy_from_slice.ensures.after ∙ ap (λ j. take j (drop 8 p)) k in
    ap (λ ws. entry_1_made ws c.copy_from_slice.new.self) w ∙ ap (entry_1_made (words_of 2 p)) n
