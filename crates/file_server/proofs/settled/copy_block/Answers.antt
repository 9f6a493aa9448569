use Rattle.std.proofs.Common.{◌≡◌, ◌+◌, ◌-◌, ◌*◌, ap, ◌∙◌, arith, take, drop}
use Rattle.lfs_check.specs.Rules.{block_in}
use Rattle.file_server.proofs.settled.copy_block.Goals as goal
use Rattle.lfs_check.proofs.BlockPuts.{put_is}

pub returns-clause-block : goal.returns-clause-block
returns-clause-block c =
    let n = c.args.n in let disk = c.args.disk.now in
    let long : 512 * n + 512 - 512 * n ≡ 512 = omega arith in
    put_is c.args.settled.now (block_in disk n) c.copy_from_slice.new.self n (c.copy_from_slice.ensures.after ∙ ap (λ k. take k (drop (512 * n) disk)) long)
