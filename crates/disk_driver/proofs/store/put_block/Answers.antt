use Rattle.std.proofs.Common.{◌+◌, ◌*◌, ◌-◌, length, ap, set, ◌∙◌, arith}
use Rattle.disk_driver.proofs.Cuts.{block_set}
use Rattle.disk_driver.proofs.store.put_block.Goals as goal
use Rattle.lfs_layout.specs.Images.{blocks_of}

pub returns-clause-set : goal.returns-clause-set
returns-clause-set c =
    block_set c.args.bytes.now c.args.n ((512 * c.args.n + 512) - 512 * c.args.n) c.copy_from_slice.new.self c.requires.raw c.requires.within
    (ap length c.copy_from_slice.ensures.after ∙ c.told-block) (omega arith)
    ∙ ap (λ b. set (blocks_of c.args.bytes.now) c.args.n b) c.copy_from_slice.ensures.after
