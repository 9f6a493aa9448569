use Rattle.files_c.proofs.making.put_block.Goals as goal
use Rattle.lfs_check.proofs.BlockPuts.{put_is}

pub returns-clause-block : goal.returns-clause-block
returns-clause-block c = put_is c.args.disk.now c.args.block.now c.copy_from_slice.new.self c.args.n c.copy_from_slice.ensures.after
