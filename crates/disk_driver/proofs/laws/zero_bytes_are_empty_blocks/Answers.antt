use Rattle.disk_driver.proofs.Zeros.{first_blocks, zero_blocks}
use Rattle.disk_driver.proofs.laws.zero_bytes_are_empty_blocks.Goals as goal

pub returns-clause-blocks : goal.returns-clause-blocks
returns-clause-blocks c = zero_blocks

pub returns-clause-first : goal.returns-clause-first
returns-clause-first c = first_blocks
