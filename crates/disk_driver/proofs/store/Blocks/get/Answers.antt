use Rattle.std.proofs.Common.{◌≡◌, ◌+◌, ◌*◌, ◌-◌, [], ap, ◌∙◌, arith, rules}
use Rattle.disk_driver.proofs.Cuts.{block_is}
use Rattle.disk_driver.proofs.store.Blocks.get.Goals as goal
use Rattle.lfs_layout.specs.Images.{blocks_of}

pub returns-clause-block : goal.returns-clause-block
returns-clause-block c =
    let same : c.deref.result.now ≡ c.self.inside.bytes.items = search rules in
    block_is c.deref.result.now c.args.self.now c.args.n ((512 * c.args.n + 512) - 512 * c.args.n) [] (ap blocks_of same ∙ c.self.view_is)
    c.requires.within (omega arith)
