use Rattle.std.proofs.Common.{length}
use Rattle.disk_driver.proofs.Within.{within_kept}
use Rattle.disk_driver.proofs.disk.Disk.forget.Goals as goal

pub invariant_of-self : goal.invariant_of-self
invariant_of-self c =
    within_kept c.args.p (length c.self.inside.blocks) c.loop-r.r-index c.self.inside.requests.items c.as_slice-r-items.result.now
    c.loop-r.kept.items c.as_slice-r-items.ensures.value c.loop-r-test.false c.loop-r.invariant.left c.self.invariant
