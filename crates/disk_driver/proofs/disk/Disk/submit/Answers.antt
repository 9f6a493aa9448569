use Rattle.std.proofs.Common.{◌≡◌, length, true, ap, ◌∙◌}
use Rattle.std.specs.Prelude.{nat_lt}
use Rattle.disk_driver.proofs.Within.{within_pushed}
use Rattle.disk_driver.proofs.disk.Disk.submit.Goals as goal
use Rattle.xinu_model.specs.RawDisk.Requests.{RawDisk}

pub invariant_of-self : goal.invariant_of-self
invariant_of-self c =
    let h : nat_lt c.args.r.block (length c.self.inside.blocks) ≡ true
    = ap (λ (d : RawDisk). nat_lt c.args.r.block (length d.blocks)) c.self.view_is ∙ c.requires.within in
    within_pushed (length c.self.inside.blocks) c.self.inside.requests.items c.push.new.self.items c.args.r c.push.ensures.items c.self.invariant h c.requires.range
