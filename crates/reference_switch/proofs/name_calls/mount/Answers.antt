use Rattle.reference_switch.proofs.Stays.{mount_stays}
use Rattle.reference_switch.proofs.name_calls.mount.Goals as goal

pub returns-clause-files : goal.returns-clause-files
returns-clause-files c =
    mount_stays c.args.prefix c.args.replacement c.args.dev c.args.m.now.state _ _ c.requires.sound c.in_ok-mount.ensures.mount
