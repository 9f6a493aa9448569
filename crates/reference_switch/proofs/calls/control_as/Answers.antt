use Rattle.reference_switch.proofs.Stays.{control_stays}
use Rattle.reference_switch.proofs.calls.control_as.Goals as goal

pub returns-in_ok-console_control-in-Console-clause-files : goal.returns-in_ok-console_control-in-Console-clause-files
returns-in_ok-console_control-in-Console-clause-files c =
    control_stays c.args.f c.args.m.now.state _ _ c.requires.sound c.in_ok-console_control-in-Console.ensures.control
