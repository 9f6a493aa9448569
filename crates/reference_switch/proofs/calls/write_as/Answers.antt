use Rattle.std.proofs.Common.{of_z, to_z, w32}
use Rattle.reference_switch.proofs.Stays.{write_stays}
use Rattle.reference_switch.proofs.calls.write_as.Goals as goal

pub returns-in_ok-console_write-in-Console-clause-files : goal.returns-in_ok-console_write-in-Console-clause-files
returns-in_ok-console_write-in-Console-clause-files c =
    write_stays c.args.at (to_z w32 (of_z w32 c.cast_signed.result)) c.args.m.now.state _ _ c.requires.sound c.in_ok-console_write-in-Console.ensures.write
