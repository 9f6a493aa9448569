-- The command of the name, by what was taken for it.
use Rattle.std.proofs.Common.{ap, option_map}
use Rattle.clap.specs.Walk.{rows_of}
use Rattle.clap.specs.Matches.{found_of}
use Rattle.command_line.specs.Commands.{Asm, Check, Run, Soak}
use Rattle.command_line.proofs.Choices.{asm_chosen, check_chosen, run_chosen, soak_chosen}
use Rattle.command_line.proofs.command.command_named.Goals as goal

pub returns-in-Ok : goal.returns-in-Ok
returns-in-Ok c = record {
  command = run_chosen c.args.name.now (rows_of (found_of c.args.matches.now)) _ c.in-run.is (ap (option_map Run) c.in-Ok.ensures.files);
  no_command = λ is. absurd (cc);
}

pub returns-in-Err : goal.returns-in-Err
returns-in-Err c = record {
  command = tt;
  no_command = λ is. run_chosen c.args.name.now (rows_of (found_of c.args.matches.now)) _ c.in-run.is (ap (option_map Run) (c.in-Err.ensures.no_command (cc)));
}

pub returns-in-Ok-asm_of : goal.returns-in-Ok-asm_of
returns-in-Ok-asm_of c = record {
  command = asm_chosen c.args.name.now (rows_of (found_of c.args.matches.now)) _ c.in-asm.is (ap (option_map Asm) c.in-Ok-asm_of.ensures.files);
  no_command = λ is. absurd (cc);
}

pub returns-in-Err-asm_of : goal.returns-in-Err-asm_of
returns-in-Err-asm_of c = record {
  command = tt;
  no_command = λ is. asm_chosen c.args.name.now (rows_of (found_of c.args.matches.now)) _ c.in-asm.is (ap (option_map Asm) (c.in-Err-asm_of.ensures.no_command (cc)));
}

pub returns-in-Ok-soak_of : goal.returns-in-Ok-soak_of
returns-in-Ok-soak_of c = record {
  command = soak_chosen c.args.name.now (rows_of (found_of c.args.matches.now)) _ c.in-soak.is (ap (option_map Soak) c.in-Ok-soak_of.ensures.seed);
  no_command = λ is. absurd (cc);
}

pub returns-in-Err-soak_of : goal.returns-in-Err-soak_of
returns-in-Err-soak_of c = record {
  command = tt;
  no_command = λ is. soak_chosen c.args.name.now (rows_of (found_of c.args.matches.now)) _ c.in-soak.is (ap (option_map Soak) (c.in-Err-soak_of.ensures.no_command (cc)));
}

pub returns-in-Ok-check_of : goal.returns-in-Ok-check_of
returns-in-Ok-check_of c = record {
  command = check_chosen c.args.name.now (rows_of (found_of c.args.matches.now)) _ c.in-check.is (ap (option_map Check) c.in-Ok-check_of.ensures.files);
  no_command = λ is. absurd (cc);
}

pub returns-in-Err-check_of : goal.returns-in-Err-check_of
returns-in-Err-check_of c = record {
  command = tt;
  no_command = λ is. check_chosen c.args.name.now (rows_of (found_of c.args.matches.now)) _ c.in-check.is (ap (option_map Check) (c.in-Err-check_of.ensures.no_command (cc)));
}
