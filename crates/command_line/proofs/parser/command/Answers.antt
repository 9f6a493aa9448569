-- One more option was told; and after the last the positional arguments are.
use Rattle.std.proofs.Common.{ap, map}
use Rattle.std.proofs.lemmas.Result.{IfOk-weaker}
use Rattle.command_line.specs.Names.{option_row}
use Rattle.command_line.proofs.Told.{next_option, told_command, with_options}
use Rattle.command_line.proofs.parser.command.Goals as goal

pub loop-option-init : goal.loop-option-init
loop-option-init c = record {
  told = ap (λ a. with_options a (map option_row c.args.row.options.now)) c.command-parser.ensures.told;
  local = c.command-parser.ensures.local;
}

pub loop-option-preserved : goal.loop-option-preserved
loop-option-preserved c = record {
  told = next_option c.args.row.options.now c.loop-option.option-index _ _ _ _ _ c.loop-option-test.true c.in_ok-parser.ensures.told c.option_argument.ensures.rule c.loop-option.invariant.told;
  local = c.in_ok-parser.ensures.local;
}

pub returns : goal.returns
returns c = record {
  told = IfOk-weaker c.with_argument-2.result _ _
      (λ p e. told_command c.args.row c.loop-option.option-index _ _ _ c.loop-option-test.false c.loop-option.invariant.told c.arguments.ensures.rule e)
      c.with_argument-2.ensures.told;
  local = c.with_argument-2.ensures.local;
}
