-- What is left reads on to what all arguments give.
use Rattle.std.proofs.Common.{◌≡◌, map, drop, fold, string_bytes}
use Rattle.command_line.specs.Reading.{after_arg, choosing, nothing_taken}
use Rattle.command_words.specs.ToolNames.{state_of, value_row}
use Rattle.command_words.specs.Tools.{option_of}
use Rattle.command_words.proofs.reader.read_args.Given as goal

abbrev pub invariant-loop-arg : goal.invariant-loop-arg
invariant-loop-arg l =
    fold (after_arg (map option_of (map value_row l.fn.rows))) (state_of l.state) (map string_bytes (drop l.arg-index l.args))
    ≡ fold (after_arg (map option_of (map value_row l.fn.rows))) (choosing nothing_taken) (map string_bytes l.args)
