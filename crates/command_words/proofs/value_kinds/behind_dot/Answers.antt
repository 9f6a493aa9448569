use Rattle.std.proofs.Common.{arith}
use Rattle.std.proofs.lemmas.Str.Pattern.{strip_prefix_char}
use Rattle.command_words.proofs.ArgForms.{behind_is}
use Rattle.command_words.proofs.value_kinds.behind_dot.Goals as goal

pub returns : goal.returns
returns c = record { behind = behind_is c.args.text.now c.strip_prefix.result (strip_prefix_char 46 c.args.text.now c.strip_prefix.result c.strip_prefix.ensures.cases (omega arith)) }
