use Rattle.std.proofs.Common.{◌∙◌, map, string_bytes}
use Rattle.command_words.specs.ToolNames.{value_row}
use Rattle.command_words.specs.Tools.{rows_of}
use Rattle.command_words.proofs.JudgedWords.{words_are}
use Rattle.command_words.proofs.words.words_of.Goals as goal

pub returns-clause-words : goal.returns-clause-words
returns-clause-words c =
    c.judged.ensures.judged
    ∙ words_are (map value_row c.rows-rows.result.now) (rows_of c.args.tool) (map string_bytes c.args.args.now) _ c.rows-rows.ensures.rows c.in_ok-state.ensures.reads
