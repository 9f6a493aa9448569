use Rattle.std.proofs.Common.{◌∙◌, sym}
use Rattle.command_words.proofs.ArgForms.{dashed_arg}
use Rattle.command_words.proofs.forms.form_behind.Goals as goal

pub returns-else-is_empty : goal.returns-else-is_empty
unfolding lib.Utf8.encode
returns-else-is_empty c = record { form = dashed_arg c.args.rest.now (sym c.is_empty.ensures ∙ c.if-is_empty.false) c.in-None.ensures.cases }
