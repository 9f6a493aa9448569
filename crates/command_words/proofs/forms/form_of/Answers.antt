use Rattle.command_words.proofs.ArgForms.{bare_arg}
use Rattle.command_words.proofs.forms.form_of.Goals as goal

pub returns-in-None : goal.returns-in-None
unfolding lib.Utf8.encode
returns-in-None c = record { form = bare_arg c.args.arg.now c.in-None.ensures.cases }
