use Rattle.command_words.proofs.ArgForms.{named_alone}
use Rattle.std.proofs.Common.{◌∙◌, sym}
use Rattle.command_words.proofs.forms.named.Goals as goal

pub returns-in-None : goal.returns-in-None
returns-in-None c = record { form = named_alone c.args.text.now (sym c.is_empty.ensures ∙ c.if-is_empty.false) c.in-None.ensures.cases }
