-- The form of an argument, as the definitions have it.
use Rattle.std.specs.Prelude.{option_map}
use Rattle.command_line.specs.Reading.{ArgForm as Form, end_mark, naming, dashed, bare}
use Rattle.command_words.specs.declared.forms.ArgForm.{ArgForm}
use Rattle.command_words.specs.declared.forms.ArgForm.TheVariants.{EndMark, Naming, Dashed, Bare}

abbrev pub form_named : ArgForm → Form
form_named EndMark = end_mark
form_named (Naming name value) = naming name.now (option_map (λ s. s.now) value)
form_named Dashed = dashed
form_named Bare = bare
