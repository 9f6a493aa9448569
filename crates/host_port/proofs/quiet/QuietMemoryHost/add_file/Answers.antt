-- What a map holds at a name after the name was added, and at every other name.
use Rattle.std.proofs.Common.{refl, arith}
use Rattle.std.proofs.lemmas.Map.Text.{text_keys}
use Rattle.host_port.proofs.quiet.QuietMemoryHost.add_file.Goals as goal

pub returns-clause-added : goal.returns-clause-added
returns-clause-added c =
    record { holds = grind (arith, text_keys); others = λ other differs. grind (arith, text_keys); rest = refl }

pub returns-clause-added_view : goal.returns-clause-added_view
returns-clause-added_view c =
    record { holds = grind (arith, text_keys); others = λ other differs. grind (arith, text_keys); rest = refl }
