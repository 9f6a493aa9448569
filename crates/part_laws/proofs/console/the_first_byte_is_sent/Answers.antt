use Rattle.part_laws.proofs.Consoles.Transmissions.{sent_is_first, nothing_to_send}
use Rattle.part_laws.proofs.console.the_first_byte_is_sent.Goals as goal

pub returns-clause-sent : goal.returns-clause-sent
returns-clause-sent c = sent_is_first

pub returns-clause-nothing : goal.returns-clause-nothing
returns-clause-nothing c = nothing_to_send
