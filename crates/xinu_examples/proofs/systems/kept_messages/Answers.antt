use Rattle.xinu_examples.proofs.Computed.Ports.{prints_kept_message}
use Rattle.xinu_examples.proofs.systems.kept_messages.Goals as goal

pub returns : goal.returns
returns c = record { kept_message = prints_kept_message }
