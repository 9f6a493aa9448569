use Rattle.xinu_examples.proofs.Computed.Calls.{prints_messages}
use Rattle.xinu_examples.proofs.systems.messages.Goals as goal

pub returns : goal.returns
returns c = record { messages = prints_messages }
