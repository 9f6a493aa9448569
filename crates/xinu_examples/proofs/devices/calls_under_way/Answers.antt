use Rattle.xinu_examples.proofs.Computed.Files.{killed, killed_told, together, together_told}
use Rattle.xinu_examples.proofs.devices.calls_under_way.Goals as goal

pub returns-clause-killed : goal.returns-clause-killed
returns-clause-killed c = killed

pub returns-clause-killed_told : goal.returns-clause-killed_told
returns-clause-killed_told c = killed_told

pub returns-clause-together : goal.returns-clause-together
returns-clause-together c = together

pub returns-clause-together_told : goal.returns-clause-together_told
returns-clause-together_told c = together_told
