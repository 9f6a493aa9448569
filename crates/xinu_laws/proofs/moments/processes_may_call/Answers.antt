use Rattle.xinu_laws.proofs.Preserve.Calls.{inside_preserved, replies_alive}
use Rattle.xinu_laws.proofs.Preserve.Events.{may_call, may_call_after}
use Rattle.xinu_laws.proofs.moments.processes_may_call.Goals as goal

pub returns-clause-sound : goal.returns-clause-sound
returns-clause-sound c = may_call

pub returns-clause-executed : goal.returns-clause-executed
returns-clause-executed c = may_call_after

pub returns-clause-inside : goal.returns-clause-inside
returns-clause-inside c = λ result k. inside_preserved result k.preserved

pub returns-clause-replies : goal.returns-clause-replies
returns-clause-replies c = λ result k. replies_alive result k.preserved
