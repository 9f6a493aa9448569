use Rattle.std.proofs.Common.{◌∙◌, ap}
use Rattle.kernel_state.specs.States.{kernel_state}
use Rattle.xinu_model.specs.Machine.{CallState}
use Rattle.xinu_model.specs.Pools.Calls.{getbuf}
use Rattle.core_calls.proofs.PoolCalls.{buffer_taken, pool_named}
use Rattle.kernel_state.proofs.Values.{call_is}
use Rattle.core_calls.proofs.pool_calls.getbuf.Goals as goal

pub returns-then-wait-clause-getbuf : goal.returns-then-wait-clause-getbuf
returns-then-wait-clause-getbuf c =
    let s = (kernel_state c.k.inside).state in
    let i = c.in-Some.i in
    c.take_buffer.ensures.taken
    ∙ buffer_taken s i c.args.word c.in-Some-sem_of.sem c.wait.new.self (pool_named i c.args.word c.in-Some.ensures)
    c.in-Some-sem_of.ensures.semaphore c.if-wait.ensures.took c.if-wait.ensures.waits
    ∙ ap (λ (d : CallState). getbuf c.args.word d.state) (call_is c.k.view_is)
