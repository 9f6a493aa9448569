-- What the tests of states say of them.
use Rattle.std.proofs.Common.{◌≡◌, true, refl, ◌<◌, arith, ◌≢◌, ap, false}
use Rattle.xinu_base.specs.declared.processes.State.{State}
use Rattle.xinu_base.specs.declared.processes.State.TheVariants.{Free, Current, Ready, Receiving, Sleeping, Suspended, Waiting, Timed}
use Rattle.xinu_model.specs.Process.Calls.{is_ready}
use Rattle.xinu_model.specs.Tables.{is_free}
use Rattle.xinu_model.specs.Sound.Tables.{ready_places, waiting_places}

-- who passes the test is ready
pub is_ready_of : (s : State) → is_ready s ≡ true → s ≡ Ready
is_ready_of Ready h = refl
is_ready_of Free h = cc
is_ready_of Current h = cc
is_ready_of Suspended h = cc
is_ready_of Receiving h = cc
is_ready_of Sleeping h = cc
is_ready_of Waiting h = cc
is_ready_of Timed h = cc

-- who passes the test of a free number is free
pub free_of : (s : State) → is_free s ≡ true → s ≡ Free
free_of Free h = refl
free_of Ready h = cc
free_of Current h = cc
free_of Suspended h = cc
free_of Receiving h = cc
free_of Sleeping h = cc
free_of Waiting h = cc
free_of Timed h = cc

-- who is in the ready list is ready
pub ready_of : (s : State) → 0 < ready_places s → s ≡ Ready
ready_of Ready h = refl
ready_of Free h = absurd (omega arith)
ready_of Current h = absurd (omega arith)
ready_of Receiving h = absurd (omega arith)
ready_of Sleeping h = absurd (omega arith)
ready_of Suspended h = absurd (omega arith)
ready_of Waiting h = absurd (omega arith)
ready_of Timed h = absurd (omega arith)

-- who is among the waiters waits
pub waiting_of : (s : State) → 0 < waiting_places s → s ≡ Waiting
waiting_of Waiting h = refl
waiting_of Free h = absurd (omega arith)
waiting_of Current h = absurd (omega arith)
waiting_of Receiving h = absurd (omega arith)
waiting_of Sleeping h = absurd (omega arith)
waiting_of Suspended h = absurd (omega arith)
waiting_of Ready h = absurd (omega arith)
waiting_of Timed h = absurd (omega arith)

-- a process that doesn't pass the test isn't ready
pub is_not_ready : (s : State) → is_ready s ≡ false → s ≢ Ready
is_not_ready s h e = let f = ap is_ready e in cc
