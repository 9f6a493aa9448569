-- What the tests of a process state tell.
use Rattle.std.proofs.Common.{◌≡◌, true, refl}
use Rattle.xinu_base.specs.declared.processes.State.{State}
use Rattle.xinu_base.specs.declared.processes.State.TheVariants.{Free, Current, Ready, Receiving, Sleeping, Suspended, Waiting, Timed}
use Rattle.xinu_model.specs.Process.Calls.{is_suspended}

-- who passes the test is suspended
pub suspended_of : (s : State) → is_suspended s ≡ true → s ≡ Suspended
suspended_of Suspended h = refl
suspended_of Free h = cc
suspended_of Current h = cc
suspended_of Ready h = cc
suspended_of Receiving h = cc
suspended_of Sleeping h = cc
suspended_of Waiting h = cc
suspended_of Timed h = cc
