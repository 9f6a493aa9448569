-- The reason of each call: the first of its row's causes that holds.
use Rattle.std.specs.Prelude.{ℕ, List, ◌++◌, slice_index, Option}
use Rattle.refusal_reasons.specs.Causes.{CauseRow, causes_in, first_reason}
use Rattle.refusal_reasons.specs.declared.reasons.Cause.{Cause}
use Rattle.refusal_reasons.specs.Clock.{clock_causes}
use Rattle.refusal_reasons.specs.Devices.{device_causes}
use Rattle.refusal_reasons.specs.Memory.{memory_causes}
use Rattle.refusal_reasons.specs.Messages.{message_causes}
use Rattle.refusal_reasons.specs.Pools.{pool_causes}
use Rattle.refusal_reasons.specs.Ports.{port_causes}
use Rattle.refusal_reasons.specs.Processes.{process_causes}
use Rattle.refusal_reasons.specs.Semaphores.{semaphore_causes}
use Rattle.refusal_reasons.specs.declared.reasons.Reason.{Reason}
use Rattle.xinu_model.specs.Machine.{Xinu}

-- the causes of each call, family by family
unfoldable pub cause_rows : List CauseRow
cause_rows =
    process_causes ++ (memory_causes ++ (semaphore_causes ++ (message_causes ++ (clock_causes ++ (pool_causes ++ (port_causes ++ device_causes))))))

-- the causes for which the call of a number is refused, in order
abbrev pub causes_of : ℕ → (ℕ → ℕ) → Xinu → List Cause
causes_of number a s = causes_in cause_rows number a s

-- Why the call of a number is answered -1 in its event, if it is.
abbrev pub reason : ℕ → List ℕ → Xinu → Option Reason
reason number args s = first_reason (causes_of number (slice_index args) s)
