-- What the calls on messages touch.
use Rattle.std.proofs.Common.{◌≡◌, ℕ, ◌+◌, Option, Some, None, refl, ℤ, pos, negsuc}
use Rattle.std.specs.Prelude.{max}
use Rattle.xinu_base.specs.declared.processes.Rest.TheVariants as rest
use Rattle.xinu_base.specs.declared.processes.State.TheVariants.{Current, Receiving, Timed}
use Rattle.xinu_model.specs.Footprints.{on_tables}
use Rattle.xinu_model.specs.Machine.{Xinu, CallResult, start, returns, blocked, goes_on}
use Rattle.xinu_base.specs.Constants.{TIMEOUT}
use Rattle.xinu_model.specs.Messages.{can_get, received, held, send, receive, recvclr, recvtime, go_on_receive}
use Rattle.xinu_model.specs.Tables.{state_at, Nowhere, InSleepers}
use Rattle.xinu_laws.specs.Touches.{reach, Touches}
use Rattle.xinu_laws.proofs.Touches.{StaysIn, touches_refl, touches_if}
use Rattle.xinu_laws.proofs.Touches.Moves.{touches_delivered, touches_goes_on, touches_blocked}

-- a message is taken, or there is another way
received_touches : (message : Option ℕ) (otherwise : CallResult) (s : Xinu) → state_at s.tables s.tables.current ≡ Current
    → Touches (reach on_tables) s otherwise.call.state → Touches (reach on_tables) s (received message otherwise s).call.state
received_touches None otherwise s runs k = k
received_touches (Some message) otherwise s runs k = touches_goes_on refl None s runs

-- Call 21.
pub send_touches : (p message : ℕ) → StaysIn on_tables (send p message)
send_touches p message s i = touches_if s (can_get p s.tables) _ (λ _. touches_delivered p message (start s))

-- Call 22.
pub receive_touches : StaysIn on_tables receive
receive_touches s i =
    received_touches (held s) (blocked Receiving rest.Receive Nowhere s) s i.tables.runs
    (touches_blocked Receiving rest.Receive Nowhere s i.tables.runs tt refl refl)

-- Call 23.
pub recvclr_touches : StaysIn on_tables recvclr
recvclr_touches s i = received_touches (held s) (returns (start s) (pos 0)) s i.tables.runs (touches_refl s)

-- Call 24.
pub recvtime_touches : (ticks : ℤ) → StaysIn on_tables (recvtime ticks)
recvtime_touches (negsuc n) s i = touches_refl s
recvtime_touches (pos n) s i =
    let place = InSleepers (s.tables.ticks + max 1 n) in received_touches (held s) (blocked Timed rest.Timed place s) s i.tables.runs
    (touches_blocked Timed rest.Timed place s i.tables.runs tt refl refl)

-- The calls 22 and 24 go on.
pub go_on_receive_touches : StaysIn on_tables go_on_receive
go_on_receive_touches s i =
    received_touches (held s) (returns (start (goes_on None s)) TIMEOUT) s i.tables.runs (touches_goes_on refl None s i.tables.runs)
