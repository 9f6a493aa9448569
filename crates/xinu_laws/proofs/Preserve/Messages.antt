-- The calls on messages and the clock keep what holds of the tables.
use Rattle.std.proofs.Common.{◌≡◌, ℕ, zero, suc, ◌+◌, ◌*◌, ◌/◌, ◌<◌, refl, sym, ap, subst, arith, Option, Some, None, ℤ, pos, negsuc}
use Rattle.std.specs.Prelude.{max, nat_lt}
use Rattle.xinu_base.specs.declared.processes.Rest.TheVariants as rest
use Rattle.xinu_base.specs.declared.processes.State.TheVariants.{Receiving, Sleeping, Timed}
use Rattle.xinu_model.specs.Clock.{yield, sleepms, sleep, clktime}
use Rattle.xinu_model.specs.Machine.{Xinu, CallResult, start, goes_on}
use Rattle.xinu_base.specs.Constants.{TIMEOUT}
use Rattle.xinu_model.specs.Messages.{can_get, delivered, received, held, send, receive, recvclr, recvtime, go_on_receive}
use Rattle.xinu_model.specs.Tables.{Nowhere, InSleepers}
use Rattle.table_laws.proofs.Tables.Deaths.{can_get_alive, sound_delivered, delivered_changes}
use Rattle.table_laws.specs.Preserve.{AreAlive, IsPreserved, MayCall}
use Rattle.table_laws.proofs.Preserve.{Preserves, refused_preserves, answers_preserves, either_preserves, blocked_preserves, goes_on_may_call}
use Rattle.table_laws.proofs.Tables.Harts.{harts_same}

-- Call 21.
pub send_preserves : (p message : ℕ) → Preserves (send p message)
send_preserves p message s c = either_preserves (can_get p s.tables) _ _
    (λ b. record {
      tables = sound_delivered p message (start s) c.tables (can_get_alive s.tables p b);
      harts = harts_same s.harts _ (ap (λ (x : Xinu). x.harts) (delivered_changes p message (start s)).state) c.harts;
      released = subst (AreAlive (delivered p message (start s)).state.tables) (sym (delivered_changes p message (start s)).released) tt;
    })
    (λ _. refused_preserves s c)

-- the caller's message is taken, or it goes another way that is fine if it holds none
received_preserves : (message : Option ℕ) (otherwise : CallResult) (s : Xinu) → message ≡ held s → MayCall s
    → (held s ≡ None → IsPreserved otherwise) → IsPreserved (received message otherwise s)
received_preserves None otherwise s e c f = f (sym e)
received_preserves (Some message) otherwise s e c f = let k = goes_on_may_call None s c in record { tables = k.tables; harts = k.harts; released = tt }

-- Call 22.
pub receive_preserves : Preserves receive
receive_preserves s c =
    received_preserves (held s) _ s refl c
    (λ e. blocked_preserves Receiving rest.Receive Nowhere s c (λ f. cc) (refl, refl, refl) tt (refl, e))

-- Call 23.
pub recvclr_preserves : Preserves recvclr
recvclr_preserves s c = received_preserves (held s) _ s refl c (λ _. answers_preserves (pos 0) s c)

-- a tick that comes later
later_tick : (ticks n : ℕ) → ticks < ticks + max 1 n
later_tick ticks n = omega arith

-- Call 24.
pub recvtime_preserves : (ticks : ℤ) → Preserves (recvtime ticks)
recvtime_preserves (negsuc n) = refused_preserves
recvtime_preserves (pos n) = λ s c. received_preserves (held s) _ s refl c
    (λ e. blocked_preserves Timed rest.Timed (InSleepers (s.tables.ticks + max 1 n)) s c (λ f. cc) (refl, refl, refl)
    (later_tick s.tables.ticks n) (refl, e))

-- What is left of a call that waited for a message.
pub go_on_receive_preserves : Preserves go_on_receive
go_on_receive_preserves s c =
    received_preserves (held s) _ s refl c (λ _. answers_preserves TIMEOUT (goes_on None s) (goes_on_may_call None s c))

-- Call 6.
pub yield_preserves : Preserves yield
yield_preserves s c = record { tables = c.tables; harts = c.harts; released = tt }

-- Call 26.
pub sleepms_preserves : (ticks : ℤ) → Preserves (sleepms ticks)
sleepms_preserves (negsuc n) = refused_preserves
sleepms_preserves (pos zero) = yield_preserves
sleepms_preserves (pos (suc n)) =
    λ s c. blocked_preserves Sleeping rest.Nothing (InSleepers (s.tables.ticks + suc n)) s c (λ f. cc) (refl, refl, refl) (omega arith) refl

-- Call 25.
pub sleep_preserves : (seconds : ℤ) → Preserves (sleep seconds)
sleep_preserves (negsuc n) = refused_preserves
sleep_preserves (pos n) =
    λ s c. either_preserves (nat_lt 2147483 n) _ _ (λ _. refused_preserves s c) (λ _. sleepms_preserves (pos (1000 * n)) s c)

-- Call 27.
pub clktime_preserves : Preserves clktime
clktime_preserves s c = answers_preserves (pos (s.tables.ticks / 1000)) s c
