-- What an event does to processes, semaphores, ports and buffers, seen from the states before and after it.
use Rattle.std.specs.Prelude.{ℕ, ◌==◌, Bool, true, false, not, if◌then◌else◌, ◌&&◌, ◌||◌, List, filter, length, slice_index, Option, Some, None, is_some, int_lt, pos}
use Rattle.std.specs.List.{flat_map}
use Rattle.xinu_base.specs.Constants.{NPROC}
use Rattle.xinu_base.specs.declared.events.Event.{Event}
use Rattle.xinu_base.specs.declared.events.Event.TheVariants.{Step}
use Rattle.xinu_base.specs.declared.processes.State.{State}
use Rattle.xinu_base.specs.declared.processes.State.TheVariants.{Current, Ready, Receiving, Sleeping, Suspended, Waiting, Timed}
use Rattle.xinu_base.specs.declared.registers.Hart.{Hart}
use Rattle.xinu_base.specs.declared.registers.Outcome.{Outcome}
use Rattle.xinu_base.specs.declared.registers.Outcome.TheVariants as outcome
use Rattle.xinu_base.specs.declared.semaphores.Owner.{Owner}
use Rattle.xinu_base.specs.declared.semaphores.Owner.TheVariants as owner
use Rattle.xinu_base.specs.declared.syscalls.Call.{Call}
use Rattle.xinu_model.specs.Events.{call_of, is_done}
use Rattle.xinu_model.specs.Isa.Exec.{exec}
use Rattle.xinu_model.specs.Machine.{Xinu, current_hart}
use Rattle.xinu_model.specs.Pools.Buffers.{BufferPool, addresses, is_in}
use Rattle.xinu_model.specs.Ports.Queues.{PortQueue, port_at}
use Rattle.xinu_model.specs.Semaphores.Counts.{is_good}
use Rattle.xinu_model.specs.Tables.{is_free, process_at, semaphore_at, state_at}
use Rattle.xinu_model.specs.Words.{signed}

-- the numbers below n
abbrev pub numbers : ℕ → List ℕ
numbers n = addresses 0 1 n

-- the process that steps in an event: in a step the current one, unless it is the null process
abbrev pub stepper_of : Xinu → Event → Option ℕ
stepper_of s Step = if s.tables.current == 0 then None else Some s.tables.current
stepper_of s _ = None

-- the call that these registers ask for, if an instruction came to a call
abbrev pub asked : Outcome → Hart → Option Call
asked outcome.Call h = Some (call_of h)
asked _ h = None

-- The call that the current process makes in its next step, if nothing is left of an earlier one.
unfoldable pub next_call : Xinu → Option Call
next_call s =
    let did = exec (current_hart s) s.memory in
    if is_done (process_at s.tables s.tables.current).rest then asked did.outcome did.hart else None

-- the processes that begin in an event, and those that die
abbrev pub begins : Xinu → Xinu → ℕ → Bool
begins old new p = is_free (state_at old.tables p) && not (is_free (state_at new.tables p))

abbrev pub dies : Xinu → Xinu → ℕ → Bool
dies old new p = not (is_free (state_at old.tables p)) && is_free (state_at new.tables p)

abbrev pub born : Xinu → Xinu → List ℕ
born old new = filter (begins old new) (numbers NPROC)

abbrev pub dead : Xinu → Xinu → List ℕ
dead old new = filter (dies old new) (numbers NPROC)

-- whether a process of this state waits, sleeps or is suspended, and whether one runs or is ready
abbrev pub is_stopped : State → Bool
is_stopped Receiving = true
is_stopped Sleeping = true
is_stopped Suspended = true
is_stopped Waiting = true
is_stopped Timed = true
is_stopped _ = false

abbrev pub is_going : State → Bool
is_going Current = true
is_going Ready = true
is_going _ = false

-- those that become ready
abbrev pub woken : Xinu → Xinu → List ℕ
woken old new = filter (λ p. is_stopped (state_at old.tables p) && is_going (state_at new.tables p)) (numbers NPROC)

-- the port that owns a semaphore, if one does
abbrev pub port_of : Option Owner → Option ℕ
port_of (Some (owner.Port q)) = Some q
port_of _ = None

-- whether a semaphore is that of a port's room
abbrev pub is_room_in : Option PortQueue → ℕ → Bool
is_room_in None sem = false
is_room_in (Some queue) sem = queue.send == sem

abbrev pub is_room_of : Option ℕ → ℕ → Xinu → Bool
is_room_of None sem s = false
is_room_of (Some q) sem s = is_room_in (port_at s.parts.ports q).queue sem

-- whether the tokens of a semaphore order processes: it is a process's, or that of a port's room
abbrev pub orders : Xinu → ℕ → Bool
orders s sem = is_good sem s.tables || is_room_of (port_of (semaphore_at s.tables sem).owner) sem s

-- whether port q is made, reset or deleted in an event
abbrev pub is_renewed : Xinu → Xinu → ℕ → Bool
is_renewed old new q = not ((port_at old.parts.ports q).seq == (port_at new.parts.ports q).seq)

abbrev pub is_renewed_if : Xinu → Xinu → Option ℕ → Bool
is_renewed_if old new None = false
is_renewed_if old new (Some q) = is_renewed old new q

-- whether a call is `semreset` of a semaphore, and isn't refused
abbrev pub resets : Option Call → Xinu → ℕ → Bool
resets None s sem = false
resets (Some call) s sem =
    (call.number == 16) && ((slice_index call.args 0 == sem) && (is_good sem s.tables && not (int_lt (signed (slice_index call.args 1)) (pos 0))))

-- whether a semaphore is in use
abbrev pub is_owned : Xinu → ℕ → Bool
is_owned s sem = is_some (semaphore_at s.tables sem).owner

-- whether a semaphore begins or ceases to be in use in an event
abbrev pub changes_use : Xinu → Xinu → ℕ → Bool
changes_use old new sem = if is_owned old sem then not (is_owned new sem) else is_owned new sem

-- whether a semaphore is made, reset or deleted in an event, by itself or with its port: its tokens are new ones
abbrev pub is_remade : Option Call → Xinu → Xinu → ℕ → Bool
is_remade call old new sem =
    changes_use old new sem || (resets call old sem || is_renewed_if old new (port_of (semaphore_at old.tables sem).owner))

-- the tokens of a semaphore
abbrev pub tokens_of : Xinu → ℕ → ℕ
tokens_of s sem = (semaphore_at s.tables sem).tokens

-- the messages of port q
abbrev pub queue_length : Option PortQueue → ℕ
queue_length None = 0
queue_length (Some queue) = length queue.messages

abbrev pub messages_of : Xinu → ℕ → ℕ
messages_of s q = queue_length (port_at s.parts.ports q).queue

-- the addresses of all free buffers, and those that are taken, or freed, in an event
abbrev pub free_buffers : Xinu → List ℕ
free_buffers s = flat_map (λ (pool : BufferPool). pool.free) s.parts.pools

abbrev pub buffers_taken : Xinu → Xinu → List ℕ
buffers_taken old new = filter (λ a. not (is_in a (free_buffers new))) (free_buffers old)

abbrev pub buffers_freed : Xinu → Xinu → List ℕ
buffers_freed old new = filter (λ a. not (is_in a (free_buffers old))) (free_buffers new)
