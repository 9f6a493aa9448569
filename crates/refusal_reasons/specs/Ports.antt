-- Why the calls on ports are refused (book, chapter 11).
use Rattle.std.specs.Prelude.{ℕ, nat_le, nat_lt, Bool, false, not, ◌&&◌, List, [], ◌∷◌, Option, None, Some}
use Rattle.event_laws.specs.Replies.{first_of}
use Rattle.refusal_reasons.specs.Causes.{cause, CauseRow, row, is_minus_one_message, is_negative}
use Rattle.refusal_reasons.specs.declared.reasons.Cause.{Cause}
use Rattle.refusal_reasons.specs.Semaphores.{free_semaphores}
use Rattle.refusal_reasons.specs.declared.reasons.Reason.TheVariants.{NegativeCount, NoFreePort, NoTwoSemaphores, NoPort, NoSuchDisposal, MessageIsMinusOne}
use Rattle.xinu_model.specs.Machine.{Xinu}
use Rattle.xinu_model.specs.Ports.Queues.{MessagePort, PortQueue, is_used, port_at, queued}
use Rattle.xinu_model.specs.Sound.Tables.{times}
use Rattle.xinu_model.specs.Tables.{Tables, semaphore_at}
use Rattle.xinu_model.specs.Words.{signed}

-- how many ports aren't in use
abbrev pub free_ports : List MessagePort → ℕ
free_ports ports = times (λ port. not (is_used port)) ports

-- no port in use has this number
abbrev pub no_port : ℕ → Xinu → Cause
no_port q s = cause NoPort (not (is_used (port_at s.parts.ports q)))

-- `ptcreate`: a word, room for so many messages
abbrev pub ptcreate_causes : ℕ → Xinu → List Cause
ptcreate_causes room s =
    cause NegativeCount (is_negative (signed room))
    ∷ cause NoFreePort (nat_lt (free_ports s.parts.ports) 1)
    ∷ cause NoTwoSemaphores (nat_lt (free_semaphores s.tables) 2)
    ∷ []

-- `ptdelete` and `ptreset`: what is done with the messages of port q
abbrev pub disposal_causes : ℕ → ℕ → Xinu → List Cause
disposal_causes q how s = no_port q s ∷ cause NoSuchDisposal (not (nat_le how 1)) ∷ []

-- `ptsend`
abbrev pub ptsend_causes : ℕ → Xinu → List Cause
ptsend_causes q s = no_port q s ∷ []

-- whether a message can be received without waiting
abbrev pub can_take : Option PortQueue → Tables → Bool
can_take None t = false
can_take (Some queue) t = nat_lt 0 (semaphore_at t queue.receive).tokens

-- `ptrecv`: the first message of port q is answered
abbrev pub ptrecv_causes : ℕ → Xinu → List Cause
ptrecv_causes q s =
    let queue = (port_at s.parts.ports q).queue in
    no_port q s ∷ cause MessageIsMinusOne (can_take queue s.tables && is_minus_one_message (first_of (queued queue))) ∷ []

-- the calls on ports
abbrev pub port_causes : List CauseRow
port_causes =
    row 31 (λ a s. ptcreate_causes (a 0) s) ∷
    row 32 (λ a s. disposal_causes (a 0) (a 1) s) ∷
    row 33 (λ a s. disposal_causes (a 0) (a 1) s) ∷
    row 34 (λ a s. ptsend_causes (a 0) s) ∷
    row 35 (λ a s. ptrecv_causes (a 0) s) ∷
    []
