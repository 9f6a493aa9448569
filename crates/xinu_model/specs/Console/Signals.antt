-- What the console tells those who wait for it: an item that was committed is a token of its input, and a byte of output that was sent one of
-- its output (book, chapter 15, `ttyhandle_in.c`, `ttyhandle_out.c`, `ttycontrol.c`).
use Rattle.std.specs.Prelude.{ℕ, ◌==◌, if◌then◌else◌, [], ◌∷◌, Option, Some, None, pos}
use Rattle.xinu_base.specs.Constants.{OK}
use Rattle.xinu_base.specs.declared.lines.TranscriptLine.TheVariants.{Con}
use Rattle.xinu_model.specs.Console.Controls.{controlled}
use Rattle.xinu_model.specs.Console.Putting.{TY_OSEM}
use Rattle.xinu_model.specs.Console.Receiving.{received}
use Rattle.xinu_model.specs.Console.Rows.{Committed}
use Rattle.xinu_model.specs.Console.Taking.{TY_ISEM, console_of, with_console}
use Rattle.xinu_model.specs.Console.Transmitting.{Sent, transmitted}
use Rattle.xinu_model.specs.Machine.{Xinu, Silent, CallState, CallResult, EventResult, start, returns, refused, nothing_happens, end_of_event}
use Rattle.xinu_model.specs.Semaphores.Calls.{answers}
use Rattle.xinu_model.specs.Semaphores.Waiting.{signalled, signalled_times}
use Rattle.xinu_model.specs.Tables.{semaphore_at}

-- items were committed: each is a signal
abbrev pub committed : Committed → CallState → CallState
committed m d = signalled_times TY_ISEM m.count (record d { state = with_console m.console d.state })

-- the console's own control functions
abbrev pub control_with : Option Committed → Xinu → CallResult
control_with None s = refused s
control_with (Some m) s = returns (committed m (start s)) OK

-- the control function that answers how many items can be taken
abbrev pub TC_ICHARS : ℕ
TC_ICHARS = 4

-- `control`: how many items can be taken, or another mode or echo; refused if there is no such function
abbrev pub console_control : ℕ → Xinu → CallResult
console_control f s =
    if f == TC_ICHARS then answers (pos (semaphore_at s.tables TY_ISEM).tokens) s else control_with (controlled f (console_of s)) s

-- a character is received
abbrev pub receiving : ℕ → Xinu → CallResult
receiving b s = record { call = committed (received b (console_of s)) (start s); answer = Silent }

-- the event in which it is
abbrev pub keyed : ℕ → Xinu → EventResult
keyed b s = end_of_event s.tables.current [] (receiving b s)

-- a byte was sent: if it was output there is room for another one
abbrev pub after_sent : Sent → Xinu → CallState
after_sent sent s =
    let d = start (with_console sent.console s) in if sent.is_output then signalled TY_OSEM d else d

abbrev pub sending : Sent → Xinu → CallResult
sending sent s = record { call = after_sent sent s; answer = Silent }

-- The event in which the console may transmit. Whoever goes on then is answered later, so the byte's line is the first.
abbrev pub sent_in : Option Sent → Xinu → EventResult
sent_in None s = nothing_happens s
sent_in (Some sent) s = end_of_event s.tables.current (Con sent.byte ∷ []) (sending sent s)

abbrev pub transmits : Xinu → EventResult
transmits s = sent_in (transmitted (console_of s)) s
