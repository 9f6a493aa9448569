-- What a console answers to calls, one after another.
use Rattle.std.specs.Prelude.{ℕ, ◌+◌, ◌==◌, nat_lt, if◌then◌else◌, List, [], ◌∷◌, length, Option, Some, None, ℤ, pos}
use Rattle.console_c.specs.declared.calls.ConsoleCall.{ConsoleCall}
use Rattle.xinu_base.specs.Constants.{OK, SYSERR}
use Rattle.xinu_base.specs.declared.console.Item.{Item}
use Rattle.xinu_model.specs.Console.Constants.{TY_NEWLINE, TY_OBUFLEN, TY_RETURN}
use Rattle.xinu_model.specs.Console.Controls.{controlled}
use Rattle.xinu_model.specs.Console.Putting.{needs_return}
use Rattle.xinu_model.specs.Console.Receiving.{received}
use Rattle.xinu_model.specs.Console.Rows.{Committed}
use Rattle.xinu_model.specs.Console.Signals.{TC_ICHARS}
use Rattle.xinu_model.specs.Console.State.{Console, with_output}
use Rattle.xinu_model.specs.Console.Taking.{char_of}
use Rattle.xinu_model.specs.Console.Transmitting.{Sent, transmitted}

-- An answer, and the console after it.
pub record Answered : Type 0 where
  pub answer : ℤ
  pub console : Console

-- a call that is refused
abbrev refused : Console → Answered
refused c = record { answer = SYSERR; console = c }

-- items were committed: the answer is how many
abbrev pub committed : Committed → Answered
committed m = record { answer = pos m.count; console = m.console }

-- the first of these items, which can be taken, is
abbrev pub taken : List Item → Console → Answered
taken [] c = refused c
taken (x ∷ items) c = record { answer = char_of c.mode x; console = record c { committed = items } }

-- a byte is put, if there is room for it
abbrev pub one_put : ℕ → Console → Answered
one_put b c =
    if nat_lt (length c.output) TY_OBUFLEN then record { answer = OK; console = with_output b c } else refused c

-- a newline is put after its carriage return, if there is room for both
abbrev pub line_put : Console → Answered
line_put c =
    if nat_lt (length c.output + 1) TY_OBUFLEN then record { answer = OK; console = with_output TY_NEWLINE (with_output TY_RETURN c) }
    else refused c

-- a byte was sent: one of output is told by 256 more
abbrev pub sent : Option Sent → Console → Answered
sent None c = refused c
sent (Some s) c = record { answer = if s.is_output then pos (256 + s.byte) else pos s.byte; console = s.console }

-- a control function was carried out, or there is none
abbrev changed : Option Committed → Console → Answered
changed None c = refused c
changed (Some m) c = committed m

-- the answer to a control function
abbrev pub controls : ℕ → Console → Answered
controls f c =
    if f == TC_ICHARS then record { answer = pos (length c.committed); console = c } else changed (controlled f c) c

-- the answer to a call
abbrev pub answered : Console → ConsoleCall → Answered
answered c call =
    if call.kind == 0 then committed (received call.byte c)
    else if call.kind == 1 then taken c.committed c
    else if call.kind == 2 then (if needs_return call.byte c.mode then line_put c else one_put call.byte c)
    else if call.kind == 3 then sent (transmitted c) c
    else if call.kind == 4 then controls call.byte c
    else refused c

-- the answers to calls, one after another
abbrev pub answers_of : Console → List ConsoleCall → List ℤ
answers_of c [] = []
answers_of c (call ∷ calls) = (answered c call).answer ∷ answers_of (answered c call).console calls
