-- What holds when a call on the console begins, and what a caller has that has a token of the console's.
use Rattle.std.specs.Prelude.{◌≡◌, ℕ, suc, ◌+◌, ◌-◌, ◌≤◌, Bool, true, false, length, Option, Some, None}
use Rattle.kernel_state.specs.Results.{came_to, IsStart}
use Rattle.xinu_base.specs.declared.processes.Rest.{Rest}
use Rattle.xinu_base.specs.declared.processes.Span.{Span}
use Rattle.xinu_base.specs.declared.syscalls.Next.{Next}
use Rattle.xinu_base.specs.declared.syscalls.Next.TheVariants as next
use Rattle.table_laws.specs.Preserve.{MayCall}
use Rattle.xinu_model.specs.Console.Constants.{TY_OBUFLEN}
use Rattle.xinu_model.specs.Console.Putting.{TY_OSEM, writes}
use Rattle.xinu_model.specs.Console.Signals.{after_sent}
use Rattle.xinu_model.specs.Console.Taking.{TY_ISEM, console_of, reads}
use Rattle.xinu_model.specs.Console.Transmitting.{Sent}
use Rattle.xinu_model.specs.Machine.{CallResult, CallState, start, Xinu}
use Rattle.xinu_model.specs.Sound.Console.{IsConsole, promised}
use Rattle.xinu_model.specs.Sound.Tables.{asks_input, asks_output}
use Rattle.xinu_model.specs.Tables.{process_at}

-- Nothing was done yet in this event, the current process may call, and what holds of the console and of those who wait for it holds.
pub record Begins (d : CallState) : Type 0 where
  pub starts : IsStart d
  pub may : MayCall d.state
  pub console : IsConsole d.state.tables (console_of d.state)

-- The caller has a token of the input: there is an item that isn't promised to anybody else.
pub record HasItem (d : CallState) : Type 0 where
  pub begins : Begins d
  pub item : suc (promised asks_input TY_ISEM d.state.tables) ≤ length (console_of d.state).committed

-- The caller has a token of the output: there is room that isn't promised to anybody else.
pub record HasPlace (d : CallState) : Type 0 where
  pub begins : Begins d
  pub place : suc (length (console_of d.state).output + promised asks_output TY_OSEM d.state.tables) ≤ TY_OBUFLEN

-- The caller was released from the console's input or output: this is left of its call.
pub record GoesOn (asks : Rest → Bool) (d : CallState) : Type 0 where
  pub begins : Begins d
  pub asked : asks (process_at d.state.tables d.state.tables.current).rest ≡ true

-- what follows if the caller has its token; else it waits
abbrev pub if_taken : Bool → (Xinu → CallResult) → CallState → CallResult
if_taken true then_ d = then_ d.state
if_taken false then_ d = came_to d next.Waits

-- what follows unless the call has ended
abbrev pub unless_ended : Option Next → (Xinu → CallResult) → CallState → CallResult
unless_ended None then_ d = then_ d.state
unless_ended (Some answer) then_ d = came_to d answer

-- A read under way: what is left to do from here is all that was to do at first.
pub record IsReading (part : Span) (first : Xinu) (done : ℕ) (d : CallState) : Type 0 where
  pub begins : Begins d
  pub early : done ≤ part.want
  pub same : reads (part.want - done) part.at done d.state ≡ reads (part.want - part.done) part.at part.done first

-- The same of a write.
pub record IsWriting (part : Span) (first : Xinu) (done : ℕ) (d : CallState) : Type 0 where
  pub begins : Begins d
  pub early : done ≤ part.want
  pub same : writes (part.want - done) part.at done d.state ≡ writes (part.want - part.done) part.at part.done first

-- what is under way once a byte was sent, if one was
abbrev pub after_sending : Option Sent → Xinu → CallState
after_sending None s = start s
after_sending (Some sent) s = after_sent sent s
