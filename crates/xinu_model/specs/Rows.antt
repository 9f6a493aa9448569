-- What is known of a call: one row.
use Rattle.std.specs.Prelude.{ℕ, ◌==◌, if◌then◌else◌, List, [], ◌∷◌, slice_index, Option, Some, None}
use Rattle.xinu_model.specs.Footprints.{Footprint}
use Rattle.xinu_model.specs.Machine.{Xinu, CallResult, refused}

-- What a call answers unless it is refused: a status or a number, an address, the priority of a process, the count of a semaphore, the
-- caller's message, or a port's.
pub data ReplyKind : Type 0 where
  Status : ReplyKind
  Address : ReplyKind
  Priority : ReplyKind
  Count : ReplyKind
  Message : ReplyKind
  PortMessage : ReplyKind

-- A call: its number, which parts of the state it may change, what it answers, and what it does with its arguments, which go by their
-- place from 0 on. Its name, its family and how many arguments it takes are in the table of system calls.
pub record CallRow : Type 0 where
  pub number : ℕ
  pub touches : Footprint
  pub reply : ReplyKind
  pub effect : (ℕ → ℕ) → Xinu → CallResult

abbrev pub row : ℕ → Footprint → ReplyKind → ((ℕ → ℕ) → Xinu → CallResult) → CallRow
row number touches reply effect = record { number = number; touches = touches; reply = reply; effect = effect }

-- the first row of a number
abbrev pub found_in : List CallRow → ℕ → Option CallRow
found_in [] number = None
found_in (r ∷ rows) number = if number == r.number then Some r else found_in rows number

-- what a row does; a number without a row is refused
abbrev pub done_by : Option CallRow → List ℕ → Xinu → CallResult
done_by None args s = refused s
done_by (Some r) args s = r.effect (slice_index args) s
