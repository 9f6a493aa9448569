-- What a run does with memory, and what orders it: event by event.
use Rattle.std.specs.Prelude.{◌≤◌, ℕ, zero, suc, ◌==◌, Bool, false, List, [], Option, Some, None, slice_index_or}
use Rattle.std.specs.List.{Contains}

-- A process loads or stores a byte; its place is that of the instruction.
pub record Access : Type 0 where
  pub process : ℕ
  pub byte : ℕ
  pub stores : Bool
  pub place : ℕ

-- What an event does with memory: an access, or the first of so many bytes that get a new owner.
pub data Deed : Type 0 where
  Accessed : Access → Deed
  Given : ℕ → ℕ → Deed

-- An edge of an event: what the source did up to `event` comes before what the target does after this one, and in it too if it is the
-- target that steps.
pub record Edge : Type 0 where
  pub event : ℕ
  pub source : ℕ
  pub target : ℕ

-- What one event is of a history: the process that steps, if one does, the edges that come from it, and its deeds in their order.
pub record Moment : Type 0 where
  pub stepper : Option ℕ
  pub edges : List Edge
  pub deeds : List Deed

abbrev pub nothing_happens : Moment
nothing_happens = record { stepper = None; edges = []; deeds = [] }

-- The moment of event n of a history, which is the list of its moments; the first is event 1.
abbrev pub moment_of : List Moment → ℕ → Moment
moment_of h zero = nothing_happens
moment_of h (suc n) = slice_index_or h n nothing_happens

-- whether v is the process that steps, if one does
abbrev pub is_stepper : Option ℕ → ℕ → Bool
is_stepper None v = false
is_stepper (Some s) v = s == v

-- No edge names an event that is still to come.
abbrev pub IsHistory : List Moment → Type 0
IsHistory h = (n : ℕ) (e : Edge) → Contains (moment_of h n).edges e → e.event ≤ n
