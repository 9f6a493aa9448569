-- What is noted of strays: of each kind the first.
use Rattle.std.specs.Prelude.{◌-◌, ◌/◌, ◌==◌, nat_lt, ℕ, Bool, true, false, if◌then◌else◌, ◌&&◌, not, List, [], ◌∷◌, length, replicate, slice_get, slice_index, slice_index_or, slice_set, Option, None, Some}
use Rattle.memory_strays.specs.Looks.{executes, is_free, stack_low, stack_owner, store_in}
use Rattle.memory_strays.specs.NearNull.{is_near_null, lie_near_null}
use Rattle.memory_strays.specs.declared.looks.Store.{Store}
use Rattle.memory_strays.specs.declared.strays.Stray.{Stray}
use Rattle.xinu_base.specs.declared.events.Event.{Event}
use Rattle.xinu_base.specs.declared.events.Event.TheVariants.{Step}
use Rattle.xinu_model.specs.Machine.{Xinu, current_hart}
use Rattle.xinu_model.specs.Tables.{process_at}

-- What is noted: over which words of RAM a step executed, whether no image lies near null, and the first stray of each kind.
pub record Noted : Type 0 where
  pub executed : List Bool
  pub is_clear : Bool
  pub below : Option Stray
  pub stack : Option Stray
  pub code : Option Stray
  pub free : Option Stray
  pub null : Option Stray

-- with the images in these files nothing was executed, and nothing strayed
unfoldable pub nothing_noted : List (List ℕ) → Noted
nothing_noted files = record {
  executed = replicate 262144 false;
  is_clear = not (lie_near_null files);
  below = None;
  stack = None;
  code = None;
  free = None;
  null = None;
}

-- a stray in the next step of a state to which so many events led: the address, how many bytes, and the process in whose stack they are
abbrev pub strayed : ℕ → Xinu → ℕ → ℕ → ℕ → Stray
strayed taken s address bytes owner =
    record { taken = taken; process = s.tables.current; pc = (current_hart s).pc; address = address; bytes = bytes; owner = owner }

-- the stack pointer of the process that runs
abbrev pub stack_pointer : Xinu → ℕ
stack_pointer s = slice_index (current_hart s).regs 2

-- the lowest address of its stack
abbrev pub own_low : Xinu → ℕ
own_low s = stack_low (process_at s.tables s.tables.current)

-- below its stack: the stack pointer of the process that runs is so many bytes below its lowest address
abbrev pub below_stack : ℕ → Xinu → Option Stray
below_stack taken s =
    if nat_lt (stack_pointer s) (own_low s) then Some (strayed taken s (stack_pointer s) (own_low s - stack_pointer s) s.tables.current) else None

-- a store into the stack of this process, unless it is that of the process that stores
abbrev pub owned : ℕ → Xinu → Store → Option ℕ → Option Stray
owned taken s w None = None
owned taken s w (Some p) = if p == s.tables.current then None else Some (strayed taken s w.address w.width p)

-- a store into the stack of another process
abbrev pub into_stack : ℕ → Xinu → Option Store → Option Stray
into_stack taken s None = None
into_stack taken s (Some w) = owned taken s w (stack_owner s.tables w.address 1 63)

-- a store into a word over which a step executed before
abbrev pub into_code : ℕ → Xinu → List Bool → Option Store → Option Stray
into_code taken s executed None = None
into_code taken s executed (Some w) =
    if slice_index_or executed (w.address / 4) false then Some (strayed taken s w.address w.width s.tables.current) else None

-- a store into memory that is free
abbrev pub into_free : ℕ → Xinu → Option Store → Option Stray
into_free taken s None = None
into_free taken s (Some w) = if is_free s.parts.heap w.address then Some (strayed taken s w.address w.width s.tables.current) else None

-- a store near null, unless an image lies there
abbrev pub into_null : ℕ → Xinu → Bool → Option Store → Option Stray
into_null taken s clear None = None
into_null taken s clear (Some w) =
    if clear && is_near_null w.address then Some (strayed taken s w.address w.width s.tables.current) else None

-- the first one, if there is one, or else this
abbrev pub first_of : Option Stray → Option Stray → Option Stray
first_of None next = next
first_of (Some first) next = Some first

-- what is noted once the next step of a state is noted too, to which so many events led
abbrev pub note : ℕ → Xinu → Noted → Noted
note taken s x =
    if executes s then record {
      executed = slice_set x.executed ((current_hart s).pc / 4) true;
      is_clear = x.is_clear;
      below = first_of x.below (below_stack taken s);
      stack = first_of x.stack (into_stack taken s (store_in s));
      code = first_of x.code (into_code taken s x.executed (store_in s));
      free = first_of x.free (into_free taken s (store_in s));
      null = first_of x.null (into_null taken s x.is_clear (store_in s));
    } else x

-- what is noted ahead of an event to which so many led: nothing but of a step
abbrev pub note_event : Option Event → ℕ → Xinu → Noted → Noted
note_event (Some Step) taken s x = note taken s x
note_event _ taken s x = x

-- what is noted of the first events of a run with the images in these files, by the states ahead of them, the latest one first
unfoldable pub noted : List (List ℕ) → List Event → List Xinu → Noted
noted files events [] = nothing_noted files
noted files events (s ∷ earlier) = note_event (slice_get events (length earlier)) (length earlier) s (noted files events earlier)
