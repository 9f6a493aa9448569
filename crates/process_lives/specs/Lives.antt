-- What a process does, and since when: a function of the states through which a run came. Read `life_of`, at the end, first.
use Rattle.std.specs.Prelude.{ℕ, suc, ◌==◌, Bool, true, false, not, ◌&&◌, ◌||◌, if◌then◌else◌, List, [], ◌∷◌, length, slice_index_or}
use Rattle.process_lives.specs.declared.lives.Life.{Life}
use Rattle.xinu_base.specs.contracts.processes.State.{the_type}
use Rattle.xinu_base.specs.declared.processes.State.{State}
use Rattle.xinu_base.specs.declared.processes.State.TheVariants.{Current, Free}
use Rattle.xinu_model.specs.Machine.{Xinu}
use Rattle.xinu_model.specs.Tables.{Tables, is_free, state_at}
use denote.Enum.Declared.{tag_of}

-- whether two states of a process are the same
abbrev pub same_state : State → State → Bool
same_state a b = tag_of the_type a == tag_of the_type b

-- whether a process in a state runs
abbrev pub runs : State → Bool
runs Current = true
runs _ = false

-- the life of no process
abbrev pub nobody : Life
nobody = record { state = Free; since = 0; tick = 0; has_run = false }

-- the life of a process, of those by their numbers
abbrev pub life_in : List Life → ℕ → Life
life_in lives p = slice_index_or lives p nobody

-- the life of process p before the first event
abbrev pub first_life : Tables → ℕ → Life
first_life t p = record { state = state_at t p; since = 0; tick = t.ticks; has_run = runs (state_at t p) }

-- it does something else since event n, after which these are the tables; whoever gets a free number hasn't run before
abbrev pub changed : ℕ → Tables → ℕ → Life → Life
changed n t p life = record {
  state = state_at t p;
  since = n;
  tick = t.ticks;
  has_run = runs (state_at t p) || (life.has_run && not (is_free life.state));
}

-- the life of process p after event n, which left these tables
abbrev pub next_life : ℕ → Tables → ℕ → Life → Life
next_life n t p life = if same_state life.state (state_at t p) then life else changed n t p life

-- What process p does in a state, and since when, by the states ahead of the events that led to it, the latest one first.
unfoldable pub life_of : ℕ → List Xinu → Xinu → Life
life_of p [] s = first_life s.tables p
life_of p (ahead ∷ earlier) s = next_life (suc (length earlier)) s.tables p (life_of p earlier ahead)
