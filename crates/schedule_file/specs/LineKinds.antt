-- The kinds of lines of a schedule, and the events that a line asks for.
use Rattle.std.specs.Prelude.{ℕ, zero, suc, ◌==◌, if◌then◌else◌, List, [], ◌∷◌, ◌++◌, length, map, replicate, slice_index, Option, Some}
use Rattle.std.specs.Prelude.{None, option_map, codes}
use Rattle.std.specs.Str.{bytes_eq}
use Rattle.xinu_base.specs.declared.events.Event.{Event}
use Rattle.xinu_base.specs.declared.events.Event.TheVariants.{Step, Tick, Key, Tx, Disk0, Disk1, Fail0, Fail1, Dump}
use Rattle.schedule_file.specs.declared.kinds.Kind.{Kind}
use Rattle.schedule_file.specs.declared.kinds.Kind.TheVariants.{Counted, Rounds, Typed, Once}
use Rattle.text_lines.specs.Lines.{tokens_of}
use Rattle.schedule_file.specs.Numbers.{one_count, typed_in}

-- one round of the machine: steps, transmissions, completions of the file system's disk and of the raw disk, and a tick
unfoldable pub round : List Event
round = replicate 1000 Step ++ (replicate 64 Tx ++ (replicate 8 Disk1 ++ (replicate 8 Disk0 ++ Tick ∷ [])))

-- n rounds, one after another
unfoldable pub rounds : ℕ → List Event
rounds zero = []
rounds (suc n) = round ++ rounds n

-- the kinds of lines: the name that a line begins with, and what the tokens after it mean
abbrev pub kinds : List (List ℕ × Kind)
kinds =
    (codes "step", Counted Step)
    ∷ (codes "tick", Counted Tick)
    ∷ (codes "tx", Counted Tx)
    ∷ (codes "disk0", Counted Disk0)
    ∷ (codes "disk1", Counted Disk1)
    ∷ (codes "round", Rounds)
    ∷ (codes "type", Typed)
    ∷ (codes "fail0", Once Fail0)
    ∷ (codes "fail1", Once Fail1)
    ∷ (codes "dump", Once Dump)
    ∷ []

-- the kind that has this name in a table
abbrev pub kind_among : List (List ℕ × Kind) → List ℕ → Option Kind
kind_among [] name = None
kind_among (row ∷ rows) name = if bytes_eq name row.0 then Some row.1 else kind_among rows name

-- the events that the tokens after a name of this kind ask for
abbrev pub events_by : Kind → List (List ℕ) → Option (List Event)
events_by (Counted event) tokens = option_map (λ n. replicate n event) (one_count tokens)
events_by Rounds tokens = option_map rounds (one_count tokens)
events_by Typed tokens = option_map (map Key) (typed_in tokens)
events_by (Once event) tokens = if length tokens == 0 then Some (event ∷ []) else None

-- the same if the name is of a kind, and nothing if it is of none
abbrev pub events_by_named : Option Kind → List (List ℕ) → Option (List Event)
events_by_named None tokens = None
events_by_named (Some kind) tokens = events_by kind tokens

-- the events that a line's tokens ask for: no event if there is no token or the first one begins with `#`
abbrev pub token_events : List (List ℕ) → Option (List Event)
token_events [] = Some []
token_events (name ∷ tokens) = if slice_index name 0 == 35 then Some [] else events_by_named (kind_among kinds name) tokens

-- the events that a line asks for, if it is of one of the forms
abbrev pub line_events : List ℕ → Option (List Event)
line_events line = token_events (tokens_of line)
