-- Runs that can't go on.
use Rattle.std.specs.Prelude.{ℕ, Bool, true, false, not, cond, ◌&&◌, ◌||◌, List, ◌∷◌, codes, bytes_eq}
use Rattle.std.specs.List.{list_all}
use Rattle.race_tables.specs.Outcomes.{Outcome}
use Rattle.text_lines.specs.Lines.{lines_of, tokens_of}
use Rattle.xinu_base.specs.declared.events.End.{End}
use Rattle.xinu_base.specs.declared.events.End.TheVariants.{Schedule}

-- the state of a process that goes on only if another one lets it: suspended, waiting for a semaphore, or for a message
abbrev pub is_blocked_state : List ℕ → Bool
is_blocked_state state = bytes_eq state (codes "suspend") || (bytes_eq state (codes "wait") || bytes_eq state (codes "receive"))

-- the number of a semaphore that a device signals
abbrev pub is_device_semaphore : List ℕ → Bool
is_device_semaphore number = bytes_eq number (codes "0") || (bytes_eq number (codes "1") || (bytes_eq number (codes "2") || bytes_eq number (codes "3")))

-- whether the line of a process says that it goes on only if another one lets it; and whether the line of a waiter says that it waits for none
-- of the devices
abbrev pub is_blocked : List (List ℕ) → Bool
is_blocked (word ∷ number ∷ state ∷ rest) =
    cond (bytes_eq word (codes "proc")) (is_blocked_state state) (not (is_device_semaphore number))
is_blocked tokens = true

-- whether a run ended so
abbrev pub ended_by_schedule : End → Bool
ended_by_schedule Schedule = true
ended_by_schedule end = false

-- whether a run with this outcome is stuck: its schedule ended, and no process is left that can go on by itself or by a device
abbrev pub is_stuck : Outcome → Bool
is_stuck outcome = ended_by_schedule outcome.end && list_all (λ line. is_blocked (tokens_of line)) (lines_of outcome.left)
