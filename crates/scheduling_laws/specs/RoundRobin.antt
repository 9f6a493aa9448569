-- When the turn of a ready process comes (book, chapter 5).
use Rattle.std.specs.Prelude.{◌≡◌, ◌⊎◌, ◌<ℤ◌, ℕ, suc, true, ◌+◌, ◌*◌, ◌==◌, Bool, false, if◌then◌else◌, ◌&&◌, List, [], ◌∷◌, slice_index, ℤ, ◌≤ℤ◌}
use Rattle.std.specs.List.{list_any}
use Rattle.xinu_base.specs.Constants.{QUANTUM}
use Rattle.xinu_base.specs.declared.events.Event.{Event}
use Rattle.xinu_base.specs.declared.events.Event.TheVariants.{Tick}
use Rattle.xinu_base.specs.declared.lines.TranscriptLine.{TranscriptLine}
use Rattle.xinu_base.specs.declared.lines.TranscriptLine.TheVariants as line
use Rattle.xinu_base.specs.declared.processes.State.TheVariants.{Current, Free, Ready, Suspended}
use Rattle.xinu_model.specs.Events.{Happens}
use Rattle.xinu_model.specs.Machine.{Xinu}
use Rattle.xinu_model.specs.Tables.{Tables, process_at, state_at}
use Rattle.scheduling_laws.specs.Moments.{Moment}

-- how many entries of a list come before that of process p
abbrev pub before : ℕ → List (ℕ × ℤ) → ℕ
before p [] = 0
before p (e ∷ l) = if e.0 == p then 0 else suc (before p l)

-- In how many ticks the turn of process p comes at the latest: what is left of the quantum, and a whole quantum for each process before it.
abbrev pub turn : ℕ → Tables → ℕ
turn p t = t.quantum + QUANTUM * before p t.ready

-- Process p is ready with priority k, and no process of a higher priority runs.
abbrev pub WaitsItsTurn : ℕ → ℤ → Tables → Type 0
WaitsItsTurn p k t = (state_at t p ≡ Ready) × ((process_at t p).priority ≡ k) × ((process_at t t.current).priority ≤ℤ k)

-- Whether a line is a call of `chprio` on process p: it goes after its equals then, even if it gets the priority that it has.
abbrev pub is_placed : ℕ → TranscriptLine → Bool
is_placed p (line.Call q call) = (call.number == 7) && (slice_index call.args 0 == p)
is_placed p _ = false

-- how many ticks there are in an event, and in some
abbrev pub tick_of : Event → ℕ
tick_of Tick = 1
tick_of _ = 0

abbrev pub ticks_of : List Event → ℕ
ticks_of [] = 0
ticks_of (e ∷ events) = tick_of e + ticks_of events

-- Process p waits its turn from old through these events to new, and nobody calls `chprio` on it.
abbrev pub WaitsThrough : ℕ → ℤ → Xinu → List Event → Xinu → Type 0
WaitsThrough p k old [] new = new ≡ old
WaitsThrough p k old (e ∷ events) new =
    (mid : Xinu) × (lines : List TranscriptLine) × Happens old e lines mid × (list_any (is_placed p) lines ≡ false)
    × (WaitsItsTurn p k mid.tables) × WaitsThrough p k mid events new

-- In this moment the wait of process p, of priority k, for its turn is over: it runs, or it was suspended or killed, or somebody calls `chprio` on
-- it, or a process of a higher priority runs.
abbrev pub IsWaitOver : ℕ → ℤ → Moment → Type 0
IsWaitOver p k m =
    (state_at m.after.tables p ≡ Current)
    ⊎ ((state_at m.after.tables p ≡ Suspended)
    ⊎ ((state_at m.after.tables p ≡ Free)
    ⊎ ((list_any (is_placed p) m.lines ≡ true) ⊎ (k <ℤ (process_at m.after.tables m.after.tables.current).priority))))

-- Through the first of these moments process p waits its turn, and in the next its wait is over.
abbrev pub WaitEndsIn : ℕ → ℤ → List Moment → Type 0
WaitEndsIn p k [] = ⊥
WaitEndsIn p k (m ∷ ms) = IsWaitOver p k m ⊎ (WaitsItsTurn p k m.after.tables × WaitEndsIn p k ms)
