-- Who sleeps or waits for a message, and until when (book, chapter 13).
use Rattle.std.specs.Prelude.{◌≡◌, ℕ, ◌<◌, ◌==◌, ◌&&◌}
use Rattle.xinu_base.specs.declared.processes.State.{State}
use Rattle.xinu_base.specs.declared.processes.State.TheVariants.{Sleeping, Timed}
use Rattle.xinu_model.specs.Sound.Tables.{times}
use Rattle.xinu_model.specs.Tables.{Tables, state_at}

-- Process p is in this state, and it has tick w among the sleepers.
abbrev pub IsUntil : State → ℕ → ℕ → Tables → Type 0
IsUntil state p w t = (state_at t p ≡ state) × (0 < times (λ e. (e.0 == p) && (e.1 == w)) t.sleepers)

-- Process p sleeps, and wakes at tick w.
abbrev pub SleepsUntil : ℕ → ℕ → Tables → Type 0
SleepsUntil p w t = IsUntil Sleeping p w t

-- Process p waits for a message, but no longer than until tick w.
abbrev pub ReceivesUntil : ℕ → ℕ → Tables → Type 0
ReceivesUntil p w t = IsUntil Timed p w t
