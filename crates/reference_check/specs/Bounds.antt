-- What the counts of a state are at most, by the events before it.
use Rattle.std.specs.Prelude.{ℕ, ◌≤◌}
use Rattle.xinu_model.specs.Files.Syscalls.{files_of}
use Rattle.xinu_model.specs.Machine.{Xinu}
use Rattle.xinu_model.specs.Ports.Queues.{port_at}
use Rattle.xinu_model.specs.Sound.State.{IsSound}

-- A state that is sound, and reached by at most this many events: each is at most one tick, and raises the number of a port by at most one.
-- A disk has at most 65542 blocks, and no event changes how many.
pub record IsWithin (events : ℕ) (s : Xinu) : Type 0 where
  pub sound : IsSound s
  pub ticks : s.tables.ticks ≤ events
  pub numbers : (q : ℕ) → (port_at s.parts.ports q).seq ≤ events
  pub blocks : (files_of s).system.blocks ≤ 65542
