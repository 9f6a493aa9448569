-- Who holds a lock.
use Rattle.std.specs.Prelude.{◌≡◌, ℕ, true, List, Some}
use Rattle.printed_runs.specs.Semaphores.{usage}
use Rattle.printed_runs.specs.declared.notes.Note.{Note}
use Rattle.printed_runs.specs.declared.usages.Usage.{Usage}
use Rattle.printed_runs.specs.declared.usages.User.{User}

-- A semaphore is used as a lock, and this process took it last and didn't signal it.
pub record Holds (usage : Usage) (user : User) : Type 0 where
  pub lock : usage.is_lock ≡ true
  pub held : usage.is_held ≡ true
  pub taker : usage.taker ≡ Some user

-- By what was said, this process holds the lock with this number.
abbrev pub IsHolder : List Note → ℕ → User → Type 0
IsHolder said s user = Holds (usage said s) user
