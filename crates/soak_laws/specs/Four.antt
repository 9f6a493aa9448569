-- Four processes and the null process: who is alive while four programs run that neither end nor make others.
use Rattle.std.specs.Prelude.{◌≡◌, ℕ, ◌≤◌, nat_lt, List}
use Rattle.std.specs.List.{AllByRecursion}
use Rattle.xinu_base.specs.declared.processes.Process.{Process}
use Rattle.xinu_base.specs.declared.processes.Rest.{Rest}
use Rattle.xinu_base.specs.declared.processes.Rest.TheVariants as rest
use Rattle.xinu_model.specs.Tables.{Tables, process_at, semaphore_at, is_free}

-- what may be left of a call that one of the programs makes
abbrev pub MayBeLeft : Rest → Type 0
MayBeLeft rest.Nothing = Unit {0}
MayBeLeft rest.Receive = Unit {0}
MayBeLeft rest.Timed = Unit {0}
MayBeLeft (rest.GetBuf i) = Unit {0}
MayBeLeft (rest.TtyPut b returned) = Unit {0}
MayBeLeft (rest.TtyWrite part returned) = Unit {0}
MayBeLeft (rest.Disk reply) = Unit {0}
MayBeLeft _ = ⊥

-- What is at number p of the process table: 0 to 4 are alive, and no other number is.
pub record IsEntry (p : ℕ) (x : Process) : Type 0 where
  pub lives : is_free x.state ≡ nat_lt 4 p
  pub left : MayBeLeft x.rest

-- these numbers are at most 4
abbrev pub AreFew : List ℕ → Type 0
AreFew l = AllByRecursion (λ p. p ≤ 4) l

-- so are those of entries with keys
abbrev pub HaveFew : {K : Type 0} → List (ℕ × K) → Type 0
HaveFew l = AllByRecursion (λ e. e.0 ≤ 4) l

-- The null process and four others are alive, in calls that the programs make, and no list names another one.
pub record AreFour (t : Tables) : Type 0 where
  pub entries : (p : ℕ) → IsEntry p (process_at t p)
  pub current : t.current ≤ 4
  pub ready : HaveFew t.ready
  pub waiters : (sem : ℕ) → AreFew (semaphore_at t sem).waiters
  pub sleepers : HaveFew t.sleepers
