-- What holds of tables and registers inside an event: when a process calls, and before the event of its call is closed.
use Rattle.std.specs.Prelude.{◌≡◌, ◌≢◌, ℕ, false, List, ℤ}
use Rattle.std.specs.List.{AllByRecursion}
use Rattle.xinu_model.specs.Machine.{Xinu, Answer, Returns, Waits, Gone, Panics, Silent, CallResult}
use Rattle.xinu_model.specs.Sound.Tables.{IsInside, IsSoundTables}
use Rattle.xinu_model.specs.Sound.State.{AreHarts}
use Rattle.xinu_model.specs.Tables.{Tables, state_at, is_free}

-- The tables are sound if the caller goes on or the kernel panics, and else they are as inside an event.
abbrev pub FitsAnswer : Answer → Tables → Type 0
FitsAnswer (Returns value) t = IsSoundTables t
FitsAnswer Waits t = IsInside t
FitsAnswer Gone t = IsInside t
FitsAnswer Panics t = IsSoundTables t
FitsAnswer Silent t = IsSoundTables t

-- These replies go to processes that are alive.
abbrev pub AreAlive : Tables → List (ℕ × ℤ) → Type 0
AreAlive t replies = AllByRecursion (λ r. is_free (state_at t r.0) ≡ false) replies

-- What a call keeps of tables and registers before its event is closed, and whom it released.
pub record IsPreserved (result : CallResult) : Type 0 where
  pub tables : FitsAnswer result.answer result.call.state.tables
  pub harts : AreHarts result.call.state.harts
  pub released : AreAlive result.call.state.tables result.call.released

-- What holds of tables and registers when a process calls: it isn't the null process that runs.
pub record MayCall (s : Xinu) : Type 0 where
  pub tables : IsSoundTables s.tables
  pub harts : AreHarts s.harts
  pub not_null : s.tables.current ≢ 0
