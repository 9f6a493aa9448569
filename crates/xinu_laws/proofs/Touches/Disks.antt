-- What is left of a call on a disk touches the tables alone, and keeps what holds of them.
use Rattle.std.proofs.Common.{Option, Some, None, refl, ℤ}
use Rattle.xinu_model.specs.Footprints.{on_tables}
use Rattle.xinu_model.specs.Messages.{held}
use Rattle.xinu_model.specs.RawDisk.Calls.{go_on_disk}
use Rattle.table_laws.proofs.Preserve.{Preserves, goes_on_may_call}
use Rattle.xinu_laws.proofs.Touches.{StaysIn, touches_refl}
use Rattle.xinu_laws.proofs.Touches.Moves.{touches_goes_on}

pub go_on_disk_touches : (reply : Option ℤ) → StaysIn on_tables (go_on_disk reply)
go_on_disk_touches None s k = touches_refl s
go_on_disk_touches (Some value) s k = touches_goes_on refl (held s) s k.tables.runs

pub go_on_disk_preserves : (reply : Option ℤ) → Preserves (go_on_disk reply)
go_on_disk_preserves None s c = record { tables = c.tables; harts = c.harts; released = tt }
go_on_disk_preserves (Some value) s c = let k = goes_on_may_call (held s) s c in record { tables = k.tables; harts = k.harts; released = tt }
