-- The names of events.
use Rattle.std.specs.Prelude.{ℕ, List, codes}
use Rattle.xinu_base.specs.declared.events.Event.{Event}
use Rattle.xinu_base.specs.declared.events.Event.TheVariants.{Step, Tick, Key, Tx, Disk0, Fail0, Disk1, Fail1, Dump}

-- the name of an event, as a schedule has it
unfoldable pub event_name : Event → List ℕ
event_name Step = codes "step"
event_name Tick = codes "tick"
event_name (Key b) = codes "type"
event_name Tx = codes "tx"
event_name Disk0 = codes "disk0"
event_name Fail0 = codes "fail0"
event_name Disk1 = codes "disk1"
event_name Fail1 = codes "fail1"
event_name Dump = codes "dump"
