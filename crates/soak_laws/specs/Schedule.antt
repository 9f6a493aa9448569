-- The events of a soak test's schedule.
use Rattle.xinu_base.specs.declared.events.Event.{Event}
use Rattle.xinu_base.specs.declared.events.Event.TheVariants.{Step, Tick, Key, Tx, Disk0, Disk1, Fail0, Fail1, Dump}

-- an event that a schedule draws: none of the raw disk's, and no dump
abbrev pub IsDrawn : Event → Type 0
IsDrawn Step = Unit {0}
IsDrawn Tick = Unit {0}
IsDrawn (Key b) = Unit {0}
IsDrawn Tx = Unit {0}
IsDrawn Disk0 = ⊥
IsDrawn Disk1 = Unit {0}
IsDrawn Fail0 = ⊥
IsDrawn Fail1 = Unit {0}
IsDrawn Dump = ⊥
