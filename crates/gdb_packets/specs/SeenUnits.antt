-- The units of the code.
use Rattle.gdb_packets.specs.Units as spec
use Rattle.gdb_packets.specs.declared.units.InputUnit.{InputUnit}
use Rattle.gdb_packets.specs.declared.units.InputUnit.TheVariants.{Packet, Damaged, Accepted, Refused, Interrupt, Noise, Partial}

-- the unit that the code has
abbrev pub seen : InputUnit → spec.InputUnit
seen (Packet bytes) = spec.Packet (spec.unescaped bytes.now)
seen Damaged = spec.Damaged
seen Accepted = spec.Accepted
seen Refused = spec.Refused
seen Interrupt = spec.Interrupt
seen Noise = spec.Noise
seen Partial = spec.Partial
