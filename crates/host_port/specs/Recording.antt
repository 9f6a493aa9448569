-- The list of calls that a host in memory keeps.
use Rattle.std.specs.String.{string_bytes}
use Rattle.host_port.specs.declared.recorded.RecordedCall.{RecordedCall}
use Rattle.host_port.specs.Outside.{HostCall}

-- a call as it was written down
abbrev pub host_call_of : RecordedCall → HostCall
host_call_of call = record { name = string_bytes call.name; channel = call.channel }
