-- What the host in memory that never fails shows of the outside.
use Rattle.std.specs.Prelude.{ℕ, List, [], Option, Some, map, unwrap_or}
use Rattle.std.specs.Option.{option_map}
use Rattle.std.specs.BTreeMap.{get_by_text}
use Rattle.host_port.specs.declared.quiet.QuietMemoryHost.{QuietMemoryHost}
use Rattle.host_port.specs.Outside.{Outside}
use Rattle.host_port.specs.Recording.{host_call_of}

-- the bytes of the file that was added under this name
abbrev pub added : QuietMemoryHost → List ℕ → Option (List ℕ)
added h name = option_map (λ v. v.items) (get_by_text h.files name)

-- the host: every name is a file, empty until it is added, and there are no faults
abbrev pub quiet_view : QuietMemoryHost → Outside
quiet_view h = record {
  file = λ name. Some (unwrap_or (added h name) []);
  out = Some h.out.items;
  fault = Some h.fault.items;
  disk0 = Some h.disk0.items;
  disk1 = Some h.disk1.items;
  image = Some h.image.items;
  calls = Some (map host_call_of h.calls.items);
  faults = 0;
}

-- the host, in which a file that wasn't added is unobservable
abbrev pub added_view : QuietMemoryHost → Outside
added_view h = record (quiet_view h) { file = added h }

-- a host with no files, on which nothing was sent and of which no call was made
abbrev pub quiet_empty : Outside
quiet_empty = record {
  file = λ name. Some [];
  out = Some [];
  fault = Some [];
  disk0 = Some [];
  disk1 = Some [];
  image = Some [];
  calls = Some [];
  faults = 0;
}
