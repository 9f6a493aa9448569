-- Which parts of the state a call may change.
use Rattle.std.specs.Prelude.{Bool, true, false}

-- Besides the processes, their messages and semaphores, and the sleepers, which any call may change: whether it may change the heap, the
-- stacks of processes, where pools lie, the pools, the ports, the console, the name space, the raw disk, files with their calls, and RAM.
pub record Footprint : Type 0 where
  pub heap : Bool
  pub stacks : Bool
  pub ranges : Bool
  pub pools : Bool
  pub ports : Bool
  pub console : Bool
  pub names : Bool
  pub disk : Bool
  pub files : Bool
  pub ram : Bool

-- processes, messages, semaphores of processes and the sleepers
abbrev pub on_tables : Footprint
on_tables = record {
  heap = false;
  stacks = false;
  ranges = false;
  pools = false;
  ports = false;
  console = false;
  names = false;
  disk = false;
  files = false;
  ram = false;
}

-- the heap too
abbrev pub on_heap : Footprint
on_heap = record on_tables { heap = true }

-- the heap and the stacks of processes
abbrev pub on_processes : Footprint
on_processes = record on_heap { stacks = true }

-- a process that dies gives up what it asked of disks
abbrev pub on_deaths : Footprint
on_deaths = record on_processes { disk = true; files = true }

-- the pools, which stay where they lie
abbrev pub on_pools : Footprint
on_pools = record on_tables { pools = true }

-- the pools, and RAM, where a buffer's pool is written
abbrev pub on_buffers : Footprint
on_buffers = record on_pools { ram = true }

-- a pool more, from the heap
abbrev pub on_new_pool : Footprint
on_new_pool = record on_pools { heap = true; ranges = true }

-- the ports
abbrev pub on_ports : Footprint
on_ports = record on_tables { ports = true }

-- the ports, and the pools to which their messages are given back
abbrev pub on_ports_and_pools : Footprint
on_ports_and_pools = record on_ports { pools = true }

-- the console, and RAM, where a read puts its bytes
abbrev pub on_console : Footprint
on_console = record on_tables { console = true; ram = true }

-- the raw disk
abbrev pub on_disk : Footprint
on_disk = record on_tables { disk = true }

-- the raw disk as it completes a request, whose bytes it brings to RAM
abbrev pub on_completion : Footprint
on_completion = record on_disk { ram = true }

-- files
abbrev pub on_files : Footprint
on_files = record on_tables { files = true }

-- files as a call on them takes effect, whose bytes it brings to RAM
abbrev pub on_effects : Footprint
on_effects = record on_files { ram = true }

-- the console or files
abbrev pub on_console_or_files : Footprint
on_console_or_files = record on_console { files = true }

-- the console, the raw disk or files
abbrev pub on_devices : Footprint
on_devices = record on_console_or_files { disk = true }

-- the name space
abbrev pub on_names : Footprint
on_names = record on_tables { names = true }
