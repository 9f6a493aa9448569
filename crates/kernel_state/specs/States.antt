-- What the kernel's state stands for.
use Rattle.kernel_state.specs.Values.{KernelValue}
use Rattle.kernel_state.specs.declared.state.KernelState.TheInside.{Inside}
use Rattle.xinu_model.specs.Machine.{CallState}

-- the state inside an event
abbrev pub kernel_state : Inside → CallState
kernel_state k = record {
  state = record {
    tables = k.tables;
    harts = k.harts;
    memory = k.ram;
    parts = record {
      heap = k.heap;
      pools = k.pools;
      ports = k.ports.ports;
      next_port = k.ports.next_port;
      devices = record { console = k.tty; names = k.names; disk = k.disk; files = k.files.work };
    };
  };
  released = k.replies.items;
  owes_resched = k.owes_resched;
}

-- that and the bytes of the disk with files
abbrev pub kernel_value : Inside → KernelValue
kernel_value k = record { call = kernel_state k; image = k.files.image }
