-- How a process dies (book, chapter 5).
use Rattle.std.specs.Prelude.{ℕ, slice_set, None, unwrap_or}
use Rattle.xinu_base.specs.declared.processes.Process.{Process}
use Rattle.xinu_model.specs.Devices.State.{given_up}
use Rattle.xinu_model.specs.Heap.Cells.{free_stack}
use Rattle.xinu_model.specs.Machine.{Xinu, no_hart, Gone, CallState, CallResult, start}
use Rattle.xinu_model.specs.Messages.{sent}
use Rattle.xinu_model.specs.Tables.{no_process, process_at, move_to, Nowhere}

-- p is dead: its stack is free, unless the heap refuses it, so is its number, and what it asked of disks is given up
abbrev pub reap : ℕ → Process → CallState → CallState
reap p x d =
    record d {
      state = record d.state {
        tables = move_to p no_process None Nowhere d.state.tables;
        harts = slice_set d.state.harts p no_hart;
        parts = record d.state.parts {
          heap = unwrap_or (free_stack x.stack x.stack_size d.state.parts.heap) d.state.parts.heap;
          devices = given_up p d.state.parts.devices;
        };
      };
    }

-- p dies: its parent is sent its number, and it is reaped
abbrev pub killed : ℕ → CallState → CallState
killed p d =
    let x = process_at d.state.tables p in reap p x (sent x.parent p d)

-- call 9, and the end of a process that is trapped or returns from its first function: the caller dies
abbrev pub exit : Xinu → CallResult
exit s = record { call = killed s.tables.current (start s); answer = Gone }
