-- The state inside an event with another heap.
use Rattle.xinu_model.specs.Heap.Cells.{Heap}
use Rattle.xinu_model.specs.Machine.{CallState}

abbrev pub with_heap : Heap → CallState → CallState
with_heap heap d = record d { state = record d.state { parts = record d.state.parts { heap = heap } } }
