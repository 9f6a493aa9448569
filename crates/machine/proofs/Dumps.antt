-- The tables are printed one after another.
use Rattle.std.proofs.Common.{◌≡◌, ◌∙◌, ℕ, List, [], ◌∷◌, ◌++◌, map, ap, subst}
use Rattle.host_port.specs.Outside.{Outside}
use Rattle.host_port.specs.Printing.{Printing, Prints}
use Rattle.xinu_base.specs.declared.lines.TranscriptLine.{TranscriptLine}
use Rattle.xinu_base.specs.declared.lines.TranscriptLine.TheVariants.{Now}
use Rattle.xinu_model.specs.Heap.Cells.{free_blocks, Heap}
use Rattle.xinu_model.specs.Machine.{Xinu}
use Rattle.xinu_model.specs.Pools.Buffers.{BufferPool}
use Rattle.xinu_model.specs.Ports.Queues.{MessagePort}
use Rattle.xinu_model.specs.Tables.{Tables}
use Rattle.xinu_model.specs.Text.{device_lines, free_line, pool_lines, port_lines, process_lines, ready_line, semaphore_lines, shown, sleeper_line, tables_of}
use Rattle.machine.proofs.ShownLines.{shown_both}

-- What was printed of a state's tables are all their lines.
pub tables_printed : (s : Xinu) (t : Tables) (h : Heap) (pools : List BufferPool) (ports : List MessagePort) (devices : List TranscriptLine) (ticks quantum : ℕ) (a b c d e f g x y z : Printing) (i j k l m n o p q r : Outside)
    → t ≡ s.tables → h ≡ s.parts.heap → pools ≡ s.parts.pools → ports ≡ s.parts.ports → devices ≡ device_lines s.parts.devices → ticks ≡ t.ticks → quantum ≡ t.quantum
    → Prints a b i j (shown a.plain (Now ticks quantum ∷ [])) → Prints b c j k (shown b.plain (process_lines 0 t.processes t.messages))
    → Prints c d k l (shown c.plain (map ready_line t.ready)) → Prints d e l m (shown d.plain (semaphore_lines 0 t.semaphores))
    → Prints e f m n (shown e.plain (map sleeper_line t.sleepers)) → Prints f g n o (shown f.plain (map free_line (free_blocks h)))
    → Prints g x o p (shown g.plain (pool_lines 0 pools)) → Prints x y p q (shown x.plain (port_lines 0 ports)) → Prints y z q r (shown y.plain devices)
    → Prints a z i r (shown a.plain (tables_of s))
tables_printed s t h pools ports devices ticks quantum a b c d e f g x y z i j k l m n o p q r same is_heap are_pools are_ports at_end are_ticks is_quantum now processes ready semaphores sleepers free made used last =
    let one : List TranscriptLine = Now ticks quantum ∷ [] in
    let two = one ++ process_lines 0 t.processes t.messages in
    let three = two ++ map ready_line t.ready in
    let four = three ++ semaphore_lines 0 t.semaphores in
    let five = four ++ map sleeper_line t.sleepers in
    let six = five ++ map free_line (free_blocks h) in
    let seven = six ++ pool_lines 0 pools in
    let eight = seven ++ port_lines 0 ports in
    let first : Tables → ℕ → ℕ → List TranscriptLine = λ t ticks quantum. Now ticks quantum ∷ process_lines 0 t.processes t.messages ++ map ready_line t.ready
    ++ semaphore_lines 0 t.semaphores ++ map sleeper_line t.sleepers in
    let lines : Tables → ℕ → ℕ → List TranscriptLine = λ t ticks quantum. first t ticks quantum ++ map free_line (free_blocks h) ++ pool_lines 0 pools ++ port_lines 0 ports ++ devices in
    let all : lines t ticks quantum ≡ tables_of s =
    ap (λ n. lines t n quantum) are_ticks ∙ ap (λ n. lines t t.ticks n) is_quantum ∙ ap (λ (t : Tables). lines t t.ticks t.quantum) same
    ∙ ap (λ h. first s.tables s.tables.ticks s.tables.quantum ++ map free_line (free_blocks h) ++ pool_lines 0 pools ++ port_lines 0 ports ++ devices) is_heap
    ∙ ap (λ pools. first s.tables s.tables.ticks s.tables.quantum ++ map free_line (free_blocks s.parts.heap) ++ pool_lines 0 pools ++ port_lines 0 ports ++ devices) are_pools
    ∙ ap (λ ports. first s.tables s.tables.ticks s.tables.quantum ++ map free_line (free_blocks s.parts.heap) ++ pool_lines 0 s.parts.pools ++ port_lines 0 ports ++ devices) are_ports
    ∙ ap (λ (ls : List TranscriptLine). first s.tables s.tables.ticks s.tables.quantum ++ map free_line (free_blocks s.parts.heap) ++ pool_lines 0 s.parts.pools ++ port_lines 0 s.parts.ports ++ ls) at_end in
    subst (λ ls. Prints a z i r (shown a.plain ls)) all
    (shown_both a y z i q r eight devices
    (shown_both a x y i p q seven (port_lines 0 ports)
    (shown_both a g x i o p six (pool_lines 0 pools)
    (shown_both a f g i n o five (map free_line (free_blocks h))
    (shown_both a e f i m n four (map sleeper_line t.sleepers)
    (shown_both a d e i l m three (semaphore_lines 0 t.semaphores)
    (shown_both a c d i k l two (map ready_line t.ready)
    (shown_both a b c i j k one (process_lines 0 t.processes t.messages) now processes) ready) semaphores) sleepers) free) made) used) last)
