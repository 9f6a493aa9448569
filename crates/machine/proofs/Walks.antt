-- Lists that are printed element by element.
use Rattle.std.proofs.Common.{◌≡◌, ◌∙◌, ℕ, zero, suc, ◌+◌, ◌-◌, ◌<◌, ◌≤◌, Bool, true, false, cond, List, [], ◌∷◌, ◌++◌, append_assoc, append-nil, get_or, length, map, take, Option, Some, None, ℤ, refl, sym, ap, subst, arith}
use Rattle.ports.specs.Table.{head_of}
use Rattle.std.specs.Prelude.{find, is_some, not, nat_le, option_map, slice_index_or, IfSome}
use Rattle.std.proofs.lemmas.List.{map-append, take_more}
use Rattle.host_port.specs.Outside.{Outside}
use Rattle.host_port.specs.Printing.{Printing, Prints}
use Rattle.xinu_base.specs.declared.lines.TranscriptLine.{TranscriptLine}
use Rattle.xinu_base.specs.declared.lines.TranscriptLine.TheVariants as line
use Rattle.xinu_model.specs.Semaphores.Counts.{count_of}
use Rattle.xinu_base.specs.declared.processes.Process.{Process}
use Rattle.xinu_model.specs.Heap.Cells.{Block}
use Rattle.xinu_model.specs.Pools.Buffers.{BufferPool, no_pool, pool_at}
use Rattle.xinu_model.specs.Ports.Queues.{MessagePort, PortQueue, no_port, port_at, queued}
use Rattle.xinu_model.specs.Tables.{message_at, no_process, no_semaphore, process_at, Semaphore, semaphore_at, Tables}
use Rattle.xinu_model.specs.Text.{is_shown, pool_line, pool_lines, port_line, port_lines, process_line, process_lines, semaphore_line, semaphore_lines, shown}
use Rattle.machine.proofs.ShownLines.{shown_both, shown_nothing}
use Rattle.freelist_memory.proofs.Rest.{found_above}

-- Of the lines of a list those before the rest were printed.
pub record PrintedUpTo {A : Type 0} (line : A → TranscriptLine) (all rest : List A) (before after : Printing) (was is : Outside) : Type 0 where
  pub done : List TranscriptLine
  pub whole : map line all ≡ done ++ map line rest
  pub prints : Prints before after was is (shown before.plain done)

-- At the start nothing was.
pub printed_start : {A : Type 0} (line : A → TranscriptLine) (all rest : List A) (out : Printing) (host : Outside) → rest ≡ all → PrintedUpTo line all rest out out host host
printed_start line all rest out host e = record { done = []; whole = ap (map line) (sym e); prints = shown_nothing out host }

-- One line more was printed.
pub printed_next : {A : Type 0} (line : A → TranscriptLine) (all rest left : List A) (x : A) (a b c : Printing) (h i j : Outside) → rest ≡ x ∷ left
    → PrintedUpTo line all rest a b h i → Prints b c i j (shown b.plain (line x ∷ [])) → PrintedUpTo line all left a c h j
printed_next line all rest left x a b c h i j e so_far one = record {
  done = so_far.done ++ line x ∷ [];
  whole = so_far.whole ∙ ap (λ l. so_far.done ++ map line l) e ∙ sym (append_assoc so_far.done (line x ∷ []) (map line left));
  prints = shown_both a b c h i j so_far.done (line x ∷ []) so_far.prints one;
}

-- At the end all were.
pub printed_all : {A : Type 0} (line : A → TranscriptLine) (all rest : List A) (a b : Printing) (h i : Outside) → rest ≡ [] → PrintedUpTo line all rest a b h i
    → Prints a b h i (shown a.plain (map line all))
printed_all line all rest a b h i e so_far =
    let same : so_far.done ≡ map line all = sym (append-nil so_far.done) ∙ sym (ap (λ l. so_far.done ++ map line l) e) ∙ sym so_far.whole in
    subst (λ l. Prints a b h i (shown a.plain l)) same so_far.prints

-- how far the end of RAM is from a block
abbrev pub room_from : Option Block → ℕ
room_from None = 0
room_from (Some b) = suc (1048576 - b.0)

-- the lines of one process more
pub process_lines_more : (k n : ℕ) (ps : List Process) (ms : List (Option ℕ)) → n < length ps
    → process_lines k (take (n + 1) ps) ms ≡ process_lines k (take n ps) ms ++ process_line (k + n) (slice_index_or ps n no_process) (slice_index_or ms (k + n) None)
process_lines_more k n [] ms h = absurd (omega (arith, h))
process_lines_more k zero (x ∷ ps) ms h =
    let e : k ≡ k + 0 = omega arith in
    append-nil (process_line k x (slice_index_or ms k None)) ∙ ap (λ m. process_line m x (slice_index_or ms m None)) e
process_lines_more k (suc n) (x ∷ ps) ms h =
    let here = process_line k x (slice_index_or ms k None) in
    let e : k + 1 + n ≡ k + suc n = omega arith in
    let f : suc n + 1 ≡ suc (n + 1) = omega arith in
    ap (λ m. process_lines k (take m (x ∷ ps)) ms) f
    ∙ ap (λ l. here ++ l) (process_lines_more (k + 1) n ps ms (omega (arith, h)) ∙ ap (λ m. process_lines (k + 1) (take n ps) ms ++ process_line m (slice_index_or ps n no_process) (slice_index_or ms m None)) e)
    ∙ sym (append_assoc here (process_lines (k + 1) (take n ps) ms) (process_line (k + suc n) (slice_index_or ps n no_process) (slice_index_or ms (k + suc n) None)))

-- The lines of the elements so far were printed, and the next one's.
pub printed_more : {A : Type 0} (line : A → TranscriptLine) (l : List A) (k : ℕ) (x : A) (a b c : Printing) (h i j : Outside) → k < length l → x ≡ get_or l k x
    → Prints a b h i (shown a.plain (map line (take k l))) → Prints b c i j (shown b.plain (line x ∷ [])) → Prints a c h j (shown a.plain (map line (take (k + 1) l)))
printed_more line l k x a b c h i j within is so_far one =
    let more : map line (take k l) ++ line x ∷ [] ≡ map line (take (k + 1) l) =
    sym (map-append line (take k l) (x ∷ []))
    ∙ ap (λ y. map line (take k l ++ y ∷ [])) is ∙ sym (ap (map line) (take_more l k x within)) in
    subst (λ ls. Prints a c h j (shown a.plain ls)) more (shown_both a b c h i j (map line (take k l)) (line x ∷ []) so_far one)

-- The processes so far were printed, and one more.
pub printed_process : (t : Tables) (n : ℕ) (a b c : Printing) (h i j : Outside) → n < length t.processes
    → Prints a b h i (shown a.plain (process_lines 0 (take n t.processes) t.messages)) → Prints b c i j (shown b.plain (process_line n (process_at t n) (message_at t n)))
    → Prints a c h j (shown a.plain (process_lines 0 (take (n + 1) t.processes) t.messages))
printed_process t n a b c h i j within so_far one =
    let e : 0 + n ≡ n = omega arith in
    let line = process_line n (process_at t n) (message_at t n) in
    let more : process_lines 0 (take n t.processes) t.messages ++ line ≡ process_lines 0 (take (n + 1) t.processes) t.messages =
    ap (λ m. process_lines 0 (take n t.processes) t.messages ++ process_line m (process_at t n) (message_at t m)) (sym e) ∙ sym (process_lines_more 0 n t.processes t.messages within) in
    subst (λ ls. Prints a c h j (shown a.plain ls)) more (shown_both a b c h i j (process_lines 0 (take n t.processes) t.messages) line so_far one)

-- a block that was found isn't empty and lies in RAM
pub both_known : (o : Option Block) → IfSome o (λ b. 0 < b.1) → IfSome o (λ b. b.0 + b.1 ≤ 1048576) → IfSome o (λ b. (0 < b.1) × (b.0 + b.1 ≤ 1048576))
both_known None a b = tt
both_known (Some x) a b = (a, b)

-- the next block is nearer to the end of RAM
pub room_smaller : (blocks : List Block) (o n : Option Block) (address bytes : ℕ) → o ≡ Some (address, bytes) → IfSome o (λ b. (0 < b.1) × (b.0 + b.1 ≤ 1048576))
    → n ≡ find (λ b. nat_le (address + bytes) b.0) blocks → room_from n < room_from o
room_smaller blocks o None address bytes is known found = let e = ap room_from is in omega arith
room_smaller blocks o (Some b) address bytes is known found =
    let P : Option Block → Type 0 = λ o. IfSome o (λ b. (0 < b.1) × (b.0 + b.1 ≤ 1048576)) in
    let k = subst P is known in
    let some = k.0 in
    let within = k.1 in
    let later = found_above (address + bytes) blocks b (sym found) in
    let e = ap room_from is in omega arith

-- the lines of one semaphore more
semaphore_lines_more : (k n : ℕ) (l : List Semaphore) → n < length l
    → semaphore_lines k (take (n + 1) l) ≡ semaphore_lines k (take n l) ++ semaphore_line (k + n) (slice_index_or l n no_semaphore)
semaphore_lines_more k n [] h = absurd (omega (arith, h))
semaphore_lines_more k zero (x ∷ l) h =
    let e : k ≡ k + 0 = omega arith in append-nil (semaphore_line k x) ∙ ap (λ m. semaphore_line m x) e
semaphore_lines_more k (suc n) (x ∷ l) h =
    let here = semaphore_line k x in
    let e : k + 1 + n ≡ k + suc n = omega arith in
    let f : suc n + 1 ≡ suc (n + 1) = omega arith in
    ap (λ m. semaphore_lines k (take m (x ∷ l))) f
    ∙ ap (λ r. here ++ r) (semaphore_lines_more (k + 1) n l (omega (arith, h)) ∙ ap (λ m. semaphore_lines (k + 1) (take n l) ++ semaphore_line m (slice_index_or l n no_semaphore)) e)
    ∙ sym (append_assoc here (semaphore_lines (k + 1) (take n l)) (semaphore_line (k + suc n) (slice_index_or l n no_semaphore)))

-- The semaphores so far were printed, and one more.
pub printed_semaphore : (t : Tables) (n sem : ℕ) (a b c : Printing) (h i j : Outside) → n < length t.semaphores → sem ≡ n
    → Prints a b h i (shown a.plain (semaphore_lines 0 (take n t.semaphores))) → Prints b c i j (shown b.plain (semaphore_line sem (semaphore_at t sem)))
    → Prints a c h j (shown a.plain (semaphore_lines 0 (take (n + 1) t.semaphores)))
printed_semaphore t n sem a b c h i j within is so_far one =
    let e : 0 + n ≡ n = omega arith in
    let more : semaphore_lines 0 (take n t.semaphores) ++ semaphore_line sem (semaphore_at t sem) ≡ semaphore_lines 0 (take (n + 1) t.semaphores) =
    ap (λ m. semaphore_lines 0 (take n t.semaphores) ++ semaphore_line m (semaphore_at t m)) is
    ∙ ap (λ m. semaphore_lines 0 (take n t.semaphores) ++ semaphore_line m (semaphore_at t n)) (sym e) ∙ sym (semaphore_lines_more 0 n t.semaphores within) in
    subst (λ ls. Prints a c h j (shown a.plain ls)) more (shown_both a b c h i j (semaphore_lines 0 (take n t.semaphores)) (semaphore_line sem (semaphore_at t sem)) so_far one)

-- the lines of one pool more
pool_lines_more : (k n : ℕ) (l : List BufferPool) → n < length l → pool_lines k (take (n + 1) l) ≡ pool_lines k (take n l) ++ pool_line (k + n) (slice_index_or l n no_pool)
pool_lines_more k n [] h = absurd (omega (arith, h))
pool_lines_more k zero (x ∷ l) h =
    let e : k ≡ k + 0 = omega arith in append-nil (pool_line k x) ∙ ap (λ m. pool_line m x) e
pool_lines_more k (suc n) (x ∷ l) h =
    let here = pool_line k x in
    let e : k + 1 + n ≡ k + suc n = omega arith in
    let f : suc n + 1 ≡ suc (n + 1) = omega arith in
    ap (λ m. pool_lines k (take m (x ∷ l))) f
    ∙ ap (λ r. here ++ r) (pool_lines_more (k + 1) n l (omega (arith, h)) ∙ ap (λ m. pool_lines (k + 1) (take n l) ++ pool_line m (slice_index_or l n no_pool)) e)
    ∙ sym (append_assoc here (pool_lines (k + 1) (take n l)) (pool_line (k + suc n) (slice_index_or l n no_pool)))

-- The pools so far were printed, and one more.
pub printed_pool : (pools : List BufferPool) (n pool : ℕ) (a b c : Printing) (h i j : Outside) → n < length pools → pool ≡ n
    → Prints a b h i (shown a.plain (pool_lines 0 (take n pools))) → Prints b c i j (shown b.plain (pool_line pool (pool_at pools pool)))
    → Prints a c h j (shown a.plain (pool_lines 0 (take (n + 1) pools)))
printed_pool pools n pool a b c h i j within is so_far one =
    let e : 0 + n ≡ n = omega arith in
    let more : pool_lines 0 (take n pools) ++ pool_line pool (pool_at pools pool) ≡ pool_lines 0 (take (n + 1) pools) =
    ap (λ m. pool_lines 0 (take n pools) ++ pool_line m (pool_at pools m)) is
    ∙ ap (λ m. pool_lines 0 (take n pools) ++ pool_line m (pool_at pools n)) (sym e) ∙ sym (pool_lines_more 0 n pools within) in
    subst (λ ls. Prints a c h j (shown a.plain ls)) more (shown_both a b c h i j (pool_lines 0 (take n pools)) (pool_line pool (pool_at pools pool)) so_far one)

-- the lines of one port more
port_lines_more : (k n : ℕ) (l : List MessagePort) → n < length l
    → port_lines k (take (n + 1) l) ≡ port_lines k (take n l) ++ port_line (k + n) (slice_index_or l n no_port).seq (slice_index_or l n no_port).queue
port_lines_more k n [] h = absurd (omega (arith, h))
port_lines_more k zero (x ∷ l) h =
    let e : k ≡ k + 0 = omega arith in append-nil (port_line k x.seq x.queue) ∙ ap (λ m. port_line m x.seq x.queue) e
port_lines_more k (suc n) (x ∷ l) h =
    let here = port_line k x.seq x.queue in
    let next = slice_index_or l n no_port in
    let e : k + 1 + n ≡ k + suc n = omega arith in
    let f : suc n + 1 ≡ suc (n + 1) = omega arith in
    ap (λ m. port_lines k (take m (x ∷ l))) f
    ∙ ap (λ r. here ++ r) (port_lines_more (k + 1) n l (omega (arith, h)) ∙ ap (λ m. port_lines (k + 1) (take n l) ++ port_line m next.seq next.queue) e)
    ∙ sym (append_assoc here (port_lines (k + 1) (take n l)) (port_line (k + suc n) next.seq next.queue))

-- The ports so far were printed, and one more.
pub printed_port : (ports : List MessagePort) (n port : ℕ) (a b c : Printing) (h i j : Outside) → n < length ports → port ≡ n
    → Prints a b h i (shown a.plain (port_lines 0 (take n ports)))
    → Prints b c i j (shown b.plain (port_line port (port_at ports port).seq (port_at ports port).queue))
    → Prints a c h j (shown a.plain (port_lines 0 (take (n + 1) ports)))
printed_port ports n port a b c h i j within is so_far one =
    let e : 0 + n ≡ n = omega arith in
    let L : ℕ → List TranscriptLine = λ m. port_line m (port_at ports m).seq (port_at ports m).queue in
    let more : port_lines 0 (take n ports) ++ L port ≡ port_lines 0 (take (n + 1) ports) =
    ap (λ m. port_lines 0 (take n ports) ++ L m) is
    ∙ ap (λ m. port_lines 0 (take n ports) ++ port_line m (port_at ports n).seq (port_at ports n).queue) (sym e) ∙ sym (port_lines_more 0 n ports within) in
    subst (λ ls. Prints a c h j (shown a.plain ls)) more (shown_both a b c h i j (port_lines 0 (take n ports)) (L port) so_far one)

-- A port in use was printed, and its messages.
pub port_printed : (q : ℕ) (port : MessagePort) (seq : ℕ) (messages : List ℕ) (a b c : Printing) (h i j : Outside) → is_some port.queue ≡ true → seq ≡ port.seq
    → messages ≡ queued port.queue → Prints a b h i (shown a.plain (line.Port q seq (length messages) ∷ []))
    → Prints b c i j (shown b.plain (map (line.Node q) messages)) → Prints a c h j (shown a.plain (port_line q port.seq port.queue))
port_printed q port seq messages a b c h i j used is are first nodes =
    let L : ℕ → List ℕ → List TranscriptLine = λ n l. line.Port q n (length l) ∷ map (line.Node q) l in
    subst (λ ls. Prints a c h j (shown a.plain ls)) (ap (λ n. L n messages) is ∙ ap (L port.seq) are ∙ in_use port.queue used)
    (shown_both a b c h i j (line.Port q seq (length messages) ∷ []) (map (line.Node q) messages) first nodes)
  where
    in_use : (o : Option PortQueue) → is_some o ≡ true → line.Port q port.seq (length (queued o)) ∷ map (line.Node q) (queued o) ≡ port_line q port.seq o
    in_use None u = absurd (cc)
    in_use (Some queue) u = refl

-- whether a port is in use is seen by its head
pub used_by_head : (o : Option PortQueue) → is_some (option_map head_of o) ≡ is_some o
used_by_head None = refl
used_by_head (Some queue) = refl

-- what isn't false is true
pub not_false : (b : Bool) → not b ≡ false → b ≡ true
not_false true h = refl
not_false false h = absurd (cc)

-- A semaphore that is shown was printed, and those who wait on it.
pub shown_printed : (sem : ℕ) (x : Semaphore) (count : ℤ) (a b c : Printing) (h i j : Outside) → is_shown x ≡ true → count ≡ count_of x
    → Prints a b h i (shown a.plain (line.Semaphore sem count ∷ [])) → Prints b c i j (shown b.plain (map (line.Waiter sem) x.waiters))
    → Prints a c h j (shown a.plain (semaphore_line sem x))
shown_printed sem x count a b c h i j is_so are first waiters =
    let lines : List TranscriptLine = line.Semaphore sem (count_of x) ∷ map (line.Waiter sem) x.waiters in
    let all : line.Semaphore sem count ∷ map (line.Waiter sem) x.waiters ≡ semaphore_line sem x =
    ap (λ n. line.Semaphore sem n ∷ map (line.Waiter sem) x.waiters) are ∙ sym (ap (λ b. cond b lines []) is_so) in
    subst (λ ls. Prints a c h j (shown a.plain ls)) all (shown_both a b c h i j (line.Semaphore sem count ∷ []) (map (line.Waiter sem) x.waiters) first waiters)
