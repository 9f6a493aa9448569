-- A state is stuck if and only if its tables say so.
use Rattle.std.proofs.Common.{◌≡◌, ◌≢◌, ⊎_elim, ℕ, zero, suc, ◌+◌, ◌<◌, ◌≤◌, ◌==◌, ◌&&◌, ◌||◌, not, Bool, true, false, cond, List, [], ◌∷◌, ◌++◌, length, map, get_or, Option, Some, None, refl, sym, ap, subst, ◌∙◌, arith}
use Rattle.std.specs.Prelude.{nat_le, nat_lt, drop}
use Rattle.std.specs.List.{list_all, list_any}
use Rattle.std.proofs.lemmas.Bool.{and_from, and_parts, cases_lt, cond_both, le-leb, leb-true, ltb-false, ne_eqb, or_parts, true≢false}
use Rattle.std.proofs.lemmas.List.Folds.{list_all-append, list_any-append}
use Rattle.xinu_base.specs.declared.lines.TranscriptLine.{TranscriptLine}
use Rattle.xinu_base.specs.declared.lines.TranscriptLine.TheVariants as line
use Rattle.xinu_base.specs.declared.processes.Process.{Process}
use Rattle.xinu_model.specs.Devices.State.{Devices}
use Rattle.xinu_model.specs.Files.Constants.{LFILE0}
use Rattle.xinu_model.specs.Files.Systems.{FileSystem, OpenFile}
use Rattle.xinu_model.specs.Heap.Cells.{free_blocks}
use Rattle.xinu_model.specs.Machine.{Xinu}
use Rattle.xinu_model.specs.Pools.Buffers.{BufferPool}
use Rattle.xinu_model.specs.Ports.Queues.{MessagePort, PortQueue}
use Rattle.xinu_model.specs.Semaphores.Counts.{count_of, is_images}
use Rattle.xinu_model.specs.Tables.{no_process, no_semaphore, Semaphore, is_free}
use Rattle.xinu_model.specs.Text.{device_lines, free_line, is_shown, open_file_line, open_file_lines, pool_line, pool_lines, port_line, port_lines, process_line, process_lines, ready_line, semaphore_line, semaphore_lines, sleeper_line, tables_of}
use Rattle.xinu_model.proofs.States.{free_of}
use Rattle.scheduling_laws.specs.Stuck.{is_held, is_held_line, is_life, told_stuck, IsStuck}

-- Lines that say nothing of it.
abbrev ArePlain : List TranscriptLine → Type 0
ArePlain l = (list_all is_held_line l ≡ true) × (list_any is_life l ≡ false)

or_false : (b : Bool) → b || false ≡ b
or_false true = refl
or_false false = refl

and_true : (b : Bool) → b && true ≡ b
and_true true = refl
and_true false = refl

plain_append : (xs ys : List TranscriptLine) → ArePlain xs → ArePlain ys → ArePlain (xs ++ ys)
plain_append xs ys h k = (
  list_all-append is_held_line xs ys ∙ and_from (list_all is_held_line xs) (list_all is_held_line ys) h.0 k.0,
  list_any-append is_life xs ys ∙ ap (λ b. b || list_any is_life ys) h.1 ∙ k.1,
)

plain_map : {A : Type 0} (f : A → TranscriptLine) → ((x : A) → ArePlain (f x ∷ [])) → (l : List A) → ArePlain (map f l)
plain_map f h [] = (refl, refl)
plain_map f h (x ∷ l) = plain_append (f x ∷ []) (map f l) (h x) (plain_map f h l)

plain_pools : (i : ℕ) (l : List BufferPool) → ArePlain (pool_lines i l)
plain_pools i [] = (refl, refl)
plain_pools i (x ∷ l) = plain_append (pool_line i x) (pool_lines (i + 1) l) (plain_map (line.Buffer i) (λ a. (refl, refl)) x.free) (plain_pools (i + 1) l)

plain_port : (q seq : ℕ) (queue : Option PortQueue) → ArePlain (port_line q seq queue)
plain_port q seq None = (refl, refl)
plain_port q seq (Some queue) = plain_map (line.Node q) (λ a. (refl, refl)) queue.messages

plain_ports : (q : ℕ) (l : List MessagePort) → ArePlain (port_lines q l)
plain_ports q [] = (refl, refl)
plain_ports q (x ∷ l) = plain_append (port_line q x.seq x.queue) (port_lines (q + 1) l) (plain_port q x.seq x.queue) (plain_ports (q + 1) l)

plain_file : (dev : ℕ) (found : Option OpenFile) (s : FileSystem) → ArePlain (open_file_line dev found s)
plain_file dev None s = (refl, refl)
plain_file dev (Some f) s = (refl, refl)

plain_files : (dev : ℕ) (l : List (Option OpenFile)) (s : FileSystem) → ArePlain (open_file_lines dev l s)
plain_files dev [] s = (refl, refl)
plain_files dev (x ∷ l) s = plain_append (open_file_line dev x s) (open_file_lines (dev + 1) l s) (plain_file dev x s) (plain_files (dev + 1) l s)

plain_devices : (d : Devices) → ArePlain (device_lines d)
plain_devices d = plain_append (open_file_lines LFILE0 d.files.system.devices d.files.system) (_ ∷ []) (plain_files LFILE0 d.files.system.devices d.files.system) (refl, refl)

-- What more lines say, if some of them are plain.
says : (xs ys : List TranscriptLine) → ArePlain ys → (list_all is_held_line (xs ++ ys) ≡ list_all is_held_line xs) × (list_any is_life (xs ++ ys) ≡ list_any is_life xs)
says xs ys h = (
  list_all-append is_held_line xs ys ∙ ap (λ b. list_all is_held_line xs && b) h.0 ∙ and_true (list_all is_held_line xs),
  list_any-append is_life xs ys ∙ ap (λ b. list_any is_life xs || b) h.1 ∙ or_false (list_any is_life xs),
)

-- the lines of a semaphore tell of no process
no_life_waits : (sem : ℕ) (ws : List ℕ) → list_any is_life (map (line.Waiter sem) ws) ≡ false
no_life_waits sem [] = refl
no_life_waits sem (w ∷ ws) = no_life_waits sem ws

no_lives : (sem : ℕ) (l : List Semaphore) → list_any is_life (semaphore_lines sem l) ≡ false
no_lives sem [] = refl
no_lives sem (x ∷ l) =
    list_any-append is_life (semaphore_line sem x) (semaphore_lines (sem + 1) l)
    ∙ ap (λ b. b || list_any is_life (semaphore_lines (sem + 1) l))
    (cond_both (is_shown x) (line.Semaphore sem (count_of x) ∷ map (line.Waiter sem) x.waiters) [] (λ ls. list_any is_life ls ≡ false)
    (λ _. no_life_waits sem x.waiters) (λ _. refl))
    ∙ no_lives (sem + 1) l

-- They say that nobody waits on a device's semaphore.
none_waits : (sem : ℕ) (x : Semaphore) (ws : List ℕ) → x.waiters ≡ ws → sem < 4 → list_all is_held_line (semaphore_line sem x) ≡ true → x.waiters ≡ []
none_waits sem x [] e few h = e
none_waits sem x (w ∷ ws) e few h =
    cond_both (is_shown x) (line.Semaphore sem (count_of x) ∷ map (line.Waiter sem) x.waiters) [] (λ ls. list_all is_held_line ls ≡ true → x.waiters ≡ [])
    (λ _ g.
    let told : nat_le 4 sem && list_all is_held_line (map (line.Waiter sem) ws) ≡ true = subst (λ l. list_all is_held_line (map (line.Waiter sem) l) ≡ true) e g in
    let four = leb-true 4 sem (and_parts (nat_le 4 sem) (list_all is_held_line (map (line.Waiter sem) ws)) told).0 in absurd (omega arith))
    (λ b _.
    let none = ltb-false 0 (length x.waiters) (or_parts (is_images x.owner) (nat_lt 0 (length x.waiters)) b).1 in
    let some : length x.waiters ≡ suc (length ws) = ap length e in absurd (omega arith)) h

first_semaphore : (sem : ℕ) (x : Semaphore) (l : List Semaphore) → list_all is_held_line (semaphore_lines sem (x ∷ l)) ≡ true
    → (list_all is_held_line (semaphore_line sem x) ≡ true) × (list_all is_held_line (semaphore_lines (sem + 1) l) ≡ true)
first_semaphore sem x l h =
    and_parts (list_all is_held_line (semaphore_line sem x)) (list_all is_held_line (semaphore_lines (sem + 1) l))
    (sym (list_all-append is_held_line (semaphore_line sem x) (semaphore_lines (sem + 1) l)) ∙ h)

waits_for_none : (sem : ℕ) (l : List Semaphore) → list_all is_held_line (semaphore_lines sem l) ≡ true → (i : ℕ) → sem + i < 4
    → (get_or l i no_semaphore).waiters ≡ []
waits_for_none sem [] h i few = refl
waits_for_none sem (x ∷ l) h zero few = none_waits sem x x.waiters refl (omega arith) (first_semaphore sem x l h).0
waits_for_none sem (x ∷ l) h (suc j) few = waits_for_none (sem + 1) l (first_semaphore sem x l h).1 j (omega arith)

-- and say it if it is so
held_waits : (sem : ℕ) (ws : List ℕ) → 4 ≤ sem → list_all is_held_line (map (line.Waiter sem) ws) ≡ true
held_waits sem [] more = refl
held_waits sem (w ∷ ws) more = and_from (nat_le 4 sem) (list_all is_held_line (map (line.Waiter sem) ws)) (le-leb 4 sem more) (held_waits sem ws more)

held_semaphore : (sem : ℕ) (x : Semaphore) → (sem < 4 → x.waiters ≡ []) → list_all is_held_line (semaphore_line sem x) ≡ true
held_semaphore sem x h =
    cond_both (is_shown x) (line.Semaphore sem (count_of x) ∷ map (line.Waiter sem) x.waiters) [] (λ ls. list_all is_held_line ls ≡ true)
    (λ _. ⊎_elim (λ (few : sem < 4). ap (λ ws. list_all is_held_line (map (line.Waiter sem) ws)) (h few)) (λ (more : 4 ≤ sem). held_waits sem x.waiters more)
    (cases_lt sem 4)) (λ _. refl)

held_semaphores : (sem : ℕ) (l : List Semaphore) → ((i : ℕ) → sem + i < 4 → (get_or l i no_semaphore).waiters ≡ [])
    → list_all is_held_line (semaphore_lines sem l) ≡ true
held_semaphores sem [] h = refl
held_semaphores sem (x ∷ l) h =
    list_all-append is_held_line (semaphore_line sem x) (semaphore_lines (sem + 1) l)
    ∙ and_from (list_all is_held_line (semaphore_line sem x)) (list_all is_held_line (semaphore_lines (sem + 1) l))
    (held_semaphore sem x (λ few. h 0 (omega arith))) (held_semaphores (sem + 1) l (λ i few. h (suc i) (omega arith)))

-- The lines of processes say that each is held,
held_by_line : (p : ℕ) (x : Process) (m : Option ℕ) → p ≢ 0 → list_all is_held_line (process_line p x m) ≡ true → is_held x.state ≡ true
held_by_line p x m n h =
    cond_both (is_free x.state) [] (line.Process p x.state x.priority x.parent m x.name ∷ []) (λ ls. list_all is_held_line ls ≡ true → is_held x.state ≡ true)
    (λ b _. ap is_held (free_of x.state b))
    (λ _ g. sym (ap (λ b. b || is_held x.state) (ne_eqb p 0 n)) ∙ (and_parts ((p == 0) || is_held x.state) true g).0) h

first_process : (p : ℕ) (x : Process) (l : List Process) (messages : List (Option ℕ)) → list_all is_held_line (process_lines p (x ∷ l) messages) ≡ true
    → (list_all is_held_line (process_line p x (get_or messages p None)) ≡ true) × (list_all is_held_line (process_lines (p + 1) l messages) ≡ true)
first_process p x l messages h =
    and_parts (list_all is_held_line (process_line p x (get_or messages p None))) (list_all is_held_line (process_lines (p + 1) l messages))
    (sym (list_all-append is_held_line (process_line p x (get_or messages p None)) (process_lines (p + 1) l messages)) ∙ h)

held_by_lines : (p : ℕ) (l : List Process) (messages : List (Option ℕ)) → list_all is_held_line (process_lines p l messages) ≡ true → (i : ℕ) → p + i ≢ 0
    → is_held (get_or l i no_process).state ≡ true
held_by_lines p [] messages h i n = refl
held_by_lines p (x ∷ l) messages h zero n =
    held_by_line p x (get_or messages p None) (λ e. n (omega arith)) (first_process p x l messages h).0
held_by_lines p (x ∷ l) messages h (suc j) n = held_by_lines (p + 1) l messages (first_process p x l messages h).1 j (λ e. absurd (omega arith))

-- if it is so,
held_line : (p : ℕ) (x : Process) (m : Option ℕ) → (p ≢ 0 → is_held x.state ≡ true) → list_all is_held_line (process_line p x m) ≡ true
held_line p x m h =
    cond_both (is_free x.state) [] (line.Process p x.state x.priority x.parent m x.name ∷ []) (λ ls. list_all is_held_line ls ≡ true)
    (λ _. refl) (λ _. and_from ((p == 0) || is_held x.state) true by_number refl)
  where
    by_number : (p == 0) || is_held x.state ≡ true
    by_number =
        cond_both (p == 0) true (is_held x.state) (λ b. (p == 0) || is_held x.state ≡ true)
        (λ b. ap (λ c. c || is_held x.state) b) (λ b. ap (λ c. c || is_held x.state) b ∙ h (λ e. true≢false (sym (ap (λ r. r == 0) e) ∙ b)))

held_lines : (p : ℕ) (l : List Process) (messages : List (Option ℕ)) → ((i : ℕ) → p + i ≢ 0 → is_held (get_or l i no_process).state ≡ true)
    → list_all is_held_line (process_lines p l messages) ≡ true
held_lines p [] messages h = refl
held_lines p (x ∷ l) messages h =
    list_all-append is_held_line (process_line p x (get_or messages p None)) (process_lines (p + 1) l messages)
    ∙ and_from (list_all is_held_line (process_line p x (get_or messages p None))) (list_all is_held_line (process_lines (p + 1) l messages))
    (held_line p x (get_or messages p None) (λ n. h 0 (λ e. n (omega arith)))) (held_lines (p + 1) l messages (λ i n. h (suc i) (λ e. absurd (omega arith))))

-- and that somebody lives.
lives_by_lines : (p : ℕ) (l : List Process) (messages : List (Option ℕ)) → 0 < p
    → list_any is_life (process_lines p l messages) ≡ not (list_all (λ (x : Process). is_free x.state) l)
lives_by_lines p [] messages more = refl
lives_by_lines p (x ∷ l) messages more =
    list_any-append is_life (process_line p x (get_or messages p None)) (process_lines (p + 1) l messages)
    ∙ ap (λ b. list_any is_life (process_line p x (get_or messages p None)) || b) (lives_by_lines (p + 1) l messages (omega arith))
    ∙ by_state (is_free x.state) refl
  where
    by_state : (b : Bool) → is_free x.state ≡ b
        → list_any is_life (process_line p x (get_or messages p None)) || not (list_all (λ (x : Process). is_free x.state) l)
        ≡ not (is_free x.state && list_all (λ (x : Process). is_free x.state) l)
    by_state true e =
        ap (λ b. list_any is_life (cond b [] (line.Process p x.state x.priority x.parent (get_or messages p None) x.name ∷ []))
        || not (list_all (λ (x : Process). is_free x.state) l)) e
        ∙ sym (ap (λ b. not (b && list_all (λ (x : Process). is_free x.state) l)) e)
    by_state false e =
        ap (λ b. list_any is_life (cond b [] (line.Process p x.state x.priority x.parent (get_or messages p None) x.name ∷ []))
        || not (list_all (λ (x : Process). is_free x.state) l)) e
        ∙ ap (λ b. (not b || false) || not (list_all (λ (x : Process). is_free x.state) l)) (ne_eqb p 0 (λ f. absurd (omega arith)))
        ∙ sym (ap (λ b. not (b && list_all (λ (x : Process). is_free x.state) l)) e)

lives_after_null : (l : List Process) (messages : List (Option ℕ))
    → list_any is_life (process_lines 0 l messages) ≡ not (list_all (λ (x : Process). is_free x.state) (drop 1 l))
lives_after_null [] messages = refl
lives_after_null (x ∷ l) messages =
    list_any-append is_life (process_line 0 x (get_or messages 0 None)) (process_lines 1 l messages)
    ∙ ap (λ b. b || list_any is_life (process_lines 1 l messages))
    (cond_both (is_free x.state) [] (line.Process 0 x.state x.priority x.parent (get_or messages 0 None) x.name ∷ []) (λ ls. list_any is_life ls ≡ false)
    (λ _. refl) (λ _. refl))
    ∙ lives_by_lines 1 l messages (omega arith)

-- The tables say what the lines of processes and semaphores do.
tables_say : (s : Xinu)
    → (list_all is_held_line (tables_of s)
    ≡ list_all is_held_line (process_lines 0 s.tables.processes s.tables.messages) && list_all is_held_line (semaphore_lines 0 s.tables.semaphores))
    × (list_any is_life (tables_of s) ≡ list_any is_life (process_lines 0 s.tables.processes s.tables.messages))
tables_say s =
    let t = s.tables in
    let ps = process_lines 0 t.processes t.messages in
    let sems = semaphore_lines 0 t.semaphores in
    let a = ps ++ map ready_line t.ready in
    let b = a ++ sems in
    let c = b ++ map sleeper_line t.sleepers in
    let d = c ++ map free_line (free_blocks s.parts.heap) in
    let e = d ++ pool_lines 0 s.parts.pools in
    let f = e ++ port_lines 0 s.parts.ports in
    let x1 = says ps (map ready_line t.ready) (plain_map ready_line (λ x. (refl, refl)) t.ready) in
    let x3 = says b (map sleeper_line t.sleepers) (plain_map sleeper_line (λ x. (refl, refl)) t.sleepers) in
    let x4 = says c (map free_line (free_blocks s.parts.heap)) (plain_map free_line (λ x. (refl, refl)) (free_blocks s.parts.heap)) in
    let x5 = says d (pool_lines 0 s.parts.pools) (plain_pools 0 s.parts.pools) in
    let x6 = says e (port_lines 0 s.parts.ports) (plain_ports 0 s.parts.ports) in
    let x7 = says f (device_lines s.parts.devices) (plain_devices s.parts.devices) in (
      x7.0 ∙ x6.0 ∙ x5.0 ∙ x4.0 ∙ x3.0 ∙ list_all-append is_held_line a sems ∙ ap (λ v. v && list_all is_held_line sems) x1.0,
      x7.1 ∙ x6.1 ∙ x5.1 ∙ x4.1 ∙ x3.1 ∙ list_any-append is_life a sems ∙ ap (λ v. list_any is_life a || v) (no_lives 0 t.semaphores)
          ∙ or_false (list_any is_life a) ∙ x1.1,
    )

-- not of false is true alone
not_of : (b : Bool) → not b ≡ true → b ≡ false
not_of false h = refl
not_of true h = cc

-- So a state whose tables say so is stuck,
pub stuck_if_told : (s : Xinu) → told_stuck (tables_of s) ≡ true → IsStuck s.tables
stuck_if_told s h =
    let t = s.tables in
    let say = tables_say s in
    let both = and_parts (list_any is_life (tables_of s)) (list_all is_held_line (tables_of s)) h in
    let parts = and_parts (list_all is_held_line (process_lines 0 t.processes t.messages)) (list_all is_held_line (semaphore_lines 0 t.semaphores)) (sym say.0 ∙ both.1) in
    record {
      somebody = not_of (list_all (λ (x : Process). is_free x.state) (drop 1 t.processes)) (sym (lives_after_null t.processes t.messages) ∙ sym say.1 ∙ both.0);
      held = λ p n. held_by_lines 0 t.processes t.messages parts.0 p (λ e. n (omega arith));
      devices = λ sem few. waits_for_none 0 t.semaphores parts.1 sem (omega arith);
    }

-- and those of a stuck one do.
pub told_if_stuck : (s : Xinu) → IsStuck s.tables → told_stuck (tables_of s) ≡ true
told_if_stuck s z =
    let t = s.tables in
    let say = tables_say s in
    and_from (list_any is_life (tables_of s)) (list_all is_held_line (tables_of s))
    (say.1 ∙ lives_after_null t.processes t.messages ∙ ap not z.somebody)
    (say.0 ∙ and_from (list_all is_held_line (process_lines 0 t.processes t.messages)) (list_all is_held_line (semaphore_lines 0 t.semaphores))
    (held_lines 0 t.processes t.messages (λ i n. z.held i (λ e. n (omega arith)))) (held_semaphores 0 t.semaphores (λ i few. z.devices i (omega arith))))
