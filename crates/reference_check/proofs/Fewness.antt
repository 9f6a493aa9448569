-- A sound state holds no more than its lines can say.
use Rattle.std.proofs.Common.{◌≡◌, ◌∙◌, ◌+◌, ◌<◌, ◌≤◌, ◌==◌, ◌++◌, ℕ, zero, suc, Bool, true, false, not, cond, List, [], ◌∷◌, length, length-append, Option, Some, None, refl, sym, ap, subst, arith, inl, inr}
use Rattle.std.proofs.lemmas.Bool.{cases_eq, cases_lt}
use Rattle.std.proofs.lemmas.List.{get_or_past}
use Rattle.std.specs.List.{AllByRecursion}
use Rattle.std.specs.Prelude.{IfSome, IsSome}
use Rattle.reference_boot.specs.Few.{AreFew}
use Rattle.reference_files.proofs.Small.{sound_is_small}
use Rattle.reference_files.specs.Sizes.{IsSmall}
use Rattle.reference_check.specs.Bounds.{IsWithin}
use Rattle.table_laws.proofs.Lists.Counts.{get_or-le-total, none_counted, numbers_without_other, numbers_without_same}
use Rattle.table_laws.proofs.Tables.Unblock.{waiter_waits}
use Rattle.xinu_base.specs.declared.processes.Process.{Process}
use Rattle.xinu_base.specs.declared.processes.State.TheVariants.{Free, Waiting}
use Rattle.xinu_model.specs.Files.Syscalls.{files_of}
use Rattle.xinu_model.specs.Files.Work.{FileRequest}
use Rattle.xinu_model.specs.Machine.{Xinu}
use Rattle.xinu_model.specs.Pools.Buffers.{BufferPool, no_pool, pool_at}
use Rattle.xinu_model.specs.Ports.Queues.{MessagePort, PortQueue, nodes, port_at, queued}
use Rattle.xinu_model.specs.RawDisk.Callers.{HaveCallers, callers, living}
use Rattle.xinu_model.specs.RawDisk.Requests.{Request}
use Rattle.xinu_model.specs.Sound.Pools.{ArePools}
use Rattle.xinu_model.specs.Sound.Tables.{IsInside, count_in}
use Rattle.xinu_model.specs.Tables.{Tables, no_process, no_semaphore, numbers_without, process_at, semaphore_at, state_at}
use Rattle.table_laws.proofs.Tables.Signals.{at_most_one}

-- without a number a list is as much shorter as it is counted
length_first : (b : Bool) (x : ℕ) (rest : List ℕ) (n m : ℕ) → length rest + n ≡ m → length (cond (not b) (x ∷ rest) rest) + cond b (suc n) n ≡ suc m
length_first true x rest n m e = omega arith
length_first false x rest n m e = omega arith

length_without : (q : ℕ) (l : List ℕ) → length (numbers_without q l) + count_in q l ≡ length l
length_without q [] = refl
length_without q (x ∷ l) = length_first (x == q) x (numbers_without q l) (count_in q l) (length l) (length_without q l)

-- a list of numbers below n, each of which is in it once at most, has at most n
pub length_by_counts : (n : ℕ) (l : List ℕ) → ((p : ℕ) → 0 < count_in p l → p < n) → ((p : ℕ) → count_in p l ≤ 1) → length l ≤ n
length_by_counts zero l below once =
    let none : l ≡ [] = none_counted l (λ p h. let f = below p h in omega arith) in let e = ap length none in omega (arith, e)
length_by_counts (suc n) l below once =
    let rest : length (numbers_without n l) ≤ n = length_by_counts n (numbers_without n l) (λ p h. others p h) (λ p. fewer p) in
    let e = length_without n l in
    let f = once n in
    omega arith
  where
    others : (p : ℕ) → 0 < count_in p (numbers_without n l) → p < n
    others p h = elim (cases_eq p n) [
      | inl e ↦ (let f = numbers_without_same n l in let g = ap (λ q. count_in q (numbers_without n l)) e in absurd (omega (arith, f, g, h)))
      | inr ne ↦ (let f = below p (subst (λ k. 0 < k) (numbers_without_other p n l ne) h) in omega (arith, f, ne))
    ]

    fewer : (p : ℕ) → count_in p (numbers_without n l) ≤ 1
    fewer p = elim (cases_eq p n) [
      | inl e ↦ (let f = numbers_without_same n l in let g = ap (λ q. count_in q (numbers_without n l)) e in omega (arith, f, g))
      | inr ne ↦ (let f = numbers_without_other p n l ne in let g = once p in omega (arith, f, g))
    ]

-- who waits has a number
waits_within : (t : Tables) (p : ℕ) → IsInside t → state_at t p ≡ Waiting → p < 64
waits_within t p o waits = elim (cases_lt p 64) [
  | inl lt ↦ lt
  | inr le ↦ (
      let e = o.processes in
      let past : process_at t p ≡ no_process = get_or_past t.processes p no_process (omega (arith, e, le)) in
      let f : Free ≡ Waiting = sym (ap (λ (x : Process). x.state) past) ∙ waits in
      absurd (cc))
]

-- At most 64 processes wait on a semaphore.
pub few_waiters : (t : Tables) (sem : ℕ) → IsInside t → length (semaphore_at t sem).waiters ≤ 64
few_waiters t sem o =
    length_by_counts 64 (semaphore_at t sem).waiters (λ p h. waits_within t p o (waiter_waits t sem p o h))
    (λ p. let l = get_or-le-total (λ x. count_in p x.waiters) t.semaphores sem no_semaphore refl in
    let e = o.waiting p in
    let f = at_most_one (state_at t p) in
    omega arith)

-- A pool has at most as many free buffers as buffers.
pub few_buffers : (t : Tables) (pools : List BufferPool) (i : ℕ) → ArePools t pools → length (pool_at pools i).free ≤ (pool_at pools i).number
few_buffers t pools i k = elim (cases_lt i (length pools)) [
  | inl lt ↦ (let n = (k.each i lt).number in omega (arith, n))
  | inr le ↦ (
      let past : pool_at pools i ≡ no_pool = get_or_past pools i no_pool le in
      let free = ap (λ (x : BufferPool). length x.free) past in
      omega (arith, free))
]

-- A port has no more messages than all ports.
queued_at_most : (ports : List MessagePort) (q : ℕ) → length (queued (port_at ports q).queue) ≤ nodes ports
queued_at_most [] q = omega arith
queued_at_most (port ∷ ports) zero = omega arith
queued_at_most (port ∷ ports) (suc q) = let l = queued_at_most ports q in omega arith

pub few_messages : (ports : List MessagePort) (q : ℕ) → nodes ports ≤ 100
    → IfSome (port_at ports q).queue (λ (queue : PortQueue). length queue.messages ≤ 4294967295)
few_messages ports q few = by_queue (port_at ports q).queue (queued_at_most ports q)
  where
    by_queue : (x : Option PortQueue) → length (queued x) ≤ nodes ports → IfSome x (λ (queue : PortQueue). length queue.messages ≤ 4294967295)
    by_queue None h = tt
    by_queue (Some queue) h = omega arith

-- there are as many requests as callers, or one more
living_first : (o : Option ℕ) (rest : List ℕ) (n : ℕ) → IsSome o → length rest ≡ n → length (living o ++ rest) ≡ suc n
living_first None rest n some e = absurd (cc)
living_first (Some p) rest n some e = ap suc e

living_callers : {A : Type 0} (caller : A → Option ℕ) (l : List A) → AllByRecursion (λ a. IsSome (caller a)) l → length (callers caller l) ≡ length l
living_callers caller [] all = refl
living_callers caller (a ∷ l) all = living_first (caller a) (callers caller l) (length l) all.0 (living_callers caller l all.1)

few_asked : {A : Type 0} (caller : A → Option ℕ) (l : List A) → HaveCallers caller l → length l ≤ length (callers caller l) + 1
few_asked caller [] have = omega arith
few_asked caller (a ∷ l) have =
    let e = living_callers caller l have in let f = length-append (living (caller a)) (callers caller l) in omega (arith, e, f)

-- At most 65 calls on files are under way.
pub few_calls : (n : ℕ) (s : Xinu) → IsWithin n s → length (files_of s).calls ≤ 65
few_calls n s w =
    let files = w.sound.devices.files in
    let waiters = few_waiters s.tables 3 w.sound.tables.inside in
    let same = ap length files.waiters in
    let calls = few_asked (λ (a : FileRequest). a.caller) (files_of s).calls files.itself.callers in
    omega (arith, waiters, same, calls)

-- A state within bounds holds no more than its lines can say.
pub few_within : (n : ℕ) (s : Xinu) → IsWithin n s → AreFew s
few_within n s w =
    let small : IsSmall (files_of s).system = sound_is_small (files_of s).system w.sound.devices.files.itself.system w.blocks in
    let t = w.sound.tables.inside in
    let console = w.sound.devices.console.itself in
    let disk = w.sound.devices.disk in
    let waiters = few_waiters s.tables 2 t in
    let same = ap length disk.waiters in
    let requests = few_asked (λ (r : Request). r.caller) s.parts.devices.disk.requests disk.itself.callers in
    record {
      tables = record { semaphores = (let e = t.semaphores in omega (arith, e)); waiters = λ sem. few_waiters s.tables sem t };
      pools = w.sound.pools.few;
      buffers = λ i. few_buffers s.tables s.parts.pools i w.sound.pools;
      ports = (let e = w.sound.ports.many in omega (arith, e));
      messages = λ q. few_messages s.parts.ports q w.sound.ports.few;
      console = record {
        committed = (let h = console.input in omega (arith, h));
        line = (let h = console.input in omega (arith, h));
        output = (let h = console.output in omega (arith, h));
        echo = (let h = console.echo in omega (arith, h));
      };
      requests = omega (arith, waiters, same, requests);
      files = record {
        devices = (let e = w.sound.devices.files.itself.system.six in omega (arith, e));
        bytes = λ f. (let h = small.sizes f.name in omega (arith, h));
      };
    }

-- What is within bounds is so after more events.
pub within_more : (n k : ℕ) (s : Xinu) → n ≤ k → IsWithin n s → IsWithin k s
within_more n k s more w = record {
  sound = w.sound;
  ticks = (let h = w.ticks in omega (arith, h));
  numbers = λ q. (let h = w.numbers q in omega (arith, h));
  blocks = w.blocks;
}
