-- What is written into the tables without a move keeps what holds of them: a process, a message, a semaphore.
use Rattle.std.proofs.Common.{◌≡◌, ◌≢◌, ℕ, suc, ◌<◌, ◌≤◌, [], length, get_or, set, refl, sym, ap, subst, ◌∙◌, arith, inl, inr, ⊎_elim, Option, Some, None, ℤ, get_or-set_same, get_or-set_other}
use Rattle.std.proofs.Math.ListN.{length-set}
use Rattle.std.proofs.lemmas.Bool.{cases_lt}
use Rattle.xinu_base.specs.declared.processes.Process.{Process}
use Rattle.xinu_base.specs.declared.processes.State.TheVariants.{Free, Ready}
use Rattle.xinu_base.specs.declared.semaphores.Owner.{Owner}
use Rattle.xinu_base.specs.declared.semaphores.Owner.TheVariants.{Device}
use Rattle.xinu_model.specs.Semaphores.Counts.{with_semaphore, with_tokens, make_semaphore}
use Rattle.xinu_model.specs.Sound.Tables.{count_in, ready_places, waiting_places, sleeping_places, CanRun, HasOneKind, FitsOwner, FitsMessage, HaveKeys, entries_of, IsInside, IsFixed, IsUnused, IsSoundTables}
use Rattle.xinu_model.specs.Tables.{no_process, Semaphore, no_semaphore, Tables, process_at, state_at, message_at, semaphore_at}
use Rattle.table_laws.proofs.Lists.Counts.{none_counted, total-set}
use Rattle.table_laws.proofs.Lists.Orders.{all_weaker, all_both, all_have_entries}
use Rattle.table_laws.proofs.Tables.Scheduling.{inside_last_semaphore}
use Rattle.table_laws.proofs.Tables.MoveTo.{by_number}
use Rattle.xinu_model.proofs.States.{ready_of}

-- a process that is written in its old state is in that state, and so are the others
pub state_written : (t : Tables) (q : ℕ) (x : Process) → length t.processes ≡ 64 → q < 64 → x.state ≡ state_at t q
    → (p : ℕ) → (get_or (set t.processes q x) p no_process).state ≡ state_at t p
state_written t q x e w same p = by_number p q (λ r. (get_or (set t.processes q x) r no_process).state ≡ state_at t r)
    (ap (λ (y : Process). y.state) (get_or-set_same t.processes q x no_process (omega arith)) ∙ same)
    (λ n. ap (λ (y : Process). y.state) (get_or-set_other t.processes q p x no_process n))

-- the same of what is left of its call
rest_written : (t : Tables) (q : ℕ) (x : Process) → length t.processes ≡ 64 → q < 64 → x.rest ≡ (process_at t q).rest
    → (p : ℕ) → (get_or (set t.processes q x) p no_process).rest ≡ (process_at t p).rest
rest_written t q x e w same p = by_number p q (λ r. (get_or (set t.processes q x) r no_process).rest ≡ (process_at t r).rest)
    (ap (λ (y : Process). y.rest) (get_or-set_same t.processes q x no_process (omega arith)) ∙ same)
    (λ n. ap (λ (y : Process). y.rest) (get_or-set_other t.processes q p x no_process n))

-- each key is its process's priority, if another process is written that isn't ready
keys_written : (t : Tables) (q : ℕ) (x : Process) → IsInside t → state_at t q ≢ Ready → HaveKeys (set t.processes q x) t.ready
keys_written t q x o idle =
    let key_at = λ (e : ℕ × ℤ). e.1 ≡ (process_at t e.0).priority in
    all_weaker (λ e. (0 < entries_of e.0 t.ready) × key_at e) (λ e. e.1 ≡ (get_or (set t.processes q x) e.0 no_process).priority)
    (λ e h. let n : e.0 ≢ q = λ f. idle
    (subst (λ r. state_at t r ≡ Ready) f (ready_of (state_at t e.0) (subst (λ k. 0 < k) (o.ready e.0) h.0))) in
    h.1 ∙ sym (ap (λ (y : Process). y.priority) (get_or-set_other t.processes q e.0 x no_process n)))
    t.ready (all_both (λ e. 0 < entries_of e.0 t.ready) key_at t.ready (all_have_entries t.ready) o.keys)

-- A process that isn't ready is written in its old state with the same left of its call.
pub inside_process : (t : Tables) (q : ℕ) (x : Process) → IsInside t → q < 64 → state_at t q ≢ Free → state_at t q ≢ Ready
    → x.state ≡ state_at t q → x.rest ≡ (process_at t q).rest → IsInside (record t { processes = set t.processes q x })
inside_process t q x o w alive idle es er =
    let st = state_written t q x o.processes w es in
    let re = rest_written t q x o.processes w er in
    record {
      processes = length-set t.processes q x ∙ o.processes;
      messages = o.messages;
      semaphores = o.semaphores;
      ready = λ p. o.ready p ∙ sym (ap ready_places (st p));
      waiting = λ p. o.waiting p ∙ sym (ap waiting_places (st p));
      sleeping = λ p. o.sleeping p ∙ sym (ap sleeping_places (st p));
      one_current = λ p e. o.one_current p (sym (st p) ∙ e);
      null = subst CanRun (sym (st 0)) o.null;
      null_rest = re 0 ∙ o.null_rest;
      falling = o.falling;
      keys = keys_written t q x o idle;
      rising = o.rising;
      later = o.later;
      one_kind = o.one_kind;
      rests = λ s p h. subst (FitsOwner s (semaphore_at t s).owner) (sym (re p)) (o.rests s p h);
      slots = λ p. subst (λ k. FitsMessage k (get_or (set t.processes q x) p no_process).rest (message_at t p)) (sym (st p))
          (subst (λ k. FitsMessage (state_at t p) k (message_at t p)) (sym (re p)) (o.slots p));
      devices = o.devices;
      no_devices = o.no_devices;
      free = λ p. by_number p q (λ r. IsFixed (get_or (set t.processes q x) r no_process) (message_at t r))
          (λ e. absurd (alive (sym (st q) ∙ e)))
          (λ n. subst (λ y. IsFixed y (message_at t p)) (sym (get_or-set_other t.processes q p x no_process n)) (o.free p));
      unused = o.unused;
    }

-- The current process goes on after that.
pub sound_process : (t : Tables) (q : ℕ) (x : Process) → IsSoundTables t → q < 64 → state_at t q ≢ Free → state_at t q ≢ Ready
    → x.state ≡ state_at t q → x.rest ≡ (process_at t q).rest → IsSoundTables (record t { processes = set t.processes q x })
sound_process t q x k w alive idle es er = record {
  inside = inside_process t q x k.inside w alive idle es er;
  runs = state_written t q x k.inside.processes w es t.current ∙ k.runs;
}

-- A process holds another message, which fits its state and what is left of its call.
pub inside_message : (t : Tables) (q : ℕ) (m : Option ℕ) → IsInside t → q < 64 → state_at t q ≢ Free
    → FitsMessage (state_at t q) (process_at t q).rest m → IsInside (record t { messages = set t.messages q m })
inside_message t q m o w alive f = record {
  processes = o.processes;
  messages = length-set t.messages q m ∙ o.messages;
  semaphores = o.semaphores;
  ready = o.ready;
  waiting = o.waiting;
  sleeping = o.sleeping;
  one_current = o.one_current;
  null = o.null;
  null_rest = o.null_rest;
  falling = o.falling;
  keys = o.keys;
  rising = o.rising;
  later = o.later;
  one_kind = o.one_kind;
  rests = o.rests;
  slots = λ p. by_number p q (λ r. FitsMessage (state_at t r) (process_at t r).rest (get_or (set t.messages q m) r None))
      (subst (FitsMessage (state_at t q) (process_at t q).rest)
      (sym (get_or-set_same t.messages q m None (let e = o.messages in omega arith))) f)
      (λ n. subst (FitsMessage (state_at t p) (process_at t p).rest) (sym (get_or-set_other t.messages q p m None n)) (o.slots p));
  devices = o.devices;
  no_devices = o.no_devices;
  free = λ p. by_number p q (λ r. IsFixed (process_at t r) (get_or (set t.messages q m) r None))
      (λ e. absurd (alive e))
      (λ n. subst (IsFixed (process_at t p)) (sym (get_or-set_other t.messages q p m None n)) (o.free p));
  unused = o.unused;
}

-- A semaphore with an owner that the kernel or a process may have at its number: the first four are the kernel's, and no others.
pub record FitsNumber (sem : ℕ) (owner : Option Owner) : Type 0 where
  pub devices : sem < 4 → owner ≡ Some Device
  pub no_devices : owner ≡ Some Device → sem < 4

-- a semaphore that is written is what it became, and the others are what they were
semaphore_written : (t : Tables) (sem : ℕ) (y : Semaphore) (P : ℕ → Semaphore → Type 0) → length t.semaphores ≡ 128 → sem < 128
    → P sem y → ((r : ℕ) → P r (semaphore_at t r)) → (r : ℕ) → P r (get_or (set t.semaphores sem y) r no_semaphore)
semaphore_written t sem y P e w new old r = by_number r sem (λ k. P k (get_or (set t.semaphores sem y) k no_semaphore))
    (subst (P sem) (sym (get_or-set_same t.semaphores sem y no_semaphore (omega arith))) new)
    (λ n. subst (P r) (sym (get_or-set_other t.semaphores sem r y no_semaphore n)) (old r))

-- A semaphore is written with its old waiters, if it hasn't tokens beside them, and its owner fits them and its number.
pub inside_semaphore : (t : Tables) (sem : ℕ) (y : Semaphore) → IsInside t → sem < 128 → y.waiters ≡ (semaphore_at t sem).waiters
    → HasOneKind y → ((p : ℕ) → 0 < count_in p y.waiters → FitsOwner sem y.owner (process_at t p).rest) → FitsNumber sem y.owner
    → IsUnused y → IsInside (with_semaphore sem y t)
inside_semaphore t sem y o w same kind fits number fixed = record {
  processes = o.processes;
  messages = o.messages;
  semaphores = length-set t.semaphores sem y ∙ o.semaphores;
  ready = o.ready;
  waiting = λ p.
      (let e = total-set (λ x. count_in p x.waiters) t.semaphores sem y no_semaphore (let l = o.semaphores in omega arith) in
      let f = ap (count_in p) same in
      let g = o.waiting p in
      omega arith);
  sleeping = o.sleeping;
  one_current = o.one_current;
  null = o.null;
  null_rest = o.null_rest;
  falling = o.falling;
  keys = o.keys;
  rising = o.rising;
  later = o.later;
  one_kind = semaphore_written t sem y (λ r x. HasOneKind x) o.semaphores w kind o.one_kind;
  rests = semaphore_written t sem y (λ r x. (p : ℕ) → 0 < count_in p x.waiters → FitsOwner r x.owner (process_at t p).rest) o.semaphores w fits o.rests;
  slots = o.slots;
  devices = semaphore_written t sem y (λ r x. r < 4 → x.owner ≡ Some Device) o.semaphores w number.devices o.devices;
  no_devices = semaphore_written t sem y (λ r x. x.owner ≡ Some Device → r < 4) o.semaphores w number.no_devices o.no_devices;
  free = o.free;
  unused = semaphore_written t sem y (λ r x. IsUnused x) o.semaphores w fixed o.unused;
}

-- A semaphore in use gets another number of tokens, if it has none or no waiters.
pub inside_tokens : (t : Tables) (sem n : ℕ) → IsInside t → sem < 128 → (semaphore_at t sem).owner ≢ None
    → HasOneKind (record (semaphore_at t sem) { tokens = n }) → IsInside (with_tokens sem n t)
inside_tokens t sem n o w used kind =
    inside_semaphore t sem (record (semaphore_at t sem) { tokens = n }) o w refl kind (o.rests sem) (record { devices = o.devices sem; no_devices = o.no_devices sem }) (λ e. absurd (used e))

-- The current process goes on after that.
pub sound_tokens : (t : Tables) (sem n : ℕ) → IsSoundTables t → sem < 128 → (semaphore_at t sem).owner ≢ None
    → HasOneKind (record (semaphore_at t sem) { tokens = n }) → IsSoundTables (with_tokens sem n t)
sound_tokens t sem n k w used kind = record { inside = inside_tokens t sem n k.inside w used kind; runs = k.runs }

-- a semaphore with tokens has no waiters
pub no_waiters : (t : Tables) (sem n : ℕ) → IsInside t → (semaphore_at t sem).tokens ≡ suc n → (semaphore_at t sem).waiters ≡ []
no_waiters t sem n o e =
    ⊎_elim (λ (z : (semaphore_at t sem).tokens ≡ 0). absurd (omega arith)) (λ (z : (semaphore_at t sem).waiters ≡ []). z) (o.one_kind sem)

-- and is in use
pub tokens_used : (t : Tables) (sem n : ℕ) → IsInside t → (semaphore_at t sem).tokens ≡ suc n → (semaphore_at t sem).owner ≢ None
tokens_used t sem n o e none = let z = ap (λ (x : Semaphore). x.tokens) (o.unused sem none) in absurd (omega arith)

-- A token is taken.
pub sound_token_taken : (t : Tables) (sem n : ℕ) → IsSoundTables t → sem < 128 → (semaphore_at t sem).tokens ≡ suc n
    → IsSoundTables (with_tokens sem n t)
sound_token_taken t sem n k w e = sound_tokens t sem n k w (tokens_used t sem n k.inside e) (inr (no_waiters t sem n k.inside e))

-- nobody waits on a semaphore that isn't in use
pub free_has_no_waiters : (t : Tables) (sem : ℕ) → IsInside t → (semaphore_at t sem).owner ≡ None → (semaphore_at t sem).waiters ≡ []
free_has_no_waiters t sem o e =
    none_counted (semaphore_at t sem).waiters (λ p h. subst (λ k. FitsOwner sem k (process_at t p).rest) e (o.rests sem p h))

-- a semaphore that isn't in use isn't one of the kernel's
pub free_is_no_device : (t : Tables) (sem : ℕ) → IsInside t → (semaphore_at t sem).owner ≡ None → 4 ≤ sem
free_is_no_device t sem o e = ⊎_elim (λ (h : sem < 4). let f = o.devices sem h in cc) (λ (h : 4 ≤ sem). h) (cases_lt sem 4)

-- nor is one of another owner
pub owned_is_no_device : (t : Tables) (sem : ℕ) → IsInside t → (semaphore_at t sem).owner ≢ Some Device → 4 ≤ sem
owned_is_no_device t sem o n = ⊎_elim (λ (h : sem < 4). absurd (n (o.devices sem h))) (λ (h : 4 ≤ sem). h) (cases_lt sem 4)

-- A semaphore on which nobody waits is given up, which isn't the kernel's.
pub inside_given_up : (t : Tables) (sem : ℕ) → IsInside t → sem < 128 → 4 ≤ sem → (semaphore_at t sem).waiters ≡ []
    → IsInside (with_semaphore sem no_semaphore t)
inside_given_up t sem o w four e =
    inside_semaphore t sem no_semaphore o w (sym e) (inl refl) (λ p h. absurd (omega arith)) (record { devices = λ h. absurd (omega arith); no_devices = λ h. cc }) (λ e. refl)

-- The current process goes on after that.
pub sound_given_up : (t : Tables) (sem : ℕ) → IsSoundTables t → sem < 128 → 4 ≤ sem → (semaphore_at t sem).waiters ≡ []
    → IsSoundTables (with_semaphore sem no_semaphore t)
sound_given_up t sem k w four e = record { inside = inside_given_up t sem k.inside w four e; runs = k.runs }

-- A semaphore that isn't in use is made, for an owner that isn't the kernel.
pub inside_made_semaphore : (t : Tables) (sem tokens : ℕ) (by : Owner) → IsInside t → sem < 128 → (semaphore_at t sem).owner ≡ None
    → by ≢ Device → IsInside (make_semaphore sem by tokens t)
inside_made_semaphore t sem tokens by o w free n =
    let y : Semaphore = record { owner = Some by; tokens = tokens; waiters = [] } in
    let four = free_is_no_device t sem o free in
    inside_last_semaphore (with_semaphore sem y t) sem
    (inside_semaphore t sem y o w (sym (free_has_no_waiters t sem o free)) (inr refl) (λ p h. absurd (omega arith))
    (record { devices = λ h. absurd (omega arith); no_devices = λ e. absurd (n cc) }) (λ e. absurd (cc)))

-- The current process goes on after that.
pub sound_made_semaphore : (t : Tables) (sem tokens : ℕ) (by : Owner) → IsSoundTables t → sem < 128 → (semaphore_at t sem).owner ≡ None
    → by ≢ Device → IsSoundTables (make_semaphore sem by tokens t)
sound_made_semaphore t sem tokens by k w free n = record { inside = inside_made_semaphore t sem tokens by k.inside w free n; runs = k.runs }
