-- The events that are no steps: the programs run on, whatever comes.
use Rattle.std.proofs.Common.{List, None, Option, Some, [], ap, arith, false, length, refl, subst, suc, sym, take, true, zero, ℕ, ⊎_elim, ◌+◌, ◌-◌, ◌<◌, ◌∙◌, ◌∷◌, ◌≡◌, ◌≢◌, ◌≤◌}
use Rattle.std.proofs.lemmas.Bool.{cases_lt, cond_both}
use Rattle.std.proofs.lemmas.List.{get_or-set_other}
use Rattle.table_laws.proofs.Lists.Counts.{none_counted}
use Rattle.xinu_base.specs.declared.events.Event.{Event}
use Rattle.xinu_base.specs.declared.events.Event.TheVariants.{Disk0, Disk1, Dump, Fail0, Fail1, Key, Step, Tick, Tx}
use Rattle.xinu_base.specs.declared.lines.TranscriptLine.{TranscriptLine}
use Rattle.xinu_base.specs.declared.lines.TranscriptLine.TheVariants.{Con}
use Rattle.xinu_base.specs.declared.processes.Process.{Process}
use Rattle.xinu_base.specs.declared.semaphores.Owner.{Owner}
use Rattle.xinu_base.specs.declared.semaphores.Owner.TheVariants.{Device}
use Rattle.xinu_model.specs.Console.Receiving.{received}
use Rattle.xinu_model.specs.Console.Signals.{keyed, sent_in}
use Rattle.xinu_model.specs.Console.State.{Console}
use Rattle.xinu_model.specs.Console.Taking.{console_of, with_console}
use Rattle.xinu_model.specs.Console.Transmitting.{Sent, transmitted}
use Rattle.xinu_model.specs.Events.{effect_of}
use Rattle.xinu_model.specs.Files.Syscalls.{completed_in}
use Rattle.xinu_model.specs.Machine.{CallState, EventResult, Silent, Xinu, end_of_event, start, unblock_all, with_tables}
use Rattle.xinu_model.specs.RawDisk.Calls.{disk_of, served_in}
use Rattle.xinu_model.specs.RawDisk.Completions.{first_served}
use Rattle.xinu_model.specs.Semaphores.Counts.{with_tokens}
use Rattle.xinu_model.specs.Semaphores.Waiting.{signal_first, signalled, signalled_times}
use Rattle.xinu_model.specs.Sound.Tables.{FitsDevice, FitsOwner}
use Rattle.xinu_model.specs.Tables.{Tables, process_at, semaphore_at}
use Rattle.xinu_base.specs.declared.processes.Rest.TheVariants as rest
use Rattle.program_logic.proofs.Threads.{IsIdle}
use Rattle.program_logic.proofs.Turns.{Turns, turned_same, turns_same, turns_through}
use Rattle.program_logic.specs.Outlines.{System}
use Rattle.program_logic.specs.Running.{Runs}

-- ---- nobody is in a call, and nobody sleeps

-- what holds of the null process, of those of the programs, and of free numbers
each_number : (P : ℕ → Type 0) (many : ℕ) → P 0 → ((p : ℕ) → 1 ≤ p → p ≤ many → P p) → ((p : ℕ) → many < p → P p) → (p : ℕ) → P p
each_number P many null some others zero = null
each_number P many null some others (suc p) =
    ⊎_elim (λ (h : many < suc p). others (suc p) h) (λ (h : suc p ≤ many). some (suc p) (omega arith) h) (cases_lt many (suc p))

module _ {y : System} {holder : Option ℕ} {n : ℕ} {s : Xinu} (k : Runs y holder n s) where
  -- nothing is left of any call
  pub nothing_left : (p : ℕ) → (process_at s.tables p).rest ≡ rest.Nothing
  nothing_left =
      each_number (λ p. (process_at s.tables p).rest ≡ rest.Nothing) y.many k.sound.tables.inside.null_rest
      (λ p some few. (k.running.threads p some few).rest)
      (λ p more. ap (λ (x : Process). x.rest) (k.sound.tables.inside.free p (k.running.others p more)).0)

  -- nobody waits on a semaphore of the kernel's
  pub no_waiters : (sem : ℕ) → sem < 4 → (semaphore_at s.tables sem).waiters ≡ []
  no_waiters sem kernel = none_counted (semaphore_at s.tables sem).waiters (λ p h.
      never sem (subst (λ left. FitsOwner sem (Some Device) left) (nothing_left p)
      (subst (λ (o : Option Owner). FitsOwner sem o (process_at s.tables p).rest) (k.sound.tables.inside.devices sem kernel) (k.sound.tables.inside.rests sem p h))))
    where
      never : (r : ℕ) → FitsDevice r rest.Nothing → ⊥
      never zero h = absurd (cc)
      never (suc zero) h = absurd (cc)
      never (suc (suc r)) h = absurd (cc)

-- ---- the events

-- nothing changed but turns, the console and semaphores of devices, and the kernel didn't panic
pub record Passes (s : Xinu) (x : EventResult) : Type 0 where
  pub idle : IsIdle s x.state
  pub calm : x.panics ≡ false

idle_same : (s : Xinu) → IsIdle s s
idle_same s = record { turns = turns_same s.tables; harts = refl; memory = refl; disk = refl; files = refl }

-- other tokens of a semaphore of the kernel's
other_tokens : (t : Tables) (sem m : ℕ) → sem < 4 → Turns t (with_tokens sem m t)
other_tokens t sem m kernel = record {
  entries = λ p. turned_same (process_at t p);
  semaphores = λ r far. get_or-set_other t.semaphores sem r _ _ (λ e. absurd (omega arith));
  last = refl;
}

-- signals on which nobody waits
take_none : (n : ℕ) → take {A = ℕ} n [] ≡ []
take_none zero = refl
take_none (suc n) = refl

many_pass : (sem n : ℕ) (d : CallState) → (semaphore_at d.state.tables sem).waiters ≡ []
    → signalled_times sem n d ≡ with_tables (with_tokens sem ((semaphore_at d.state.tables sem).tokens + (n - 0)) d.state.tables) d
many_pass sem n d none =
    let m = (semaphore_at d.state.tables sem).tokens in
    ap (λ (ws : List ℕ). with_tables (with_tokens sem (m + (n - length ws)) (unblock_all (take n ws) d).state.tables) (unblock_all (take n ws) d)) none
    ∙ ap (λ (ws : List ℕ). with_tables (with_tokens sem (m + (n - 0)) (unblock_all ws d).state.tables) (unblock_all ws d)) (take_none n)

one_passes : (sem : ℕ) (d : CallState) → (semaphore_at d.state.tables sem).waiters ≡ []
    → signalled sem d ≡ with_tables (with_tokens sem ((semaphore_at d.state.tables sem).tokens + 1) d.state.tables) d
one_passes sem d none = ap (λ (ws : List ℕ). signal_first sem ws d) none

-- what comes of them
after_tokens : (s u : Xinu) (sem m : ℕ) (lines : List TranscriptLine) → sem < 4 → IsIdle s u
    → Passes s (end_of_event s.tables.current lines (record { call = with_tables (with_tokens sem m u.tables) (start u); answer = Silent }))
after_tokens s u sem m lines kernel idle = record {
  idle = record {
    turns = turns_through idle.turns (other_tokens u.tables sem m kernel);
    harts = idle.harts;
    memory = idle.memory;
    disk = idle.disk;
    files = idle.files;
  };
  calm = refl;
}

-- another console
console_idle : (s : Xinu) (c : Console) → IsIdle s (with_console c s)
console_idle s c = record { turns = turns_same s.tables; harts = refl; memory = refl; disk = refl; files = refl }

-- a received character
keyed_passes : (b : ℕ) (s : Xinu) → (semaphore_at s.tables 0).waiters ≡ [] → Passes s (keyed b s)
keyed_passes b s none =
    let m = received b (console_of s) in
    let u = with_console m.console s in
    subst (λ (d : CallState). Passes s (end_of_event s.tables.current [] (record { call = d; answer = Silent }))) (sym (many_pass 0 m.count (start u) none))
    (after_tokens s u 0 ((semaphore_at s.tables 0).tokens + (m.count - 0)) [] (omega arith) (console_idle s m.console))

-- a byte that is sent
sent_passes : (found : Option Sent) (s : Xinu) → (semaphore_at s.tables 1).waiters ≡ [] → Passes s (sent_in found s)
sent_passes None s none = record { idle = idle_same s; calm = refl }
sent_passes (Some sent) s none =
    let u = with_console sent.console s in
    cond_both sent.is_output (signalled 1 (start u)) (start u)
    (λ (d : CallState). Passes s (end_of_event s.tables.current (Con sent.byte ∷ []) (record { call = d; answer = Silent })))
    (λ _. subst (λ (d : CallState). Passes s (end_of_event s.tables.current (Con sent.byte ∷ []) (record { call = d; answer = Silent })))
    (sym (one_passes 1 (start u) none)) (after_tokens s u 1 ((semaphore_at s.tables 1).tokens + 1) (Con sent.byte ∷ []) (omega arith) (console_idle s sent.console)))
    (λ _. record { idle = console_idle s sent.console; calm = refl })

-- The events but steps and ticks, whatever is chosen.
pub passes : {y : System} {holder : Option ℕ} {n : ℕ} (e : Event) (choice : ℕ) (s : Xinu) → Runs y holder n s → e ≢ Step → e ≢ Tick → Passes s (effect_of s e choice)
passes Step choice s k other off = absurd (other refl)
passes Tick choice s k other off = absurd (off refl)
passes (Key b) choice s k other off = keyed_passes b s (no_waiters k 0 (omega arith))
passes Tx choice s k other off = sent_passes (transmitted (console_of s)) s (no_waiters k 1 (omega arith))
passes Disk0 choice s k other off =
    subst (λ l. Passes s (served_in (first_served true l (disk_of s)) s)) (sym k.running.disk) (record { idle = idle_same s; calm = refl })
passes Disk1 choice s k other off =
    subst (λ l. Passes s (completed_in l choice s)) (sym k.running.files) (record { idle = idle_same s; calm = refl })
passes Fail0 choice s k other off =
    subst (λ l. Passes s (served_in (first_served false l (disk_of s)) s)) (sym k.running.disk) (record { idle = idle_same s; calm = refl })
passes Fail1 choice s k other off = record { idle = idle_same s; calm = refl }
passes Dump choice s k other off = record { idle = idle_same s; calm = refl }
