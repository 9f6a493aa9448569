-- What a step on the console keeps, and the steps that all its calls have in common: to answer, to wait for a token, to take one, to go on.
use Rattle.std.proofs.Common.{◌≡◌, ◌≢◌, ℕ, zero, suc, ◌<◌, ◌≤◌, Bool, true, false, length, refl, sym, ap, subst, arith, ℤ}
use Rattle.xinu_base.specs.declared.processes.Rest.{Rest}
use Rattle.xinu_base.specs.declared.processes.Rest.TheVariants.{Nothing, TtyGet, TtyPut, TtyRead, TtyWrite}
use Rattle.xinu_base.specs.declared.processes.State.TheVariants.{Waiting}
use Rattle.table_laws.specs.Preserve.{IsPreserved, MayCall}
use Rattle.xinu_laws.specs.Touches.{reach, KeepsParts, Touches}
use Rattle.xinu_model.specs.Console.State.{Console}
use Rattle.xinu_model.specs.Console.Taking.{console_of}
use Rattle.xinu_model.specs.Footprints.{on_console}
use Rattle.xinu_model.specs.Machine.{Xinu, CallResult, Silent, start, refused, goes_on, blocked}
use Rattle.xinu_model.specs.Memory.{ram_size}
use Rattle.xinu_model.specs.Messages.{held}
use Rattle.xinu_model.specs.Semaphores.Calls.{answers}
use Rattle.xinu_model.specs.Semaphores.Counts.{with_tokens}
use Rattle.xinu_model.specs.Sound.Console.{promised, HasSpan, IsConsole}
use Rattle.xinu_model.specs.Sound.State.{AreHarts, IsSound}
use Rattle.xinu_model.specs.Sound.Tables.{asks_input, asks_output, FitsDevice, FitsOwner, IsInside, IsSoundTables}
use Rattle.xinu_model.specs.Tables.{Tables, process_at, message_at, semaphore_at, Nowhere, InSemaphore}
use Rattle.xinu_laws.proofs.Consoles.Framed.{asks_console}
use Rattle.xinu_laws.proofs.Consoles.Promised.{promised_token, promised_token_other, promised_blocked, promised_goes_on_other, spans_move}
use Rattle.table_laws.proofs.Preserve.{current_within, blocked_preserves, sound_goes_on, waits_hold}
use Rattle.table_laws.proofs.Tables.Changes.{sound_token_taken}
use Rattle.table_laws.proofs.Tables.MoveTo.{by_number}
use Rattle.xinu_laws.proofs.Touches.{named, parts_console, touches_parts, touches_refl, touches_trans}
use Rattle.xinu_laws.proofs.Touches.Moves.{touches_blocked, touches_goes_on, touches_tokens}

-- What holds of tables and registers when a process calls, whichever process it is.
pub record Holds (s : Xinu) : Type 0 where
  pub tables : IsSoundTables s.tables
  pub harts : AreHarts s.harts

pub sound_holds : (s : Xinu) → IsSound s → Holds s
sound_holds s k = record { tables = k.tables; harts = k.harts }

-- what holds of the console of a state
abbrev pub HasConsole : Xinu → Type 0
HasConsole s = IsConsole s.tables (console_of s)

-- RAM of a state has its size
abbrev pub HasSize : Xinu → Type 0
HasSize s = length s.memory ≡ ram_size

-- What a step on the console keeps. It touches the console and RAM alone; if the null process doesn't make it, tables and registers are as they
-- should be; and under a premise what holds of the console goes on holding, and RAM keeps its size.
pub record KeepsConsole (Premise : Type 0) (s : Xinu) (h : CallResult) : Type 0 where
  pub preserved : s.tables.current ≢ 0 → IsPreserved h
  pub touches : Touches (reach on_console) s h.call.state
  pub console : Premise → HasConsole h.call.state
  pub ram : Premise → HasSize s → HasSize h.call.state

-- what is kept from a state that was come to without touching more
pub keeps_after : {P Q : Type 0} (s u : Xinu) (h : CallResult) → (P → Q) → u.tables.current ≡ s.tables.current
    → Touches (reach on_console) s u → (P → HasSize s → HasSize u) → KeepsConsole Q u h → KeepsConsole P s h
keeps_after s u h premise same t size k = record {
  preserved = λ n. k.preserved (λ e. n (subst (λ c. c ≡ 0) same e));
  touches = touches_trans t k.touches;
  console = λ p. k.console (premise p);
  ram = λ p z. k.ram (premise p) (size p z);
}

-- what is kept under a premise is kept under one from which that follows
pub keeps_under : {P Q : Type 0} (s : Xinu) (h : CallResult) → (P → Q) → KeepsConsole Q s h → KeepsConsole P s h
keeps_under s h premise k =
    record { preserved = k.preserved; touches = k.touches; console = λ p. k.console (premise p); ram = λ p. k.ram (premise p) }

-- the caller may call, unless it is the null process
pub holds_may_call : (s : Xinu) → Holds s → s.tables.current ≢ 0 → MayCall s
holds_may_call s c n = record { tables = c.tables; harts = c.harts; not_null = n }

-- An answer,
pub answers_keeps : (value : ℤ) (s : Xinu) → Holds s → KeepsConsole (HasConsole s) s (answers value s)
answers_keeps value s c =
    record { preserved = λ _. record { tables = c.tables; harts = c.harts; released = tt }; touches = touches_refl s; console = λ k. k; ram = λ _ z. z }

-- a refusal,
pub refused_keeps : (s : Xinu) → Holds s → KeepsConsole (HasConsole s) s (refused s)
refused_keeps s c =
    record { preserved = λ _. record { tables = c.tables; harts = c.harts; released = tt }; touches = touches_refl s; console = λ k. k; ram = λ _ z. z }

-- and no answer.
pub silent_keeps : (s : Xinu) → Holds s → KeepsConsole (HasConsole s) s (record { call = start s; answer = Silent })
silent_keeps s c =
    record { preserved = λ _. record { tables = c.tables; harts = c.harts; released = tt }; touches = touches_refl s; console = λ k. k; ram = λ _ z. z }

-- a semaphore of the kernel's is in the table
pub device_within : (t : Tables) (sem : ℕ) → IsInside t → sem < 4 → sem < length t.semaphores
device_within t sem o h = let e = o.semaphores in omega arith

-- the current process is in the table
pub caller_within : (s : Xinu) → Holds s → s.tables.current < length s.tables.processes
caller_within s c = let w = current_within s.tables c.tables in let e = c.tables.inside.processes in omega arith

-- the console's semaphores may be touched,
pub touched_console : (t : Tables) (sem : ℕ) → IsInside t → sem < 2 → (reach on_console).mine sem (semaphore_at t sem).owner ≡ false
touched_console t zero o h = ap ((reach on_console).mine 0) (o.devices 0 (omega arith))
touched_console t (suc zero) o h = ap ((reach on_console).mine 1) (o.devices 1 (omega arith))
touched_console t (suc (suc sem)) o h = absurd (omega arith)

-- and so may the calls on it
pub touched_calls : (left : Rest) → asks_console left ≡ true → (reach on_console).asks left ≡ false
touched_calls TtyGet h = refl
touched_calls (TtyRead part) h = refl
touched_calls (TtyPut b returned) h = refl
touched_calls (TtyWrite part returned) h = refl
touched_calls _ h = cc

-- A caller waits on a semaphore of the console's that has no tokens.
pub blocked_keeps : (sem : ℕ) (left : Rest) (s : Xinu) → Holds s → sem < 2 → (semaphore_at s.tables sem).tokens ≡ 0
    → FitsDevice sem left → asks_console left ≡ true
    → KeepsConsole (HasSpan left × HasConsole s) s (blocked Waiting left (InSemaphore sem) s)
blocked_keeps sem left s c w empty fits asked =
    let t = s.tables in
    let o = c.tables.inside in
    let x = record (process_at t t.current) { state = Waiting; rest = left } in
    let m = message_at t t.current in
    let f : FitsOwner sem (semaphore_at t sem).owner left = subst (λ v. FitsOwner sem v left) (sym (o.devices sem (omega arith))) fits in
    let here = caller_within s c in
    let e = promised_blocked asks_input t 0 t.current x m (InSemaphore sem) here refl in
    let g = promised_blocked asks_output t 1 t.current x m (InSemaphore sem) here refl in
    record {
      preserved = λ n. blocked_preserves Waiting left (InSemaphore sem) s (holds_may_call s c n) (λ h. cc) (refl, refl, refl) (omega arith, empty, f) (waits_hold sem (semaphore_at t sem).owner left m f);
      touches = touches_blocked Waiting left (InSemaphore sem) s c.tables.runs (touched_console t sem o w) (touched_calls left asked) refl;
      console = λ p. let k = p.1 in let items = k.items in let room = k.room in
          record { itself = k.itself; items = omega arith; room = omega arith; spans = spans_move t t.current x m (InSemaphore sem) p.0 k.spans };
      ram = λ _ z. z;
    }

-- A token of the console's is taken.
pub token_holds : (sem n : ℕ) (s : Xinu) → Holds s → sem < 2 → (semaphore_at s.tables sem).tokens ≡ suc n
    → Holds (record s { tables = with_tokens sem n s.tables })
token_holds sem n s c w e = record { tables = sound_token_taken s.tables sem n c.tables (omega arith) e; harts = c.harts }

pub token_touches : (sem n : ℕ) (s : Xinu) → Holds s → sem < 2
    → Touches (reach on_console) s (record s { tables = with_tokens sem n s.tables })
token_touches sem n s c w = touches_tokens s sem n (touched_console s.tables sem c.tables.inside w)

pub token_console : (sem n : ℕ) (s : Xinu) → Holds s → sem < 2 → (semaphore_at s.tables sem).tokens ≡ suc n → HasConsole s
    → IsConsole (with_tokens sem n s.tables) (console_of s)
token_console sem n s c w e k =
    let h = device_within s.tables sem c.tables.inside (omega arith) in
    let f = at asks_input 0 h in
    let g = at asks_output 1 h in
    let items = k.items in
    let room = k.room in
    record { itself = k.itself; items = omega arith; room = omega arith; spans = k.spans }
  where
    at : (asks : Rest → Bool) (r : ℕ) → sem < length s.tables.semaphores
        → promised asks r (with_tokens sem n s.tables) ≤ promised asks r s.tables
    at asks r h = by_number r sem (λ j. promised asks j (with_tokens sem n s.tables) ≤ promised asks j s.tables)
        (let f = promised_token asks s.tables sem n h e in omega arith) (λ d. promised_token_other asks s.tables sem n r d)

-- The caller goes on.
pub goes_on_holds : (s : Xinu) → Holds s → Holds (goes_on (held s) s)
goes_on_holds s c = record { tables = sound_goes_on (held s) s c.tables; harts = c.harts }

pub goes_on_touches : (s : Xinu) → Holds s → Touches (reach on_console) s (goes_on (held s) s)
goes_on_touches s c = touches_goes_on refl (held s) s c.tables.runs

pub goes_on_console : (s : Xinu) → Holds s → HasConsole s → HasConsole (goes_on (held s) s)
goes_on_console s c k =
    let t = s.tables in
    let here = caller_within s c in
    let e = promised_goes_on_other asks_input 0 (held s) s refl here in
    let f = promised_goes_on_other asks_output 1 (held s) s refl here in
    let items = k.items in
    let room = k.room in
    record {
      itself = k.itself;
      items = omega arith;
      room = omega arith;
      spans = spans_move t t.current (record (process_at t t.current) { rest = Nothing }) (held s) Nowhere tt k.spans;
    }

-- Another console, and any memory.
pub console_touches : (s u : Xinu) (c : Console) → u.tables ≡ s.tables → u.harts ≡ s.harts
    → u.parts ≡ record s.parts { devices = record s.parts.devices { console = c } } → Touches (reach on_console) s u
console_touches s u c tables harts parts =
    touches_parts s u tables harts (named refl) (subst (λ p. KeepsParts on_console s.parts p) (sym parts) (parts_console refl s.parts c))
