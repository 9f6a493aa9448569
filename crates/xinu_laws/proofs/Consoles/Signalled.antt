-- Items that are committed and bytes that are sent: their signals keep what holds of tables and console, and touch nothing else.
use Rattle.std.proofs.Common.{◌≡◌, ℕ, zero, suc, ◌<◌, ◌==◌, true, false, ◌++◌, List, length, take, Option, Some, None, refl, sym, ap, subst, ◌∙◌, arith, pos}
use Rattle.std.proofs.lemmas.Bool.{cond_both}
use Rattle.std.proofs.lemmas.List.{length-append}
use Rattle.xinu_base.specs.declared.processes.Rest.{Rest}
use Rattle.xinu_base.specs.declared.processes.Rest.TheVariants.{TtyGet, TtyPut, TtyRead, TtyWrite}
use Rattle.part_laws.specs.Consoles.{Appends, SendsFirst}
use Rattle.table_laws.specs.Preserve.{AreAlive}
use Rattle.xinu_laws.specs.Touches.{reach, Touches}
use Rattle.xinu_model.specs.Console.Controls.{controlled}
use Rattle.xinu_model.specs.Console.Putting.{TY_OSEM}
use Rattle.xinu_model.specs.Console.Receiving.{received}
use Rattle.xinu_model.specs.Console.Rows.{Committed}
use Rattle.xinu_model.specs.Console.Signals.{TC_ICHARS, committed, control_with, console_control, receiving, after_sent}
use Rattle.xinu_model.specs.Console.Sound.{IsSoundConsole}
use Rattle.xinu_model.specs.Console.State.{Console}
use Rattle.xinu_model.specs.Console.Taking.{TY_ISEM, console_of, with_console}
use Rattle.xinu_model.specs.Console.Transmitting.{Sent, transmitted, after_transmission}
use Rattle.xinu_model.specs.Footprints.{on_console}
use Rattle.xinu_model.specs.Machine.{Xinu, CallState, start}
use Rattle.xinu_model.specs.Semaphores.Calls.{answers}
use Rattle.xinu_model.specs.Semaphores.Waiting.{signalled, signalled_times}
use Rattle.xinu_model.specs.Sound.Console.{IsConsole}
use Rattle.xinu_model.specs.Sound.State.{AreHarts}
use Rattle.xinu_model.specs.Sound.Tables.{FitsDevice, FitsOwner, asks_input, asks_output, IsInside, IsSoundTables}
use Rattle.xinu_model.specs.Tables.{Tables, process_at, semaphore_at}
use Rattle.part_laws.proofs.Consoles.Characters.{received_goes, controlled_goes}
use Rattle.xinu_laws.proofs.Consoles.Framed.{input_asks, output_asks}
use Rattle.xinu_laws.proofs.Consoles.Kept.{Holds, HasConsole, KeepsConsole, answers_keeps, refused_keeps, touched_calls, touched_console, console_touches}
use Rattle.xinu_laws.proofs.Consoles.Promised.{promised_signals, promised_signals_other, spans_unblock_all}
use Rattle.part_laws.proofs.Consoles.Transmissions.{sent_is_first, sound_transmitted}
use Rattle.table_laws.proofs.Tables.Signals.{signals_are_repeated}
use Rattle.table_laws.proofs.Tables.Alive.{alive_signalled_times}
use Rattle.table_laws.proofs.Tables.Harts.{harts_same}
use Rattle.table_laws.proofs.Tables.Unblock.{unblock_all_ready, sound_signalled_times}
use Rattle.xinu_laws.proofs.Touches.{touches_trans}
use Rattle.xinu_laws.proofs.Touches.Moves.{MayTouch, touches_signalled_times}

-- What holds inside an event after signals: they touch the console alone, keep what holds of it, and leave RAM as it is.
pub record Signals (s : Xinu) (d : CallState) : Type 0 where
  pub tables : IsSoundTables d.state.tables
  pub harts : AreHarts d.state.harts
  pub released : AreAlive d.state.tables d.released
  pub touches : Touches (reach on_console) s d.state
  pub console : HasConsole s → HasConsole d.state
  pub ram : d.state.memory ≡ s.memory

-- who takes an item puts no byte, and the other way round
input_no_output : (left : Rest) → asks_input left ≡ true → asks_output left ≡ false
input_no_output TtyGet h = refl
input_no_output (TtyRead part) h = refl
input_no_output (TtyPut b returned) h = cc
input_no_output (TtyWrite part returned) h = cc
input_no_output _ h = cc

output_no_input : (left : Rest) → asks_output left ≡ true → asks_input left ≡ false
output_no_input (TtyPut b returned) h = refl
output_no_input (TtyWrite part returned) h = refl
output_no_input TtyGet h = cc
output_no_input (TtyRead part) h = cc
output_no_input _ h = cc

-- what is left of the call of a waiter fits the device
fits_device : (t : Tables) (sem : ℕ) (left : Rest) → IsInside t → sem < 4 → FitsOwner sem (semaphore_at t sem).owner left
    → FitsDevice sem left
fits_device t sem left o h f = subst (λ v. FitsOwner sem v left) (o.devices sem h) f

-- the console's semaphores may be touched, with those who wait there
may_touch : (t : Tables) (sem : ℕ) → IsInside t → sem < 2 → MayTouch (reach on_console) t sem
may_touch t zero o h = record { owner = touched_console t 0 o h; rests = λ left f. touched_calls left (input_asks left (fits_device t 0 left o (omega arith) f)) }
may_touch t (suc zero) o h =
    record { owner = touched_console t 1 o h; rests = λ left f. touched_calls left (output_asks left (fits_device t 1 left o (omega arith) f)) }
may_touch t (suc (suc sem)) o h = absurd (omega arith)

-- n signals after another console, if what holds of it holds then
signals_keep : (sem n : ℕ) (c : Console) (s : Xinu) → Holds s → sem < 2
    → (HasConsole s → IsConsole (signalled_times sem n (record (start s) { state = with_console c s })).state.tables c)
    → Signals s (signalled_times sem n (record (start s) { state = with_console c s }))
signals_keep sem n c s k w console =
    let d : CallState = record (start s) { state = with_console c s } in
    let o = k.tables.inside in
    let same = unblock_all_ready (take n (semaphore_at s.tables sem).waiters) d in
    record {
      tables = sound_signalled_times sem n d k.tables (omega arith) (λ e. let f = o.devices sem (omega arith) in cc);
      harts = harts_same s.harts _ (ap (λ (x : Xinu). x.harts) same) k.harts;
      released = alive_signalled_times sem n d o tt;
      touches = touches_trans (console_touches s (with_console c s) c refl refl refl) (touches_signalled_times sem n d o (may_touch s.tables sem o w));
      console = λ p. subst (IsConsole (signalled_times sem n d).state.tables) (sym (ap (λ (x : Xinu). console_of x) same)) (console p);
      ram = ap (λ (x : Xinu). x.memory) same;
    }

-- Items are committed.
committed_signals : (m : Committed) (s : Xinu) → Holds s → Appends (console_of s) m
    → (IsSoundConsole (console_of s) → IsSoundConsole m.console) → Signals s (committed m (start s))
committed_signals m s k a itself =
    let d : CallState = record (start s) { state = with_console m.console s } in
    let n = m.count in
    let t = s.tables in
    let o = k.tables.inside in
    let here = promised_signals asks_input 0 n d k.tables (omega arith) in
    let there = promised_signals_other asks_output 0 n 1 d o (λ e. let g : 1 ≡ 0 = e in absurd (omega arith))
    (λ p h. input_no_output (process_at t p).rest (fits_device t 0 (process_at t p).rest o (omega arith) (o.rests 0 p h))) in
    let all : length m.console.committed ≡ length ((console_of s).committed ++ a.items) = ap length a.committed in
    let more = length-append (console_of s).committed a.items in
    let count = a.count in
    let same : length m.console.output ≡ length (console_of s).output = ap length a.output in
    signals_keep 0 n m.console s k (omega arith)
    (λ c. let items = c.items in let room = c.room in
    record { itself = itself c.itself; items = omega arith; room = omega arith; spans = spans_unblock_all (take n (semaphore_at t 0).waiters) d c.spans })

-- A character is received.
pub receiving_signals : (b : ℕ) (s : Xinu) → Holds s → Signals s (receiving b s).call
receiving_signals b s k = let g = received_goes b (console_of s) in committed_signals (received b (console_of s)) s k g.appends g.sound

-- a byte of the output is sent
output_signals : (c : Console) (s : Xinu) → Holds s → (IsSoundConsole (console_of s) → IsSoundConsole c)
    → length c.committed ≡ length (console_of s).committed → suc (length c.output) ≡ length (console_of s).output
    → Signals s (signalled_times 1 1 (start (with_console c s)))
output_signals c s k itself same shorter =
    let d : CallState = start (with_console c s) in
    let t = s.tables in
    let o = k.tables.inside in
    let here = promised_signals asks_output 1 1 d k.tables (omega arith) in
    let there = promised_signals_other asks_input 1 1 0 d o (λ e. let g : 0 ≡ 1 = e in absurd (omega arith))
    (λ p h. output_no_input (process_at t p).rest (fits_device t 1 (process_at t p).rest o (omega arith) (o.rests 1 p h))) in
    signals_keep 1 1 c s k (omega arith)
    (λ b. let items = b.items in let room = b.room in
    record { itself = itself b.itself; items = omega arith; room = omega arith; spans = spans_unblock_all (take 1 (semaphore_at t 1).waiters) d b.spans })

-- a byte of the echo is sent
echo_signals : (c : Console) (s : Xinu) → Holds s → (IsSoundConsole (console_of s) → IsSoundConsole c)
    → length c.committed ≡ length (console_of s).committed → length c.output ≡ length (console_of s).output
    → Signals s (start (with_console c s))
echo_signals c s k itself same output = record {
  tables = k.tables;
  harts = k.harts;
  released = tt;
  touches = console_touches s (with_console c s) c refl refl refl;
  console = λ b. let items = b.items in let room = b.room in record { itself = itself b.itself; items = omega arith; room = omega arith; spans = b.spans };
  ram = refl;
}

-- A byte is sent.
pub sending_signals : (sent : Sent) (s : Xinu) → transmitted (console_of s) ≡ Some sent → Holds s → Signals s (after_sent sent s)
sending_signals sent s e k =
    let c = sent.console in
    let first : SendsFirst (console_of s) sent = sent_is_first (console_of s) sent e in
    let itself : IsSoundConsole (console_of s) → IsSoundConsole c = λ b. subst (λ o. IsSoundConsole (after_transmission o (console_of s))) e
    (sound_transmitted (console_of s) b) in
    let d : CallState = start (with_console c s) in
    cond_both sent.is_output (signalled TY_OSEM d) d (Signals s)
    (λ h. let same = first.output h in
    subst (Signals s) (signals_are_repeated 1 1 d k.tables.inside)
    (output_signals c s k itself (sym (ap (λ (x : Console). length x.committed) same)) (sym (ap (λ (x : Console). length x.output) same))))
    (λ h. let same = first.echo h in
    echo_signals c s k itself (sym (ap (λ (x : Console). length x.committed) same)) (sym (ap (λ (x : Console). length x.output) same)))

-- `control`, by its function
control_keeps : (found : Option Committed) (f : ℕ) (s : Xinu) → controlled f (console_of s) ≡ found → Holds s
    → KeepsConsole (HasConsole s) s (control_with found s)
control_keeps None f s e k = refused_keeps s k
control_keeps (Some m) f s e k =
    let g = controlled_goes f (console_of s) m e in
    let r = committed_signals m s k g.appends g.sound in
    record { preserved = λ _. record { tables = r.tables; harts = r.harts; released = r.released }; touches = r.touches; console = r.console; ram = λ _ z. ap (λ (l : List ℕ). length l) r.ram ∙ z }

pub console_control_keeps : (f : ℕ) (s : Xinu) → Holds s → KeepsConsole (HasConsole s) s (console_control f s)
console_control_keeps f s k =
    let tokens = pos (semaphore_at s.tables TY_ISEM).tokens in
    cond_both (f == TC_ICHARS) (answers tokens s) (control_with (controlled f (console_of s)) s) (KeepsConsole (HasConsole s) s)
    (λ _. answers_keeps tokens s k) (λ _. control_keeps (controlled f (console_of s)) f s refl k)
