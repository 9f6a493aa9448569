-- What leaves the console alone keeps what holds of it.
use Rattle.std.proofs.Common.{◌≡◌, ℕ, zero, suc, ◌<◌, ◌≤◌, Bool, true, false, not, ◌&&◌, Option, Some, refl, sym, ap, subst, ◌∙◌, arith}
use Rattle.std.proofs.lemmas.Bool.{and_parts}
use Rattle.xinu_base.specs.declared.processes.Process.{Process}
use Rattle.xinu_base.specs.declared.processes.Rest.{Rest}
use Rattle.xinu_base.specs.declared.processes.Rest.TheVariants.{TtyGet, TtyPut, TtyRead, TtyWrite}
use Rattle.xinu_base.specs.declared.semaphores.Owner.{Owner}
use Rattle.xinu_base.specs.declared.semaphores.Owner.TheVariants.{Device}
use Rattle.table_laws.specs.Frame.{Frame}
use Rattle.xinu_model.specs.Console.State.{Console}
use Rattle.xinu_model.specs.Sound.Console.{is_released, promised, HasSpan, IsConsole}
use Rattle.xinu_model.specs.Sound.Pools.{is_waiting}
use Rattle.xinu_model.specs.Sound.Tables.{asks_input, asks_output, IsInside}
use Rattle.xinu_model.specs.Tables.{no_process, Tables, process_at, semaphore_at}
use Rattle.xinu_laws.proofs.Pools.Frame.{times-le}

-- whether a semaphore is one of the console's
abbrev pub is_console_number : ℕ → Bool
is_console_number zero = true
is_console_number (suc zero) = true
is_console_number (suc (suc sem)) = false

abbrev pub is_consoles : ℕ → Option Owner → Bool
is_consoles sem (Some Device) = is_console_number sem
is_consoles sem _ = false

-- whether what is left of a call is that of a call on the console
abbrev pub asks_console : Rest → Bool
asks_console TtyGet = true
asks_console (TtyRead part) = true
asks_console (TtyPut b returned) = true
asks_console (TtyWrite part returned) = true
asks_console _ = false

-- who takes an item or puts a byte is in a call on the console
pub input_asks : (left : Rest) → asks_input left ≡ true → asks_console left ≡ true
input_asks TtyGet h = refl
input_asks (TtyRead part) h = refl
input_asks (TtyPut b returned) h = refl
input_asks (TtyWrite part returned) h = refl
input_asks _ h = h

pub output_asks : (left : Rest) → asks_output left ≡ true → asks_console left ≡ true
output_asks TtyGet h = refl
output_asks (TtyRead part) h = refl
output_asks (TtyPut b returned) h = refl
output_asks (TtyWrite part returned) h = refl
output_asks _ h = h

-- who was released in such a call stays so if it is as it was
still_released : (asks : Rest → Bool) (x y : Process) → (asks y.rest ≡ true → (y.rest ≡ x.rest) × (is_waiting y.state ≡ is_waiting x.state))
    → is_released asks y ≡ true → is_released asks x ≡ true
still_released asks x y f h =
    let e = f (and_parts (not (is_waiting y.state)) (asks y.rest) h).1 in
    sym (ap (λ w. not w && asks y.rest) e.1 ∙ ap (λ r. not (is_waiting x.state) && asks r) e.0) ∙ h

-- what is promised of a semaphore that is left alone is no more than before
promised_framed : (asks : Rest → Bool) (sem : ℕ) (t u : Tables) → ((left : Rest) → asks left ≡ true → asks_console left ≡ true)
    → is_consoles sem (semaphore_at t sem).owner ≡ true → Frame is_consoles asks_console t u → promised asks sem u ≤ promised asks sem t
promised_framed asks sem t u within mine c =
    let e = (c.kept sem mine).1 in
    let f = times-le (is_released asks) u.processes t.processes no_process c.many
    (λ p h. still_released asks (process_at t p) (process_at u p) (λ a. c.rests p (within (process_at u p).rest a)) h) in
    omega arith

-- what has a range to work through has it if it is as it was
span_kept : (left other : Rest) → (asks_console left ≡ true → left ≡ other) → HasSpan other → HasSpan left
span_kept (TtyRead part) other f h = subst HasSpan (sym (f refl)) h
span_kept (TtyWrite part returned) other f h = subst HasSpan (sym (f refl)) h
span_kept _ other f h = tt

-- So what holds of the console goes on holding.
pub console_framed : (t u : Tables) (c : Console) → IsInside u → Frame is_consoles asks_console t u → IsConsole t c → IsConsole u c
console_framed t u c o framed k =
    let was = λ (sem : ℕ) (h : sem < 4) (n : is_consoles sem (Some Device) ≡ true).
    ap (is_consoles sem) (sym (framed.old sem (ap (is_consoles sem) (o.devices sem h) ∙ n)) ∙ o.devices sem h) ∙ n in
    record {
      itself = k.itself;
      items = (let e = promised_framed asks_input 0 t u input_asks (was 0 (omega arith) refl) framed in let f = k.items in omega arith);
      room = (let e = promised_framed asks_output 1 t u output_asks (was 1 (omega arith) refl) framed in let f = k.room in omega arith);
      spans = λ p. span_kept (process_at u p).rest (process_at t p).rest (λ h. (framed.rests p h).0) (k.spans p);
    }
