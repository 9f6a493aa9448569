-- Items that are committed, and bytes that are sent.
use Rattle.std.proofs.Common.{◌≡◌, ◌∙◌, ◌+◌, ◌-◌, ◌≤◌, ◌==◌, ℕ, false, cond, pos, List, length, take, Option, Some, None, refl, sym, ap, subst, arith}
use Rattle.kernel_state.proofs.Together.{released_then, releasing}
use Rattle.kernel_state.specs.Results.{IsStart}
use Rattle.kernel_tables.proofs.Rests.{SameRests}
use Rattle.kernel_tables.proofs.Waiters.{rests_written}
use Rattle.tty_driver.specs.Transmitting.{count_by}
use Rattle.xinu_base.specs.Constants.{OK, SYSERR}
use Rattle.xinu_model.specs.Process.Scheduling.{ready_all}
use Rattle.xinu_model.specs.Console.Controls.{after_control, controlled}
use Rattle.xinu_model.specs.Console.Rows.{Committed}
use Rattle.xinu_model.specs.Console.Signals.{console_control, control_with}
use Rattle.xinu_model.specs.Console.Sound.{IsSoundConsole}
use Rattle.xinu_model.specs.Console.State.{Console}
use Rattle.xinu_model.specs.Console.Taking.{console_of, TY_ISEM, with_console}
use Rattle.xinu_model.specs.Machine.{CallState, Returns, start, Xinu}
use Rattle.xinu_model.specs.Semaphores.Calls.{answers}
use Rattle.xinu_model.specs.Semaphores.Counts.{with_tokens}
use Rattle.xinu_model.specs.Semaphores.Waiting.{signalled_times}
use Rattle.xinu_model.specs.Sound.Console.{IsConsole}
use Rattle.xinu_model.specs.Tables.{semaphore_at, Tables}
use Rattle.part_laws.proofs.ConsoleRoom.{few_controlled}

-- n signals of a semaphore at once
pub signals_are : (s : Xinu) (sem n : ℕ) (released : List ℕ) (u : Tables) → released ≡ take n (semaphore_at s.tables sem).waiters
    → u ≡ (let x = semaphore_at s.tables sem in with_tokens sem (x.tokens + (n - length x.waiters)) (ready_all (take n x.waiters) s.tables))
    → releasing OK released u s ≡ signalled_times sem n (start s)
signals_are s sem n released u these is =
    let t = s.tables in
    let x = semaphore_at t sem in
    let ps = take n x.waiters in
    let k = x.tokens + (n - length x.waiters) in
    let r = subst (SameRests t) (sym is) (rests_written t ps sem _) in
    released_then OK ps released s (with_tokens sem k) u these is r

-- there are no more tokens than items
pub few_tokens : (t : Tables) (c : Console) → IsConsole t c → (semaphore_at t TY_ISEM).tokens ≤ 128
few_tokens t c k = let items = k.items in let input = k.itself.input in omega (arith, items, input)

-- the state inside an event with another console
abbrev pub in_console : Console → CallState → CallState
in_console c d = record d { state = with_console c d.state }

-- A control function that there is.
pub control_done : (f count : ℕ) (k : CallState) (new : Console) → IsStart k → (f == 4) ≡ false → count_by (controlled f (console_of k.state)) ≡ Some count
    → new ≡ after_control (controlled f (console_of k.state)) (console_of k.state)
    → record { call = signalled_times TY_ISEM count (in_console new k); answer = Returns OK } ≡ console_control f k.state
control_done f count k new i other are is =
    by_function (controlled f (console_of k.state)) are is
    ∙ sym (ap (λ b. cond b (answers (pos (semaphore_at k.state.tables TY_ISEM).tokens) k.state) (control_with (controlled f (console_of k.state)) k.state)) other)
  where
    by_function : (found : Option Committed) → count_by found ≡ Some count → new ≡ after_control found (console_of k.state)
        → record { call = signalled_times TY_ISEM count (in_console new k); answer = Returns OK } ≡ control_with found k.state
    by_function None e n = absurd (cc)
    by_function (Some m) e n =
        let g : count ≡ m.count = cc in
        ap (λ n. record { call = signalled_times TY_ISEM n (in_console new k); answer = Returns OK }) g
        ∙ ap (λ c. record { call = signalled_times TY_ISEM m.count (in_console c k); answer = Returns OK }) n
        ∙ ap (λ (d : CallState). record { call = signalled_times TY_ISEM m.count (in_console m.console d); answer = Returns OK }) i.is

-- One that there isn't.
pub control_missing : (f : ℕ) (k : CallState) (new : Console) → IsStart k → (f == 4) ≡ false → count_by (controlled f (console_of k.state)) ≡ None
    → new ≡ after_control (controlled f (console_of k.state)) (console_of k.state)
    → record { call = in_console new k; answer = Returns SYSERR } ≡ console_control f k.state
control_missing f k new i other none is =
    by_function (controlled f (console_of k.state)) none is
    ∙ sym (ap (λ b. cond b (answers (pos (semaphore_at k.state.tables TY_ISEM).tokens) k.state) (control_with (controlled f (console_of k.state)) k.state)) other)
  where
    by_function : (found : Option Committed) → count_by found ≡ None → new ≡ after_control found (console_of k.state)
        → record { call = in_console new k; answer = Returns SYSERR } ≡ control_with found k.state
    by_function None e n =
        ap (λ c. record { call = in_console c k; answer = Returns SYSERR }) n
        ∙ ap (λ (d : CallState). record { call = d; answer = Returns SYSERR }) i.is
    by_function (Some m) e n = absurd (cc)

-- a control function commits no more than there is room for
pub few_counted : (f count : ℕ) (c : Console) → IsSoundConsole c → count_by (controlled f c) ≡ Some count → count ≤ 128
few_counted f count c k e = by_function (controlled f c) refl e
  where
    by_function : (found : Option Committed) → controlled f c ≡ found → count_by found ≡ Some count → count ≤ 128
    by_function None g h = absurd (cc)
    by_function (Some m) g h = let n : m.count ≡ count = cc in subst (λ n. n ≤ 128) n (few_controlled f c m g k)
