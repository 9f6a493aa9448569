-- A caller that takes a token of the console's, or was released with one, and what it finds.
use Rattle.std.proofs.Common.{◌≡◌, ◌∙◌, ℕ, zero, suc, ◌-◌, ◌<◌, Bool, true, false, cond, refl, sym, ap, subst, arith}
use Rattle.std.specs.Prelude.{nat_lt}
use Rattle.io_calls.specs.Consoles.{Begins, GoesOn, HasItem, HasPlace, if_taken}
use Rattle.kernel_state.specs.Results.{came_to}
use Rattle.xinu_base.specs.declared.processes.Rest.{Rest}
use Rattle.xinu_base.specs.declared.processes.State.TheVariants.{Waiting}
use Rattle.xinu_base.specs.declared.syscalls.Next.TheVariants as next
use Rattle.xinu_laws.proofs.Consoles.Kept.{Holds, device_within, caller_within, token_holds, token_console, goes_on_holds, goes_on_console}
use Rattle.xinu_laws.proofs.Consoles.Promised.{promised_token, promised_goes_on}
use Rattle.xinu_model.specs.Console.Putting.{needs_return, put, put_byte}
use Rattle.xinu_model.specs.Console.Taking.{console_of}
use Rattle.xinu_model.specs.Machine.{CallResult, CallState, goes_on, Xinu}
use Rattle.xinu_model.specs.Messages.{held}
use Rattle.xinu_model.specs.Semaphores.Counts.{with_tokens}
use Rattle.xinu_model.specs.Semaphores.Waiting.{await}
use Rattle.xinu_model.specs.Sound.Tables.{asks_input, asks_output}
use Rattle.xinu_model.specs.Tables.{InSemaphore, message_at, move_to, process_at, semaphore_at, Tables}

-- the tables of a caller that has a token, or waits
abbrev pub waited : Bool → ℕ → Rest → Tables → Tables
waited took sem left t =
    cond took (with_tokens sem ((semaphore_at t sem).tokens - 1) t)
    (move_to t.current (record (process_at t t.current) { state = Waiting; rest = left }) (message_at t t.current) (InSemaphore sem) t)

-- the state inside an event with these tables
abbrev pub in_tables : Tables → CallState → CallState
in_tables t d = record d { state = record d.state { tables = t } }

-- what holds of tables and registers
holds_of : (d : CallState) → Begins d → Holds d.state
holds_of d b = record { tables = b.may.tables; harts = b.may.harts }

-- A token that was taken leaves what holds when a call begins.
begins_taken : (sem n : ℕ) (d : CallState) → Begins d → sem < 2 → (semaphore_at d.state.tables sem).tokens ≡ suc n
    → Begins (in_tables (with_tokens sem n d.state.tables) d)
begins_taken sem n d b w e =
    let h = holds_of d b in
    let k = token_holds sem n d.state h w e in
    record {
      starts = record { is = ap (in_tables (with_tokens sem n d.state.tables)) b.starts.is };
      may = record { tables = k.tables; harts = k.harts; not_null = b.may.not_null };
      console = token_console sem n d.state h w e b.console;
    }

-- Who took a token of the input has an item.
pub item_taken : (left : Rest) (took : Bool) (d : CallState) → Begins d → took ≡ nat_lt 0 (semaphore_at d.state.tables 0).tokens → took ≡ true
    → HasItem (in_tables (waited took 0 left d.state.tables) d)
item_taken left took d b e h =
    subst (λ x. HasItem (in_tables (waited x 0 left d.state.tables) d)) (sym h) (by_tokens (semaphore_at d.state.tables 0).tokens refl (sym h ∙ e))
  where
    by_tokens : (tokens : ℕ) → tokens ≡ (semaphore_at d.state.tables 0).tokens → true ≡ nat_lt 0 tokens
        → HasItem (in_tables (with_tokens 0 ((semaphore_at d.state.tables 0).tokens - 1) d.state.tables) d)
    by_tokens zero f g = absurd (cc)
    by_tokens (suc n) f g =
        let s = d.state in
        let p = promised_token asks_input s.tables 0 n (device_within s.tables 0 b.may.tables.inside (omega arith)) (sym f) in
        let items = b.console.items in
        subst (λ k. HasItem (in_tables (with_tokens 0 k s.tables) d)) (omega (arith, f))
        (record { begins = begins_taken 0 n d b (omega arith) (sym f); item = omega (arith, p, items) })

-- Who took one of the output has room.
pub place_taken : (left : Rest) (took : Bool) (d : CallState) → Begins d → took ≡ nat_lt 0 (semaphore_at d.state.tables 1).tokens → took ≡ true
    → HasPlace (in_tables (waited took 1 left d.state.tables) d)
place_taken left took d b e h =
    subst (λ x. HasPlace (in_tables (waited x 1 left d.state.tables) d)) (sym h) (by_tokens (semaphore_at d.state.tables 1).tokens refl (sym h ∙ e))
  where
    by_tokens : (tokens : ℕ) → tokens ≡ (semaphore_at d.state.tables 1).tokens → true ≡ nat_lt 0 tokens
        → HasPlace (in_tables (with_tokens 1 ((semaphore_at d.state.tables 1).tokens - 1) d.state.tables) d)
    by_tokens zero f g = absurd (cc)
    by_tokens (suc n) f g =
        let s = d.state in
        let p = promised_token asks_output s.tables 1 n (device_within s.tables 1 b.may.tables.inside (omega arith)) (sym f) in
        let room = b.console.room in
        subst (λ k. HasPlace (in_tables (with_tokens 1 k s.tables) d)) (omega (arith, f))
        (record { begins = begins_taken 1 n d b (omega arith) (sym f); place = omega (arith, p, room) })

-- the state inside an event once the caller goes on
abbrev pub resumed : CallState → CallState
resumed d = record d { state = goes_on (held d.state) d.state }

begins_resumed : (d : CallState) → Begins d → Begins (resumed d)
begins_resumed d b =
    let h = holds_of d b in
    let k = goes_on_holds d.state h in
    record {
      starts = record { is = ap (λ (x : CallState). record x { state = goes_on (held d.state) d.state }) b.starts.is };
      may = record { tables = k.tables; harts = k.harts; not_null = b.may.not_null };
      console = goes_on_console d.state h b.console;
    }

-- Who was released from the input has an item,
pub item_released : (d : CallState) → GoesOn asks_input d → HasItem (resumed d)
item_released d g =
    let s = d.state in
    let h = holds_of d g.begins in
    let p = promised_goes_on asks_input 0 (held s) s refl (caller_within s h) h.tables.runs g.asked in
    let items = g.begins.console.items in
    record { begins = begins_resumed d g.begins; item = omega (arith, p, items) }

-- and who was released from the output has room.
pub place_released : (d : CallState) → GoesOn asks_output d → HasPlace (resumed d)
place_released d g =
    let s = d.state in
    let h = holds_of d g.begins in
    let p = promised_goes_on asks_output 1 (held s) s refl (caller_within s h) h.tables.runs g.asked in
    let room = g.begins.console.room in
    record { begins = begins_resumed d g.begins; place = omega (arith, p, room) }

-- A newline waits for its second token, after its carriage return,
pub newline_waits : (b : ℕ) (left : Rest) (u s : Xinu) (e : CallState) (took : Bool) → needs_return b (console_of s).mode ≡ true → u ≡ put 13 s
    → ((then_ : Xinu → CallResult) → await 1 left then_ u ≡ if_taken took then_ e) → took ≡ false
    → (then_ : Xinu → CallResult) → put_byte b left then_ s ≡ came_to e next.Waits
newline_waits b left u s e took needs is waits none then_ =
    ap (λ y. cond y (await 1 left (λ x. then_ (put 10 x)) (put 13 s)) (then_ (put b s))) needs
    ∙ sym (ap (await 1 left (λ x. then_ (put 10 x))) is) ∙ waits (λ x. then_ (put 10 x))
    ∙ ap (λ y. if_taken y (λ x. then_ (put 10 x)) e) none

-- or is put by it.
pub newline_put : (b : ℕ) (left : Rest) (u s : Xinu) (e : CallState) (took : Bool) → needs_return b (console_of s).mode ≡ true → u ≡ put 13 s
    → ((then_ : Xinu → CallResult) → await 1 left then_ u ≡ if_taken took then_ e) → took ≡ true
    → (m : CallState) → m.state ≡ put 10 e.state → (then_ : Xinu → CallResult) → put_byte b left then_ s ≡ then_ m.state
newline_put b left u s e took needs is waits some m puts then_ =
    ap (λ y. cond y (await 1 left (λ x. then_ (put 10 x)) (put 13 s)) (then_ (put b s))) needs
    ∙ sym (ap (await 1 left (λ x. then_ (put 10 x))) is) ∙ waits (λ x. then_ (put 10 x))
    ∙ ap (λ y. if_taken y (λ x. then_ (put 10 x)) e) some ∙ sym (ap then_ puts)
