-- The calls that put bytes to the console keep what holds of it, and touch nothing else.
use Rattle.std.proofs.Common.{◌≡◌, ℕ, zero, suc, ◌+◌, ◌-◌, ◌≤◌, Bool, true, false, [], ◌∷◌, length, refl, sym, ap, subst, arith, ℤ, pos, negsuc}
use Rattle.std.specs.Prelude.{slice_index}
use Rattle.std.proofs.lemmas.Bool.{cond_both, leb-true}
use Rattle.std.proofs.lemmas.List.{length-append}
use Rattle.xinu_base.specs.Constants.{OK}
use Rattle.xinu_base.specs.declared.processes.Rest.{Rest}
use Rattle.xinu_base.specs.declared.processes.Rest.TheVariants.{TtyPut, TtyWrite}
use Rattle.xinu_base.specs.declared.processes.Span.{Span}
use Rattle.xinu_laws.specs.Touches.{reach, Touches}
use Rattle.xinu_model.specs.Console.Constants.{TY_OBUFLEN, TY_NEWLINE, TY_RETURN}
use Rattle.xinu_model.specs.Console.Putting.{TY_OSEM, put, needs_return, put_byte, console_putc, go_on_putc, writes, go_on_write, console_write}
use Rattle.xinu_model.specs.Console.State.{with_output}
use Rattle.xinu_model.specs.Console.Taking.{console_of, span}
use Rattle.xinu_model.specs.Footprints.{on_console}
use Rattle.xinu_model.specs.Machine.{Xinu, CallResult, refused, goes_on}
use Rattle.xinu_model.specs.Memory.{ram_size, in_ram}
use Rattle.xinu_model.specs.Messages.{held}
use Rattle.xinu_model.specs.Semaphores.Calls.{answers}
use Rattle.xinu_model.specs.Semaphores.Counts.{with_tokens}
use Rattle.xinu_model.specs.Semaphores.Waiting.{take_token, await}
use Rattle.xinu_model.specs.Sound.Console.{promised, IsSpan, HasSpan}
use Rattle.xinu_model.specs.Sound.Tables.{asks_output}
use Rattle.xinu_model.specs.Tables.{process_at, semaphore_at}
use Rattle.xinu_laws.proofs.Consoles.Framed.{output_asks}
use Rattle.xinu_laws.proofs.Consoles.Kept.{Holds, HasConsole, KeepsConsole, keeps_after, keeps_under, answers_keeps, refused_keeps, device_within, caller_within, blocked_keeps, token_holds, token_touches, token_console, goes_on_holds, goes_on_touches, goes_on_console, console_touches}
use Rattle.xinu_laws.proofs.Consoles.Promised.{promised_token, promised_goes_on}
use Rattle.part_laws.proofs.Consoles.Transmissions.{sound_put}

-- Room isn't promised to anybody but the caller, who has its token.
pub record HasPlace (s : Xinu) : Type 0 where
  pub console : HasConsole s
  pub place : suc (length (console_of s).output + promised asks_output TY_OSEM s.tables) ≤ TY_OBUFLEN

-- A caller takes a token of the output and goes on, or waits for one. What follows may rest on a fact.
await_place : (Fact : Type 0) (left : Rest) (then_ : Xinu → CallResult) (s : Xinu) → Holds s → asks_output left ≡ true
    → (Fact → HasSpan left) → ((u : Xinu) → Holds u → KeepsConsole (Fact × HasPlace u) u (then_ u))
    → KeepsConsole (Fact × HasConsole s) s (await TY_OSEM left then_ s)
await_place Fact left then_ s c asked range go = by_tokens (semaphore_at s.tables 1).tokens refl
  where
    by_tokens : (tokens : ℕ) → tokens ≡ (semaphore_at s.tables 1).tokens
        → KeepsConsole (Fact × HasConsole s) s (take_token tokens 1 left then_ s)
    by_tokens zero e =
        keeps_under s _ (λ p. (range p.0, p.1)) (blocked_keeps 1 left s c (omega arith) (sym e) asked (output_asks left asked))
    by_tokens (suc n) e =
        let u = record s { tables = with_tokens 1 n s.tables } in
        let f = promised_token asks_output s.tables 1 n (device_within s.tables 1 c.tables.inside (omega arith)) (sym e) in
        keeps_after s u (then_ u)
        (λ p. (p.0, record { console = token_console 1 n s c (omega arith) (sym e) p.1; place = (let room = p.1.room in omega arith) }))
        refl (token_touches 1 n s c (omega arith)) (λ _ z. z) (go u (token_holds 1 n s c (omega arith) (sym e)))

-- A caller that was released has its token.
goes_on_place : (s : Xinu) → Holds s → asks_output (process_at s.tables s.tables.current).rest ≡ true → HasConsole s
    → HasPlace (goes_on (held s) s)
goes_on_place s c asked k = record {
  console = goes_on_console s c k;
  place = (let f = promised_goes_on asks_output 1 (held s) s refl (caller_within s c) c.tables.runs asked in let room = k.room in omega arith);
}

-- a byte is put in its room: that keeps what holds of the console, and touches nothing else
put_console : (b : ℕ) (s : Xinu) → HasPlace s → HasConsole (put b s)
put_console b s h =
    let k = h.console in
    let n = length-append (console_of s).output (b ∷ []) in
    let place = h.place in
    record { itself = sound_put b (console_of s) k.itself (omega arith); items = k.items; room = omega arith; spans = k.spans }

put_holds : (b : ℕ) (s : Xinu) → Holds s → Holds (put b s)
put_holds b s c = record { tables = c.tables; harts = c.harts }

put_touches : (b : ℕ) (s : Xinu) → Touches (reach on_console) s (put b s)
put_touches b s = console_touches s (put b s) (with_output b (console_of s)) refl refl refl

-- A byte is put by a caller that has its token, and what follows is done.
put_byte_keeps : (Fact : Type 0) (b : ℕ) (left : Rest) (then_ : Xinu → CallResult) (s : Xinu) → Holds s → asks_output left ≡ true
    → (Fact → HasSpan left) → ((u : Xinu) → Holds u → KeepsConsole (Fact × HasConsole u) u (then_ u))
    → KeepsConsole (Fact × HasPlace s) s (put_byte b left then_ s)
put_byte_keeps Fact b left then_ s c asked range go =
    let first = put TY_RETURN s in
    let whole = put b s in
    let more = await TY_OSEM left (λ x. then_ (put TY_NEWLINE x)) first in
    cond_both (needs_return b (console_of s).mode) more (then_ whole) (KeepsConsole (Fact × HasPlace s) s)
    (λ _. keeps_after s first more (λ p. (p.0, put_console TY_RETURN s p.1)) refl (put_touches TY_RETURN s) (λ _ z. z)
    (await_place Fact left (λ x. then_ (put TY_NEWLINE x)) first (put_holds TY_RETURN s c) asked range
    (λ u d. let v = put TY_NEWLINE u in
    keeps_after u v (then_ v) (λ p. (p.0, put_console TY_NEWLINE u p.1)) refl (put_touches TY_NEWLINE u) (λ _ z. z)
    (go v (put_holds TY_NEWLINE u d)))))
    (λ _. keeps_after s whole (then_ whole) (λ p. (p.0, put_console b s p.1)) refl (put_touches b s) (λ _ z. z) (go whole (put_holds b s c)))

-- a call that has nothing more to put
put_last_keeps : (b : ℕ) (left : Rest) (s : Xinu) → Holds s → asks_output left ≡ true → HasSpan left
    → KeepsConsole (HasPlace s) s (put_byte b left (answers OK) s)
put_last_keeps b left s c asked range =
    keeps_under s _ (λ p. (tt, p))
    (put_byte_keeps (Unit {0}) b left (answers OK) s c asked (λ _. range) (λ v d. keeps_under v _ (λ p. p.1) (answers_keeps OK v d)))

-- `putc`,
pub putc_keeps : (b : ℕ) (s : Xinu) → Holds s → KeepsConsole (HasConsole s) s (console_putc b s)
putc_keeps b s c =
    keeps_under s _ (λ p. (tt, p))
    (await_place (Unit {0}) (TtyPut b false) (put_byte b (TtyPut b true) (answers OK)) s c refl (λ _. tt)
    (λ u d. keeps_under u _ (λ p. p.1) (put_last_keeps b (TtyPut b true) u d refl tt)))

-- which goes on.
pub go_on_putc_keeps : (b : ℕ) (returned : Bool) (s : Xinu) → Holds s
    → KeepsConsole (((process_at s.tables s.tables.current).rest ≡ TtyPut b returned) × HasConsole s) s (go_on_putc b returned s)
go_on_putc_keeps b true s c =
    let u = goes_on (held s) s in
    let v = put TY_NEWLINE u in
    keeps_after s u (answers OK v) (λ p. goes_on_place s c (ap asks_output p.0) p.1) refl (goes_on_touches s c) (λ _ z. z)
    (keeps_after u v (answers OK v) (put_console TY_NEWLINE u) refl (put_touches TY_NEWLINE u) (λ _ z. z)
    (answers_keeps OK v (put_holds TY_NEWLINE u (goes_on_holds s c))))
go_on_putc_keeps b false s c =
    let u = goes_on (held s) s in
    keeps_after s u (put_byte b (TtyPut b true) (answers OK) u) (λ p. goes_on_place s c (ap asks_output p.0) p.1) refl (goes_on_touches s c) (λ _ z. z)
    (put_last_keeps b (TtyPut b true) u (goes_on_holds s c) refl tt)

-- this many bytes more are written
writes_keeps : (left at done : ℕ) (s : Xinu) → Holds s
    → KeepsConsole ((at + (done + left) ≤ ram_size) × HasConsole s) s (writes left at done s)
writes_keeps zero at done s c = keeps_under s _ (λ p. p.1) (answers_keeps (pos done) s c)
writes_keeps (suc left) at done s c =
    let Fact = at + (done + suc left) ≤ ram_size in
    let part = span at done (done + suc left) in
    let range : Fact → IsSpan part = λ w. record { left = omega arith; within = w } in
    await_place Fact (TtyWrite part false)
    (λ x. put_byte (slice_index x.memory (at + done)) (TtyWrite part true) (writes left at (suc done)) x) s c refl range
    (λ u d. put_byte_keeps Fact (slice_index u.memory (at + done)) (TtyWrite part true) (writes left at (suc done)) u d refl range
    (λ v m. keeps_under v _ (λ p. (let w = p.0 in omega arith, p.1)) (writes_keeps left at (suc done) v m)))

-- the rest of a write, of which a byte was put
writes_on_keeps : (part : Span) (s : Xinu) → Holds s
    → KeepsConsole (IsSpan part × HasConsole s) s (writes (part.want - suc part.done) part.at (suc part.done) s)
writes_on_keeps part s c =
    keeps_under s _ (λ p. (let left = p.0.left in let within = p.0.within in omega arith, p.1))
    (writes_keeps (part.want - suc part.done) part.at (suc part.done) s c)

-- A write goes on.
pub go_on_write_keeps : (part : Span) (returned : Bool) (s : Xinu) → Holds s
    → KeepsConsole (((process_at s.tables s.tables.current).rest ≡ TtyWrite part returned) × HasConsole s) s (go_on_write part returned s)
go_on_write_keeps part true s c =
    let u = goes_on (held s) s in
    let v = put TY_NEWLINE u in
    let more = writes (part.want - suc part.done) part.at (suc part.done) v in
    keeps_after {Q = IsSpan part × HasPlace u} s u more
    (λ p. (subst HasSpan p.0 (p.1.spans s.tables.current), goes_on_place s c (ap asks_output p.0) p.1)) refl (goes_on_touches s c) (λ _ z. z)
    (keeps_after u v more (λ p. (p.0, put_console TY_NEWLINE u p.1)) refl (put_touches TY_NEWLINE u) (λ _ z. z)
    (writes_on_keeps part v (put_holds TY_NEWLINE u (goes_on_holds s c))))
go_on_write_keeps part false s c =
    let u = goes_on (held s) s in
    let then_ = writes (part.want - suc part.done) part.at (suc part.done) in
    let b = slice_index s.memory (part.at + part.done) in
    keeps_after s u (put_byte b (TtyWrite part true) then_ u)
    (λ p. (subst HasSpan p.0 (p.1.spans s.tables.current), goes_on_place s c (ap asks_output p.0) p.1)) refl (goes_on_touches s c) (λ _ z. z)
    (put_byte_keeps (IsSpan part) b (TtyWrite part true) then_ u (goes_on_holds s c) refl (λ r. r) (λ v d. writes_on_keeps part v d))

-- `write`.
pub write_keeps : (at : ℕ) (n : ℤ) (s : Xinu) → Holds s → KeepsConsole (HasConsole s) s (console_write at n s)
write_keeps at (negsuc n) s c = refused_keeps s c
write_keeps at (pos n) s c =
    cond_both (in_ram at n) (writes n at 0 s) (refused s) (KeepsConsole (HasConsole s) s)
    (λ b. let f = leb-true (at + n) ram_size b in keeps_under s _ (λ p. (omega arith, p)) (writes_keeps n at 0 s c))
    (λ _. refused_keeps s c)
