-- The calls that take items from the console keep what holds of it, and touch nothing else.
use Rattle.std.proofs.Common.{◌≡◌, ℕ, zero, suc, ◌+◌, ◌-◌, ◌<◌, ◌≤◌, true, List, [], ◌∷◌, length, refl, sym, ap, subst, ◌∙◌, arith, ℤ, pos, negsuc}
use Rattle.std.proofs.lemmas.Bool.{cond_both, leb-true}
use Rattle.xinu_base.specs.Constants.{OK}
use Rattle.xinu_base.specs.declared.console.Item.{Item}
use Rattle.xinu_base.specs.declared.processes.Rest.{Rest}
use Rattle.xinu_base.specs.declared.processes.Rest.TheVariants.{TtyGet, TtyRead}
use Rattle.xinu_base.specs.declared.processes.Span.{Span}
use Rattle.xinu_laws.specs.Touches.{reach, Touches}
use Rattle.xinu_model.specs.Console.Sound.{IsSoundConsole}
use Rattle.xinu_model.specs.Console.Taking.{TY_ISEM, console_of, is_cooked, with_committed, char_of, take_char, take_next, console_getc, go_on_getc, span, stored, ends_line, count_at_end, read_item, read_next, reads, go_on_read, read_range, console_read}
use Rattle.xinu_model.specs.Console.State.{byte_of}
use Rattle.xinu_model.specs.Footprints.{on_console}
use Rattle.xinu_model.specs.Machine.{Xinu, CallResult, refused, goes_on}
use Rattle.xinu_model.specs.Memory.{ram_size, in_ram}
use Rattle.xinu_model.specs.Messages.{held}
use Rattle.xinu_model.specs.Semaphores.Calls.{answers}
use Rattle.xinu_model.specs.Semaphores.Counts.{with_tokens}
use Rattle.xinu_model.specs.Semaphores.Waiting.{take_token, await}
use Rattle.xinu_model.specs.Sound.Console.{promised, IsSpan, HasSpan}
use Rattle.xinu_model.specs.Sound.Tables.{asks_input}
use Rattle.xinu_model.specs.Tables.{process_at, semaphore_at}
use Rattle.xinu_laws.proofs.Consoles.Framed.{input_asks}
use Rattle.xinu_laws.proofs.Consoles.Kept.{Holds, HasConsole, KeepsConsole, HasSize, keeps_after, keeps_under, answers_keeps, refused_keeps, silent_keeps, device_within, caller_within, blocked_keeps, token_holds, token_touches, token_console, goes_on_holds, goes_on_touches, goes_on_console, console_touches}
use Rattle.xinu_laws.proofs.Consoles.Promised.{promised_token, promised_goes_on}
use Rattle.part_laws.proofs.Consoles.Transmissions.{sound_taken}
use Rattle.xinu_model.proofs.WholeRam.{length-with_bytes}

-- An item isn't promised to anybody but the caller, who has its token.
pub record HasItem (s : Xinu) : Type 0 where
  pub console : HasConsole s
  pub item : suc (promised asks_input TY_ISEM s.tables) ≤ length (console_of s).committed

-- A caller takes a token of the input and goes on, or waits for one. What follows may rest on a fact.
await_item : (Fact : Type 0) (left : Rest) (then_ : Xinu → CallResult) (s : Xinu) → Holds s → asks_input left ≡ true → (Fact → HasSpan left)
    → ((u : Xinu) → Holds u → KeepsConsole (Fact × HasItem u) u (then_ u))
    → KeepsConsole (Fact × HasConsole s) s (await TY_ISEM left then_ s)
await_item Fact left then_ s c asked range go = by_tokens (semaphore_at s.tables 0).tokens refl
  where
    by_tokens : (tokens : ℕ) → tokens ≡ (semaphore_at s.tables 0).tokens
        → KeepsConsole (Fact × HasConsole s) s (take_token tokens 0 left then_ s)
    by_tokens zero e =
        keeps_under s _ (λ p. (range p.0, p.1)) (blocked_keeps 0 left s c (omega arith) (sym e) asked (input_asks left asked))
    by_tokens (suc n) e =
        let u = record s { tables = with_tokens 0 n s.tables } in
        let f = promised_token asks_input s.tables 0 n (device_within s.tables 0 c.tables.inside (omega arith)) (sym e) in
        keeps_after s u (then_ u)
        (λ p. (p.0, record { console = token_console 0 n s c (omega arith) (sym e) p.1; item = (let items = p.1.items in omega arith) }))
        refl (token_touches 0 n s c (omega arith)) (λ _ z. z) (go u (token_holds 0 n s c (omega arith) (sym e)))

-- A caller that was released has its token.
goes_on_item : (s : Xinu) → Holds s → asks_input (process_at s.tables s.tables.current).rest ≡ true → HasConsole s
    → HasItem (goes_on (held s) s)
goes_on_item s c asked k = record {
  console = goes_on_console s c k;
  item = (let f = promised_goes_on asks_input 0 (held s) s refl (caller_within s c) c.tables.runs asked in let items = k.items in omega arith);
}

-- who has a token finds an item
no_item : {P : Type 0} (s : Xinu) → (console_of s).committed ≡ [] → HasItem s → P
no_item s e h = let n : length (console_of s).committed ≡ 0 = ap length e in let i = h.item in absurd (omega arith)

-- the first item is taken, and any memory written: that touches nothing else,
taken_touches : (items : List Item) (s : Xinu) (memory : List ℕ)
    → Touches (reach on_console) s (record (with_committed items s) { memory = memory })
taken_touches items s memory =
    console_touches s (record (with_committed items s) { memory = memory }) (record (console_of s) { committed = items }) refl refl refl

-- and keeps what holds of the console
taken_console : (x : Item) (items : List Item) (s : Xinu) (memory : List ℕ) → (console_of s).committed ≡ x ∷ items → HasItem s
    → HasConsole (record (with_committed items s) { memory = memory })
taken_console x items s memory e h =
    let k = h.console in
    let n : length (console_of s).committed ≡ suc (length items) = ap length e in
    let item = h.item in
    record {
      itself = sound_taken x (record (console_of s) { committed = items }) (subst (λ l. IsSoundConsole (record (console_of s) { committed = l })) e k.itself);
      items = omega arith;
      room = k.room;
      spans = k.spans;
    }

-- a character is taken
take_char_keeps : (items : List Item) (s : Xinu) → (console_of s).committed ≡ items → Holds s
    → KeepsConsole (HasItem s) s (take_char items s)
take_char_keeps [] s e c = keeps_under s _ (λ h. no_item s e h) (silent_keeps s c)
take_char_keeps (x ∷ items) s e c =
    let u = with_committed items s in
    keeps_after s u (answers (char_of (console_of s).mode x) u) (taken_console x items s s.memory e) refl (taken_touches items s s.memory)
    (λ _ z. z) (answers_keeps (char_of (console_of s).mode x) u (record { tables = c.tables; harts = c.harts }))

-- `getc`,
pub getc_keeps : (s : Xinu) → Holds s → KeepsConsole (HasConsole s) s (console_getc s)
getc_keeps s c =
    keeps_under s _ (λ p. (tt, p))
    (await_item (Unit {0}) TtyGet take_next s c refl (λ _. tt)
    (λ u d. keeps_under u _ (λ p. p.1) (take_char_keeps (console_of u).committed u refl d)))

-- which goes on.
pub go_on_getc_keeps : (s : Xinu) → Holds s
    → KeepsConsole (((process_at s.tables s.tables.current).rest ≡ TtyGet) × HasConsole s) s (go_on_getc s)
go_on_getc_keeps s c =
    let u = goes_on (held s) s in
    keeps_after s u (take_next u) (λ p. goes_on_item s c (ap asks_input p.0) p.1) refl (goes_on_touches s c) (λ _ z. z)
    (take_char_keeps (console_of u).committed u refl (goes_on_holds s c))

-- an item is taken and stored in RAM, and the rest of the read is done
read_item_keeps : (Fact : Type 0) (items : List Item) (at done : ℕ) (then_ : Xinu → CallResult) (s : Xinu)
    → (console_of s).committed ≡ items → Holds s → (Fact → at + done < ram_size)
    → ((u : Xinu) → Holds u → KeepsConsole (Fact × HasConsole u) u (then_ u))
    → KeepsConsole (Fact × HasItem s) s (read_item items at done then_ s)
read_item_keeps Fact [] at done then_ s e c within go = keeps_under s _ (λ p. no_item s e p.1) (silent_keeps s c)
read_item_keeps Fact (x ∷ items) at done then_ s e c within go =
    let mode = (console_of s).mode in
    let u = with_committed items s in
    let v = stored x at done u in
    let cu : Holds u = record { tables = c.tables; harts = c.harts } in
    let cv : Holds v = record { tables = c.tables; harts = c.harts } in
    let ku : Fact × HasItem s → HasConsole u = λ p. taken_console x items s s.memory e p.1 in
    let kv : Fact × HasItem s → HasConsole v = λ p. taken_console x items s v.memory e p.1 in
    let tu : Touches (reach on_console) s u = taken_touches items s s.memory in
    let tv : Touches (reach on_console) s v = taken_touches items s v.memory in
    let size : Fact × HasItem s → HasSize s → HasSize v = λ p z. (let w = within p.0 in
    length-with_bytes s.memory (at + done) 1 (byte_of x ∷ []) refl (omega (arith, w, z)) ∙ z) in
    cond_both _ _ _ (KeepsConsole (Fact × HasItem s) s)
    (λ _. keeps_after s u (answers (count_at_end done) u) ku refl tu (λ _ z. z) (answers_keeps (count_at_end done) u cu))
    (λ _. cond_both (ends_line mode x) (answers (pos (suc done)) v) (then_ v) (KeepsConsole (Fact × HasItem s) s)
    (λ _. keeps_after s v (answers (pos (suc done)) v) kv refl tv size (answers_keeps (pos (suc done)) v cv))
    (λ _. keeps_after s v (then_ v) (λ p. (p.0, kv p)) refl tv size (go v cv)))

-- this many bytes more are read
reads_keeps : (left at done : ℕ) (s : Xinu) → Holds s
    → KeepsConsole ((at + (done + left) ≤ ram_size) × HasConsole s) s (reads left at done s)
reads_keeps zero at done s c = keeps_under s _ (λ p. p.1) (answers_keeps (pos done) s c)
reads_keeps (suc left) at done s c =
    await_item (at + (done + suc left) ≤ ram_size) (TtyRead (span at done (done + suc left))) (read_next at done (reads left at (suc done))) s c refl (λ w. record { left = omega arith; within = w })
    (λ u d. read_item_keeps (at + (done + suc left) ≤ ram_size) (console_of u).committed at done (reads left at (suc done)) u refl d
    (λ w. omega (arith, w)) (λ v m. keeps_under v _ (λ p. (let w = p.0 in omega arith, p.1)) (reads_keeps left at (suc done) v m)))

-- A read goes on.
pub go_on_read_keeps : (part : Span) (s : Xinu) → Holds s
    → KeepsConsole (((process_at s.tables s.tables.current).rest ≡ TtyRead part) × HasConsole s) s (go_on_read part s)
go_on_read_keeps part s c =
    let u = goes_on (held s) s in
    let then_ = reads (part.want - suc part.done) part.at (suc part.done) in
    keeps_after s u (read_next part.at part.done then_ u)
    (λ p. (subst HasSpan p.0 (p.1.spans s.tables.current), goes_on_item s c (ap asks_input p.0) p.1)) refl (goes_on_touches s c) (λ _ z. z)
    (read_item_keeps (IsSpan part) (console_of u).committed part.at part.done then_ u refl (goes_on_holds s c)
    (λ w. let left = w.left in let within = w.within in omega arith)
    (λ v d. keeps_under v _ (λ p. (let left = p.0.left in let within = p.0.within in omega arith, p.1))
    (reads_keeps (part.want - suc part.done) part.at (suc part.done) v d)))

-- a read to a range
read_range_keeps : (at n : ℕ) (s : Xinu) → Holds s → KeepsConsole (HasConsole s) s (read_range at n s)
read_range_keeps at n s c =
    cond_both (in_ram at n) (reads n at 0 s) (refused s) (KeepsConsole (HasConsole s) s)
    (λ b. let f = leb-true (at + n) ram_size b in keeps_under s _ (λ p. (omega arith, p)) (reads_keeps n at 0 s c))
    (λ _. refused_keeps s c)

-- `read`.
pub read_keeps : (at : ℕ) (n : ℤ) (s : Xinu) → Holds s → KeepsConsole (HasConsole s) s (console_read at n s)
read_keeps at (negsuc n) s c = refused_keeps s c
read_keeps at (pos zero) s c =
    cond_both (is_cooked (console_of s).mode) (answers OK s) (read_range at (semaphore_at s.tables TY_ISEM).tokens s)
    (KeepsConsole (HasConsole s) s)
    (λ _. answers_keeps OK s c) (λ _. read_range_keeps at (semaphore_at s.tables TY_ISEM).tokens s c)
read_keeps at (pos (suc n)) s c = read_range_keeps at (suc n) s c
