-- A write to the console that finds room for all of it at once puts it byte by byte.
use Rattle.std.proofs.Common.{◌≡◌, ℕ, zero, suc, ◌+◌, ◌<◌, ◌≤◌, true, false, List, [], ◌∷◌, ◌++◌, length, refl, sym, ap, subst, ◌∙◌, arith, append_assoc, append-nil, pos, get_or-set_same}
use Rattle.std.proofs.Math.ListN.{length-set}
use Rattle.std.specs.Prelude.{slice_index}
use Rattle.std.proofs.lemmas.Bool.{cond_both, cond-true, cond-false}
use Rattle.xinu_base.specs.declared.console.TtyMode.{TtyMode}
use Rattle.xinu_base.specs.declared.processes.Rest.{Rest}
use Rattle.xinu_base.specs.declared.processes.Rest.TheVariants.{TtyWrite}
use Rattle.xinu_model.specs.Console.Constants.{TY_NEWLINE, TY_RETURN}
use Rattle.xinu_model.specs.Console.Putting.{TY_OSEM, put, needs_return, put_byte, writes, console_write}
use Rattle.xinu_model.specs.Console.Taking.{console_of, span}
use Rattle.xinu_model.specs.Machine.{Xinu, Returns, CallResult, refused}
use Rattle.xinu_model.specs.Memory.{in_ram, bytes_from}
use Rattle.xinu_model.specs.Semaphores.Counts.{with_tokens}
use Rattle.xinu_model.specs.Semaphores.Waiting.{take_token, await}
use Rattle.xinu_model.specs.Sound.State.{IsSound}
use Rattle.xinu_model.specs.Tables.{Semaphore, no_semaphore, semaphore_at}
use Rattle.event_laws.specs.WholeWrites.{put_of, Puts}

-- the first byte of a range, and the others
bytes_first : (memory : List ℕ) (at done left : ℕ)
    → bytes_from memory (at + done) (suc left) ≡ slice_index memory (at + done) ∷ bytes_from memory (at + suc done) left
unfolding bytes_from
bytes_first memory at done left =
    let place : at + done + 1 ≡ at + suc done = omega arith in
    ap (λ n. slice_index memory (at + done) ∷ bytes_from memory n left) place

no_bytes : (memory : List ℕ) (a : ℕ) → bytes_from memory a 0 ≡ []
unfolding bytes_from
no_bytes memory a = refl

-- What a write finds: room for these bytes as they are put.
record FindsRoom (mode : TtyMode) (bytes : List ℕ) (s : Xinu) : Type 0 where
  same : (console_of s).mode ≡ mode
  tokens : length (put_of mode bytes) ≤ (semaphore_at s.tables TY_OSEM).tokens
  table : 1 < length s.tables.semaphores

-- a state with other tokens of the output
abbrev with_room : ℕ → Xinu → Xinu
with_room t s = record s { tables = with_tokens TY_OSEM t s.tables }

room_is : (t : ℕ) (s : Xinu) → 1 < length s.tables.semaphores → (semaphore_at (with_room t s).tables TY_OSEM).tokens ≡ t
room_is t s table =
    let y : Semaphore = record (semaphore_at s.tables TY_OSEM) { tokens = t } in
    ap (λ (z : Semaphore). z.tokens) (get_or-set_same s.tables.semaphores TY_OSEM y no_semaphore table)

still_room : (t : ℕ) (s : Xinu) → 1 < length s.tables.semaphores → 1 < length (with_room t s).tables.semaphores
still_room t s table =
    let k = length-set s.tables.semaphores TY_OSEM (record (semaphore_at s.tables TY_OSEM) { tokens = t }) in
    omega (arith, k, table)

-- a wait that finds a token goes on
goes_on_with : (P : CallResult → Type 0) (left : Rest) (then_ : Xinu → CallResult) (s : Xinu) → 0 < (semaphore_at s.tables TY_OSEM).tokens
    → ((t : ℕ) → suc t ≡ (semaphore_at s.tables TY_OSEM).tokens → P (then_ (with_room t s))) → P (await TY_OSEM left then_ s)
goes_on_with P left then_ s some go = by_tokens (semaphore_at s.tables TY_OSEM).tokens refl
  where
    by_tokens : (t : ℕ) → t ≡ (semaphore_at s.tables TY_OSEM).tokens → P (take_token t TY_OSEM left then_ s)
    by_tokens zero e = absurd (omega (arith, e, some))
    by_tokens (suc t) e = go t e

-- What is shown of a write that goes on, some bytes of which are done.
abbrev Writes : TtyMode → ℕ → ℕ → ℕ → Xinu → Type 0
Writes mode left at done s =
    Puts (done + left) (put_of mode (bytes_from s.memory (at + done) left)) s (writes left at done s)

-- what was put goes before the rest
put_before : (n : ℕ) (first rest : List ℕ) (s u : Xinu) (h : CallResult) → (console_of u).output ≡ (console_of s).output ++ first
    → u.memory ≡ s.memory → Puts n rest u h → Puts n (first ++ rest) s h
put_before n first rest s u h output memory k = record {
  answer = k.answer;
  output = k.output ∙ ap (λ l. l ++ rest) output ∙ append_assoc (console_of s).output first rest;
  memory = k.memory ∙ memory;
}

-- One byte is put, and the rest is written.
module _ (mode : TtyMode) (left at done : ℕ)
    (go : (v : Xinu) → FindsRoom mode (bytes_from v.memory (at + suc done) left) v → Writes mode left at (suc done) v) where
  -- by whether a carriage return goes before it
  byte_put : (waits part : Rest) (s : Xinu)
      → FindsRoom mode (slice_index s.memory (at + done) ∷ bytes_from s.memory (at + suc done) left) s
      → Puts (suc done + left) (put_of mode (slice_index s.memory (at + done) ∷ bytes_from s.memory (at + suc done) left)) s
      (await TY_OSEM waits (λ x. put_byte (slice_index x.memory (at + done)) part (writes left at (suc done)) x) s)
  byte_put waits part s f =
      let b = slice_index s.memory (at + done) in
      let bytes = bytes_from s.memory (at + suc done) left in
      let then_ = writes left at (suc done) in
      cond_both (needs_return b mode) (TY_RETURN ∷ TY_NEWLINE ∷ put_of mode bytes) (b ∷ put_of mode bytes)
      (λ l. length l ≤ (semaphore_at s.tables TY_OSEM).tokens → Puts (suc done + left) l s (await TY_OSEM waits (λ x. put_byte (slice_index x.memory (at + done)) part then_ x) s))
      (λ h few. goes_on_with (Puts (suc done + left) (TY_RETURN ∷ TY_NEWLINE ∷ put_of mode bytes) s) waits (λ x. put_byte (slice_index x.memory (at + done)) part then_ x) s (omega (arith, few))
      (λ t e. let u = with_room t s in
      let first = put TY_RETURN u in
      let room = room_is t s f.table in
      subst (Puts (suc done + left) (TY_RETURN ∷ TY_NEWLINE ∷ put_of mode bytes) s)
      (sym (cond-true (needs_return b (console_of u).mode) (await TY_OSEM part (λ x. then_ (put TY_NEWLINE x)) first) (then_ (put b u)) (ap (needs_return b) f.same ∙ h)))
      (goes_on_with (Puts (suc done + left) (TY_RETURN ∷ TY_NEWLINE ∷ put_of mode bytes) s) part (λ x. then_ (put TY_NEWLINE x)) first (omega (arith, few, e, room))
      (λ r d. let w = put TY_NEWLINE (with_room r first) in
      let more = room_is r first (still_room t s f.table) in
      put_before (suc done + left) (TY_RETURN ∷ TY_NEWLINE ∷ []) (put_of mode bytes) s w (then_ w)
      (append_assoc (console_of s).output (TY_RETURN ∷ []) (TY_NEWLINE ∷ [])) refl
      (go w (record { same = f.same; tokens = omega (arith, few, e, room, d, more); table = still_room r first (still_room t s f.table) }))))))
      (λ h few. goes_on_with (Puts (suc done + left) (b ∷ put_of mode bytes) s) waits (λ x. put_byte (slice_index x.memory (at + done)) part then_ x) s (omega (arith, few))
      (λ t e. let u = with_room t s in
      let w = put b u in
      let room = room_is t s f.table in
      subst (Puts (suc done + left) (b ∷ put_of mode bytes) s)
      (sym (cond-false (needs_return b (console_of u).mode) (await TY_OSEM part (λ x. then_ (put TY_NEWLINE x)) (put TY_RETURN u)) (then_ w) (ap (needs_return b) f.same ∙ h)))
      (put_before (suc done + left) (b ∷ []) (put_of mode bytes) s w (then_ w) refl refl
      (go w (record { same = f.same; tokens = omega (arith, few, e, room); table = still_room t s f.table })))))
      f.tokens

-- a write with its tokens
writes_whole : (mode : TtyMode) (left at done : ℕ) (s : Xinu) → FindsRoom mode (bytes_from s.memory (at + done) left) s
    → Writes mode left at done s
writes_whole mode zero at done s f =
    let none : put_of mode (bytes_from s.memory (at + done) 0) ≡ [] = ap (put_of mode) (no_bytes s.memory (at + done)) in
    record {
      answer = (let e : done ≡ done + 0 = omega arith in ap (λ n. Returns (pos n)) e);
      output = sym (ap (λ l. (console_of s).output ++ l) none ∙ append-nil (console_of s).output);
      memory = refl;
    }
writes_whole mode (suc left) at done s f =
    let b = slice_index s.memory (at + done) in
    let first = bytes_first s.memory at done left in
    let part = span at done (done + suc left) in
    let count : suc done + left ≡ done + suc left = omega arith in
    let result = writes (suc left) at done s in
    subst (λ n. Puts n (put_of mode (bytes_from s.memory (at + done) (suc left))) s result) count
    (subst (λ l. Puts (suc done + left) (put_of mode l) s result) (sym first)
    (byte_put mode left at done (λ v g. writes_whole mode left at (suc done) v g) (TtyWrite part false) (TtyWrite part true) s (subst (λ l. FindsRoom mode l s) first f)))

-- A write to the console.
pub whole_writes : (at n : ℕ) (s : Xinu) → IsSound s → in_ram at n ≡ true
    → length (put_of (console_of s).mode (bytes_from s.memory at n)) ≤ (semaphore_at s.tables TY_OSEM).tokens
    → Puts n (put_of (console_of s).mode (bytes_from s.memory at n)) s (console_write at (pos n) s)
whole_writes at n s k fits few =
    let mode = (console_of s).mode in
    let place : at ≡ at + 0 = omega arith in
    let table : 1 < length s.tables.semaphores = (let e = k.tables.inside.semaphores in omega (arith, e)) in
    let found : FindsRoom mode (bytes_from s.memory at n) s = record { same = refl; tokens = few; table = table } in
    let whole : Writes mode n at 0 s = writes_whole mode n at 0 s (subst (λ a. FindsRoom mode (bytes_from s.memory a n) s) place found) in
    let count : 0 + n ≡ n = omega arith in
    subst (Puts n (put_of mode (bytes_from s.memory at n)) s) (sym (cond-true (in_ram at n) (writes n at 0 s) (refused s) fits))
    (subst (λ a. Puts n (put_of mode (bytes_from s.memory a n)) s (writes n at 0 s)) (sym place)
    (subst (λ m. Puts m (put_of mode (bytes_from s.memory (at + 0) n)) s (writes n at 0 s)) count whole))
