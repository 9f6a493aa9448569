-- A read of the console that finds all its items at once stores what it takes, byte by byte.
use Rattle.std.proofs.Common.{◌≡◌, ℕ, zero, suc, ◌+◌, ◌==◌, ◌<◌, ◌≤◌, Bool, true, false, cond, ◌&&◌, List, [], ◌∷◌, ◌++◌, length, take, drop, refl, sym, ap, subst, ◌∙◌, arith, append_assoc, length-append, pos, get_or-set_same}
use Rattle.std.specs.List.{AllByRecursion}
use Rattle.std.proofs.Math.ListN.{length-set}
use Rattle.std.proofs.Math.Seq.{drop-append-add}
use Rattle.std.proofs.lemmas.Bool.{cond_both, cond-true, cond-false, leb-true}
use Rattle.std.proofs.lemmas.List.{append-nil, drop-drop, length-take-le, take-append-drop, take_at}
use Rattle.xinu_base.specs.declared.console.Item.{Item}
use Rattle.xinu_base.specs.declared.processes.Rest.TheVariants.{TtyRead}
use Rattle.xinu_model.specs.Console.Constants.{TY_NEWLINE}
use Rattle.xinu_model.specs.Console.State.{byte_of}
use Rattle.xinu_model.specs.Console.Taking.{TY_ISEM, console_of, is_cooked, is_end, with_committed, span, stored, ends_line, count_at_end, read_item, read_next, reads, console_read}
use Rattle.xinu_model.specs.Machine.{Xinu, Returns, CallResult, refused}
use Rattle.xinu_model.specs.Memory.{ram_size, in_ram, with_bytes}
use Rattle.xinu_model.specs.Semaphores.Calls.{answers}
use Rattle.xinu_model.specs.Semaphores.Counts.{with_tokens}
use Rattle.xinu_model.specs.Semaphores.Waiting.{take_token}
use Rattle.xinu_model.specs.Sound.State.{IsSound}
use Rattle.xinu_model.specs.Tables.{Semaphore, no_semaphore, semaphore_at}
use Rattle.event_laws.specs.WholeReads.{taken_of, Brings}
use Rattle.xinu_model.proofs.WholeRam.{length-with_bytes}

-- no bytes change nothing
no_bytes : (memory : List ℕ) (a : ℕ) → with_bytes memory a 0 [] ≡ memory
no_bytes memory a =
    let e : a + 0 ≡ a = omega arith in
    ap (λ l. l ++ drop (a + 0) memory) (append-nil (take a memory)) ∙ ap (λ k. take a memory ++ drop k memory) e ∙ take-append-drop a memory

-- a byte and those after it are written together
together : (memory : List ℕ) (a b : ℕ) (bytes : List ℕ) → a + 1 ≤ length memory
    → with_bytes (with_bytes memory a 1 (b ∷ [])) (a + 1) (length bytes) bytes ≡ with_bytes memory a (suc (length bytes)) (b ∷ bytes)
together memory a b bytes within =
    let front = take a memory ++ b ∷ [] in
    let back = drop (a + 1) memory in
    let k = length bytes in
    let size : length front ≡ a + 1 = (let e = length-append (take a memory) (b ∷ []) in let f = length-take-le a memory (omega arith) in omega (arith, e, f)) in
    let far : a + 1 + k ≡ a + suc k = omega arith in
    ap (λ l. l ++ bytes ++ drop (a + 1 + k) (front ++ back)) (take_at front back (a + 1) size)
    ∙ ap (λ l. front ++ bytes ++ l)
    (ap (λ n. drop (n + k) (front ++ back)) (sym size) ∙ drop-append-add front back k ∙ drop-drop k (a + 1) memory ∙ ap (λ n. drop n memory) far)
    ∙ ap (λ l. l ++ drop (a + suc k) memory) (append_assoc (take a memory) (b ∷ []) bytes)

-- What is brought of a read, some bytes of which are done.
pub record BringsMore (at done : ℕ) (bytes : List ℕ) (s : Xinu) (h : CallResult) : Type 0 where
  pub answer : h.answer ≡ Returns (pos (done + length bytes))
  pub memory : h.call.state.memory ≡ with_bytes s.memory (at + done) (length bytes) bytes
  pub taken : (console_of h.call.state).committed ≡ drop (length bytes) (console_of s).committed

-- What a read finds: so many tokens, these items first, and room in RAM.
record FindsItems (cooked : Bool) (items : List Item) (at done : ℕ) (s : Xinu) : Type 0 where
  mode : is_cooked (console_of s).mode ≡ cooked
  rest : List Item
  first : (console_of s).committed ≡ items ++ rest
  tokens : length items ≤ (semaphore_at s.tables TY_ISEM).tokens
  table : 0 < length s.tables.semaphores
  no_end : AllByRecursion (λ (x : Item). cooked && is_end x ≡ false) items
  room : at + done + length items ≤ length s.memory

-- the state once the first item was taken by its token and stored
abbrev after_item : ℕ → Item → List Item → ℕ → ℕ → Xinu → Xinu
after_item t x left at done s = stored x at done (with_committed left (record s { tables = with_tokens TY_ISEM t s.tables }))

-- one byte more was brought before these
one_more : (at done : ℕ) (x : Item) (left : List Item) (t : ℕ) (bytes : List ℕ) (s : Xinu) (h : CallResult) → at + done + 1 ≤ length s.memory
    → (console_of s).committed ≡ x ∷ left → BringsMore at (suc done) bytes (after_item t x left at done s) h
    → BringsMore at done (byte_of x ∷ bytes) s h
one_more at done x left t bytes s h within first more =
    let place : at + suc done ≡ at + done + 1 = omega arith in
    let count : suc done + length bytes ≡ done + suc (length bytes) = omega arith in
    record {
      answer = more.answer ∙ ap (λ n. Returns (pos n)) count;
      memory = more.memory ∙ ap (λ n. with_bytes (with_bytes s.memory (at + done) 1 (byte_of x ∷ [])) n (length bytes) bytes) place
          ∙ together s.memory (at + done) (byte_of x) bytes within;
      taken = more.taken ∙ sym (ap (drop (suc (length bytes))) first);
    }

-- the last byte
last_one : (at done : ℕ) (x : Item) (left : List Item) (t : ℕ) (s : Xinu) → at + done + 1 ≤ length s.memory
    → (console_of s).committed ≡ x ∷ left
    → BringsMore at done (byte_of x ∷ []) s (answers (pos (suc done)) (after_item t x left at done s))
last_one at done x left t s within first =
    one_more at done x left t [] s (answers (pos (suc done)) (after_item t x left at done s)) within first
    (record {
      answer = (let e : suc done ≡ suc done + 0 = omega arith in ap (λ n. Returns (pos n)) e);
      memory = sym (no_bytes (with_bytes s.memory (at + done) 1 (byte_of x ∷ [])) (at + suc done));
      taken = refl;
    })

-- what is taken, item by item
taken_first : (cooked : Bool) (x : Item) (items : List Item)
    → taken_of cooked (x ∷ items) ≡ cond (cooked && (byte_of x == TY_NEWLINE)) (byte_of x ∷ []) (byte_of x ∷ taken_of cooked items)
taken_first true x items = refl
taken_first false x items = refl

-- a read with its tokens
reads_whole : (cooked : Bool) (items : List Item) (at done : ℕ) (s : Xinu) → FindsItems cooked items at done s
    → BringsMore at done (taken_of cooked items) s (reads (length items) at done s)
reads_whole true [] at done s f = record {
  answer = (let e : done ≡ done + 0 = omega arith in ap (λ n. Returns (pos n)) e);
  memory = sym (no_bytes s.memory (at + done));
  taken = refl;
}
reads_whole false [] at done s f = record {
  answer = (let e : done ≡ done + 0 = omega arith in ap (λ n. Returns (pos n)) e);
  memory = sym (no_bytes s.memory (at + done));
  taken = refl;
}
reads_whole cooked (x ∷ items) at done s f =
    by_tokens (λ v g. reads_whole cooked items at (suc done) v g) (semaphore_at s.tables TY_ISEM).tokens refl
  where
    n : ℕ
    n = length items

    left : List Item
    left = items ++ f.rest

    within : at + done + 1 ≤ length s.memory
    within = let r = f.room in omega (arith, r)

    -- what is shown of the rest of a read
    Goes : Type 0
    Goes = (v : Xinu) → FindsItems cooked items at (suc done) v
        → BringsMore at (suc done) (taken_of cooked items) v (reads (length items) at (suc done) v)

    goal : ℕ → Type 0
    goal t = BringsMore at done (taken_of cooked (x ∷ items)) s
        (take_token t TY_ISEM (TtyRead (span at done (done + suc n))) (read_next at done (reads n at (suc done))) s)

    -- what the rest of the read finds
    finds : (t : ℕ) → suc t ≡ (semaphore_at s.tables TY_ISEM).tokens → FindsItems cooked items at (suc done) (after_item t x left at done s)
    finds t e = record {
      mode = f.mode;
      rest = f.rest;
      first = refl;
      tokens = (let y : Semaphore = record (semaphore_at s.tables TY_ISEM) { tokens = t } in
          let g : (semaphore_at (with_tokens TY_ISEM t s.tables) TY_ISEM).tokens ≡ t = ap (λ (z : Semaphore). z.tokens) (get_or-set_same s.tables.semaphores TY_ISEM y no_semaphore f.table) in
          let all = f.tokens in
          omega (arith, g, e, all));
      table = (let k = length-set s.tables.semaphores TY_ISEM (record (semaphore_at s.tables TY_ISEM) { tokens = t }) in let h = f.table in omega (arith, k, h));
      no_end = f.no_end.1;
      room = (let k = length-with_bytes s.memory (at + done) 1 (byte_of x ∷ []) refl within in let r = f.room in omega (arith, k, r));
    }

    -- the first item is no end mark, so it is stored; it ends the read if it is a newline in cooked mode
    item : Goes → (t : ℕ) → suc t ≡ (semaphore_at s.tables TY_ISEM).tokens
        → BringsMore at done (taken_of cooked (x ∷ items)) s
        (read_item (x ∷ left) at done (reads n at (suc done)) (record s { tables = with_tokens TY_ISEM t s.tables }))
    item go t e =
        let v = after_item t x left at done s in
        let u = with_committed left (record s { tables = with_tokens TY_ISEM t s.tables }) in
        let ends = ends_line (console_of s).mode x in
        let last = answers (pos (suc done)) v in
        let more = reads n at (suc done) v in
        let plain : is_cooked (console_of s).mode && is_end x ≡ false = ap (λ b. b && is_end x) f.mode ∙ f.no_end.0 in
        let ends_is : ends ≡ cooked && (byte_of x == TY_NEWLINE) = ap (λ b. b && (byte_of x == TY_NEWLINE)) f.mode in
        subst (BringsMore at done (taken_of cooked (x ∷ items)) s)
        (sym (cond-false (is_cooked (console_of s).mode && is_end x) (answers (count_at_end done) u) (cond ends last more) plain))
        (cond_both ends last more (BringsMore at done (taken_of cooked (x ∷ items)) s)
        (λ b. subst (λ bytes. BringsMore at done bytes s last)
        (sym (taken_first cooked x items ∙ cond-true (cooked && (byte_of x == TY_NEWLINE)) (byte_of x ∷ []) (byte_of x ∷ taken_of cooked items) (sym ends_is ∙ b)))
        (last_one at done x left t s within f.first))
        (λ b. subst (λ bytes. BringsMore at done bytes s more)
        (sym (taken_first cooked x items ∙ cond-false (cooked && (byte_of x == TY_NEWLINE)) (byte_of x ∷ []) (byte_of x ∷ taken_of cooked items) (sym ends_is ∙ b)))
        (one_more at done x left t (taken_of cooked items) s more within f.first (go v (finds t e)))))

    by_tokens : Goes → (t : ℕ) → t ≡ (semaphore_at s.tables TY_ISEM).tokens → goal t
    by_tokens go zero e = absurd (let all = f.tokens in omega (arith, all, e))
    by_tokens go (suc t) e =
        subst (λ l. BringsMore at done (taken_of cooked (x ∷ items)) s (read_item l at done (reads n at (suc done)) (record s { tables = with_tokens TY_ISEM t s.tables })))
        (sym f.first) (item go t e)

-- A read of the console.
pub whole_reads : (at n : ℕ) (s : Xinu) → IsSound s → suc n ≤ (semaphore_at s.tables TY_ISEM).tokens → in_ram at (suc n) ≡ true
    → AllByRecursion (λ (x : Item). is_cooked (console_of s).mode && is_end x ≡ false) (take (suc n) (console_of s).committed)
    → Brings at (taken_of (is_cooked (console_of s).mode) (take (suc n) (console_of s).committed)) s (console_read at (pos (suc n)) s)
whole_reads at n s k tokens fits plain =
    let items = take (suc n) (console_of s).committed in
    let cooked = is_cooked (console_of s).mode in
    let there = k.devices.console.items in
    let many : length items ≡ suc n = length-take-le (suc n) (console_of s).committed (omega (arith, there, tokens)) in
    let place : at + 0 ≡ at = omega arith in
    let count : 0 + length (taken_of cooked items) ≡ length (taken_of cooked items) = omega arith in
    let b : BringsMore at 0 (taken_of cooked items) s (reads (length items) at 0 s) = reads_whole cooked items at 0 s (record {
      mode = refl;
      rest = drop (suc n) (console_of s).committed;
      first = sym (take-append-drop (suc n) (console_of s).committed);
      tokens = omega (arith, many, tokens);
      table = (let e = k.tables.inside.semaphores in omega (arith, e));
      no_end = plain;
      room = (let e = leb-true (at + suc n) ram_size fits in let f = k.ram.bytes in omega (arith, e, f, many));
    }) in
    let c : BringsMore at 0 (taken_of cooked items) s (reads (suc n) at 0 s) = subst (λ m. BringsMore at 0 (taken_of cooked items) s (reads m at 0 s)) many b in
    subst (Brings at (taken_of cooked items) s) (sym (cond-true (in_ram at (suc n)) (reads (suc n) at 0 s) (refused s) fits))
    (record {
      answer = c.answer ∙ ap (λ m. Returns (pos m)) count;
      memory = c.memory ∙ ap (λ m. with_bytes s.memory m (length (taken_of cooked items)) (taken_of cooked items)) place;
      taken = c.taken;
    })
