-- Who is told of the end of the input takes the end mark first, in cooked mode.
use Rattle.std.proofs.Common.{◌≡◌, ℕ, zero, suc, ◌+◌, ◌-◌, ◌<◌, ◌&&◌, Bool, true, false, cond, List, [], ◌∷◌, refl, sym, ◌∙◌, ap, subst, arith, ℤ, pos, negsuc}
use Rattle.xinu_base.specs.Constants.{EOF}
use Rattle.xinu_base.specs.declared.console.Item.{Item}
use Rattle.xinu_base.specs.declared.console.Item.TheVariants.{Char, End}
use Rattle.xinu_base.specs.declared.console.TtyMode.{TtyMode}
use Rattle.xinu_base.specs.declared.console.TtyMode.TheVariants.{Raw, Cbreak, Cooked}
use Rattle.xinu_base.specs.declared.processes.Rest.{Rest}
use Rattle.xinu_base.specs.declared.processes.Rest.TheVariants.{TtyGet, TtyRead}
use Rattle.xinu_base.specs.declared.processes.Span.{Span}
use Rattle.part_laws.specs.Consoles.{IsAtEnd}
use Rattle.xinu_model.specs.Console.State.{Console}
use Rattle.xinu_model.specs.Console.Taking.{TY_ISEM, console_of, is_cooked, is_end, with_committed, char_of, take_char, take_next, console_getc, go_on_getc, span, stored, ends_line, count_at_end, read_item, read_next, reads, go_on_read, read_range, console_read}
use Rattle.xinu_model.specs.Machine.{Xinu, CallResult, Returns, refused, goes_on}
use Rattle.xinu_model.specs.Memory.{in_ram}
use Rattle.xinu_model.specs.Messages.{held}
use Rattle.xinu_model.specs.Semaphores.Calls.{answers}
use Rattle.xinu_model.specs.Semaphores.Counts.{with_tokens}
use Rattle.xinu_model.specs.Semaphores.Waiting.{take_token}
use Rattle.xinu_model.specs.Tables.{semaphore_at}

-- whether a call answers the end of the input
abbrev IsTold : CallResult → Type 0
IsTold result = result.answer ≡ Returns EOF

-- the character that an item stands for is the end of the input
char_ends : (c : Console) (mode : TtyMode) (x : Item) (items : List Item) → c.mode ≡ mode → c.committed ≡ x ∷ items
    → Returns (char_of mode x) ≡ Returns EOF → IsAtEnd c
char_ends c Cooked End items m e told = record { mode = m; items = items; first = e }
char_ends c Cooked (Char b) items m e told = absurd (cc)
char_ends c Raw x items m e told = absurd (cc)
char_ends c Cbreak x items m e told = absurd (cc)

take_ends : (items : List Item) (s : Xinu) → (console_of s).committed ≡ items → IsTold (take_char items s) → IsAtEnd (console_of s)
take_ends [] s e told = absurd (cc)
take_ends (x ∷ items) s e told = char_ends (console_of s) (console_of s).mode x items refl e told

-- who goes on with a token, or waits for one
token_ends : {P : Type 0} (tokens sem : ℕ) (left : Rest) (then_ : Xinu → CallResult) (s : Xinu)
    → ((n : ℕ) → IsTold (then_ (record s { tables = with_tokens sem n s.tables })) → P) → IsTold (take_token tokens sem left then_ s) → P
token_ends zero sem left then_ s go told = absurd (cc)
token_ends (suc n) sem left then_ s go told = go n told

pub getc_ends : (s : Xinu) → IsTold (console_getc s) → IsAtEnd (console_of s)
getc_ends s told =
    token_ends (semaphore_at s.tables TY_ISEM).tokens TY_ISEM TtyGet take_next s (λ n. take_ends (console_of s).committed _ refl) told

pub getc_goes_on_ends : (s : Xinu) → IsTold (go_on_getc s) → IsAtEnd (console_of s)
getc_goes_on_ends s told = take_ends (console_of s).committed (goes_on (held s) s) refl told

-- An item ends a read, or more are read.
item_ends : (c : Console) (mode : TtyMode) (x : Item) (items : List Item) (line : Bool) (done : ℕ) (u v : Xinu) (more : CallResult)
    → c.mode ≡ mode → c.committed ≡ x ∷ items → (IsTold more → suc done ≡ 0)
    → IsTold (cond (is_cooked mode && is_end x) (answers (count_at_end done) u) (cond line (answers (pos (suc done)) v) more))
    → (done ≡ 0) × IsAtEnd c
item_ends c Cooked End items line zero u v more m e go told = (refl, record { mode = m; items = items; first = e })
item_ends c Cooked End items line (suc done) u v more m e go told = absurd (cc)
item_ends c Cooked (Char b) items true done u v more m e go told = absurd (cc)
item_ends c Cooked (Char b) items false done u v more m e go told = let f = go told in absurd (omega arith)
item_ends c Raw x items true done u v more m e go told = absurd (cc)
item_ends c Raw x items false done u v more m e go told = let f = go told in absurd (omega arith)
item_ends c Cbreak x items true done u v more m e go told = absurd (cc)
item_ends c Cbreak x items false done u v more m e go told = let f = go told in absurd (omega arith)

read_ends : (items : List Item) (at done : ℕ) (then_ : Xinu → CallResult) (s : Xinu) → (console_of s).committed ≡ items
    → ((u : Xinu) → IsTold (then_ u) → suc done ≡ 0) → IsTold (read_item items at done then_ s) → (done ≡ 0) × IsAtEnd (console_of s)
read_ends [] at done then_ s e go told = absurd (cc)
read_ends (x ∷ items) at done then_ s e go told =
    let mode = (console_of s).mode in
    let v = stored x at done (with_committed items s) in
    item_ends (console_of s) mode x items (ends_line mode x) done (with_committed items s) v (then_ v) refl e (go v) told

-- Only a read that hasn't stored a byte answers the end of the input.
reads_end : (left at done : ℕ) (s : Xinu) → IsTold (reads left at done s) → (done ≡ 0) × IsAtEnd (console_of s)
reads_end zero at done s told = absurd (cc)
reads_end (suc left) at done s told =
    token_ends (semaphore_at s.tables TY_ISEM).tokens TY_ISEM _ (read_next at done (reads left at (suc done))) s
    (λ n. read_ends (console_of s).committed at done (reads left at (suc done)) _ refl (λ u t. (reads_end left at (suc done) u t).0)) told

pub read_goes_on_ends : (part : Span) (s : Xinu) → IsTold (go_on_read part s) → (part.done ≡ 0) × IsAtEnd (console_of s)
read_goes_on_ends part s told =
    read_ends (console_of s).committed part.at part.done (reads (part.want - suc part.done) part.at (suc part.done))
    (goes_on (held s) s) refl
    (λ u t. (reads_end (part.want - suc part.done) part.at (suc part.done) u t).0) told

range_ends : (b : Bool) (at n : ℕ) (s : Xinu) → IsTold (cond b (reads n at 0 s) (refused s)) → IsAtEnd (console_of s)
range_ends true at n s told = (reads_end n at 0 s told).1
range_ends false at n s told = absurd (cc)

all_ends : (b : Bool) (at n : ℕ) (s : Xinu) → IsTold (cond b (answers (pos 0) s) (read_range at n s)) → IsAtEnd (console_of s)
all_ends true at n s told = absurd (cc)
all_ends false at n s told = range_ends (in_ram at n) at n s told

pub console_read_ends : (at : ℕ) (n : ℤ) (s : Xinu) → IsTold (console_read at n s) → IsAtEnd (console_of s)
console_read_ends at (negsuc n) s told = absurd (cc)
console_read_ends at (pos zero) s told = all_ends (is_cooked (console_of s).mode) at (semaphore_at s.tables TY_ISEM).tokens s told
console_read_ends at (pos (suc n)) s told = range_ends (in_ram at (suc n)) at (suc n) s told

-- Who has a token and finds the end mark is told.
taken_told : (s : Xinu) → IsAtEnd (console_of s) → IsTold (take_next s)
taken_told s e =
    ap (λ items. (take_char items s).answer) e.first ∙ (ap (λ mode. Returns (char_of mode End)) e.mode)

pub getc_goes_on_told : (s : Xinu) → IsAtEnd (console_of s) → IsTold (go_on_getc s)
getc_goes_on_told s e = taken_told (goes_on (held s) s) (record { mode = e.mode; items = e.items; first = e.first })

item_told : (at : ℕ) (then_ : Xinu → CallResult) (s : Xinu) → IsAtEnd (console_of s) → IsTold (read_next at 0 then_ s)
item_told at then_ s e =
    let u = with_committed e.items s in
    let v = stored End at 0 u in
    ap (λ items. (read_item items at 0 then_ s).answer) e.first ∙
    (ap (λ mode. (cond (is_cooked mode && true) (answers EOF u) (cond (ends_line mode End) (answers (pos 1) v) (then_ v))).answer) e.mode)

pub read_goes_on_told : (part : Span) (s : Xinu) → part.done ≡ 0 → IsAtEnd (console_of s) → IsTold (go_on_read part s)
read_goes_on_told part s none e =
    let u = goes_on (held s) s in
    subst (λ done. IsTold (read_next part.at done (reads (part.want - suc done) part.at (suc done)) u)) (sym none)
    (item_told part.at (reads (part.want - 1) part.at 1) u (record { mode = e.mode; items = e.items; first = e.first }))

token_told : (tokens sem : ℕ) (left : Rest) (then_ : Xinu → CallResult) (s : Xinu) → 0 < tokens
    → ((n : ℕ) → IsTold (then_ (record s { tables = with_tokens sem n s.tables }))) → IsTold (take_token tokens sem left then_ s)
token_told zero sem left then_ s some told = absurd (omega arith)
token_told (suc n) sem left then_ s some told = told n

pub getc_told : (s : Xinu) → 0 < (semaphore_at s.tables TY_ISEM).tokens → IsAtEnd (console_of s) → IsTold (console_getc s)
getc_told s some e =
    token_told (semaphore_at s.tables TY_ISEM).tokens TY_ISEM TtyGet take_next s some
    (λ n. taken_told (record s { tables = with_tokens TY_ISEM n s.tables }) (record { mode = e.mode; items = e.items; first = e.first }))

pub read_told : (at n : ℕ) (s : Xinu) → 0 < (semaphore_at s.tables TY_ISEM).tokens → in_ram at (suc n) ≡ true → IsAtEnd (console_of s)
    → IsTold (console_read at (pos (suc n)) s)
read_told at n s some inside e =
    subst (λ b. IsTold (cond b (reads (suc n) at 0 s) (refused s))) (sym inside)
    (token_told (semaphore_at s.tables TY_ISEM).tokens TY_ISEM (TtyRead (span at 0 (0 + suc n))) (read_next at 0 (reads n at 1)) s some
    (λ k. item_told at (reads n at 1) (record s { tables = with_tokens TY_ISEM k s.tables }) (record { mode = e.mode; items = e.items; first = e.first })))
