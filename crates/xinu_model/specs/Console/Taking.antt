-- Items are taken from the console, each by a token of a semaphore of the kernel's (book, chapter 15, `ttygetc.c`, `ttyread.c`).
use Rattle.std.specs.Prelude.{ℕ, zero, suc, ◌+◌, ◌-◌, ◌==◌, Bool, true, false, if◌then◌else◌, ◌&&◌, List, [], ◌∷◌, ℤ, pos, negsuc}
use Rattle.xinu_base.specs.Constants.{OK, EOF}
use Rattle.xinu_base.specs.declared.console.Item.{Item}
use Rattle.xinu_base.specs.declared.console.Item.TheVariants.{Char, End}
use Rattle.xinu_base.specs.declared.console.TtyMode.{TtyMode}
use Rattle.xinu_base.specs.declared.console.TtyMode.TheVariants.{Cooked}
use Rattle.xinu_base.specs.declared.processes.Rest.TheVariants.{TtyGet, TtyRead}
use Rattle.xinu_base.specs.declared.processes.Span.{Span}
use Rattle.xinu_model.specs.Console.Constants.{TY_NEWLINE}
use Rattle.xinu_model.specs.Console.State.{Console, byte_of}
use Rattle.xinu_model.specs.Machine.{Xinu, Silent, CallResult, start, refused, goes_on}
use Rattle.xinu_model.specs.Memory.{in_ram, with_bytes}
use Rattle.xinu_model.specs.Messages.{held}
use Rattle.xinu_model.specs.Semaphores.Calls.{answers}
use Rattle.xinu_model.specs.Semaphores.Waiting.{await}
use Rattle.xinu_model.specs.Tables.{semaphore_at}

-- the semaphore of the console's input: a token for each item that can be taken
abbrev pub TY_ISEM : ℕ
TY_ISEM = 0

-- the console of a state, and the state with another one
abbrev pub console_of : Xinu → Console
console_of s = s.parts.devices.console

abbrev pub with_console : Console → Xinu → Xinu
with_console c s = record s { parts = record s.parts { devices = record s.parts.devices { console = c } } }

-- whether the console is in cooked mode
abbrev pub is_cooked : TtyMode → Bool
is_cooked Cooked = true
is_cooked _ = false

-- whether an item is the end mark
abbrev pub is_end : Item → Bool
is_end End = true
is_end (Char b) = false

-- the items that are left after the first was taken
abbrev pub with_committed : List Item → Xinu → Xinu
with_committed items s = with_console (record (console_of s) { committed = items }) s

-- Who has a token finds an item, so this is never reached: nothing is answered.
abbrev pub without_item : Xinu → CallResult
without_item s = record { call = start s; answer = Silent }

-- an item as `getc` answers it: in cooked mode the end mark is the end of the input
abbrev pub char_of : TtyMode → Item → ℤ
char_of mode x = if is_cooked mode && is_end x then EOF else pos (byte_of x)

-- a caller that has its token takes the first of these items
abbrev pub take_char : List Item → Xinu → CallResult
take_char [] s = without_item s
take_char (x ∷ items) s = answers (char_of (console_of s).mode x) (with_committed items s)

abbrev pub take_next : Xinu → CallResult
take_next s = take_char (console_of s).committed s

-- `getc`: the next item, for which the caller waits
abbrev pub console_getc : Xinu → CallResult
console_getc s = await TY_ISEM TtyGet take_next s

-- it goes on by the token that it waited for
abbrev pub go_on_getc : Xinu → CallResult
go_on_getc s = take_next (goes_on (held s) s)

-- a range of RAM that is worked through
abbrev pub span : ℕ → ℕ → ℕ → Span
span at done want = record { at = at; done = done; want = want }

-- an item is stored at an address, after as many bytes as are done
abbrev pub stored : Item → ℕ → ℕ → Xinu → Xinu
stored x at done s = record s { memory = with_bytes s.memory (at + done) 1 (byte_of x ∷ []) }

-- whether an item ends a read, and is kept
abbrev pub ends_line : TtyMode → Item → Bool
ends_line mode x = is_cooked mode && (byte_of x == TY_NEWLINE)

-- what a read answers that took the end mark: the end of the input if nothing came before it
abbrev pub count_at_end : ℕ → ℤ
count_at_end zero = EOF
count_at_end (suc done) = pos (suc done)

-- A caller that has its token takes the first of these items, and stores it unless it is the end mark in cooked mode; unless it ends the
-- read there, the rest is done.
abbrev pub read_item : List Item → ℕ → ℕ → (Xinu → CallResult) → Xinu → CallResult
read_item [] at done then_ s = without_item s
read_item (x ∷ items) at done then_ s =
    let mode = (console_of s).mode in
    let u = with_committed items s in
    if is_cooked mode && is_end x then answers (count_at_end done) u
    else (if ends_line mode x then answers (pos (suc done)) (stored x at done u)
    else then_ (stored x at done u))

abbrev pub read_next : ℕ → ℕ → (Xinu → CallResult) → Xinu → CallResult
read_next at done then_ s = read_item (console_of s).committed at done then_ s

-- this many bytes more are read to an address, after those that are done
abbrev pub reads : ℕ → ℕ → ℕ → Xinu → CallResult
reads zero at done s = answers (pos done) s
reads (suc left) at done s =
    await TY_ISEM (TtyRead (span at done (done + suc left))) (read_next at done (reads left at (suc done))) s

-- a read goes on by the token that it waited for
abbrev pub go_on_read : Span → Xinu → CallResult
go_on_read part s =
    read_next part.at part.done (reads (part.want - suc part.done) part.at (suc part.done)) (goes_on (held s) s)

-- a read to a range that has to be in RAM
abbrev pub read_range : ℕ → ℕ → Xinu → CallResult
read_range at n s = if in_ram at n then reads n at 0 s else refused s

-- `read`: n bytes to an address; refused if n is negative or the range isn't in RAM. In cooked mode a read ends with its line, and one of no
-- bytes answers 0 wherever it is. Outside it, 0 stands for as many bytes as there are tokens.
abbrev pub console_read : ℕ → ℤ → Xinu → CallResult
console_read at (negsuc n) s = refused s
console_read at (pos zero) s =
    if is_cooked (console_of s).mode then answers OK s else read_range at (semaphore_at s.tables TY_ISEM).tokens s
console_read at (pos (suc n)) s = read_range at (suc n) s
