-- Bytes are put to the console, each by a token of a semaphore of the kernel's (book, chapter 15, `ttyputc.c`, `ttywrite.c`).
use Rattle.std.specs.Prelude.{ℕ, zero, suc, ◌+◌, ◌-◌, ◌==◌, Bool, true, false, not, if◌then◌else◌, ◌&&◌, slice_index, ℤ, pos, negsuc}
use Rattle.xinu_base.specs.Constants.{OK}
use Rattle.xinu_base.specs.declared.console.TtyMode.{TtyMode}
use Rattle.xinu_base.specs.declared.console.TtyMode.TheVariants.{Raw}
use Rattle.xinu_base.specs.declared.processes.Rest.{Rest}
use Rattle.xinu_base.specs.declared.processes.Rest.TheVariants.{TtyPut, TtyWrite}
use Rattle.xinu_base.specs.declared.processes.Span.{Span}
use Rattle.xinu_model.specs.Console.Constants.{TY_NEWLINE, TY_RETURN}
use Rattle.xinu_model.specs.Console.State.{with_output}
use Rattle.xinu_model.specs.Console.Taking.{console_of, with_console, span}
use Rattle.xinu_model.specs.Machine.{Xinu, CallResult, refused, goes_on}
use Rattle.xinu_model.specs.Memory.{in_ram}
use Rattle.xinu_model.specs.Messages.{held}
use Rattle.xinu_model.specs.Semaphores.Calls.{answers}
use Rattle.xinu_model.specs.Semaphores.Waiting.{await}

-- the semaphore of the console's output: a token for each byte that there is room for
abbrev pub TY_OSEM : ℕ
TY_OSEM = 1

-- whether the console is in raw mode
abbrev pub is_raw : TtyMode → Bool
is_raw Raw = true
is_raw _ = false

-- a byte is put
abbrev pub put : ℕ → Xinu → Xinu
put b s = with_console (with_output b (console_of s)) s

-- whether a carriage return goes before a byte: before a newline, but in raw mode
abbrev pub needs_return : ℕ → TtyMode → Bool
needs_return b mode = (b == TY_NEWLINE) && not (is_raw mode)

-- A caller that has its token puts a byte, and what follows is done. Before a newline the carriage return goes by this token, and the
-- newline waits for another one, with this left of the call.
abbrev pub put_byte : ℕ → Rest → (Xinu → CallResult) → Xinu → CallResult
put_byte b rest then_ s =
    if needs_return b (console_of s).mode then await TY_OSEM rest (λ x. then_ (put TY_NEWLINE x)) (put TY_RETURN s)
    else then_ (put b s)

-- `putc`: a byte, for which the caller waits for room
abbrev pub console_putc : ℕ → Xinu → CallResult
console_putc b s = await TY_OSEM (TtyPut b false) (put_byte b (TtyPut b true) (answers OK)) s

-- it goes on by the token that it waited for: the newline after its carriage return, or the byte
abbrev pub go_on_putc : ℕ → Bool → Xinu → CallResult
go_on_putc b true s = answers OK (put TY_NEWLINE (goes_on (held s) s))
go_on_putc b false s = put_byte b (TtyPut b true) (answers OK) (goes_on (held s) s)

-- this many bytes more are written from an address, after those that are done; each is read from RAM as it, or its carriage return, is put
abbrev pub writes : ℕ → ℕ → ℕ → Xinu → CallResult
writes zero at done s = answers (pos done) s
writes (suc left) at done s =
    let part = span at done (done + suc left) in
    await TY_OSEM (TtyWrite part false)
    (λ x. put_byte (slice_index x.memory (at + done)) (TtyWrite part true) (writes left at (suc done)) x) s

-- a write goes on by the token that it waited for
abbrev pub go_on_write : Span → Bool → Xinu → CallResult
go_on_write part true s =
    writes (part.want - suc part.done) part.at (suc part.done) (put TY_NEWLINE (goes_on (held s) s))
go_on_write part false s =
    put_byte (slice_index s.memory (part.at + part.done)) (TtyWrite part true) (writes (part.want - suc part.done) part.at (suc part.done))
    (goes_on (held s) s)

-- `write`: n bytes from an address; refused if n is negative or the range isn't in RAM
abbrev pub console_write : ℕ → ℤ → Xinu → CallResult
console_write at (negsuc n) s = refused s
console_write at (pos n) s = if in_ram at n then writes n at 0 s else refused s
