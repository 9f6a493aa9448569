-- Semaphores: tokens, and the processes that wait for one (book, chapter 7).
use Rattle.std.specs.Prelude.{ℕ, not, if◌then◌else◌, ◌&&◌, Option, Some, None, ℤ, pos, negsuc, ◌+ℤ◌, int_lt, List, [], ◌∷◌}
use Rattle.xinu_base.specs.Constants.{OK, SYSERR}
use Rattle.xinu_base.specs.declared.processes.Rest.TheVariants.{Nothing}
use Rattle.xinu_base.specs.declared.semaphores.Owner.TheVariants as owner
use Rattle.xinu_model.specs.Machine.{Xinu, CallResult, start, with_tables, returns, refused}
use Rattle.xinu_model.specs.Tables.{no_semaphore, semaphore_at}
use Rattle.xinu_model.specs.Semaphores.Counts.{most_tokens, with_semaphore, with_tokens, count_of, is_good, free_semaphore, make_semaphore}
use Rattle.xinu_model.specs.Semaphores.Waiting.{signalled, signalled_times, emptied, emptied_with, await}
use Rattle.xinu_model.specs.Footprints.{on_tables}
use Rattle.xinu_model.specs.Rows.{Status, Count, CallRow, row}
use Rattle.xinu_model.specs.Words.{signed}

-- the caller is answered
abbrev pub answers : ℤ → Xinu → CallResult
answers value s = returns (start s) value

-- a semaphore with n tokens, if a number is found
abbrev pub made_semaphore : ℕ → Option ℕ → Xinu → CallResult
made_semaphore n None s = refused s
made_semaphore n (Some sem) s = returns (start (record s { tables = make_semaphore sem owner.Image n s.tables })) (pos sem)

-- call 14: a new semaphore with this count; refused if that is negative or no number is free
abbrev pub semcreate : ℤ → Xinu → CallResult
semcreate (negsuc n) s = refused s
semcreate (pos n) s = made_semaphore n (free_semaphore s.tables) s

-- call 15: the semaphore is given up, and all who wait on it are refused; refused if it isn't a process's
abbrev pub semdelete : ℕ → Xinu → CallResult
semdelete sem s =
    if is_good sem s.tables
    then (let d = emptied_with SYSERR sem (start s) in returns (with_tables (with_semaphore sem no_semaphore d.state.tables) d) OK)
    else refused s

-- call 16: all who wait go on, and the semaphore has this count; refused if it isn't a process's or the count is negative
abbrev pub semreset : ℕ → ℤ → Xinu → CallResult
semreset sem (negsuc n) s = refused s
semreset sem (pos n) s =
    if is_good sem s.tables
    then (let d = emptied sem (start s) in returns (with_tables (with_tokens sem n d.state.tables) d) OK)
    else refused s

-- call 17: the count; refused if the semaphore isn't a process's
abbrev pub semcount : ℕ → Xinu → CallResult
semcount sem s = if is_good sem s.tables then answers (count_of (semaphore_at s.tables sem)) s else refused s

-- call 18: the caller takes a token, or waits for one; refused if the semaphore isn't a process's, or is deleted while the caller
-- waits
abbrev pub wait : ℕ → Xinu → CallResult
wait sem s = if is_good sem s.tables then await sem Nothing (answers OK) s else refused s

-- call 19: one signal; refused if the semaphore isn't a process's or its count is the greatest
abbrev pub signal : ℕ → Xinu → CallResult
signal sem s =
    if is_good sem s.tables && int_lt (count_of (semaphore_at s.tables sem)) most_tokens
    then returns (signalled sem (start s)) OK
    else refused s

-- call 20: n signals; refused if the semaphore isn't a process's, n is negative or the count would pass the greatest
abbrev pub signaln : ℕ → ℤ → Xinu → CallResult
signaln sem (negsuc n) s = refused s
signaln sem (pos n) s =
    if is_good sem s.tables && not (int_lt most_tokens (count_of (semaphore_at s.tables sem) +ℤ pos n))
    then returns (signalled_times sem n (start s)) OK
    else refused s

-- the calls on semaphores
abbrev pub semaphore_calls : List CallRow
semaphore_calls =
    row 14 on_tables Status (λ a s. semcreate (signed (a 0)) s) ∷
    row 15 on_tables Status (λ a s. semdelete (a 0) s) ∷
    row 16 on_tables Status (λ a s. semreset (a 0) (signed (a 1)) s) ∷
    row 17 on_tables Count (λ a s. semcount (a 0) s) ∷
    row 18 on_tables Status (λ a s. wait (a 0) s) ∷
    row 19 on_tables Status (λ a s. signal (a 0) s) ∷
    row 20 on_tables Status (λ a s. signaln (a 0) (signed (a 1)) s) ∷
    []
