-- What a signal does to those who wait, and a wait to its caller (book, chapter 7).
use Rattle.std.specs.Prelude.{ℕ, zero, suc, ◌+◌, ◌-◌, List, [], ◌∷◌, length, take, ℤ}
use Rattle.xinu_base.specs.Constants.{OK}
use Rattle.xinu_base.specs.declared.processes.Rest.{Rest}
use Rattle.xinu_base.specs.declared.processes.State.TheVariants.{Waiting}
use Rattle.xinu_model.specs.Machine.{Xinu, CallState, CallResult, with_tables, unblock, unblock_all, unblock_all_with, blocked}
use Rattle.xinu_model.specs.Tables.{semaphore_at, InSemaphore}
use Rattle.xinu_model.specs.Semaphores.Counts.{with_tokens}

-- One signal, if these wait: the first is released; if none does there is one token more.
abbrev pub signal_first : ℕ → List ℕ → CallState → CallState
signal_first sem [] d =
    let t = d.state.tables in with_tables (with_tokens sem ((semaphore_at t sem).tokens + 1) t) d
signal_first sem (p ∷ ps) d = unblock p d

abbrev pub signalled : ℕ → CallState → CallState
signalled sem d = signal_first sem (semaphore_at d.state.tables sem).waiters d

-- n signals: the first n waiters are released, and what is left of n are tokens
abbrev pub signalled_times : ℕ → ℕ → CallState → CallState
signalled_times sem n d =
    let x = semaphore_at d.state.tables sem in
    let after = unblock_all (take n x.waiters) d in
    with_tables (with_tokens sem (x.tokens + (n - length x.waiters)) after.state.tables) after

-- all who wait on semaphore sem are released, with this answer
abbrev pub emptied_with : ℤ → ℕ → CallState → CallState
emptied_with value sem d = unblock_all_with value (semaphore_at d.state.tables sem).waiters d

-- all who wait on semaphore sem are released, and their calls succeeded
abbrev pub emptied : ℕ → CallState → CallState
emptied sem d = emptied_with OK sem d

-- The caller takes one of these tokens of semaphore sem and goes on, or waits there with this left of its call.
abbrev pub take_token : ℕ → ℕ → Rest → (Xinu → CallResult) → Xinu → CallResult
take_token zero sem rest then_ s = blocked Waiting rest (InSemaphore sem) s
take_token (suc n) sem rest then_ s = then_ (record s { tables = with_tokens sem n s.tables })

-- the caller waits for a token of semaphore sem
abbrev pub await : ℕ → Rest → (Xinu → CallResult) → Xinu → CallResult
await sem rest then_ s = take_token (semaphore_at s.tables sem).tokens sem rest then_ s
