-- What the calls on semaphores touch.
use Rattle.std.proofs.Common.{◌≡◌, ℕ, true, not, ◌&&◌, Option, Some, None, refl, sym, ap, subst, ℤ, pos, negsuc}
use Rattle.std.specs.Prelude.{int_lt, ◌+ℤ◌}
use Rattle.std.proofs.lemmas.Bool.{and_parts}
use Rattle.xinu_base.specs.Constants.{OK, SYSERR}
use Rattle.xinu_base.specs.declared.processes.Rest.TheVariants.{Nothing}
use Rattle.xinu_base.specs.declared.semaphores.Owner.TheVariants.{Image}
use Rattle.xinu_model.specs.Footprints.{on_tables}
use Rattle.xinu_model.specs.Machine.{Xinu, start}
use Rattle.xinu_model.specs.Semaphores.Counts.{most_tokens, count_of, is_good, free_semaphore}
use Rattle.xinu_model.specs.Semaphores.Waiting.{emptied, emptied_with}
use Rattle.xinu_model.specs.Semaphores.Calls.{answers, made_semaphore, semcreate, semdelete, semreset, semcount, wait, signal, signaln}
use Rattle.xinu_model.specs.Sound.Tables.{FitsOwner, IsInside}
use Rattle.xinu_model.specs.Tables.{no_semaphore, Tables, semaphore_at}
use Rattle.xinu_laws.specs.Touches.{reach, Touches}
use Rattle.xinu_laws.proofs.Preserve.Semaphores.{good_semaphore}
use Rattle.table_laws.proofs.Tables.Found.{free_semaphore_free}
use Rattle.table_laws.proofs.Tables.Unblock.{emptied_alike}
use Rattle.xinu_laws.proofs.Touches.{StaysIn, touches_refl, touches_trans, touches_if}
use Rattle.xinu_laws.proofs.Touches.Moves.{MayTouch, touches_semaphore, touches_tokens, touches_make_semaphore, touches_signalled, touches_emptied, still_touched, touches_signalled_times, touches_take_token}

-- a semaphore that a process may name may be touched
good_may_be_touched : (t : Tables) (sem : ℕ) → IsInside t → is_good sem t ≡ true → MayTouch (reach on_tables) t sem
good_may_be_touched t sem o h =
    let e = (good_semaphore t sem o h).owner in
    record { owner = ap ((reach on_tables).mine sem) e; rests = λ left g. ap (reach on_tables).asks (subst (λ o. FitsOwner sem o left) e g) }

-- a semaphore is made, if a number is found
made_semaphore_touches : (n : ℕ) (found : Option ℕ) (s : Xinu) → free_semaphore s.tables ≡ found
    → Touches (reach on_tables) s (made_semaphore n found s).call.state
made_semaphore_touches n None s e = touches_refl s
made_semaphore_touches n (Some sem) s e =
    touches_make_semaphore s sem Image n (ap ((reach on_tables).mine sem) (free_semaphore_free s.tables sem e)) refl

-- all are released from a process's semaphore, whatever they answer
emptied_touches : (value : ℤ) (sem : ℕ) (s : Xinu) → IsInside s.tables → is_good sem s.tables ≡ true
    → Touches (reach on_tables) s (emptied_with value sem (start s)).state
emptied_touches value sem s o b =
    subst (Touches (reach on_tables) s) (sym (emptied_alike value sem (start s)))
    (touches_emptied sem (start s) o (good_may_be_touched s.tables sem o b))

-- Call 14.
pub semcreate_touches : (count : ℤ) → StaysIn on_tables (semcreate count)
semcreate_touches (negsuc n) s i = touches_refl s
semcreate_touches (pos n) s i = made_semaphore_touches n (free_semaphore s.tables) s refl

-- Call 15.
pub semdelete_touches : (sem : ℕ) → StaysIn on_tables (semdelete sem)
semdelete_touches sem s i = touches_if s (is_good sem s.tables) _
    (λ b. let first = emptied_touches SYSERR sem s i.tables.inside b in
    touches_trans first (touches_semaphore (emptied_with SYSERR sem (start s)).state sem no_semaphore
    (still_touched sem first (good_may_be_touched s.tables sem i.tables.inside b)) refl))

-- Call 16.
pub semreset_touches : (sem : ℕ) (count : ℤ) → StaysIn on_tables (semreset sem count)
semreset_touches sem (negsuc n) s i = touches_refl s
semreset_touches sem (pos n) s i = touches_if s (is_good sem s.tables) _
    (λ b. let first = emptied_touches OK sem s i.tables.inside b in
    touches_trans first (touches_tokens (emptied sem (start s)).state sem n
    (still_touched sem first (good_may_be_touched s.tables sem i.tables.inside b))))

-- Call 17.
pub semcount_touches : (sem : ℕ) → StaysIn on_tables (semcount sem)
semcount_touches sem s i = touches_if s (is_good sem s.tables) _ (λ _. touches_refl s)

-- Call 18.
pub wait_touches : (sem : ℕ) → StaysIn on_tables (wait sem)
wait_touches sem s i = touches_if s (is_good sem s.tables) _
    (λ b. let e = (good_may_be_touched s.tables sem i.tables.inside b).owner in
    touches_take_token (semaphore_at s.tables sem).tokens sem Nothing (answers (pos 0)) s i.tables.runs e refl
    (λ n _. touches_tokens s sem n e))

-- Call 19.
pub signal_touches : (sem : ℕ) → StaysIn on_tables (signal sem)
signal_touches sem s i =
    let least = int_lt (count_of (semaphore_at s.tables sem)) most_tokens in
    touches_if s (is_good sem s.tables && least) _
    (λ b. touches_signalled sem (start s) i.tables.inside
    (good_may_be_touched s.tables sem i.tables.inside (and_parts (is_good sem s.tables) least b).0))

-- Call 20.
pub signaln_touches : (sem : ℕ) (count : ℤ) → StaysIn on_tables (signaln sem count)
signaln_touches sem (negsuc n) s i = touches_refl s
signaln_touches sem (pos n) s i =
    let fits = not (int_lt most_tokens (count_of (semaphore_at s.tables sem) +ℤ pos n)) in
    touches_if s (is_good sem s.tables && fits) _
    (λ b. touches_signalled_times sem n (start s) i.tables.inside
    (good_may_be_touched s.tables sem i.tables.inside (and_parts (is_good sem s.tables) fits b).0))
