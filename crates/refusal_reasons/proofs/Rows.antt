-- A call is answered -1 if and only if it has a reason, whatever its number is.
use Rattle.std.proofs.Common.{◌≡◌, ◌∙◌, ◌↔◌, ℕ, ◌==◌, ◌%◌, true, false, List, [], ◌∷◌, refl, sym, ap, subst, Option, Some, None, IsSome, pos, negsuc, zero, suc}
use Rattle.std.specs.Prelude.{is_some, slice_index}
use Rattle.std.specs.List.{AllByRecursion, list_all}
use Rattle.std.proofs.lemmas.Bool.{and_parts, cond_both, eqb-true}
use Rattle.refusal_reasons.specs.Causes.{cause, CauseRow, causes_in, first_reason, answers_minus_one}
use Rattle.refusal_reasons.specs.Reasons.{cause_rows, causes_of, reason}
use Rattle.refusal_reasons.specs.declared.reasons.Reason.TheVariants.{NoCall}
use Rattle.refusal_reasons.proofs.Calls.{create_told, resume_told, suspend_told, kill_told, chprio_told, getprio_told, getmem_told, freemem_told, getstk_told, freestk_told, semcreate_told, semdelete_told, semreset_told, semcount_told, wait_told, signal_told, signaln_told, send_told, receive_told, recvclr_told, recvtime_told, sleep_told, sleepms_told, mkbufpool_told, getbuf_told, freebuf_told, ptcreate_told, ptdelete_told, ptreset_told, ptsend_told, ptrecv_told}
use Rattle.refusal_reasons.proofs.Combined.{Tells, tells}
use Rattle.refusal_reasons.proofs.Switch.{open_told, close_told, read_told, write_told, getc_told, putc_told, seek_told, control_told, mount_told}
use Rattle.xinu_base.specs.Constants.{SYSERR}
use Rattle.xinu_laws.proofs.Rows.CallRows.{number_of_row, of_row}
use Rattle.xinu_laws.proofs.Rows.RowByRow.{◌⨾◌}
use Rattle.xinu_model.specs.Calls.{calls, called}
use Rattle.xinu_model.specs.Machine.{Xinu, Answer, Returns, Waits, Gone, Panics, Silent}
use Rattle.xinu_model.specs.Rows.{CallRow, found_in, done_by}
use Rattle.xinu_model.specs.Sound.Pools.{ArePools}
use Rattle.xinu_model.specs.Sound.Ports.{ArePorts}
use Rattle.xinu_model.specs.Sound.Tables.{IsSoundTables}
use Rattle.xinu_model.specs.Words.{half, signed}

-- a row of the table of calls answers -1 if and only if one of the causes of its number holds
abbrev HasCauses : CallRow → Type 0
HasCauses r = (a : ℕ → ℕ) (s : Xinu) → IsSoundTables s.tables → ArePools s.tables s.parts.pools → ArePorts s.tables s.parts.ports
    → Tells (causes_of r.number a s) (r.effect a s)

-- each row does
rows_told : AllByRecursion HasCauses calls
unfolding calls cause_rows
rows_told =
    (λ a s k l m. tells refl) ⨾
    (λ a s k l m. create_told (a 0) (a 1) (a 2) (a 3) (a 4) (a 5) s k) ⨾
    (λ a s k l m. resume_told (a 0) s) ⨾
    (λ a s k l m. suspend_told (a 0) s k) ⨾
    (λ a s k l m. kill_told (a 0) s) ⨾
    (λ a s k l m. tells refl) ⨾
    (λ a s k l m. chprio_told (a 0) (half (a 1)) s) ⨾
    (λ a s k l m. getprio_told (a 0) s) ⨾
    (λ a s k l m. tells refl) ⨾
    (λ a s k l m. getmem_told (a 0) s) ⨾
    (λ a s k l m. freemem_told (a 0) (a 1) s) ⨾
    (λ a s k l m. getstk_told (a 0) s) ⨾
    (λ a s k l m. freestk_told (a 0) (a 1) s) ⨾
    (λ a s k l m. semcreate_told (a 0) s k) ⨾
    (λ a s k l m. semdelete_told (a 0) s) ⨾
    (λ a s k l m. semreset_told (a 0) (a 1) s) ⨾
    (λ a s k l m. semcount_told (a 0) s) ⨾
    (λ a s k l m. wait_told (a 0) s) ⨾
    (λ a s k l m. signal_told (a 0) s) ⨾
    (λ a s k l m. signaln_told (a 0) (a 1) s) ⨾
    (λ a s k l m. send_told (a 0) (a 1) s) ⨾
    (λ a s k l m. receive_told s) ⨾
    (λ a s k l m. recvclr_told s) ⨾
    (λ a s k l m. recvtime_told (a 0) s) ⨾
    (λ a s k l m. sleep_told (a 0) s) ⨾
    (λ a s k l m. sleepms_told (a 0) s) ⨾
    (λ a s k l m. tells refl) ⨾
    (λ a s k l m. mkbufpool_told (a 0) (a 1) s k) ⨾
    (λ a s k l m. getbuf_told (a 0) s l) ⨾
    (λ a s k l m. freebuf_told (a 0) s) ⨾
    (λ a s k l m. ptcreate_told (a 0) s k m) ⨾
    (λ a s k l m. ptdelete_told (a 0) (a 1) s) ⨾
    (λ a s k l m. ptreset_told (a 0) (a 1) s) ⨾
    (λ a s k l m. ptsend_told (a 0) (a 1) s) ⨾
    (λ a s k l m. ptrecv_told (a 0) s m) ⨾
    (λ a s k l m. open_told (a 0) (a 1) (a 2) s) ⨾
    (λ a s k l m. close_told (a 0) s) ⨾
    (λ a s k l m. read_told (a 0) (a 1) (a 2) s) ⨾
    (λ a s k l m. write_told (a 0) (a 1) (a 2) s) ⨾
    (λ a s k l m. getc_told (a 0) s) ⨾
    (λ a s k l m. putc_told (a 0) (a 1 % 256) s) ⨾
    (λ a s k l m. seek_told (a 0) (signed (a 1)) s) ⨾
    (λ a s k l m. control_told (a 0) (a 1) (a 2) s) ⨾
    (λ a s k l m. mount_told (a 0) (a 1) (a 2) s) ⨾
    tt

-- a number without a call has none of the rows
no_row : (rows : List CauseRow) (number : ℕ) (a : ℕ → ℕ) (s : Xinu)
    → list_all (λ (r : CauseRow). is_some (found_in calls r.number)) rows ≡ true → found_in calls number ≡ None
    → causes_in rows number a s ≡ cause NoCall true ∷ []
no_row [] number a s all none = refl
no_row (r ∷ rows) number a s all none =
    let both = and_parts (is_some (found_in calls r.number)) (list_all (λ (x : CauseRow). is_some (found_in calls x.number)) rows) all in
    cond_both (number == r.number) (r.causes a s) (causes_in rows number a s) (λ l. l ≡ cause NoCall true ∷ [])
    (λ e. let some : false ≡ true = sym (ap is_some none) ∙ ap (λ n. is_some (found_in calls n)) (eqb-true number r.number e) ∙ both.0 in absurd (cc))
    (λ _. no_row rows number a s both.1 none)

-- every row of causes is that of a call
all_calls : list_all (λ (r : CauseRow). is_some (found_in calls r.number)) cause_rows ≡ true
unfolding calls cause_rows
all_calls = refl

-- a number is -1 if its test says so
pub minus_one : (answer : Answer) → answers_minus_one answer ≡ true → answer ≡ Returns SYSERR
minus_one (Returns (pos n)) e = absurd (cc)
minus_one (Returns (negsuc zero)) e = refl
minus_one (Returns (negsuc (suc n))) e = absurd (cc)
minus_one Waits e = absurd (cc)
minus_one Gone e = absurd (cc)
minus_one Panics e = absurd (cc)
minus_one Silent e = absurd (cc)

-- The call of any number.
pub calls_told : (number : ℕ) (args : List ℕ) (s : Xinu) → IsSoundTables s.tables → ArePools s.tables s.parts.pools
    → ArePorts s.tables s.parts.ports → Tells (causes_of number (slice_index args) s) (called number args s)
calls_told number args s tables pools ports = by_row (found_in calls number) refl
  where
    by_row : (found : Option CallRow) → found_in calls number ≡ found → Tells (causes_of number (slice_index args) s) (done_by found args s)
    by_row None e = tells (ap (λ l. is_some (first_reason l)) (sym (no_row cause_rows number (slice_index args) s all_calls e)))
    by_row (Some r) e =
        subst (λ n. Tells (causes_of n (slice_index args) s) (r.effect (slice_index args) s)) (number_of_row calls number r e)
        (of_row HasCauses calls rows_told number r e (slice_index args) s tables pools ports)

pub refusals_have_reasons : (number : ℕ) (args : List ℕ) (s : Xinu) → IsSoundTables s.tables → ArePools s.tables s.parts.pools
    → ArePorts s.tables s.parts.ports → ((called number args s).answer ≡ Returns SYSERR ↔ IsSome (reason number args s))
refusals_have_reasons number args s tables pools ports =
    let told = (calls_told number args s tables pools ports).told in
    (λ e. sym told ∙ ap answers_minus_one e, λ e. minus_one (called number args s).answer (told ∙ e))
