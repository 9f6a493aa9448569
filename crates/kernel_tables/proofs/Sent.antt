-- The cases of a message that is sent.
use Rattle.std.proofs.Common.{◌≡◌, ◌∙◌, ℕ, true, false, cond, set, [], Some, sym, ap}
use Rattle.xinu_base.specs.declared.processes.State.TheVariants.{Ready}
use Rattle.xinu_model.specs.Machine.{CallState, first_parts, start, with_tables}
use Rattle.xinu_model.specs.Messages.{can_get, delivered, listens, sent}
use Rattle.xinu_model.specs.Process.Scheduling.{in_state, ready}
use Rattle.xinu_model.specs.Tables.{InReady, move_to, process_at, state_at, Tables}
use Rattle.process_core.proofs.Steps.{ready-message}

-- it is refused
pub sent_refused : (p m : ℕ) (d : CallState) (t : Tables) → d.state.tables ≡ t → can_get p t ≡ false → sent p m d ≡ record (with_tables t d) { owes_resched = d.owes_resched }
sent_refused p m d t e h =
    ap (λ c. cond c (delivered p m d) d) (ap (can_get p) e ∙ h) ∙ ap (λ t. record (with_tables t d) { owes_resched = d.owes_resched }) e

-- it is kept
pub sent_kept : (p m : ℕ) (d : CallState) (t : Tables) → d.state.tables ≡ t → can_get p t ≡ true → listens (state_at t p) ≡ false
    → sent p m d ≡ record (with_tables (record t { messages = set t.messages p (Some m) }) d) { owes_resched = d.owes_resched }
sent_kept p m d t e h l =
    let P : Tables → CallState = λ u. with_tables (record u { messages = set u.messages p (Some m) }) d in
    let R : Tables → CallState = λ u. record (with_tables (move_to p (in_state Ready (process_at u p)) (Some m) InReady u) d) { owes_resched = true } in
    ap (λ c. cond c (delivered p m d) d) (ap (can_get p) e ∙ h)
    ∙ ap (λ (u : Tables). cond (listens (state_at u p)) (R u) (P u)) e
    ∙ ap (λ c. cond c (R t) (P t)) l

-- the process that waited for it becomes ready
pub sent_readies : (p m : ℕ) (d : CallState) (t : Tables) → d.state.tables ≡ t → can_get p t ≡ true → listens (state_at t p) ≡ true
    → sent p m d ≡ record (with_tables (ready p (record t { messages = set t.messages p (Some m) })) d) { owes_resched = true }
sent_readies p m d t e h l =
    let P : Tables → CallState = λ u. with_tables (record u { messages = set u.messages p (Some m) }) d in
    let R : Tables → CallState = λ u. record (with_tables (move_to p (in_state Ready (process_at u p)) (Some m) InReady u) d) { owes_resched = true } in
    ap (λ c. cond c (delivered p m d) d) (ap (can_get p) e ∙ h)
    ∙ ap (λ (u : Tables). cond (listens (state_at u p)) (R u) (P u)) e
    ∙ ap (λ c. cond c (R t) (P t)) l
    ∙ ap (λ u. record (with_tables u d) { owes_resched = true }) (sym (ready-message p (Some m) t))

-- a machine with these tables in which nothing else is told
abbrev pub with_these : Tables → CallState
with_these t = start (record { tables = t; harts = []; memory = []; parts = first_parts (record { low = 0; cells = [] }) })
