-- A process that waits becomes ready, with something else left of its call: it leaves its list, gets the rest, and becomes ready.
use Rattle.std.proofs.Common.{◌≡◌, ◌∙◌, ℕ, ◌<◌, List, length, set, get_or, Option, None, refl, sym, ap, inl, inr, get_or-set_same}
use Rattle.std.proofs.lemmas.Bool.{cases_lt}
use Rattle.std.proofs.lemmas.List.{get_or_past, set-get_or}
use Rattle.process_core.proofs.Moves.{move_twice}
use Rattle.process_core.proofs.Removals.{changed_quietly}
use Rattle.process_core.specs.Tables.{Beside, process_in, ProcessTable, tables_of, with_process}
use Rattle.queue_table.specs.Lists.{Entry, place}
use Rattle.xinu_base.specs.declared.processes.Process.{Process}
use Rattle.xinu_base.specs.declared.processes.Rest.{Rest}
use Rattle.xinu_base.specs.declared.processes.State.TheVariants.{Free, Ready, Waiting}
use Rattle.xinu_model.specs.Process.Scheduling.{in_state, ready}
use Rattle.xinu_model.specs.Tables.{InReady, message_at, move_to, no_process, Nowhere, process_at, Tables}

-- a process that waits is in the table
pub waiting_listed : (ps : List Process) (p : ℕ) → (process_in ps p).state ≡ Waiting → p < length ps
waiting_listed ps p e = elim (cases_lt p (length ps)) [
  | inl lt ↦ lt
  | inr le ↦ (let past : Free ≡ Waiting = sym (ap (λ (x : Process). x.state) (get_or_past ps p no_process le)) ∙ e in absurd (cc))
]

-- what becomes ready after it has left its list as it was, and gets another rest there, has moved once
moved_once : (t : Tables) (p : ℕ) (rest : Rest) → p < length t.processes
    → (let u = move_to p (process_at t p) (message_at t p) Nowhere t in
    ready p (move_to p (record (process_at u p) { rest = rest }) (message_at u p) Nowhere u))
    ≡ move_to p (record (process_at t p) { state = Ready; rest = rest }) (message_at t p) InReady t
moved_once t p rest lt =
    let y = process_at t p in
    let m = message_at t p in
    let x : Process = record y { rest = rest } in
    let u = move_to p y m Nowhere t in
    let w = move_to p x m Nowhere t in
    let same : process_at u p ≡ y = ap (λ l. get_or l p no_process) (set-get_or t.processes p no_process) in
    let held : (v : Tables) → v.messages ≡ set t.messages p m → message_at v p ≡ m
    = λ v e. ap (λ (l : List (Option ℕ)). get_or l p None) (e ∙ set-get_or t.messages p None) in
    ap (λ (z : Process). ready p (move_to p (record z { rest = rest }) (message_at u p) Nowhere u)) same
    ∙ ap (λ n. ready p (move_to p x n Nowhere u)) (held u refl)
    ∙ ap (ready p) (move_twice p y x m m Nowhere t)
    ∙ ap (λ z. move_to p (in_state Ready z) (message_at w p) InReady w) (get_or-set_same t.processes p x no_process lt)
    ∙ ap (λ n. move_to p (in_state Ready x) n InReady w) (held w refl)
    ∙ move_twice p x (in_state Ready x) m m InReady t

-- The same of lists and processes.
pub replied_once : (ls : List (List Entry)) (s : ProcessTable) (b : Beside) (t : Tables) (p : ℕ) (rest : Rest) → place ls p ≡ None
    → p < length t.processes → tables_of ls s b ≡ move_to p (process_at t p) (message_at t p) Nowhere t
    → ready p (tables_of ls (with_process p (record (process_in s.processes p) { rest = rest }) s) b)
    ≡ move_to p (record (process_at t p) { state = Ready; rest = rest }) (message_at t p) InReady t
unfolding tables_of
replied_once ls s b t p rest none lt left =
    ap (ready p) (changed_quietly ls s b p (record (process_in s.processes p) { rest = rest }) none)
    ∙ ap (λ (u : Tables). ready p (move_to p (record (process_at u p) { rest = rest }) (message_at u p) Nowhere u)) left
    ∙ moved_once t p rest lt

-- the processes of the tables are those of the process table
pub listed_in : (ls : List (List Entry)) (s : ProcessTable) (b : Beside) (p : ℕ) → (process_in s.processes p).state ≡ Waiting
    → p < length (tables_of ls s b).processes
unfolding tables_of
listed_in ls s b p e = waiting_listed s.processes p e
