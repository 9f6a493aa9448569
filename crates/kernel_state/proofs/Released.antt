-- Those who are released become ready, and each whose call is complete is answered.
use Rattle.std.proofs.Common.{◌≡◌, ◌∙◌, ℕ, ◌+◌, ℤ, pos, Bool, true, false, cond, List, [], ◌∷◌, ◌++◌, refl, sym, ap}
use Rattle.std.proofs.lemmas.List.{append-nil, append_assoc}
use Rattle.xinu_base.specs.declared.processes.Rest.{Rest}
use Rattle.part_laws.specs.Preserve.{ticking}
use Rattle.xinu_model.specs.Clock.{a_tick_later, due, quantum_falls, wakeup}
use Rattle.xinu_model.specs.Machine.{CallResult, CallState, reply_at_unblock, Silent, start, unblock_all, unblock_all_with, unblock_with, Xinu}
use Rattle.xinu_model.specs.Process.Scheduling.{ready, ready_all}
use Rattle.xinu_model.specs.Tables.{process_at, Tables}
use Rattle.kernel_state.specs.Released.{replies_to}
use Rattle.kernel_tables.specs.Waking.{are_any}
use Rattle.kernel_tables.proofs.Rests.{rests_ready, rests_tick}

-- what is under way once these are released, if these are the replies
abbrev pub after_release : List ℕ → List (ℕ × ℤ) → CallState → CallState
after_release ps replies d = record {
  state = record d.state { tables = ready_all ps d.state.tables };
  released = d.released ++ replies;
  owes_resched = cond (are_any ps) true d.owes_resched;
}

-- a resched that is owed stays so
owed : (b : Bool) → cond b true true ≡ true
owed true = refl
owed false = refl

-- The replies are read off any tables in which the same is left of each call.
pub unblocked : (value : ℤ) (ps : List ℕ) (d : CallState) (u : Tables)
    → ((p : ℕ) → (process_at u p).rest ≡ (process_at d.state.tables p).rest)
    → unblock_all_with value ps d ≡ after_release ps (replies_to value ps u) d
unblocked value [] d u same = ap (λ r. record d { released = r }) (sym (append-nil d.released))
unblocked value (p ∷ ps) d u same =
    let t = d.state.tables in
    let a = reply_at_unblock value p (process_at t p).rest in
    let r = replies_to value ps u in
    let first : (d.released ++ a) ++ r ≡ d.released ++ (reply_at_unblock value p (process_at u p).rest ++ r)
    = append_assoc d.released a r ∙ ap (λ (k : Rest). d.released ++ (reply_at_unblock value p k ++ r)) (sym (same p)) in
    unblocked value ps (unblock_with value p d) u (λ q. same q ∙ sym ((rests_ready t p).same q))
    ∙ ap (λ b. record {
      state = record d.state { tables = ready_all ps (ready p t) };
      released =
          (d.released ++ a) ++ r;
      owes_resched = b;
    }) (owed (are_any ps))
    ∙ ap (λ x. record { state = record d.state { tables = ready_all ps (ready p t) }; released = x; owes_resched = true }) first

-- whether a resched is owed for these
pub owed_for : (ps : List ℕ) → cond (are_any ps) true false ≡ are_any ps
owed_for [] = refl
owed_for (p ∷ ps) = refl

-- A tick releases those whose tick has come, and then has its own rescheds.
pub ticking_is : (s : Xinu) (ps : List ℕ) (u : Tables) (replies : List (ℕ × ℤ)) (owes : Bool)
    → ps ≡ due (s.tables.ticks + 1) s.tables.sleepers
    → u ≡ quantum_falls (a_tick_later (are_any ps) (ready_all ps s.tables)) → replies ≡ replies_to (pos 0) ps u → owes ≡ false
    → record { call = record { state = record s { tables = u }; released = replies; owes_resched = owes }; answer = Silent } ≡ ticking s
ticking_is s ps u replies owes is after answered none =
    let t = s.tables in
    let T : CallState → CallResult
    = λ d. record {
      call = record {
        state = record d.state {
          tables = quantum_falls
              (a_tick_later d.owes_resched d.state.tables);
        };
        released = d.released;
        owes_resched = false;
      };
      answer = Silent;
    } in
    let v = quantum_falls (a_tick_later (are_any ps) (ready_all ps t)) in
    let same : (p : ℕ) → (process_at u p).rest ≡ (process_at t p).rest
    = λ p. ap (λ (x : Tables). (process_at x p).rest) after ∙ (rests_tick ps (are_any ps) t).same p in
    let e : wakeup s ≡ after_release ps (replies_to (pos 0) ps u) (start s) = ap (λ l. unblock_all l (start s)) (sym is)
    ∙ unblocked (pos 0) ps (start s) u same in
    sym (ap T e ∙ ap (λ b. record {
      call = record {
        state = record s {
          tables = quantum_falls
              (a_tick_later b (ready_all ps t));
        };
        released = replies_to (pos 0) ps u;
        owes_resched = false;
      };
      answer = Silent;
    }) (owed_for ps)
    ∙ ap (λ x. record {
      call = record {
        state = record s { tables = x };
        released = replies_to
            (pos 0) ps u;
        owes_resched = false;
      };
      answer = Silent;
    }) (sym after)
    ∙ ap (λ r. record { call = record { state = record s { tables = u }; released = r; owes_resched = false }; answer = Silent })
    (sym answered)
    ∙ ap (λ b. record { call = record { state = record s { tables = u }; released = replies; owes_resched = b }; answer = Silent })
    (sym none))
