-- No ready process has a priority above that of the current one.
use Rattle.std.proofs.Common.{◌≡◌, ℕ, suc, ◌<◌, ◌==◌, List, [], ◌∷◌, ap, subst, ◌∙◌, arith, ℤ, ◌≤ℤ◌}
use Rattle.std.specs.List.{AllByRecursion}
use Rattle.std.proofs.lemmas.Bool.{cond_both, eqb-true}
use Rattle.xinu_base.specs.declared.processes.State.TheVariants.{Ready}
use Rattle.xinu_model.specs.Sound.Tables.{entries_of, ready_places, IsSoundTables}
use Rattle.xinu_model.specs.Tables.{Tables, process_at, state_at}
use Rattle.table_laws.proofs.Lists.Orders.{all_both}
use Rattle.scheduling_laws.specs.Policy.{IsHighest}

-- what holds of all entries holds of one of each process that has one
pub entry_of : (P : ℕ × ℤ → Type 0) (p : ℕ) (l : List (ℕ × ℤ)) → AllByRecursion P l → 0 < entries_of p l → (e : ℕ × ℤ) × (e.0 ≡ p) × P e
entry_of P p [] all = λ h. absurd (omega arith)
entry_of P p (x ∷ xs) all =
    cond_both (x.0 == p) (suc (entries_of p xs)) (entries_of p xs) (λ n. 0 < n → (e : ℕ × ℤ) × (e.0 ≡ p) × P e)
    (λ b _. (x, eqb-true x.0 p b, all.0)) (λ _ h. entry_of P p xs all.1 h)

pub none_above : (t : Tables) (p : ℕ) → IsSoundTables t → IsHighest t → state_at t p ≡ Ready
    → (process_at t p).priority ≤ℤ (process_at t t.current).priority
none_above t p k h e =
    let top = (process_at t t.current).priority in
    let one : entries_of p t.ready ≡ 1 = k.inside.ready p ∙ ap ready_places e in
    let found = entry_of (λ x. (x.1 ≤ℤ top) × (x.1 ≡ (process_at t x.0).priority)) p t.ready
    (all_both (λ x. x.1 ≤ℤ top) (λ x. x.1 ≡ (process_at t x.0).priority) t.ready h k.inside.keys) (omega arith) in
    subst (λ q. (process_at t q).priority ≤ℤ top) found.1 (subst (λ n. n ≤ℤ top) found.2.1 found.2.0)
