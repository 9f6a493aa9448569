use Rattle.std.proofs.Common.{◌≡◌, ◌+◌, ◌-◌, ◌≤◌, ℕ, Bool, None, Some, Option, rules}
use Rattle.std.specs.Prelude.{not, is_some}
use Rattle.std.specs.List.{find}
use Rattle.xinu_model.specs.Searches.{numbers_from}
use Rattle.xinu_model.specs.Tables as model
use Rattle.xinu_model.proofs.Searches.{search_ahead, search_round}
use Rattle.reference_tables.proofs.tables.Tables.free_semaphore.Goals as goal

pub returns-in-Some : goal.returns-in-Some
returns-in-Some c =
    let test : ℕ → Bool = λ (x : ℕ). not (is_some (model.semaphore_at c.args.self.now x).owner) in
    let n = c.args.self.now.last_semaphore + 1 in
    let h : Some c.in-Some.sem ≡ find test (numbers_from n (128 - n)) = search rules in
    record { found = search_ahead test 128 n c.in-Some.sem h }

pub returns-in-None : goal.returns-in-None
returns-in-None c =
    let test : ℕ → Bool = λ (x : ℕ). not (is_some (model.semaphore_at c.args.self.now x).owner) in
    let n = c.args.self.now.last_semaphore + 1 in
    let lt : n ≤ 128 = search rules in
    let h : ◌≡◌ {A = Option ℕ} None (find test (numbers_from n (128 - n))) = search rules in
    let e : c.semaphore_from-in-None.result ≡ find test (numbers_from 0 (n - 0)) = search rules in
    record { found = search_round test 128 n c.semaphore_from-in-None.result lt h e }
