use Rattle.std.proofs.Common.{◌≡◌, ◌+◌, ◌-◌, ◌≤◌, ℕ, Bool, None, Some, Option, rules}
use Rattle.std.specs.List.{find}
use Rattle.xinu_model.specs.Searches.{numbers_from}
use Rattle.xinu_model.specs.Tables as model
use Rattle.xinu_model.proofs.Searches.{search_ahead, search_round}
use Rattle.reference_tables.proofs.tables.Tables.free_process.Goals as goal

pub returns-in-Some : goal.returns-in-Some
returns-in-Some c =
    let test : ℕ → Bool = λ (p : ℕ). model.is_free (model.state_at c.args.self.now p) in
    let n = c.args.self.now.last_process + 1 in
    let h : Some c.in-Some.p ≡ find test (numbers_from n (64 - n)) = search rules in
    record { found = search_ahead test 64 n c.in-Some.p h }

pub returns-in-None : goal.returns-in-None
returns-in-None c =
    let test : ℕ → Bool = λ (p : ℕ). model.is_free (model.state_at c.args.self.now p) in
    let n = c.args.self.now.last_process + 1 in
    let lt : n ≤ 64 = search rules in
    let h : ◌≡◌ {A = Option ℕ} None (find test (numbers_from n (64 - n))) = search rules in
    let e : c.process_from-in-None.result ≡ find test (numbers_from 0 (n - 0)) = search rules in
    record { found = search_round test 64 n c.process_from-in-None.result lt h e }
