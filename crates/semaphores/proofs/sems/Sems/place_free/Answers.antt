use Rattle.std.proofs.Common.{◌≡◌, ◌∙◌, ◌+◌, ◌-◌, ◌≤◌, ℕ, None, Some, Option, rules}
use Rattle.std.specs.List.{find}
use Rattle.xinu_model.specs.Searches.{numbers_from}
use Rattle.xinu_model.proofs.Searches.{search_ahead, search_round}
use Rattle.semaphores.proofs.Finding.{found_free, is_free_in, none_free, search_is}
use Rattle.semaphores.proofs.sems.Sems.place_free.Goals as goal

pub returns-in-Some-clause-found : goal.returns-in-Some-clause-found
returns-in-Some-clause-found c ls p m ticks =
    let s = c.args.self.now in
    let h : Some c.in-Some.sem ≡ find (is_free_in s.entries) (numbers_from (s.last_semaphore + 1) (128 - (s.last_semaphore + 1)))
    = search rules in
    search_ahead (is_free_in s.entries) 128 (s.last_semaphore + 1) c.in-Some.sem h ∙ search_is ls p s m ticks

pub returns-in-Some-clause-free : goal.returns-in-Some-clause-free
returns-in-Some-clause-free c =
    let s = c.args.self.now in
    let h : Some c.in-Some.sem ≡ find (is_free_in s.entries) (numbers_from (s.last_semaphore + 1) (128 - (s.last_semaphore + 1)))
    = search rules in
    found_free s.entries (s.last_semaphore + 1) (128 - (s.last_semaphore + 1)) (Some c.in-Some.sem) h

pub returns-in-None-clause-found : goal.returns-in-None-clause-found
returns-in-None-clause-found c ls p m ticks =
    let s = c.args.self.now in
    let lt : s.last_semaphore + 1 ≤ 128 = search rules in
    let h : ◌≡◌ {A = Option ℕ} None (find (is_free_in s.entries) (numbers_from (s.last_semaphore + 1) (128 - (s.last_semaphore + 1))))
    = search rules in
    let e : c.free_within-in-None.result ≡ find (is_free_in s.entries) (numbers_from 0 ((s.last_semaphore + 1) - 0)) = search rules in
    search_round (is_free_in s.entries) 128 (s.last_semaphore + 1) c.free_within-in-None.result lt h e ∙ search_is ls p s m ticks

pub returns-in-None-clause-free : goal.returns-in-None-clause-free
returns-in-None-clause-free c =
    let s = c.args.self.now in
    let e : c.free_within-in-None.result ≡ find (is_free_in s.entries) (numbers_from 0 ((s.last_semaphore + 1) - 0)) = search rules in
    found_free s.entries 0 ((s.last_semaphore + 1) - 0) c.free_within-in-None.result e

pub returns-in-None-clause-full : goal.returns-in-None-clause-full
returns-in-None-clause-full c =
    let s = c.args.self.now in
    let lt : s.last_semaphore + 1 ≤ 128 = search rules in
    let h : ◌≡◌ {A = Option ℕ} None (find (is_free_in s.entries) (numbers_from (s.last_semaphore + 1) (128 - (s.last_semaphore + 1))))
    = search rules in
    let e : c.free_within-in-None.result ≡ find (is_free_in s.entries) (numbers_from 0 ((s.last_semaphore + 1) - 0)) = search rules in
    none_free s.entries (s.last_semaphore + 1) c.free_within-in-None.result lt h e
