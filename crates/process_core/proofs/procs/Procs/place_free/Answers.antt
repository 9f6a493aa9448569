use Rattle.std.proofs.Common.{◌≡◌, ◌+◌, ◌-◌, ◌≤◌, ℕ, None, Some, Option, rules}
use Rattle.std.specs.List.{find}
use Rattle.xinu_model.specs.Searches.{numbers_from}
use Rattle.process_core.specs.Tables.{tables_of}
use Rattle.process_core.proofs.Searches.{found_free, is_free_in, none_free}
use Rattle.xinu_model.proofs.Searches.{search_ahead, search_round}
use Rattle.process_core.proofs.procs.Procs.place_free.Goals as goal

pub returns-in-Some-clause-found : goal.returns-in-Some-clause-found
unfolding tables_of
returns-in-Some-clause-found c ls b =
    let s = c.args.self.now in
    let h : Some c.in-Some.p ≡ find (is_free_in s.processes) (numbers_from (s.last_process + 1) (64 - (s.last_process + 1)))
    = search rules in
    search_ahead (is_free_in s.processes) 64 (s.last_process + 1) c.in-Some.p h

pub returns-in-Some-clause-free : goal.returns-in-Some-clause-free
returns-in-Some-clause-free c =
    let s = c.args.self.now in
    let h : Some c.in-Some.p ≡ find (is_free_in s.processes) (numbers_from (s.last_process + 1) (64 - (s.last_process + 1)))
    = search rules in
    found_free s.processes (s.last_process + 1) (64 - (s.last_process + 1)) (Some c.in-Some.p) h

pub returns-in-None-clause-found : goal.returns-in-None-clause-found
unfolding tables_of
returns-in-None-clause-found c ls b =
    let s = c.args.self.now in
    let lt : s.last_process + 1 ≤ 64 = search rules in
    let h : ◌≡◌ {A = Option ℕ} None (find (is_free_in s.processes) (numbers_from (s.last_process + 1) (64 - (s.last_process + 1))))
    = search rules in
    let e : c.free_within-in-None.result ≡ find (is_free_in s.processes) (numbers_from 0 ((s.last_process + 1) - 0)) = search rules in
    search_round (is_free_in s.processes) 64 (s.last_process + 1) c.free_within-in-None.result lt h e

pub returns-in-None-clause-free : goal.returns-in-None-clause-free
returns-in-None-clause-free c =
    let s = c.args.self.now in
    let e : c.free_within-in-None.result ≡ find (is_free_in s.processes) (numbers_from 0 ((s.last_process + 1) - 0)) = search rules in
    found_free s.processes 0 ((s.last_process + 1) - 0) c.free_within-in-None.result e

pub returns-in-None-clause-full : goal.returns-in-None-clause-full
returns-in-None-clause-full c =
    let s = c.args.self.now in
    let lt : s.last_process + 1 ≤ 64 = search rules in
    let h : ◌≡◌ {A = Option ℕ} None (find (is_free_in s.processes) (numbers_from (s.last_process + 1) (64 - (s.last_process + 1))))
    = search rules in
    let e : c.free_within-in-None.result ≡ find (is_free_in s.processes) (numbers_from 0 ((s.last_process + 1) - 0)) = search rules in
    none_free s.processes (s.last_process + 1) c.free_within-in-None.result lt h e
