use Rattle.std.proofs.Common.{◌∙◌, ◌-◌, Some, ap, arith}
use Rattle.std.specs.List.{find}
use Rattle.xinu_model.specs.Searches.{numbers_from}
use Rattle.xinu_model.proofs.Searches.{search_ahead, search_round}
use Rattle.ports.proofs.Finding.{found_free, is_free_in}
use Rattle.ports.proofs.table.Ports.place_free.Goals as goal

pub returns-in-Some-clause-found : goal.returns-in-Some-clause-found
returns-in-Some-clause-found c =
    let s = c.args.self.now in
    let test = is_free_in s.ports in
    search_ahead test 30 s.next_port c.in-Some.q
    (c.in-Some.ensures.first ∙ ap (λ n. find test (numbers_from n (30 - n))) c.first_looked_at-first.ensures.first)

pub returns-in-Some-clause-free : goal.returns-in-Some-clause-free
returns-in-Some-clause-free c =
    let n = c.first_looked_at-first.result in found_free c.args.self.now.ports n (30 - n) (Some c.in-Some.q) c.in-Some.ensures.first

pub returns-in-None-clause-found : goal.returns-in-None-clause-found
returns-in-None-clause-found c =
    let s = c.args.self.now in
    let test = is_free_in s.ports in
    let i = c.first_looked_at-first.ensures.first in
    let b = c.first_looked_at-first.ensures.below in
    search_round test 30 s.next_port c.free_within-in-None.result (omega (arith, i, b))
    (c.in-None.ensures.first ∙ ap (λ n. find test (numbers_from n (30 - n))) i)
    (c.free_within-in-None.ensures.first ∙ ap (λ n. find test (numbers_from 0 (n - 0))) i)

pub returns-in-None-clause-free : goal.returns-in-None-clause-free
returns-in-None-clause-free c =
    let n = c.first_looked_at-first.result in found_free c.args.self.now.ports 0 (n - 0) c.free_within-in-None.result c.free_within-in-None.ensures.first
