use Rattle.std.proofs.Common.{ℕ, List, sym, subst}
use Rattle.std.specs.List.{All}
use Rattle.uses_heap.specs.Pools.{AreApart, AreRecords, Records}
use Rattle.uses_heap.proofs.Records.{records_take}
use Rattle.uses_heap.proofs.pool.Pool.take.Goals as goal

-- src/pool.rt:50:5
pub invariant_of-self-2 : goal.invariant_of-self-2
invariant_of-self-2 c =
    let after = records_take c.self.inside.heap c.getmem.new.self c.in_ok-address.address c.self.inside.taken.items c.self.invariant c.in_ok-address.ensures.grants in
    subst (λ (xs : List ℕ). AreRecords c.getmem.new.self xs) (sym c.push.ensures.items) after.1

-- src/pool.rt:50:5
pub returns-clause-apart : goal.returns-clause-apart
returns-clause-apart c =
    let after = records_take c.self.inside.heap c.getmem.new.self c.in_ok-address.address c.self.inside.taken.items c.self.invariant c.in_ok-address.ensures.grants in
    subst (λ (p : Records). All (AreApart c.in_ok-address.address) p.addresses) c.self.view_is after.0
