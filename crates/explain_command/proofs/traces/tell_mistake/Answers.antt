-- The trace was fetched, or it wasn't.
use Rattle.std.proofs.Common.{◌≤◌, ℕ, List, length, arith, inl, inr, refl, subst, Err}
use Rattle.explain_command.specs.Traces.{ComparesText}
use Rattle.explain_command.proofs.Compared.{file_compared}
use Rattle.explain_command.proofs.traces.tell_mistake.Goals as goal

pub returns-in-Ok-compare : goal.returns-in-Ok-compare
returns-in-Ok-compare g c =
    let compares = rw c.as_slice.ensures.value at c.in-Ok-compare.ensures.compares in
    let few : length c.in-Ok.trace.items ≤ 67108865 = omega (arith, c.in-Ok.ensures.bound) in
    record {
      compares = file_compared c.args.name.now c.in-Ok.trace.items c.args.inputs _ _ _ _ few c.in-Ok.ensures.bytes c.in-Ok.ensures.calls.ok
          c.in-Ok.ensures.cause.later compares;
    }

pub returns-in-Ok : goal.returns-in-Ok
returns-in-Ok g c =
    let compares =
    subst (λ (text : List ℕ). ComparesText c.args.inputs text (Err c.in-Err.refusal) (g.H.Host.view c.fetch.new.self) (g.H.Host.view c.compare.new.host))
    c.as_slice.ensures.value c.in-Err.ensures.compares in
    let few : length c.in-Ok.trace.items ≤ 67108865 = omega (arith, c.in-Ok.ensures.bound) in
    record {
      compares = inl (file_compared c.args.name.now c.in-Ok.trace.items c.args.inputs _ _ _ _ few c.in-Ok.ensures.bytes c.in-Ok.ensures.calls.ok
          c.in-Ok.ensures.cause.later compares);
    }

pub returns : goal.returns
returns g c = record {
  compares = inr (record { memory = refl; many = c.in-Err-NoMemory.ensures.calls.part.0; noted = c.in-Err-NoMemory.ensures.calls.part.1 });
}
