use Rattle.std.proofs.Common.{◌∙◌, sym, rules}
use Rattle.kernel_tables.specs.declared.tables.KernelTables.TheInside.{Inside}
use Rattle.kernel_tables.proofs.SameTables.{parts_of, tables_from}
use Rattle.kernel_tables.proofs.tables.KernelTables.equals.Goals as goal

pub returns-then-not-equals : goal.returns-then-not-equals
returns-then-not-equals c = record {
  equal = (
    λ no. absurd (search rules),
    λ e.
        let yes = c.equals.ensures.equal.1 (parts_of c.self.inside c.other.inside c.self.invariant c.other.invariant (c.self.view_is ∙ e ∙ sym c.other.view_is)).clock in
        absurd (search rules),
  );
}

pub returns-then-not-equals-2 : goal.returns-then-not-equals-2
returns-then-not-equals-2 c = record {
  equal = (
    λ no. absurd (search rules),
    λ e.
        let yes = c.equals-2.ensures.equal.1 (parts_of c.self.inside c.other.inside c.self.invariant c.other.invariant (c.self.view_is ∙ e ∙ sym c.other.view_is)).procs in
        absurd (search rules),
  );
}

pub returns-then-not-equals-3 : goal.returns-then-not-equals-3
returns-then-not-equals-3 c = record {
  equal = (
    λ no. absurd (search rules),
    λ e.
        let yes = c.equals-3.ensures.equal.1 (parts_of c.self.inside c.other.inside c.self.invariant c.other.invariant (c.self.view_is ∙ e ∙ sym c.other.view_is)).slots in
        absurd (search rules),
  );
}

pub returns-then-not-equals-4 : goal.returns-then-not-equals-4
returns-then-not-equals-4 c = record {
  equal = (
    λ no. absurd (search rules),
    λ e.
        let yes = c.equals-4.ensures.equal.1 (parts_of c.self.inside c.other.inside c.self.invariant c.other.invariant (c.self.view_is ∙ e ∙ sym c.other.view_is)).sems in
        absurd (search rules),
  );
}

pub returns : goal.returns
returns c =
    let a : Inside = c.self.inside in
    let b : Inside = c.other.inside in
    record {
      equal = (
        λ yes.
            sym c.self.view_is
            ∙ tables_from a b (record {
              procs = c.equals-2.ensures.equal.0 (search rules);
              sems = c.equals-4.ensures.equal.0 (search rules);
              slots = c.equals-3.ensures.equal.0 (search rules);
              clock = c.equals.ensures.equal.0 (search rules);
              queues = c.are_same_queues.ensures.same.0 yes;
            })
            ∙ c.other.view_is,
        λ e. c.are_same_queues.ensures.same.1 (parts_of a b c.self.invariant c.other.invariant (c.self.view_is ∙ e ∙ sym c.other.view_is)).queues,
      );
    }
