-- Nothing at first, and then a piece more.
use Rattle.std.proofs.Common.{List, ℕ, subst, sym}
use Rattle.gdb_command.proofs.Served.{more-served, none-served}
use Rattle.gdb_command.proofs.Shorter.{seen-whole, unit-shorter}
use Rattle.gdb_command.specs.Serving.{HasServed}
use Rattle.gdb_packets.specs.SeenUnits.{seen}
use Rattle.gdb_command.proofs.session.Session.units.Goals as goal

pub loop-self-init : goal.loop-self-init
loop-self-init c = record {
  served =
      subst (λ (l : List ℕ). HasServed c.args.self.now c.args.input.now c.args.self.now l c.args.input.now) (sym c.new-sent.ensures.items)
      (none-served c.args.self.now c.args.input.now);
}

pub loop-self-smaller : goal.loop-self-smaller
loop-self-smaller c =
    unit-shorter (seen c.first_unit.result.0) c.loop-self.rest.now c.first_unit.result.1.now c.first_unit.ensures.unit
    (seen-whole c.first_unit.result.0 c.in_default.not-Partial)

pub loop-self-preserved : goal.loop-self-preserved
loop-self-preserved c = record {
  served =
      more-served c.args.self.now c.loop-self.self c.append.new.self c.args.input.now c.loop-self.sent.items c.loop-self.rest.now c.append.new.sent.items
      c.first_unit.result.1.now (seen c.first_unit.result.0) c.loop-self.invariant.served c.loop-self-test.true c.first_unit.ensures.unit
      c.in_ok-append.ensures.sends;
}
