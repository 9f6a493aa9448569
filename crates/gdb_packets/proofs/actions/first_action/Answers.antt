-- The first action ends at the first semicolon.
use Rattle.std.proofs.Common.{◌+◌, ◌-◌, length, drop, sym, arith, length-drop}
use Rattle.std.proofs.lemmas.List.{take_all}
use Rattle.gdb_packets.proofs.Parts.{actions-first, actions-last, actions-many}
use Rattle.gdb_packets.proofs.actions.first_action.Goals as goal

pub returns-in-Some-clause-actions : goal.returns-in-Some-clause-actions
returns-in-Some-clause-actions c =
    rw (
      take_all (length c.args.bytes.now - (c.in-Some.i + 1)) (drop (c.in-Some.i + 1) c.args.bytes.now)
          (omega (arith, length-drop (c.in-Some.i + 1) c.args.bytes.now)),
      c.action_in.ensures.action,
    )
    (actions-first c.args.bytes.now c.in-Some.i (sym c.in-Some.ensures.place))

pub returns-in-None-clause-actions : goal.returns-in-None-clause-actions
returns-in-None-clause-actions c = rw c.action_in-in-None.ensures.action (actions-last c.args.bytes.now (sym c.in-None.ensures.place))

pub returns-in-Some-clause-more : goal.returns-in-Some-clause-more
returns-in-Some-clause-more c = actions-many c.args.bytes.now c.in-Some.i (sym c.in-Some.ensures.place)
