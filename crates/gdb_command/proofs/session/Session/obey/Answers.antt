-- It was done, and the session goes on or not.
use Rattle.std.proofs.Common.{◌≡◌, ◌&&◌, not, ap, ◌∙◌}
use Rattle.gdb_command.proofs.Obeyed.{acks-off, acks-on, obeyed}
use Rattle.gdb_command.specs.Deeds.{stops_acks}
use Rattle.gdb_command.proofs.session.Session.obey.Goals as goal
use Rattle.gdb_command.proofs.session.Session.obey.Goals.{else-self, then-self}

pub returns : goal.returns
returns c =
    let old = c.args.self.now in
    let mid = c.carry_out.new.self in
    let command = c.command_of-command.result in
    let acks : c.if-self.self ≡ (old.has_acks && not (stops_acks command)) =
    elim c.if-self.branch [
      | then-self w ↦
          acks-on old.has_acks mid.has_acks (stops_acks command) c.if-self.self c.in_ok-carry_out.ensures.acks w.if-self.true
          (w.self-is ∙ ap not w.stops_acks.ensures.stops)
      | else-self w ↦ acks-off old.has_acks mid.has_acks (stops_acks command) c.if-self.self c.in_ok-carry_out.ensures.acks w.if-self.false w.self-is
    ] in
    record {
      obeyed =
          obeyed old (record mid { has_acks = c.if-self.self; has_ended = c.ends_session-self.result }) command c.args.payload.now c.args.out.now.items
          c.carry_out.new.out.items c.command_of-command.ensures.command c.requires.fresh c.runs.ensures.runs c.in_ok-carry_out.ensures.same
          c.in_ok-carry_out.ensures.done acks c.ends_session-self.ensures.ends;
    }
