-- None at first, a part more each time, and then all.
use Rattle.std.proofs.Common.{◌∙◌, ◌++◌, List, ℕ, ap}
use Rattle.gdb_command.proofs.Shown.{some-all, some-more, some-none}
use Rattle.gdb_command.proofs.output.push_console_digits.Goals as goal

pub loop-rest-init : goal.loop-rest-init
loop-rest-init c = record { some = some-none c.args.digits.now c.args.out.now.items }

pub loop-rest-preserved : goal.loop-rest-preserved
loop-rest-preserved c = record {
  some =
      some-more c.args.digits.now c.args.out.now.items c.loop-rest.out.items c.extend_from_slice.new.self.items c.loop-rest.rest.now c.split_at.result.0.now
      c.split_at.result.1.now c.min.result c.loop-rest.invariant.some c.split_at.ensures.front c.split_at.ensures.back
      (c.in_ok-extend_from_slice.ensures.items ∙ ap (λ (l : List ℕ). c.loop-rest.out.items ++ l) (c.as_slice.ensures.value ∙ c.in_ok-packet.ensures.packet));
}

pub returns : goal.returns
returns c = record {
  shows = some-all c.args.digits.now c.args.out.now.items c.loop-rest.out.items c.loop-rest.rest.now c.loop-rest.invariant.some c.loop-rest-test.ensures;
}
