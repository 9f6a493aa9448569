use Rattle.std.proofs.Common.{◌≡◌}
use Rattle.io_calls.specs.Consoles.{IsReading}
use Rattle.io_calls.proofs.console_reads.reads.Given as goal

abbrev pub invariant-loop-done : goal.invariant-loop-done
invariant-loop-done l = record {
  end : l.done-end ≡ l.part.want;
  reading : IsReading l.part l.fn.k.call.state l.done l.k.call;
  image : l.k.image ≡ l.fn.k.image;
}
