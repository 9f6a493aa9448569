use Rattle.std.proofs.Common.{◌∙◌, ap, arith, refl, w32}
use Rattle.std.proofs.lemmas.Int.{to_z_pos}
use Rattle.kernel_state.specs.Results.{came_to}
use Rattle.xinu_base.specs.declared.syscalls.Next.TheVariants.{Returns}
use Rattle.io_calls.proofs.ConsoleReads.{read_ends, read_goes_on, read_over, read_waits}
use Rattle.io_calls.proofs.console_reads.reads.Goals as goal

pub returns-then-not-await_item : goal.returns-then-not-await_item
returns-then-not-await_item c = record {
  reads = read_waits c.args.part c.args.k.now.call.state c.loop-done.done c.loop-done.k.call c.await_item.new.k.call c.await_item.result
      c.loop-done.invariant.reading c.loop-done-test.true c.await_item.ensures.waits c.if-not-await_item.true;
  image = c.await_item.ensures.image ∙ c.loop-done.invariant.image;
}

pub read_item-requires-clause-item : goal.read_item-requires-clause-item
read_item-requires-clause-item c = c.await_item.ensures.item c.if-not-await_item.false

pub returns-in-Some : goal.returns-in-Some
returns-in-Some c = record {
  reads = read_ends c.args.part c.args.k.now.call.state c.loop-done.done c.loop-done.k.call c.await_item.new.k.call c.await_item.result
      c.loop-done.invariant.reading c.loop-done-test.true c.await_item.ensures.waits c.if-not-await_item.false
      c.read_item.new.k.call c.read_item.result c.read_item.ensures.reads c.in-Some.next c.in-Some.is;
  image = c.read_item.ensures.image ∙ c.await_item.ensures.image ∙ c.loop-done.invariant.image;
}

pub loop-done-preserved : goal.loop-done-preserved
loop-done-preserved c = record {
  end = refl;
  reading = read_goes_on c.args.part c.args.k.now.call.state c.loop-done.done c.loop-done.k.call c.await_item.new.k.call c.await_item.result
      c.loop-done.invariant.reading c.loop-done-test.true c.await_item.ensures.waits c.if-not-await_item.false
      c.read_item.new.k.call c.read_item.result c.read_item.ensures.reads c.in_default.is c.in_default.ensures.begins;
  image = c.read_item.ensures.image ∙ c.await_item.ensures.image ∙ c.loop-done.invariant.image;
}

pub returns : goal.returns
returns c =
    let range = c.requires.range in
    record {
      reads = ap (λ z. came_to c.loop-done.k.call (Returns z)) (to_z_pos w32 c.args.part.want (omega (arith, range)))
          ∙ read_over c.args.part c.args.k.now.call.state c.loop-done.done c.loop-done.k.call c.loop-done.invariant.reading c.loop-done-test.false;
      image = c.loop-done.invariant.image;
    }
