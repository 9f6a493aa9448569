use Rattle.std.proofs.Common.{◌∙◌, ap, arith, refl, w32}
use Rattle.std.proofs.lemmas.Int.{to_z_pos}
use Rattle.kernel_state.specs.Results.{came_to}
use Rattle.xinu_base.specs.declared.syscalls.Next.TheVariants.{Returns}
use Rattle.io_calls.proofs.ConsoleWrites.{write_goes_on, write_over, write_waits, write_waits_again}
use Rattle.io_calls.proofs.console_writes.writes.Goals as goal

pub returns-then-not-await_place : goal.returns-then-not-await_place
returns-then-not-await_place c = record {
  writes = write_waits c.args.part c.args.k.now.call.state c.loop-done.done c.loop-done.k.call c.await_place.new.k.call c.await_place.result
      c.loop-done.invariant.writing c.loop-done-test.true c.await_place.ensures.waits c.if-not-await_place.true;
  image = c.await_place.ensures.image ∙ c.loop-done.invariant.image;
}

pub put_byte-requires-clause-place : goal.put_byte-requires-clause-place
put_byte-requires-clause-place c = c.await_place.ensures.place c.if-not-await_place.false

pub returns-then-not-put_byte : goal.returns-then-not-put_byte
returns-then-not-put_byte c = record {
  writes = write_waits_again c.args.part c.args.k.now.call.state c.loop-done.done c.loop-done.k.call c.await_place.new.k.call c.await_place.result
      c.loop-done.invariant.writing c.loop-done-test.true c.await_place.ensures.waits c.if-not-await_place.false
      c.byte_at-b.result c.put_byte.new.k.call c.put_byte.result c.byte_at-b.ensures.byte c.put_byte.ensures.puts c.if-not-put_byte.true;
  image = c.put_byte.ensures.image ∙ c.await_place.ensures.image ∙ c.loop-done.invariant.image;
}

pub loop-done-preserved : goal.loop-done-preserved
loop-done-preserved c = record {
  end = refl;
  writing = write_goes_on c.args.part c.args.k.now.call.state c.loop-done.done c.loop-done.k.call c.await_place.new.k.call c.await_place.result
      c.loop-done.invariant.writing c.loop-done-test.true c.await_place.ensures.waits c.if-not-await_place.false
      c.byte_at-b.result c.put_byte.new.k.call c.put_byte.result c.byte_at-b.ensures.byte c.put_byte.ensures.puts c.if-not-put_byte.false
      (c.put_byte.ensures.begins c.if-not-put_byte.false);
  image = c.put_byte.ensures.image ∙ c.await_place.ensures.image ∙ c.loop-done.invariant.image;
}

pub returns : goal.returns
returns c =
    let range = c.requires.range in
    record {
      writes = ap (λ z. came_to c.loop-done.k.call (Returns z)) (to_z_pos w32 c.args.part.want (omega (arith, range)))
          ∙ write_over c.args.part c.args.k.now.call.state c.loop-done.done c.loop-done.k.call c.loop-done.invariant.writing c.loop-done-test.false;
      image = c.loop-done.invariant.image;
    }
