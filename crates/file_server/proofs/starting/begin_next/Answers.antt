use Rattle.std.proofs.Common.{◌∙◌}
use Rattle.file_server.proofs.Starts.{fewer_calls, one_more}
use Rattle.file_server.proofs.starting.begin_next.Goals as goal

pub loop-preserved : goal.loop-preserved
loop-preserved c = record {
  idle = c.begin_first.ensures.idle c.loop-test.true;
  calls = c.begin_first.ensures.calls;
  room = c.begin_first.ensures.room;
  went = one_more _ _ _ c.loop.invariant.went (c.begin_first.ensures.effect c.loop-test.true)
      (fewer_calls c.loop.disk c.begin_first.new.disk c.loop.requests.items c.begin_first.new.requests.items c.loop.ram c.begin_first.new.ram
      c.loop.notes.items c.begin_first.new.notes.items (c.begin_first.ensures.shorter c.loop-test.true));
  image = c.begin_first.ensures.image ∙ c.loop.invariant.image;
}
