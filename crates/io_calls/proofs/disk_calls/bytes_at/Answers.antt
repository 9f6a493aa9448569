use Rattle.std.proofs.Common.{◌≡◌, ◌∙◌, ap, arith, length-set, refl, sym, take, take_all}
use Rattle.io_calls.proofs.BlockBytes.{byte_read, no_bytes}
use Rattle.io_calls.proofs.disk_calls.bytes_at.Goals as goal
use Rattle.xinu_model.specs.Memory.{bytes_from}

pub loop-i-init : goal.loop-i-init
loop-i-init c = record { low = omega arith; size = refl; read = no_bytes c.args.k.now.call.state.memory c.args.at }

pub loop-i-preserved : goal.loop-i-preserved
loop-i-preserved c =
    let i = c.loop-i.i in
    let bytes = c.loop-i.bytes in
    let size = c.loop-i.invariant.size in
    let low = c.loop-i-test.true in
    record {
      low = omega (arith, low);
      size = length-set bytes i c.byte_at.result ∙ size;
      read = byte_read c.args.k.now.call.state.memory bytes c.args.at i c.byte_at.result (omega (arith, low, size)) c.byte_at.ensures.byte
          c.loop-i.invariant.read;
    }

pub returns : goal.returns
returns c =
    let most = c.loop-i.invariant.low in
    let least = c.loop-i-test.false in
    let size = c.loop-i.invariant.size in
    let i : c.loop-i.i ≡ 512 = omega (arith, most, least) in
    record {
      bytes = sym (take_all 512 c.loop-i.bytes (omega (arith, size))) ∙ sym (ap (λ n. take n c.loop-i.bytes) i) ∙ c.loop-i.invariant.read
          ∙ ap (bytes_from c.args.k.now.call.state.memory c.args.at) i;
    }
