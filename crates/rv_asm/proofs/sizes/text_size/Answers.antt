-- Each step takes one byte off.
use Rattle.std.proofs.Common.{arith}
use Rattle.asm_syntax.specs.Texts.{text_bytes}
use Rattle.rv_asm.proofs.TextLemmas.{rest_is_text, length-text}
use Rattle.rv_asm.proofs.sizes.text_size.Goals as goal

pub loop-rest-preserved : goal.loop-rest-preserved
loop-rest-preserved c =
    let more =
    length-text c.in-Some.field-0-0 (text_bytes c.loop-rest.rest.now) (text_bytes c.in-Some.next.now) c.in-Some.ensures.byte
    c.loop-rest.invariant.bytes in
    record {
      size = omega (arith, more, c.loop-rest.invariant.size);
      bytes =
          rest_is_text c.in-Some.field-0-0 (text_bytes c.loop-rest.rest.now) (text_bytes c.in-Some.next.now) c.in-Some.ensures.byte
          c.loop-rest.invariant.bytes;
      fits = omega (arith, c.loop-rest.invariant.fits, c.in-Some.ensures.shorter);
    }
