-- Each step appends one byte.
use Rattle.std.proofs.Common.{◌++◌}
use Rattle.asm_syntax.specs.Texts.{bytes_of, text_bytes}
use Rattle.rv_asm.proofs.TextLemmas.{rest_is_text, text-cons, one-appended}
use Rattle.rv_asm.proofs.bytes.push_text.Goals as goal

pub loop-rest-preserved : goal.loop-rest-preserved
loop-rest-preserved c = record {
  bytes =
      one-appended (c.args.content.now.items ++ bytes_of c.args.text.now) (bytes_of c.loop-rest.rest.now) c.loop-rest.content.items
      c.push.new.self.items (bytes_of c.in-Some.next.now) c.in-Some.byte c.loop-rest.invariant.bytes
      (text-cons c.in-Some.byte (text_bytes c.loop-rest.rest.now) (text_bytes c.in-Some.next.now) c.in-Some.ensures.byte
      c.loop-rest.invariant.text)
      c.in_ok-push-in-Some.ensures.items;
  text =
      rest_is_text c.in-Some.byte (text_bytes c.loop-rest.rest.now) (text_bytes c.in-Some.next.now) c.in-Some.ensures.byte
      c.loop-rest.invariant.text;
}
