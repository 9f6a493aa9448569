use Rattle.std.proofs.Common.{◌≡◌, ◌∙◌, true, ap, rules, sym}
use Rattle.io_calls.proofs.ConsoleTokens.{newline_put, newline_waits}
use Rattle.kernel_state.proofs.Values.{call_is}
use Rattle.io_calls.proofs.console_tokens.put_byte.Goals as goal
use Rattle.kernel_state.specs.States.{kernel_state}
use Rattle.xinu_model.specs.Console.Putting.{needs_return, put, put_byte}
use Rattle.xinu_model.specs.Console.Taking.{console_of}
use Rattle.xinu_model.specs.Machine.{CallState}

pub returns-then-not-await_place-clause-puts : goal.returns-then-not-await_place-clause-puts
returns-then-not-await_place-clause-puts c then_ =
    let s = (kernel_state c.k.inside).state in
    let u = (kernel_state (record c.k.inside { tty = c.put.new.self })).state in
    let needs : needs_return c.args.b (console_of s).mode ≡ true = search rules in
    let is : u ≡ put 13 s = search rules in
    sym (ap (λ (d : CallState). put_byte c.args.b c.args.rest then_ d.state) (call_is c.k.view_is))
    ∙ newline_waits c.args.b c.args.rest u s c.await_place.new.k.call c.await_place.result needs is c.await_place.ensures.waits c.if-not-await_place.true
    then_

pub returns-then-ne-clause-puts : goal.returns-then-ne-clause-puts
returns-then-ne-clause-puts c then_ =
    let s = (kernel_state c.k.inside).state in
    let u = (kernel_state (record c.k.inside { tty = c.put.new.self })).state in
    let needs : needs_return c.args.b (console_of s).mode ≡ true = search rules in
    let is : u ≡ put 13 s = search rules in
    sym (ap (λ (d : CallState). put_byte c.args.b c.args.rest then_ d.state) (call_is c.k.view_is))
    ∙ newline_put c.args.b c.args.rest u s c.await_place.new.k.call c.await_place.result needs is c.await_place.ensures.waits c.if-not-await_place.false
    c.put_newline.new.k.call c.put_newline.ensures.puts then_
