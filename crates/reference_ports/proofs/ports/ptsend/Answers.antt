use Rattle.std.proofs.Common.{◌≡◌, ◌∙◌, true, if◌then◌else◌, ap, rules}
use Rattle.xinu_model.specs.Machine.{Xinu, CallResult, Waits}
use Rattle.xinu_model.specs.Semaphores.Waiting.{await}
use Rattle.reference_ports.proofs.RoomLeft.{room_taken}
use Rattle.reference_ports.proofs.TokenTaken.{token_taken}
use Rattle.reference_ports.proofs.ports.ptsend.Goals as goal

pub finish_send-requires-clause-room : goal.finish_send-requires-clause-room
finish_send-requires-clause-room c =
    let s = c.args.m.now.state in
    let m = c.await_token.new.self in
    let left = c.left_of_send.result in
    let took : c.in_ok-await_token.field-0 ≡ true = search rules in
    let h : (then_ : Xinu → CallResult) → await c.index.result left then_ s ≡ then_ m.state =
    λ then_. c.in_ok-await_token.ensures.awaits then_ ∙ ap (λ b. if b then then_ m.state else record { call = m; answer = Waits }) took in
    room_taken c.index.result s m.state (token_taken c.index.result left s m.state h) c.requires.ports
