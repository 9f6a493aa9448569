use Rattle.std.proofs.Common.{◌≡◌, ◌∙◌, true, int_lt, sym, subst}
use Rattle.xinu_model.specs.Machine.{CallState}
use Rattle.xinu_model.specs.Semaphores.Counts.{count_of, most_tokens}
use Rattle.xinu_model.specs.Tables.{semaphore_at}
use Rattle.reference_ports.proofs.RoomLeft.{receivers_room}
use Rattle.reference_ports.proofs.ports.put_message.Goals as goal

pub signalled-requires : goal.signalled-requires
signalled-requires c =
    let s = c.args.m.now.state in
    let full = sym c.are_all_full.ensures.full ∙ c.if-are_all_full.false in
    let r = c.index.result in
    record {
      room = subst (λ (d : CallState). int_lt (count_of (semaphore_at d.state.tables r)) most_tokens ≡ true) (sym c.in_ok-add_message.ensures.added)
          (subst (λ sem. int_lt (count_of (semaphore_at s.tables sem)) most_tokens ≡ true) (sym c.index.ensures.index)
          (receivers_room s.tables s.parts.ports c.args.q _ c.requires.used full c.requires.room));
    }
