use Rattle.reference_ports.proofs.ports.finish_receive.Goals as goal

pub take_message-requires-clause-room : goal.take_message-requires-clause-room
take_message-requires-clause-room c = (c.requires.room.each c.index-q.result _ c.in-Some.ensures.head).room
