use Rattle.reference_ports.proofs.ports.finish_send.Goals as goal

pub put_message-requires-clause-room : goal.put_message-requires-clause-room
put_message-requires-clause-room c = (c.requires.room.each c.index-q.result _ c.in-Some.ensures.head).messages
