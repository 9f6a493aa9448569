use Rattle.xinu_laws.proofs.Devices.Found.{buffer_found, item_found, room_found, reply_found}
use Rattle.xinu_laws.proofs.soundness.what_was_waited_for_is_there.Goals as goal

pub returns : goal.returns
returns c = record { item = item_found; room = room_found; reply = reply_found; buffer = buffer_found }
