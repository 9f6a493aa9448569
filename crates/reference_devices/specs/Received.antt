-- What a character, a control function or a transmission did, by what the code answers.
use Rattle.std.specs.Prelude.{ℕ}
use Rattle.reference_devices.specs.declared.transmitting.Sent.{Sent}
use Rattle.xinu_model.specs.Console.Rows.{Committed}
use Rattle.xinu_model.specs.Console.State.{Console}
use Rattle.xinu_model.specs.Console.Transmitting as model

-- the console that it left, and how many items were committed
abbrev pub came_to : Console → ℕ → Committed
came_to c n = record { console = c; count = n }

-- the console that it left, and what was sent
abbrev pub sent_of : Console → Sent → model.Sent
sent_of c x = record { byte = x.byte; is_output = x.is_output; console = c }
