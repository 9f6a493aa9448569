-- What a transmission and a control function answer.
use Rattle.std.specs.Prelude.{ℕ, Bool, Option, Some, None}
use Rattle.xinu_model.specs.Console.Rows.{Committed}
use Rattle.xinu_model.specs.Console.Transmitting.{Sent}

-- the byte that is sent, and whether it was output
abbrev pub sent_byte : Option Sent → Option (ℕ × Bool)
sent_byte None = None
sent_byte (Some sent) = Some (sent.byte, sent.is_output)

-- how many items a control function commits
abbrev pub count_by : Option Committed → Option ℕ
count_by None = None
count_by (Some committed) = Some committed.count
