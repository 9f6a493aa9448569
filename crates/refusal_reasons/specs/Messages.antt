-- Why the calls on messages are refused (book, chapter 8).
use Rattle.std.specs.Prelude.{ℕ, List, [], ◌∷◌, is_some}
use Rattle.refusal_reasons.specs.Causes.{cause, CauseRow, row, is_minus_one_message, is_negative}
use Rattle.refusal_reasons.specs.declared.reasons.Cause.{Cause}
use Rattle.refusal_reasons.specs.Processes.{no_process}
use Rattle.refusal_reasons.specs.declared.reasons.Reason.TheVariants.{HoldsMessage, MessageIsMinusOne, NegativeTime}
use Rattle.xinu_model.specs.Machine.{Xinu}
use Rattle.xinu_model.specs.Messages.{held}
use Rattle.xinu_model.specs.Tables.{message_at}
use Rattle.xinu_model.specs.Words.{signed}

-- `send` to p
abbrev pub send_causes : ℕ → Xinu → List Cause
send_causes p s = no_process p s ∷ cause HoldsMessage (is_some (message_at s.tables p)) ∷ []

-- the caller's message is answered, and is -1
abbrev pub message_told : Xinu → Cause
message_told s = cause MessageIsMinusOne (is_minus_one_message (held s))

-- `receive` and `recvclr`
abbrev pub receive_causes : Xinu → List Cause
receive_causes s = message_told s ∷ []

-- `recvtime`, by a word
abbrev pub recvtime_causes : ℕ → Xinu → List Cause
recvtime_causes ticks s = cause NegativeTime (is_negative (signed ticks)) ∷ message_told s ∷ []

-- the calls on messages
abbrev pub message_causes : List CauseRow
message_causes =
    row 21 (λ a s. send_causes (a 0) s) ∷
    row 22 (λ a s. receive_causes s) ∷
    row 23 (λ a s. receive_causes s) ∷
    row 24 (λ a s. recvtime_causes (a 0) s) ∷
    []
