-- What is sent for what comes in, if the run was refused.
use Rattle.std.specs.Prelude.{◌≡◌, ◌⊎◌, ◌<◌, ℕ, zero, suc, Bool, true, false, List, [], ◌∷◌, ◌++◌, take, codes, Option, Some, None}
use Rattle.std.specs.Io.KnownBytes.{Appends, IsAtEnd}
use Rattle.gdb_command.specs.Deeds.{ends_session}
use Rattle.gdb_command.specs.Reads.{Passes, Streams}
use Rattle.gdb_command.specs.Serving.{IsPartial}
use Rattle.gdb_packets.specs.Commands.{command_of}
use Rattle.gdb_packets.specs.Frames.{frame}
use Rattle.gdb_packets.specs.Units.{InputUnit, Packet, Damaged, Refused, first_unit}
use Rattle.host_port.specs.declared.host.HostFault.{HostFault}
use Rattle.text_lines.specs.Lines.{lines_of}

-- the first line of some, if there is one
abbrev pub first_of : List (List ℕ) → List ℕ
first_of [] = []
first_of (line ∷ lines) = line

-- the packet of an error in words: the first line of a text
abbrev pub error_packet : List ℕ → List ℕ
error_packet text = frame (codes "E." ++ first_of (lines_of text))

-- what is answered to a piece of an input: a packet is acknowledged and answered with the error; a damaged one is complained of; the error is sent again
-- if it was refused; and else nothing
abbrev pub refused_unit : List ℕ → InputUnit → List ℕ
refused_unit error (Packet payload) = codes "+" ++ error
refused_unit error Damaged = codes "-"
refused_unit error Refused = error
refused_unit error _ = []

-- whether a piece of an input ends the session
abbrev pub ends_with : InputUnit → Bool
ends_with (Packet payload) = ends_session (command_of payload)
ends_with _ = false

-- how far it is: what was read, what is answered to it, what is left of it, and whether the debugger has ended the session
pub record Refusing : Type 0 where
  pub read : List ℕ
  pub answers : List ℕ
  pub left : List ℕ
  pub has_ended : Bool

-- nothing was read yet
abbrev pub at_start : Refusing
at_start = record { read = []; answers = []; left = []; has_ended = false }

-- the same after more was read
abbrev pub with_read : List ℕ → Refusing → Refusing
with_read more s = record { read = s.read ++ more; answers = s.answers; left = s.left ++ more; has_ended = s.has_ended }

-- the same after the first piece of what is left was answered
abbrev pub with_answer : List ℕ → Refusing → Refusing
with_answer error s = record {
  read = s.read;
  answers = s.answers ++ refused_unit error (first_unit s.left).0;
  left = (first_unit s.left).1;
  has_ended = ends_with (first_unit s.left).0;
}

-- What is left isn't whole, and more was read.
pub record ReadsOn (old new : Refusing) : Type 0 where
  pub waits : IsPartial old.left
  pub more : List ℕ
  pub read : new ≡ with_read more old

-- Some steps were made, and then, as the session hadn't ended, one more: something was read, or a piece was answered.
pub record RefusesMore (Before : Refusing → Type 0) (error : List ℕ) (new : Refusing) : Type 0 where
  pub mid : Refusing
  pub earlier : Before mid
  pub on : mid.has_ended ≡ false
  pub step : ReadsOn mid new ⊎ (new ≡ with_answer error mid)

-- So many steps were made from the beginning.
unfoldable pub Refuses : ℕ → List ℕ → Refusing → Type 0
Refuses zero error s = s ≡ at_start
Refuses (suc n) error s = RefusesMore (Refuses n error) error s

-- All that was read was answered: to the end of the session; or of the input, and then what is left of it isn't whole; or after more steps than 64
-- bits can number.
pub record HasRefused (error : List ℕ) (before after : Streams) : Type 0 where
  pub count : ℕ
  pub end : Refusing
  pub refuses : Refuses count error end
  pub passes : Passes before after end.read end.answers
  pub waits : end.has_ended ≡ false → count < 18446744073709551615 → IsPartial end.left
  pub stops : end.has_ended ≡ false → count < 18446744073709551615 → IsAtEnd after.left

-- The same up to a fault: of what is answered to what was read, a part was written, and more may have been read.
pub record HasRefusedSome (error : List ℕ) (before after : Streams) : Type 0 where
  pub count : ℕ
  pub end : Refusing
  pub refuses : Refuses count error end
  pub more : List ℕ
  pub part : ℕ
  pub passes : Passes before after (end.read ++ more) (take part end.answers)

-- What was read was answered, or up to a fault.
abbrev pub RefusesTo : Option HostFault → List ℕ → Streams → Streams → Type 0
RefusesTo None error before after = HasRefused error before after
RefusesTo (Some fault) error before after = HasRefusedSome error before after

-- Each packet was answered with the error, up to a fault if there was one: a stream failed, or memory ran out.
pub record IsRefusedStream (error : List ℕ) (before after : Streams) : Type 0 where
  pub fault : Option HostFault
  pub refuses : RefusesTo fault error before after

-- ---- one step

-- The first piece of what is left was answered.
pub record AnswersFirst (error : List ℕ) (ends : Bool) (left rest : List ℕ) (before after : Option (List ℕ)) : Type 0 where
  pub writes : Appends before after (refused_unit error (first_unit left).0)
  pub goes_on : rest ≡ (first_unit left).1
  pub last : ends ≡ ends_with (first_unit left).0

-- The same, and nothing was read.
pub record AnswersOne (error : List ℕ) (ends : Bool) (before after : Streams) (left rest : List ℕ) : Type 0 where
  pub same : after.left ≡ before.left
  pub first : AnswersFirst error ends left rest before.written after.written

-- What is left isn't whole, and more was read.
pub record ReadsOne (before after : Streams) (left rest : List ℕ) : Type 0 where
  pub waits : IsPartial left
  pub more : List ℕ
  pub passes : Passes before after more []
  pub appends : rest ≡ left ++ more

-- What is left isn't whole, and the input has ended.
pub record EndsOne (before after : Streams) (left rest : List ℕ) : Type 0 where
  pub waits : IsPartial left
  pub passes : Passes before after [] []
  pub same : rest ≡ left
  pub end : IsAtEnd after.left

-- A step was made, and whether it goes on after it.
abbrev pub RefusesOne : List ℕ → Bool → Streams → Streams → List ℕ → List ℕ → Type 0
RefusesOne error true before after left rest = ReadsOne before after left rest ⊎ AnswersOne error false before after left rest
RefusesOne error false before after left rest = EndsOne before after left rest ⊎ AnswersOne error true before after left rest

-- A step was cut off: more may have been read, and of what is answered a part was written.
pub record IsOneCutOff (error : List ℕ) (before after : Streams) (left : List ℕ) : Type 0 where
  pub more : List ℕ
  pub part : ℕ
  pub passes : Passes before after more (take part (refused_unit error (first_unit left).0))
