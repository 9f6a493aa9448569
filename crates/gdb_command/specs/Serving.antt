-- What is sent for what comes in.
use Rattle.std.specs.Prelude.{◌≡◌, ℕ, zero, suc, Bool, false, not, ◌&&◌, if◌then◌else◌, List, [], ◌++◌, codes}
use Rattle.gdb_command.specs.Deeds.{IsDone, ends_session, stops_acks}
use Rattle.gdb_command.specs.Held.{held}
use Rattle.gdb_command.specs.declared.session.Session.{Session}
use Rattle.gdb_packets.specs.Commands.{command_of}
use Rattle.gdb_packets.specs.Units.{InputUnit, Packet, Damaged, Refused, Partial, first_unit}
use Rattle.replayed_run.specs.Replayed.{IsReplayed, IsSameRun}

-- A packet is obeyed: what it asks for is done in the state of the run, to which a run of so many events leads, and it stays the same run.
-- Packets are acknowledged until one asks for no more of it, and the session goes on until one ends it.
pub record IsObeyed (old new : Session) (payload sent : List ℕ) : Type 0 where
  pub runs : IsReplayed old.run.replay
  pub same : IsSameRun old.run.replay new.run.replay
  pub done : IsDone (command_of payload) payload old.run.replay.state (held old) (held new) [] sent
  pub acks : new.has_acks ≡ (old.has_acks && not (stops_acks (command_of payload)))
  pub ends : new.has_ended ≡ ends_session (command_of payload)

-- the acknowledgement of a packet, as long as packets are acknowledged
abbrev pub acknowledgement : Bool → List ℕ
acknowledgement has_acks = if has_acks then codes "+" else []

-- A packet is acknowledged and obeyed.
pub record IsTaken (old new : Session) (payload sent : List ℕ) : Type 0 where
  pub reply : List ℕ
  pub obeyed : IsObeyed old new payload reply
  pub sends : sent ≡ acknowledgement old.has_acks ++ reply

-- What is sent for what an input begins with: a packet's answer; a complaint of a damaged packet; the last packet, if it was refused; else nothing.
abbrev pub IsServed : Session → Session → InputUnit → List ℕ → Type 0
IsServed old new (Packet payload) sent = IsTaken old new payload sent
IsServed old new Damaged sent = (new ≡ old) × (sent ≡ codes "-")
IsServed old new Refused sent = (new ≡ old) × (sent ≡ old.sent.items)
IsServed old new _ sent = (new ≡ old) × (sent ≡ [])

-- Some of an input was served, and then, as the session hadn't ended, what it goes on with.
pub record ServesMore (Before : Session → List ℕ → List ℕ → Type 0) (new : Session) (sent left : List ℕ) : Type 0 where
  pub mid : Session
  pub before : List ℕ
  pub input : List ℕ
  pub earlier : Before mid before input
  pub on : mid.has_ended ≡ false
  pub more : List ℕ
  pub served : IsServed mid new (first_unit input).0 more
  pub sends : sent ≡ before ++ more
  pub goes_on : left ≡ (first_unit input).1

-- So many pieces of an input were served, one after another: what was sent for them, and what is left of it.
unfoldable pub Serves : ℕ → Session → List ℕ → Session → List ℕ → List ℕ → Type 0
Serves zero old input new sent left = (new ≡ old) × (sent ≡ []) × (left ≡ input)
Serves (suc n) old input new sent left = ServesMore (Serves n old input) new sent left

-- An input was served up to what is left of it.
pub record HasServed (old : Session) (input : List ℕ) (new : Session) (sent left : List ℕ) : Type 0 where
  pub count : ℕ
  pub serves : Serves count old input new sent left

-- What is left isn't whole yet: at most the beginning of a packet.
pub record IsPartial (left : List ℕ) : Type 0 where
  pub partial : (first_unit left).0 ≡ Partial

-- For one piece of an input this was sent, after what had been sent before.
pub record SendsMore (old new : Session) (unit : InputUnit) (before after : List ℕ) : Type 0 where
  pub more : List ℕ
  pub served : IsServed old new unit more
  pub sends : after ≡ before ++ more

-- An input was served: to the end of the session, or all of it that is whole.
pub record ServesAll (old : Session) (input : List ℕ) (new : Session) (sent left : List ℕ) : Type 0 where
  pub served : HasServed old input new sent left
  pub waits : new.has_ended ≡ false → IsPartial left
