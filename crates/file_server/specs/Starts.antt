-- The calls after the one that took effect: each becomes the first, and takes effect at once or waits.
use Rattle.std.specs.Prelude.{ℕ, ◌≡◌, ◌+◌, List, length, map}
use Rattle.file_server.specs.DiskStates.{DiskState}
use Rattle.file_server.specs.Requests.{request_of, note_of}
use Rattle.file_server.specs.Servers.{work_of, FirstIsHeld}
use Rattle.file_server.specs.declared.requests.FileNote as declared_note
use Rattle.file_server.specs.declared.requests.FileRequest as declared_request
use Rattle.xinu_base.specs.declared.lines.FileMoment.{FileMoment}
use Rattle.xinu_model.specs.Files.Work.{FileStep, with_first, first_effect, next_effects}

-- no call has begun: the first of these becomes the first, over this disk and RAM
abbrev pub about_to : DiskState → List declared_request.FileRequest → List ℕ → List declared_note.FileNote → FileStep
about_to d requests memory notes =
    record { work = with_first (map request_of requests) memory d.system; memory = memory; notes = map note_of notes }

-- the first call took effect as it was begun
pub record TookEffect (moment : FileMoment) (before after : FileStep) : Type 0 where
  pub effect : first_effect before.work.calls moment before ≡ after

-- The first of the calls waits, or there is none: the state is that of the abstract machine in which it became the first.
pub record HasBegun (d new : DiskState) (requests : List declared_request.FileRequest) (memory : List ℕ) : Type 0 where
  pub work : work_of new requests 0 ≡ with_first (map request_of requests) memory d.system
  pub first : FirstIsHeld new.hand (map request_of requests) 0 new.system

-- So many of the calls took effect one after another, and the others are left, with RAM and the notes after it.
pub record WentOn (before after : FileStep) : Type 0 where
  pub effects : ℕ
  pub left : effects + length after.work.calls ≡ length before.work.calls
  pub happens : next_effects effects before ≡ after
