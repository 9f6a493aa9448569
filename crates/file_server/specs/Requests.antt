-- What the requests and notes of the crate stand for.
use Rattle.std.specs.Prelude.{ℕ, List, [], ◌∷◌, ◌++◌}
use Rattle.std.specs.List.{AllByRecursion}
use Rattle.file_server.specs.declared.requests.FileNote as declared_note
use Rattle.file_server.specs.declared.requests.FileRequest as declared_request
use Rattle.lfs_layout.specs.Files.{bare_name}
use Rattle.local_files.specs.Hands.{IsCall}
use Rattle.local_files.specs.declared.FileCall.{FileCall}
use Rattle.local_files.specs.declared.FileCall.TheVariants.{Open, Delete, Close, Read, Write, Getc, Putc, Seek, Truncate, Size}
use Rattle.xinu_model.specs.Files.Calls as model
use Rattle.xinu_model.specs.Files.Sound.{InRam}
use Rattle.xinu_model.specs.Files.Work.{FileRequest, FileNote, orphaned_call}
use Rattle.xinu_model.specs.RawDisk.Callers.{given_up, others}

-- a call of the abstract machine, with how many bytes it writes
abbrev pub call_with : FileCall → ℕ → model.FileCall
call_with (Open name mode) count = model.Open (bare_name name) mode
call_with (Delete name) count = model.Delete (bare_name name)
call_with (Close d) count = model.Close d
call_with (Read d n) count = model.Read d n
call_with (Write d) count = model.Write d count
call_with (Getc d) count = model.Getc d
call_with (Putc d b) count = model.Putc d b
call_with (Seek d n) count = model.Seek d n
call_with (Truncate d) count = model.Truncate d
call_with (Size d) count = model.Size d

-- a request
abbrev pub request_of : declared_request.FileRequest → FileRequest
request_of r = record { caller = r.caller; call = call_with r.call r.count; at = r.at }

-- a note
abbrev pub note_of : declared_note.FileNote → FileNote
note_of n = record { caller = n.caller; moment = n.moment; reply = n.reply }

-- A request is for a call that can be, and its bytes are in RAM.
pub record IsRequest (r : declared_request.FileRequest) : Type 0 where
  pub call : IsCall r.call
  pub range : InRam (call_with r.call r.count) r.at

-- each request is so
abbrev pub AreRequests : List declared_request.FileRequest → Type 0
AreRequests requests = AllByRecursion IsRequest requests

-- the calls that stay, if p was killed, of these after those that are kept
abbrev pub kept_after : ℕ → List FileRequest → List FileRequest → List FileRequest
kept_after p [] rest = given_up (λ (a : FileRequest). a.caller) orphaned_call p rest
kept_after p (k ∷ kept) rest = (k ∷ kept) ++ others (λ (a : FileRequest). a.caller) p rest
