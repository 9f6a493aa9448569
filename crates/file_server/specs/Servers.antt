-- What the server's memory stands for.
use Rattle.std.specs.Prelude.{ℕ, ◌≡◌, ◌≤◌, ◌+◌, List, [], ◌∷◌, map, Option, Some, None}
use Rattle.file_server.specs.DiskStates.{HeldCall, DiskState, bytes_held}
use Rattle.file_server.specs.Requests.{request_of, AreRequests}
use Rattle.file_server.specs.ServerStates.{ServerState}
use Rattle.file_server.specs.declared.requests.FileRequest as declared_request
use Rattle.file_server.specs.declared.server.FileServer.TheInside.{Inside}
use Rattle.xinu_model.specs.Files.Systems.{FileSystem}
use Rattle.xinu_model.specs.Files.Work.{FileRequest, FileWork, most_turns}

-- the calls under way over a disk; the first has had so many good completions
abbrev pub work_of : DiskState → List declared_request.FileRequest → ℕ → FileWork
work_of d requests turns = record { system = d.system; calls = map request_of requests; turns = turns; bytes = bytes_held d.hand }

-- what is seen of the server
abbrev pub server_state : Inside → ServerState
server_state s = record { work = work_of s.disk s.requests.items s.turns; image = s.disk.image }

-- The first call waits for a block: it has a completion left, and with the turns that it has had at most as many as the bound.
pub record IsUnderWay (a : FileRequest) (h : HeldCall) (turns : ℕ) (s : FileSystem) : Type 0 where
  pub call : a.call ≡ h.call
  pub some : 1 ≤ h.left
  pub bound : turns + h.left ≤ most_turns a.call s

-- the first of the calls is under way; if there is none, no call waits for a block
abbrev pub FirstIsHeld : Option HeldCall → List FileRequest → ℕ → FileSystem → Type 0
FirstIsHeld None [] turns s = turns ≡ 0
FirstIsHeld None (a ∷ calls) turns s = ⊥
FirstIsHeld (Some h) [] turns s = ⊥
FirstIsHeld (Some h) (a ∷ calls) turns s = IsUnderWay a h turns s

-- The first call is under way, and each can be carried out.
pub record IsServer (s : Inside) : Type 0 where
  pub first : FirstIsHeld s.disk.hand (map request_of s.requests.items) s.turns s.disk.system
  pub calls : AreRequests s.requests.items
