-- What always holds of the files, the open devices, and the calls under way.
use Rattle.std.specs.Prelude.{◌≡◌, ℕ, ◌+◌, ◌<◌, ◌≤◌, true, List, [], ◌∷◌, length, Option, Some, None}
use Rattle.std.specs.List.{AllByRecursion}
use Rattle.xinu_model.specs.Files.Calls.{FileCall, Open, Delete, Read, Write}
use Rattle.xinu_model.specs.Files.Constants.{LF_NUM_DIR_ENT, Nlfl}
use Rattle.xinu_model.specs.Files.Room.{they_fit}
use Rattle.xinu_model.specs.Files.Stored.{StoredFile, is_file_name, precedes, file_names, file_named}
use Rattle.xinu_model.specs.Files.Systems.{OpenFile, FileSystem, open_at, has_open}
use Rattle.xinu_model.specs.Files.Work.{FileRequest, FileWork, most_turns}
use Rattle.xinu_model.specs.Memory.{ram_size}
use Rattle.xinu_model.specs.RawDisk.Callers.{HaveCallers}
use Rattle.xinu_model.specs.Sound.Tables.{times, IsInOrder}

-- an open file is one that there is, at a position up to its end
abbrev pub IsOpened : Option StoredFile → OpenFile → Type 0
IsOpened None f = ⊥
IsOpened (Some file) f = f.position ≤ length file.bytes

abbrev pub IsDevice : List StoredFile → Option OpenFile → Type 0
IsDevice files None = Unit {0}
IsDevice files (Some f) = IsOpened (file_named f.name files) f

-- The names are names and in order, so no two are equal; there aren't too many files, and they fit on the disk. Each of the six devices has
-- nothing open, or a file that there is, and no two have the same file.
pub record IsSoundFiles (s : FileSystem) : Type 0 where
  pub names : AllByRecursion (λ name. is_file_name name ≡ true) (file_names s.files)
  pub order : IsInOrder (λ name other. precedes name other ≡ true) (file_names s.files)
  pub few : length s.files ≤ LF_NUM_DIR_ENT
  pub fit : they_fit s.blocks s.files ≡ true
  pub six : length s.devices ≡ Nlfl
  pub device : (d : ℕ) → IsDevice s.files (open_at s d)
  pub once : (name : List ℕ) → times (has_open name) s.devices ≤ 1

-- a call that opens or deletes a file has a name that can be one
abbrev pub IsFileCall : FileCall → Type 0
IsFileCall (Open name mode) = is_file_name name ≡ true
IsFileCall (Delete name) = is_file_name name ≡ true
IsFileCall _ = Unit {0}

-- a call's bytes are in RAM
abbrev pub InRam : FileCall → ℕ → Type 0
InRam (Read d n) at = at + n ≤ ram_size
InRam (Write d n) at = at + n ≤ ram_size
InRam _ at = Unit {0}

-- A call under way has a name that can be one, and its bytes are in RAM.
pub record IsFileRequest (a : FileRequest) : Type 0 where
  pub call : IsFileCall a.call
  pub range : InRam a.call a.at

-- what is kept of the first call: it has a turn left, and there are as many bytes as it writes
abbrev pub HasBytes : FileCall → List ℕ → Type 0
HasBytes (Write d n) bytes = length bytes ≡ n
HasBytes _ bytes = bytes ≡ []

abbrev pub IsFirst : List FileRequest → FileWork → Type 0
IsFirst [] w = (w.turns ≡ 0) × (w.bytes ≡ [])
IsFirst (a ∷ calls) w = (w.turns < most_turns a.call w.system) × HasBytes a.call w.bytes

-- The files are sound, each call can be carried out, and only the first may have no caller.
pub record IsSoundWork (w : FileWork) : Type 0 where
  pub system : IsSoundFiles w.system
  pub calls : AllByRecursion IsFileRequest w.calls
  pub callers : HaveCallers (λ (a : FileRequest). a.caller) w.calls
  pub first : IsFirst w.calls w
