-- Which files are at rest: those that are neither open nor named by a call under way.
use Rattle.std.specs.Prelude.{ℕ, Bool, true, false, not, ◌&&◌, ◌||◌, List, [], ◌∷◌, Option, is_some, bytes_eq}
use Rattle.std.specs.List.{list_any}
use Rattle.xinu_model.specs.Files.Calls.{FileCall, Open, Delete}
use Rattle.xinu_model.specs.Files.Systems.{OpenFile, is_open}
use Rattle.xinu_model.specs.Files.Work.{FileRequest, FileWork}

-- whether a call names a file
abbrev pub names_file : List ℕ → FileCall → Bool
names_file name (Open other mode) = bytes_eq other name
names_file name (Delete other) = bytes_eq other name
names_file name _ = false

-- Whether a name is at rest.
abbrev pub is_at_rest : List ℕ → FileWork → Bool
is_at_rest name w = not (is_open name w.system) && not (list_any (λ (a : FileRequest). names_file name a.call) w.calls)

-- whether there is a call under way
abbrev pub are_calls : List FileRequest → Bool
are_calls [] = false
are_calls (a ∷ calls) = true

-- Whether the file system is busy: a file is open, or a call under way.
abbrev pub is_busy : FileWork → Bool
is_busy w = list_any (λ (x : Option OpenFile). is_some x) w.system.devices || are_calls w.calls
