-- Calls on files one after another.
use Rattle.std.specs.Prelude.{ℕ, List, [], ◌∷◌, ℤ}
use Rattle.xinu_model.specs.Files.Calls.{FileCall, file_effect}
use Rattle.xinu_model.specs.Files.Systems.{FileSystem}

-- a call with the bytes that it writes, if it does
pub record FileTask : Type 0 where
  pub call : FileCall
  pub bytes : List ℕ

-- the replies to calls, and the file system after them
abbrev pub replies_to : List FileTask → FileSystem → List ℤ
replies_to [] s = []
replies_to (t ∷ tasks) s = let e = file_effect t.call t.bytes s in e.reply ∷ replies_to tasks e.system

abbrev pub after_tasks : List FileTask → FileSystem → FileSystem
after_tasks [] s = s
after_tasks (t ∷ tasks) s = after_tasks tasks (file_effect t.call t.bytes s).system
