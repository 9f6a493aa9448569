-- What a call on files leaves, by what the code answers.
use Rattle.reference_files.specs.declared.systems.FileAnswer.{FileAnswer}
use Rattle.xinu_model.specs.Files.Systems.{FileEffect, FileSystem}

-- the effect of a call: the file system that it left, its reply and its bytes
abbrev pub left : FileSystem → FileAnswer → FileEffect
left s x = record { system = s; reply = x.reply; bytes = x.bytes.items }
