-- Texts as modes of files.
use Rattle.std.proofs.Common.{ℕ, Bool, ◌&&◌, List}
use Rattle.std.specs.List.{list_all}
use Rattle.xinu_model.specs.Files.Modes.{are_apart, is_mode_letter}

-- whether each byte is a letter and none comes twice
abbrev pub are_letters : List ℕ → Bool
are_letters text = list_all is_mode_letter text && are_apart text
