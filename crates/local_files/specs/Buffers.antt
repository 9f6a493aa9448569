-- The bytes of a call: some are put in, and some go into a block.
use Rattle.std.specs.Prelude.{ℕ, ◌+◌, ◌&&◌, nat_le, if◌then◌else◌, List, length, take, drop}
use Rattle.xinu_model.specs.Files.Writing.{overwritten}

-- bytes with others from a place on, if there is room for them
abbrev pub put_at : ℕ → List ℕ → List ℕ → List ℕ
put_at at part bytes = if nat_le (at + length part) 1048576 then overwritten at part bytes else bytes

-- a block with bytes of a buffer from a place on, if they are there and have room in it
abbrev pub patched : ℕ → ℕ → ℕ → List ℕ → List ℕ → List ℕ
patched at many from bytes block =
    if nat_le (at + many) 1048576 && nat_le (from + many) 512 then overwritten from (take many (drop at bytes)) block else block
