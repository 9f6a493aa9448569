-- Texts in RAM, as calls on devices name them: a text ends before its first zero byte, which is one of 128.
use Rattle.std.specs.Prelude.{ℕ, zero, suc, List, [], ◌∷◌, take, drop, Option, Some, None, option_map}

-- the bytes before the first zero byte, if there is one
abbrev pub text_in : List ℕ → Option (List ℕ)
text_in [] = None
text_in (zero ∷ bytes) = Some []
text_in (suc b ∷ bytes) = option_map (λ text. suc b ∷ text) (text_in bytes)

-- The text at an address: none if no zero byte is among the 128 bytes there that are in RAM.
abbrev pub text_at : ℕ → List ℕ → Option (List ℕ)
text_at a memory = text_in (take 128 (drop a memory))
