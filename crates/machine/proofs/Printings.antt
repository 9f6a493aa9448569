-- One line, by its text or by the byte of the console that it tells.
use Rattle.std.proofs.Common.{◌≡◌, ◌≢◌, ℕ, Bool, true, false, [], ◌∷◌, ◌++◌, refl, sym, ap, append-nil, if◌then◌else◌}
use Rattle.host_port.specs.LineText.{con_text}
use Rattle.xinu_base.specs.declared.lines.TranscriptLine.{TranscriptLine}
use Rattle.xinu_base.specs.declared.lines.TranscriptLine.TheVariants as line
use Rattle.xinu_model.specs.Text.{line_text, sent_byte, shown}

-- any other line than `con` tells of no byte
pub no_byte : (l : TranscriptLine) → ((b : ℕ) → l ≢ line.Con b) → sent_byte l ≡ []
no_byte (line.Con b) n = absurd (n b refl)
no_byte _ n = refl

-- what is shown of such a line
pub shown_line : (plain : Bool) (l : TranscriptLine) → ((b : ℕ) → l ≢ line.Con b) → (if plain then [] else line_text l) ≡ shown plain (l ∷ [])
shown_line true l n = sym (ap (λ bytes. bytes ++ []) (no_byte l n))
shown_line false l n = sym (append-nil (line_text l))

-- and of a byte that the console sent
pub shown_byte : (plain : Bool) (b : ℕ) → (if plain then b ∷ [] else con_text b) ≡ shown plain (line.Con b ∷ [])
shown_byte true b = refl
shown_byte false b = refl
