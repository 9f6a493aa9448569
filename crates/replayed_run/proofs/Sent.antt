-- The bytes that a new printer sent to a new host are those of the lines.
use Rattle.std.proofs.Common.{◌≡◌, ℕ, false, List, Option, Some, None, subst}
use Rattle.std.specs.Prelude.{IfSome}
use Rattle.host_port.specs.Outside.{Outside}
use Rattle.host_port.specs.Printing.{Printing, Prints}
use Rattle.host_port.specs.QuietHost.{quiet_empty}
use Rattle.xinu_base.specs.declared.lines.TranscriptLine.{TranscriptLine}
use Rattle.xinu_model.specs.Text.{shown, text}

-- a printer of whole transcripts that sent nothing yet
abbrev pub fresh : Printing
fresh = record { plain = false; failure = None }

-- the text of lines that were printed
pub text-printed : (a b : Printing) (h i : Outside) (lines : List TranscriptLine) → a ≡ fresh → h ≡ quiet_empty
    → Prints a b h i (shown a.plain lines) → Prints fresh b quiet_empty i (text lines)
text-printed a b h i lines is empty prints =
    let P : Printing → Type 0 = λ x. Prints x b h i (shown x.plain lines) in
    let Q : Outside → Type 0 = λ x. Prints fresh b x i (text lines) in
    subst Q empty (subst P is prints)

-- what was sent is the text of the lines, unless memory ran out
pub bytes-sent : (result : Option (List ℕ)) (a b : Printing) (h i : Outside) (lines : List TranscriptLine) → a ≡ fresh → h ≡ quiet_empty
    → Prints a b h i (shown a.plain lines) → IfSome result (λ printed. (bytes : List ℕ) → Prints fresh b quiet_empty i bytes → printed ≡ bytes)
    → IfSome result (λ printed. printed ≡ text lines)
bytes-sent None a b h i lines is empty prints says = tt
bytes-sent (Some v) a b h i lines is empty prints says = says (text lines) (text-printed a b h i lines is empty prints)
