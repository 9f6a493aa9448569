-- Lists of lines that are printed one after another.
use Rattle.std.specs.Prelude.{◌≡◌, ℕ, Bool, true, false, List, [], ◌∷◌, ◌++◌, refl}
use Rattle.std.proofs.Common.{sym, ap, ◌∙◌, subst, append_assoc}
use Rattle.host_port.proofs.Prints.{prints_both, prints_nothing}
use Rattle.host_port.specs.Outside.{Outside}
use Rattle.host_port.specs.Printing.{Printing, Prints}
use Rattle.xinu_base.specs.declared.lines.TranscriptLine.{TranscriptLine}
use Rattle.xinu_model.specs.Text.{line_text, sent_byte, sent_bytes, shown, text}

-- the text of lines, and of lines after them
pub text-append : (first second : List TranscriptLine) → text (first ++ second) ≡ text first ++ text second
text-append [] second = refl
text-append (line ∷ first) second =
    ap (λ t. line_text line ++ t) (text-append first second) ∙ sym (append_assoc (line_text line) (text first) (text second))

-- the bytes that the console sent in lines, and in lines after them
pub sent-append : (first second : List TranscriptLine) → sent_bytes (first ++ second) ≡ sent_bytes first ++ sent_bytes second
sent-append [] second = refl
sent-append (line ∷ first) second =
    ap (λ t. sent_byte line ++ t) (sent-append first second) ∙ sym (append_assoc (sent_byte line) (sent_bytes first) (sent_bytes second))

-- what is shown of lines, and of lines after them
pub shown-append : (plain : Bool) (first second : List TranscriptLine) → shown plain (first ++ second) ≡ shown plain first ++ shown plain second
shown-append true first second = sent-append first second
shown-append false first second = text-append first second

-- Lines that were printed, and lines that were printed after them, were printed as one list.
pub shown_both : (a b c : Printing) (h i j : Outside) (first second : List TranscriptLine) → Prints a b h i (shown a.plain first) → Prints b c i j (shown b.plain second) → Prints a c h j (shown a.plain (first ++ second))
shown_both a b c h i j first second before after =
    let same : shown b.plain second ≡ shown a.plain second = ap (λ p. shown p second) before.mode in
    let P : List ℕ → Type 0 = λ t. Prints b c i j t in
    let both = prints_both a b c h i j (shown a.plain first) (shown a.plain second) before (subst P same after) in
    let Q : List ℕ → Type 0 = λ t. Prints a c h j t in
    subst Q (sym (shown-append a.plain first second)) both

-- No line was printed.
pub shown_nothing : (a : Printing) (h : Outside) → Prints a a h h (shown a.plain [])
shown_nothing a h =
    let P : List ℕ → Type 0 = λ t. Prints a a h h t in
    subst P (sym (shown_none a.plain)) (prints_nothing a h)
  where
    shown_none : (plain : Bool) → shown plain [] ≡ []
    shown_none true = refl
    shown_none false = refl
