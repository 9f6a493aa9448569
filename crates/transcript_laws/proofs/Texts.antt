-- Texts that begin with the text of some lines.
use Rattle.std.proofs.Common.{◌≡◌, ◌==◌, ℕ, true, false, if◌then◌else◌, List, [], ◌∷◌, ◌++◌, length, drop, refl, sym, ap, ◌∙◌, append_assoc, arith}
use Rattle.std.proofs.lemmas.Bool.{cond_both, eqb-true}
use Rattle.std.proofs.lemmas.Bool.Decides.{nat_tests}
use Rattle.xinu_base.specs.declared.lines.TranscriptLine.{TranscriptLine}
use Rattle.xinu_model.specs.Text.{line_text, text}
use Rattle.transcript_laws.specs.Reading.{starts_with}

-- the text of lines is that of the first ones and then that of the others
pub text_append : (lines more : List TranscriptLine) → text (lines ++ more) ≡ text lines ++ text more
text_append [] more = refl
text_append (l ∷ lines) more = ap (λ t. line_text l ++ t) (text_append lines more)
    ∙ sym (append_assoc (line_text l) (text lines) (text more))

-- a number is itself, as it is tested
pub same_number : (b : ℕ) → (b == b) ≡ true
same_number b = grind (arith, nat_tests)

-- a text begins with its front
pub starts : (bytes rest : List ℕ) → starts_with bytes (bytes ++ rest) ≡ true
starts [] rest = refl
starts (b ∷ bytes) rest = ap (λ y. if y then starts_with bytes (bytes ++ rest) else false) (same_number b) ∙ starts bytes rest

-- what is left of it is what follows the front
pub rest_of : (bytes rest : List ℕ) → drop (length bytes) (bytes ++ rest) ≡ rest
rest_of [] rest = refl
rest_of (b ∷ bytes) rest = rest_of bytes rest

-- a text that begins with some bytes is these and what is left after them
pub begun : (bytes rest : List ℕ) → starts_with bytes rest ≡ true → rest ≡ bytes ++ drop (length bytes) rest
begun [] rest e = refl
begun (b ∷ bytes) [] e = absurd (cc)
begun (b ∷ bytes) (c ∷ rest) e =
    cond_both (b == c) (starts_with bytes rest) false (λ y. y ≡ true → c ∷ rest ≡ b ∷ (bytes ++ drop (length bytes) rest))
    (λ same y. ap (λ z. z ∷ rest) (sym (eqb-true b c same)) ∙ ap (λ l. b ∷ l) (begun bytes rest y)) (λ _ y. absurd (cc)) e

-- texts with one front have one rest
pub same_rest : (bytes more rest : List ℕ) → bytes ++ more ≡ bytes ++ rest → more ≡ rest
same_rest bytes more rest e = sym (rest_of bytes more) ∙ ap (λ l. drop (length bytes) l) e ∙ rest_of bytes rest
