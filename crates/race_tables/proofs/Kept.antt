-- The lines with a word, one line after another.
use Rattle.std.proofs.Common.{◌≡◌, ◌∙◌, ◌&&◌, ℕ, true, false, not, List, [], ◌∷◌, ◌++◌, refl, ap}
use Rattle.std.specs.List.{filter, flat_map}
use Rattle.text_lines.specs.Lines.{lines_of, tokens_of}
use Rattle.race_tables.specs.Outcomes.{begin_with, fed, is_null_line, kept}

pub kept-none : (word : List ℕ) → kept word [] ≡ []
unfolding kept
kept-none word = refl

-- a line that is kept and then more
pub kept-line : (word line text rest : List ℕ) → lines_of text ≡ line ∷ lines_of rest → begin_with word (tokens_of line) && not (is_null_line (tokens_of line)) ≡ true
    → kept word text ≡ fed line ++ kept word rest
unfolding kept
kept-line word line text rest is begins =
    ap (λ (lines : List (List ℕ)). flat_map fed (filter (λ (l : List ℕ). begin_with word (tokens_of l) && not (is_null_line (tokens_of l))) lines)) is ∙ rw begins refl

-- another line and then more
pub kept-other : (word line text rest : List ℕ) → lines_of text ≡ line ∷ lines_of rest → begin_with word (tokens_of line) && not (is_null_line (tokens_of line)) ≡ false
    → kept word text ≡ kept word rest
unfolding kept
kept-other word line text rest is begins =
    ap (λ (lines : List (List ℕ)). flat_map fed (filter (λ (l : List ℕ). begin_with word (tokens_of l) && not (is_null_line (tokens_of l))) lines)) is ∙ rw begins refl
