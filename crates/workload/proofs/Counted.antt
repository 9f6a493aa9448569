-- The lines with a word, one line after another.
use Rattle.std.proofs.Common.{◌≡◌, ◌∙◌, ℕ, ◌+◌, Bool, cond, List, [], ◌∷◌, refl, ap}
use Rattle.std.specs.List.{sum_by}
use Rattle.std.proofs.lemmas.List.Sums.{sum_by-cons}
use Rattle.text_lines.specs.Lines.{lines_of, tokens_of}
use Rattle.workload.specs.Summaries.{begin_with, lines_with}

pub lines_with-none : (word : List ℕ) → lines_with word [] ≡ 0
unfolding lines_with
lines_with-none word = refl

-- a line and then more
pub lines_with-more : (word line text rest : List ℕ) (begins : Bool) → lines_of text ≡ line ∷ lines_of rest → begin_with word (tokens_of line) ≡ begins
    → lines_with word text ≡ cond begins 1 0 + lines_with word rest
unfolding lines_with
lines_with-more word line text rest begins is test =
    let f : List ℕ → ℕ = λ l. cond (begin_with word (tokens_of l)) 1 0 in
    ap (sum_by f) is ∙ sum_by-cons f line (lines_of rest) ∙ ap (λ (b : Bool). cond b 1 0 + sum_by f (lines_of rest)) test
