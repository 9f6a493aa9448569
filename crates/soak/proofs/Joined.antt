-- The lines of a text that is followed by another one.
use Rattle.std.proofs.Common.{◌≡◌, ◌∙◌, ℕ, ◌+◌, ◌<◌, ◌==◌, Bool, true, false, cond, List, [], ◌∷◌, ◌++◌, length, map, refl, sym, ap, arith, append_assoc, append-nil}
use Rattle.std.specs.List.{onto_first, slice_split, sum_by}
use Rattle.std.proofs.lemmas.List.Splits.{length-slice_split, slice_split-cons_no, slice_split-cons_yes}
use Rattle.std.proofs.lemmas.List.Sums.{sum_by-append}
use Rattle.text_lines.specs.Lines.{lines_of, tokens_of, whole_lines, without_return}
use Rattle.workload.specs.Summaries.{begin_with, lines_with}
use Rattle.xinu_base.specs.declared.lines.TranscriptLine.{TranscriptLine}
use Rattle.xinu_model.specs.Text.{line_fields, text, with_fields}
use Rattle.text_lines.proofs.LineLemmas.{whole_lines-cons}
use Rattle.workload.proofs.Counted.{lines_with-none}

abbrev is_feed : ℕ → Bool
is_feed b = b == 10

-- ---- a text that ends with a line feed

onto_append : (b : ℕ) (u v : List (List ℕ)) → 0 < length u → onto_first b (u ++ v) ≡ onto_first b u ++ v
onto_append b [] v some = absurd (omega arith)
onto_append b (w ∷ u) v some = refl

split_one : (t : Bool) (x : ℕ) (a b : List ℕ) → is_feed x ≡ t → slice_split is_feed (a ++ 10 ∷ b) ≡ slice_split is_feed a ++ slice_split is_feed b
    → slice_split is_feed (x ∷ a ++ 10 ∷ b) ≡ slice_split is_feed (x ∷ a) ++ slice_split is_feed b
split_one true x a b is rest =
    slice_split-cons_yes is_feed x (a ++ 10 ∷ b) is
    ∙ ap (λ (ls : List (List ℕ)). [] ∷ ls) rest
    ∙ sym (ap (λ (ls : List (List ℕ)). ls ++ slice_split is_feed b) (slice_split-cons_yes is_feed x a is))
split_one false x a b is rest =
    slice_split-cons_no is_feed x (a ++ 10 ∷ b) is
    ∙ ap (onto_first x) rest
    ∙ onto_append x (slice_split is_feed a) (slice_split is_feed b) (omega (arith, length-slice_split is_feed a))
    ∙ sym (ap (λ (ls : List (List ℕ)). ls ++ slice_split is_feed b) (slice_split-cons_no is_feed x a is))

split_joined : (a b : List ℕ) → slice_split is_feed (a ++ 10 ∷ b) ≡ slice_split is_feed a ++ slice_split is_feed b
split_joined [] b = slice_split-cons_yes is_feed 10 b refl
split_joined (x ∷ a) b = split_one (is_feed x) x a b refl (split_joined a b)

whole_joined : (u v : List (List ℕ)) → 0 < length v → whole_lines (u ++ v) ≡ map without_return u ++ whole_lines v
whole_joined [] v some = refl
whole_joined (line ∷ u) v some =
    whole_lines-cons line (u ++ v) (longer u v some) ∙ ap (λ (ls : List (List ℕ)). without_return line ∷ ls) (whole_joined u v some)
  where
    longer : (u v : List (List ℕ)) → 0 < length v → 0 < length (u ++ v)
    longer [] v some = some
    longer (w ∷ u) v some = omega arith

-- its lines, and then those of the text after it
pub lines_joined : (a b : List ℕ) → lines_of (a ++ 10 ∷ b) ≡ lines_of (a ++ 10 ∷ []) ++ lines_of b
lines_joined a b =
    let first = map without_return (slice_split is_feed a) in
    let alone : lines_of (a ++ 10 ∷ []) ≡ first =
    ap whole_lines (split_joined a []) ∙ whole_joined (slice_split is_feed a) ([] ∷ []) (omega arith) ∙ append-nil first in
    ap whole_lines (split_joined a b)
    ∙ whole_joined (slice_split is_feed a) (slice_split is_feed b) (omega (arith, length-slice_split is_feed b))
    ∙ sym (ap (λ (ls : List (List ℕ)). ls ++ lines_of b) alone)

-- ---- what is counted of them

with_joined : (word a b : List ℕ) → lines_with word (a ++ 10 ∷ b) ≡ lines_with word (a ++ 10 ∷ []) + lines_with word b
unfolding lines_with
with_joined word a b =
    let f : List ℕ → ℕ = λ line. cond (begin_with word (tokens_of line)) 1 0 in
    ap (sum_by f) (lines_joined a b) ∙ sum_by-append f (lines_of (a ++ 10 ∷ [])) (lines_of b)

-- lines with a word in the text of lines with others after them
pub with_appended : (word : List ℕ) (first second : List TranscriptLine)
    → lines_with word (text (first ++ second)) ≡ lines_with word (text first) + lines_with word (text second)
with_appended word [] second = let none = lines_with-none word in omega (arith, none)
with_appended word (line ∷ first) second =
    let fields = with_fields [] (line_fields line) in
    let both = ap (lines_with word) (append_assoc fields (10 ∷ []) (text (first ++ second))) ∙ with_joined word fields (text (first ++ second)) in
    let one = ap (lines_with word) (append_assoc fields (10 ∷ []) (text first)) ∙ with_joined word fields (text first) in
    let rest = with_appended word first second in
    both ∙ omega (arith, one, rest)
