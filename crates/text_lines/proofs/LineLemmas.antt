-- The lines of a text, from its first line feed.
use Rattle.std.proofs.Common.{◌≡◌, ◌≢◌, ℕ, ◌+◌, ◌<◌, ◌≤◌, ◌==◌, Bool, false, List, [], ◌∷◌, ◌++◌, length, take, drop, Some, None, refl, ap}
use Rattle.std.proofs.Common.{◌∙◌, arith}
use Rattle.std.specs.List.{All, position, position_or_len, slice_split}
use Rattle.std.proofs.lemmas.List.Splits.{slice_split_first, slice_split_none, length-slice_split}
use Rattle.std.proofs.lemmas.List.Elements.{All-from_get_or}
use Rattle.std.proofs.lemmas.List.Sums.{fails_before_first}
use Rattle.std.proofs.lemmas.Bool.Decides.{nat_tests}
use Rattle.text_lines.proofs.SearchLemmas.{found_at, found_within, found_none}
use Rattle.text_lines.specs.Lines.{whole_lines, lines_of, without_return}

-- a carriage return at the end of a line is left out
pub without_return-drops : (line front : List ℕ) (last : ℕ) → line ≡ front ++ last ∷ [] → last ≡ 13 → without_return line ≡ front
without_return-drops line [] last is return = rw (is, return) refl
without_return-drops line (b ∷ []) last is return = rw (is, return) refl
without_return-drops line (b ∷ c ∷ front) last is return =
    rw is (ap (λ (x : List ℕ). b ∷ x) (without_return-drops (c ∷ front ++ last ∷ []) (c ∷ front) last refl return))

-- one byte that isn't a carriage return
keeps_one : (b : ℕ) → b ≢ 13 → without_return (b ∷ []) ≡ b ∷ []
keeps_one b other = grind (arith, nat_tests)

-- a line that ends otherwise stays
pub without_return-keeps : (line front : List ℕ) (last : ℕ) → line ≡ front ++ last ∷ [] → last ≢ 13 → without_return line ≡ line
without_return-keeps line [] last is other = rw is (keeps_one last other)
without_return-keeps line (b ∷ []) last is other = rw is (ap (λ (x : List ℕ). b ∷ x) (keeps_one last other))
without_return-keeps line (b ∷ c ∷ front) last is other =
    rw is (ap (λ (x : List ℕ). b ∷ x) (without_return-keeps (c ∷ front ++ last ∷ []) (c ∷ front) last refl other))

-- a line with others after it
pub whole_lines-cons : (line : List ℕ) (lines : List (List ℕ)) → 0 < length lines
    → whole_lines (line ∷ lines) ≡ without_return line ∷ whole_lines lines
whole_lines-cons [] [] some = absurd (omega arith)
whole_lines-cons [] (next ∷ lines) some = refl
whole_lines-cons (b ∷ line) [] some = absurd (omega arith)
whole_lines-cons (b ∷ line) (next ∷ lines) some = refl

-- a line with none after it
whole_lines-last : (line : List ℕ) → 0 < length line → whole_lines (line ∷ []) ≡ line ∷ []
whole_lines-last [] some = absurd (omega arith)
whole_lines-last (b ∷ line) some = refl

-- whether a byte is a line feed
abbrev is_feed : ℕ → Bool
is_feed b = b == 10

-- the first line goes to the first line feed
pub lines_of-feed : (text : List ℕ) (i : ℕ) → position (λ b. b == 10) text ≡ Some i
    → lines_of text ≡ without_return (take i text) ∷ lines_of (drop (i + 1) text)
lines_of-feed text i is =
    let within : position_or_len is_feed text < length text = found_within (position_or_len is_feed text) (length text) i is in
    let at : position_or_len is_feed text ≡ i = found_at (position_or_len is_feed text) (length text) i is in
    let some : 0 < length (slice_split is_feed (drop (position_or_len is_feed text + 1) text)) =
    omega (arith, length-slice_split is_feed (drop (position_or_len is_feed text + 1) text)) in
    ap whole_lines (slice_split_first is_feed text 0 within)
    ∙ whole_lines-cons (take (position_or_len is_feed text) text) (slice_split is_feed (drop (position_or_len is_feed text + 1) text)) some
    ∙ ap (λ (k : ℕ). without_return (take k text) ∷ lines_of (drop (k + 1) text)) at

-- a text with no line feed is its last line
pub lines_of-last : (text : List ℕ) → 0 < length text → position (λ b. b == 10) text ≡ None → lines_of text ≡ text ∷ []
lines_of-last text some is =
    let none : length text ≤ position_or_len is_feed text = found_none (position_or_len is_feed text) (length text) is in
    let fails : All (λ (b : ℕ). is_feed b ≡ false) text =
    All-from_get_or (λ (b : ℕ). is_feed b ≡ false) text 0 (λ k within. fails_before_first is_feed text k 0 (omega arith)) in
    ap whole_lines (slice_split_none is_feed text fails) ∙ whole_lines-last text some
