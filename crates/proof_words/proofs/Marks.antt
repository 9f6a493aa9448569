-- A text with a mark in it.
use Rattle.std.proofs.Common.{◌≡◌, ◌==◌, ◌<◌, ℕ, List, Option, Some, None, option_map, length, nat_lt, true, false, refl, arith}
use Rattle.std.proofs.lemmas.Bool.Decides.{nat_tests}
use Rattle.std.proofs.lemmas.Str.Pattern.{IsSplitOnceResult, split_once_first}
use Rattle.std.specs.List.{position_or_len}
use Rattle.proof_words.specs.Rules.{parts_at}
use denote.Ref.{Bor}

-- `split_once` gives the parts of the definition
pub parts_are : (mark : ℕ) (text : List ℕ) (r : Option (Bor (List ℕ) × Bor (List ℕ))) → mark < 128 → IsSplitOnceResult mark text r
    → option_map (λ p. (p.0.now, p.1.now)) r ≡ parts_at mark text
parts_are mark text None low split =
    let at : position_or_len (λ b. b == mark) text ≡ length text = split_once_first mark text None split low in
    let past : nat_lt (position_or_len (λ b. b == mark) text) (length text) ≡ false = grind (arith, nat_tests) in
    rw past refl
parts_are mark text (Some x) low split =
    let parts = split_once_first mark text (Some x) split low in
    let before : position_or_len (λ b. b == mark) text < length text = parts.0 in
    let within : nat_lt (position_or_len (λ b. b == mark) text) (length text) ≡ true = grind (arith, nat_tests) in
    rw within (rw (← parts.1, ← parts.2) refl)
