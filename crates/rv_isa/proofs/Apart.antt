-- No word has the bits of two rows: a test of two rows says so of every word, and holds of each pair of the table.
use Rattle.std.proofs.Common.{◌≡◌, ℕ, ◌<◌, Bool, true, false, not, ◌&&◌, eqb, zero, suc, List, [], ◌∷◌, length, get_or, sym, ap, ◌∙◌, refl, arith}
use Rattle.std.specs.Prelude.{bit_and}
use Rattle.std.specs.List.{AllPairs}
use Rattle.std.proofs.lemmas.Nat.{and_assoc, and_comm}
use Rattle.std.proofs.lemmas.Bool.{and_parts, eqb-true, not-true, eq-eqb, true≢false}
use Rattle.xinu_model.specs.Isa.Instructions.{Row, rows}
use Rattle.rv_isa.specs.Table.{NoWordHasBoth}

-- whether two rows ask different values of a bit that both fix
abbrev pub differ : Row → Row → Bool
differ r s = not (eqb (bit_and r.bits s.mask) (bit_and s.bits r.mask))

-- what two rows with a word in common agree on
agree : (w m k b c : ℕ) → bit_and w m ≡ b → bit_and w k ≡ c → bit_and b k ≡ bit_and c m
agree w m k b c r s =
    ap (λ (n : ℕ). bit_and n k) (sym r) ∙ and_assoc k w m ∙ ap (λ (n : ℕ). bit_and w n) (and_comm m k) ∙ sym (and_assoc m w k) ∙ ap (λ (n : ℕ). bit_and n m) s

pub differ-NoWordHasBoth : (r s : Row) → differ r s ≡ true → NoWordHasBoth r s
differ-NoWordHasBoth r s apart w first second =
    let same = agree w r.mask s.mask r.bits s.bits (eqb-true _ _ first) (eqb-true _ _ second) in
    let never : eqb (bit_and r.bits s.mask) (bit_and s.bits r.mask) ≡ false = not-true _ apart in
    true≢false (sym (eq-eqb _ _ same) ∙ never)

abbrev pub differs_from_all : Row → List Row → Bool
differs_from_all r [] = true
differs_from_all r (s ∷ ss) = differ r s && differs_from_all r ss

abbrev pub all_differ : List Row → Bool
all_differ [] = true
all_differ (r ∷ rs) = differs_from_all r rs && all_differ rs

one : (r : Row) (rs : List Row) (j : ℕ) (d : Row) → differs_from_all r rs ≡ true → j < length rs → NoWordHasBoth r (get_or rs j d)
one r [] j d h below = absurd (omega arith)
one r (s ∷ ss) zero d h below = differ-NoWordHasBoth r s (and_parts (differ r s) (differs_from_all r ss) h).0
one r (s ∷ ss) (suc j) d h below = one r ss j d (and_parts (differ r s) (differs_from_all r ss) h).1 (omega arith)

pub all_differ-AllPairs : (rs : List Row) → all_differ rs ≡ true → AllPairs NoWordHasBoth rs
all_differ-AllPairs [] h i j d before below = absurd (omega arith)
all_differ-AllPairs (r ∷ rs) h i zero d before below = absurd (omega arith)
all_differ-AllPairs (r ∷ rs) h zero (suc j) d before below = one r rs j d (and_parts (differs_from_all r rs) (all_differ rs) h).0 (omega arith)
all_differ-AllPairs (r ∷ rs) h (suc i) (suc j) d before below = all_differ-AllPairs rs (and_parts (differs_from_all r rs) (all_differ rs) h).1 i j d (omega arith) (omega arith)

pub rows-apart : AllPairs NoWordHasBoth rows
rows-apart = all_differ-AllPairs rows refl
