-- The slots of the buffer in RAM: a store in one leaves the other, and the programs, as they are.
use Rattle.std.proofs.Common.{◌≡◌, ◌∙◌, ◌⊎◌, inl, inr, refl, ap, arith, ℕ, zero, suc, ◌+◌, ◌-◌, ◌*◌, ◌%◌, ◌^◌, ◌≤◌, ◌++◌, List, length, length-append, take, drop}
use Rattle.std.proofs.lemmas.List.{get_or-append_right, get_or-drop, length-take-le}
use Rattle.std.specs.Int.{bytes_low_first}
use Rattle.std.specs.Prelude.{slice_index}
use Rattle.xinu_model.specs.Memory.{number_at, ram_size, with_number}
use Rattle.program_logic.proofs.Ram.{kept_below, lie_below, written}
use Rattle.program_logic.specs.Images.{Lie}
use Rattle.bounded_buffer.specs.Buffer.{slot_of}

-- an element behind those that were written
above : (memory bytes : List ℕ) (b i : ℕ) → length bytes ≡ 4 → b + 4 ≤ i → b + 4 ≤ length memory
    → slice_index ((take b memory ++ bytes) ++ drop (b + 4) memory) i ≡ slice_index memory i
above memory bytes b i four behind within =
    let front = take b memory ++ bytes in
    let whole = length-append (take b memory) bytes in
    let start = length-take-le b memory (omega arith) in
    let size : length front ≡ b + 4 = omega arith in
    let less : i - length front ≡ i - (b + 4) = omega arith in
    let back : b + 4 + (i - (b + 4)) ≡ i = omega arith in
    get_or-append_right front (drop (b + 4) memory) (length front) i 0 refl (omega arith)
    ∙ ap (slice_index (drop (b + 4) memory)) less ∙ get_or-drop (b + 4) memory (i - (b + 4)) 0 ∙ ap (slice_index memory) back

-- a word behind a word that is written stays
kept_above : (memory : List ℕ) (b w a : ℕ) → b + 4 ≤ a → b + 4 ≤ length memory → number_at (with_number memory b 4 w) a 4 ≡ number_at memory a 4
kept_above memory b w a behind within =
    let bytes = bytes_low_first 0 4 w in
    rw (
      above memory bytes b a refl behind within,
      above memory bytes b (a + 1) refl (omega (arith, behind)) within,
      above memory bytes b (a + 1 + 1) refl (omega (arith, behind)) within,
      above memory bytes b (a + 1 + 1 + 1) refl (omega (arith, behind)) within,
    )
    refl

-- A store in one slot leaves the other.
pub other_slot : (memory : List ℕ) (i k w : ℕ) → length memory ≡ ram_size → k + 1 ≡ i → number_at (with_number memory (slot_of i) 4 w) (slot_of k) 4 ≡ number_at memory (slot_of k) 4
other_slot memory i k w size before = by parity
  where
    parity : ((k % 2 ≡ 0) × (i % 2 ≡ 1)) ⊎ ((k % 2 ≡ 1) × (i % 2 ≡ 0))
    parity = by_two (k % 2) refl
      where
        by_two : (m : ℕ) → k % 2 ≡ m → ((k % 2 ≡ 0) × (i % 2 ≡ 1)) ⊎ ((k % 2 ≡ 1) × (i % 2 ≡ 0))
        by_two zero e = inl (e, omega arith)
        by_two (suc zero) e = inr (e, omega arith)
        by_two (suc (suc m)) e = absurd (omega arith)

    by : ((k % 2 ≡ 0) × (i % 2 ≡ 1)) ⊎ ((k % 2 ≡ 1) × (i % 2 ≡ 0)) → number_at (with_number memory (slot_of i) 4 w) (slot_of k) 4 ≡ number_at memory (slot_of k) 4
    by (inl (even, odd)) = kept_below memory (slot_of i) 4 (bytes_low_first 0 4 w) (slot_of k) (omega arith) (omega arith)
    by (inr (odd, even)) = kept_above memory (slot_of i) w (slot_of k) (omega arith) (omega arith)

-- The item that is stored is there.
pub item_stored : (memory : List ℕ) (i : ℕ) → length memory ≡ ram_size → number_at (with_number memory (slot_of i) 4 (i % 2 ^ 32)) (slot_of i) 4 ≡ i % 2 ^ 32
item_stored memory i size = written memory (slot_of i) (i % 2 ^ 32) (omega arith) (omega arith)

-- Words below the slots stay.
pub program_stays : (memory : List ℕ) (i w a : ℕ) (words : List ℕ) → a + 4 * length words ≤ 164 → Lie memory a words → Lie (with_number memory (slot_of i) 4 w) a words
program_stays memory i w a words below lie = lie_below memory (slot_of i) 4 (bytes_low_first 0 4 w) a words (omega arith) lie
