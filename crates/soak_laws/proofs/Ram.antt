-- The words of programs stay in RAM as bytes are written above them.
use Rattle.std.proofs.Common.{◌≡◌, ℕ, zero, suc, ◌+◌, ◌*◌, ◌≤◌, ◌<◌, List, [], ◌∷◌, ◌++◌, length, take, drop, refl, sym, subst, append_assoc, arith}
use Rattle.std.specs.Prelude.{slice_index}
use Rattle.soak_laws.specs.Code.{IsLoaded, Lie}
use Rattle.xinu_model.specs.Memory.{number_at, with_bytes}

-- an element before those that were written
pub before_written : (memory rest : List ℕ) (b i : ℕ) → i < b → i < length memory → slice_index (take b memory ++ rest) i ≡ slice_index memory i
before_written [] rest b i less within = absurd (omega arith)
before_written (x ∷ memory) rest zero i less within = absurd (omega arith)
before_written (x ∷ memory) rest (suc b) zero less within = refl
before_written (x ∷ memory) rest (suc b) (suc i) less within = before_written memory rest b i (omega arith) (omega arith)

-- as many are there
pub written_length : (memory rest : List ℕ) (b i : ℕ) → i ≤ b → i ≤ length memory → i ≤ length (take b memory ++ rest)
written_length memory rest b zero less within = omega arith
written_length [] rest b (suc i) less within = absurd (omega arith)
written_length (x ∷ memory) rest zero (suc i) less within = absurd (omega arith)
written_length (x ∷ memory) rest (suc b) (suc i) less within = let more = written_length memory rest b i (omega arith) (omega arith) in omega arith

-- words below an address from which on bytes are written
pub still_lie : (memory rest : List ℕ) (b a : ℕ) (words : List ℕ) → a + 4 * length words ≤ b → Lie memory a words → Lie (take b memory ++ rest) a words
still_lie memory rest b a [] below lie = tt
still_lie memory rest b a (w ∷ words) below lie =
    (written_length memory rest b (a + 4) (omega arith) lie.0, (word, still_lie memory rest b (a + 4) words (omega arith) lie.1.1))
  where
    word : number_at (take b memory ++ rest) a 4 ≡ w
    word =
        rw (
          before_written memory rest b a (omega arith) (omega (arith, lie.0)),
          before_written memory rest b (a + 1) (omega arith) (omega (arith, lie.0)),
          before_written memory rest b (a + 1 + 1) (omega arith) (omega (arith, lie.0)),
          before_written memory rest b (a + 1 + 1 + 1) (omega arith) (omega (arith, lie.0)),
        )
        lie.1.0

-- a program below the address
pub still_loaded : (first : ℕ) (words memory bytes : List ℕ) (low b n : ℕ) → low ≤ b → IsLoaded first words low memory
    → IsLoaded first words low (with_bytes memory b n bytes)
still_loaded first words memory bytes low b n above k = record {
  code = k.code;
  lie = subst (λ (m : List ℕ). Lie m first words) (sym (append_assoc (take b memory) bytes (drop (b + n) memory)))
      (still_lie memory (bytes ++ drop (b + n) memory) b first words (omega (arith, k.below)) k.lie);
  below = k.below;
  ram = k.ram;
  whole = k.whole;
}
