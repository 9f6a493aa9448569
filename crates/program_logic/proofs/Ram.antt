-- Words in RAM: a number that is written is read back, and words below it stay.
use Rattle.std.proofs.Common.{List, [], ap, append_assoc, arith, drop, length, length-append, refl, subst, suc, sym, take, zero, ℕ, ◌%◌, ◌*◌, ◌++◌, ◌+◌, ◌-◌, ◌/◌, ◌<◌, ◌^◌, ◌∙◌, ◌∷◌, ◌≡◌, ◌≤◌}
use Rattle.std.proofs.lemmas.List.{get_or-append_right, length-take-le, take_all}
use Rattle.std.specs.Int.{bytes_low_first}
use Rattle.std.specs.List.{AllByRecursion, flat_map}
use Rattle.std.specs.Prelude.{slice_index}
use Rattle.xinu_model.specs.Memory.{number_at, with_bytes, with_number}
use Rattle.program_logic.specs.Images.{Lie, bytes_of}

-- an element before those that were written
before_written : (memory rest : List ℕ) (b i : ℕ) → i < b → i < length memory → slice_index (take b memory ++ rest) i ≡ slice_index memory i
before_written [] rest b i less within = absurd (omega arith)
before_written (x ∷ memory) rest zero i less within = absurd (omega arith)
before_written (x ∷ memory) rest (suc b) zero less within = refl
before_written (x ∷ memory) rest (suc b) (suc i) less within = before_written memory rest b i (omega arith) (omega arith)

-- as many are there
written_length : (memory rest : List ℕ) (b i : ℕ) → i ≤ b → i ≤ length memory → i ≤ length (take b memory ++ rest)
written_length memory rest b zero less within = omega arith
written_length [] rest b (suc i) less within = absurd (omega arith)
written_length (x ∷ memory) rest zero (suc i) less within = absurd (omega arith)
written_length (x ∷ memory) rest (suc b) (suc i) less within = let more = written_length memory rest b i (omega arith) (omega arith) in omega arith

-- words below an address from which on bytes are written
still_lie : (memory rest : List ℕ) (b a : ℕ) (words : List ℕ) → a + 4 * length words ≤ b → Lie memory a words → Lie (take b memory ++ rest) a words
still_lie memory rest b a [] below lie = tt
still_lie memory rest b a (w ∷ words) below lie =
    (written_length memory rest b (a + 4) (omega arith) lie.0, (word, still_lie memory rest b (a + 4) words (omega arith) lie.1.1))
  where
    word : number_at (take b memory ++ rest) a 4 ≡ w
    word =
        rw (
          before_written memory rest b a (omega arith) (omega (arith, lie.0)),
          before_written memory rest b (a + 1) (omega arith) (omega (arith, lie.0)),
          before_written memory rest b (a + 1 + 1) (omega arith) (omega (arith, lie.0)),
          before_written memory rest b (a + 1 + 1 + 1) (omega arith) (omega (arith, lie.0)),
        )
        lie.1.0

-- Words below bytes that are written stay.
pub lie_below : (memory : List ℕ) (b n : ℕ) (bytes : List ℕ) (a : ℕ) (words : List ℕ) → a + 4 * length words ≤ b → Lie memory a words
    → Lie (with_bytes memory b n bytes) a words
lie_below memory b n bytes a words below lie =
    subst (λ m. Lie m a words) (sym (append_assoc (take b memory) bytes (drop (b + n) memory))) (still_lie memory (bytes ++ drop (b + n) memory) b a words below lie)

-- A word below bytes that are written stays.
pub kept_below : (memory : List ℕ) (b n : ℕ) (bytes : List ℕ) (a : ℕ) → a + 4 ≤ b → a + 4 ≤ length memory
    → number_at (with_bytes memory b n bytes) a 4 ≡ number_at memory a 4
kept_below memory b n bytes a below within =
    subst (λ m. number_at m a 4 ≡ number_at memory a 4) (sym (append_assoc (take b memory) bytes (drop (b + n) memory))) word
  where
    word : number_at (take b memory ++ (bytes ++ drop (b + n) memory)) a 4 ≡ number_at memory a 4
    word =
        rw (
          before_written memory (bytes ++ drop (b + n) memory) b a (omega (arith, below)) (omega (arith, within)),
          before_written memory (bytes ++ drop (b + n) memory) b (a + 1) (omega (arith, below)) (omega (arith, within)),
          before_written memory (bytes ++ drop (b + n) memory) b (a + 1 + 1) (omega (arith, below)) (omega (arith, within)),
          before_written memory (bytes ++ drop (b + n) memory) b (a + 1 + 1 + 1) (omega (arith, below)) (omega (arith, within)),
        )
        refl

-- an element behind others
behind : (front more : List ℕ) (a k : ℕ) → a ≡ length front + k → slice_index (front ++ more) a ≡ slice_index more k
behind front more a k is =
    let here : a - length front ≡ k = omega arith in
    get_or-append_right front more (length front) a 0 refl (omega arith) ∙ ap (slice_index more) here

-- the number in the bytes of a word
there : (front more : List ℕ) (w a : ℕ) → w < 2 ^ 32 → a ≡ length front → number_at (front ++ (bytes_of w ++ more)) a 4 ≡ w
there front more w a fits is =
    let all = bytes_of w ++ more in
    let first : slice_index (front ++ all) a ≡ w % 256 = behind front all a 0 (omega arith) in
    let second : slice_index (front ++ all) (a + 1) ≡ w / 256 % 256 = behind front all (a + 1) 1 (omega arith) in
    let third : slice_index (front ++ all) (a + 1 + 1) ≡ w / 65536 % 256 = behind front all (a + 1 + 1) 2 (omega arith) in
    let fourth : slice_index (front ++ all) (a + 1 + 1 + 1) ≡ w / 16777216 % 256 = behind front all (a + 1 + 1 + 1) 3 (omega arith) in
    omega (arith, first, second, third, fourth)

-- A word that is written is read back.
pub written : (memory : List ℕ) (a w : ℕ) → w < 2 ^ 32 → a ≤ length memory → number_at (with_number memory a 4 w) a 4 ≡ w
written memory a w fits within =
    let size = length-take-le a memory within in
    let same : bytes_low_first 0 4 w ≡ bytes_of w = refl in
    ap (λ (m : List ℕ). number_at m a 4) (append_assoc (take a memory) (bytes_low_first 0 4 w) (drop (a + 4) memory))
    ∙ there (take a memory) (drop (a + 4) memory) w a fits (sym size)

-- words behind other bytes
words_lie : (front : List ℕ) (words rest : List ℕ) (a : ℕ) → AllByRecursion (λ w. w < 2 ^ 32) words → a ≡ length front
    → Lie (front ++ (flat_map bytes_of words ++ rest)) a words
words_lie front [] rest a fit is = tt
words_lie front (w ∷ words) rest a fit is =
    let more = flat_map bytes_of words ++ rest in
    let both = length-append front (bytes_of w ++ more) in
    let longer = length-append front (bytes_of w) in (
      omega arith,
      (
        there front more w a fit.0 is,
        subst (λ m. Lie m (a + 4) words) (append_assoc front (bytes_of w) more) (words_lie (front ++ bytes_of w) words rest (a + 4) fit.1 (omega arith)),
      ),
    )

-- The words of an image that is put at a place.
pub put_lies : (place : ℕ) (words memory : List ℕ) → AllByRecursion (λ w. w < 2 ^ 32) words → place ≤ length memory
    → Lie (with_bytes memory place (length (flat_map bytes_of words)) (flat_map bytes_of words)) place words
put_lies place words memory fit within =
    let before = take place memory in
    let bytes = flat_map bytes_of words in
    let after = drop (place + length bytes) memory in
    subst (λ m. Lie m place words) (sym (append_assoc before bytes after)) (words_lie before words after place fit (sym (length-take-le place memory within)))

-- bytes put whole
pub put_whole : (memory : List ℕ) (place : ℕ) (bytes : List ℕ)
    → with_bytes memory place (length (take (length bytes) bytes)) (take (length bytes) bytes) ≡ with_bytes memory place (length bytes) bytes
put_whole memory place bytes = ap (λ (l : List ℕ). with_bytes memory place (length l) l) (take_all (length bytes) bytes (omega arith))
