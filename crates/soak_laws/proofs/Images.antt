-- The words of programs lie in RAM where they were loaded.
use Rattle.std.proofs.Common.{◌≡◌, ◌∙◌, ℕ, ◌+◌, ◌-◌, ◌*◌, ◌/◌, ◌%◌, ◌^◌, ◌≤◌, ◌<◌, List, [], ◌∷◌, ◌++◌, length, take, drop, refl, sym, ap, subst, arith, append_assoc, length-append}
use Rattle.std.specs.Prelude.{slice_index}
use Rattle.std.specs.List.{AllByRecursion, flat_map}
use Rattle.std.proofs.lemmas.List.{get_or-append_right, length-take-le, take_all}
use Rattle.asm_syntax.specs.Statements.{word_bytes}
use Rattle.soak_laws.specs.Code.{Lie}
use Rattle.soak_laws.proofs.Ram.{still_lie}
use Rattle.xinu_model.specs.Memory.{number_at, with_bytes}

-- an element behind others
behind : (front more : List ℕ) (a k : ℕ) → a ≡ length front + k → slice_index (front ++ more) a ≡ slice_index more k
behind front more a k is =
    let here : a - length front ≡ k = omega arith in
    get_or-append_right front more (length front) a 0 refl (omega arith) ∙ ap (slice_index more) here

-- the number in the bytes of a word
there : (front more : List ℕ) (w a : ℕ) → w < 2 ^ 32 → a ≡ length front → number_at (front ++ (word_bytes w ++ more)) a 4 ≡ w
there front more w a fits is =
    let all = word_bytes w ++ more in
    let first : slice_index (front ++ all) a ≡ w % 256 = behind front all a 0 (omega arith) in
    let second : slice_index (front ++ all) (a + 1) ≡ w / 256 % 256 = behind front all (a + 1) 1 (omega arith) in
    let third : slice_index (front ++ all) (a + 1 + 1) ≡ w / 65536 % 256 = behind front all (a + 1 + 1) 2 (omega arith) in
    let fourth : slice_index (front ++ all) (a + 1 + 1 + 1) ≡ w / 16777216 % 256 = behind front all (a + 1 + 1 + 1) 3 (omega arith) in
    omega (arith, first, second, third, fourth)

-- words behind other bytes
words_lie : (front : List ℕ) (words rest : List ℕ) (a : ℕ) → AllByRecursion (λ w. w < 2 ^ 32) words → a ≡ length front
    → Lie (front ++ (flat_map word_bytes words ++ rest)) a words
words_lie front [] rest a fit is = tt
words_lie front (w ∷ words) rest a fit is =
    let more = flat_map word_bytes words ++ rest in
    let both = length-append front (word_bytes w ++ more) in
    let longer = length-append front (word_bytes w) in (
      omega arith,
      (
        there front more w a fit.0 is,
        subst (λ m. Lie m (a + 4) words) (append_assoc front (word_bytes w) more) (words_lie (front ++ word_bytes w) words rest (a + 4) fit.1 (omega arith)),
      ),
    )

-- the words of a program that is put at a place, after eight bytes
pub put_lies : (place : ℕ) (texts words memory : List ℕ) → length texts ≡ 8 → AllByRecursion (λ w. w < 2 ^ 32) words → place ≤ length memory
    → Lie (with_bytes memory place (length (texts ++ flat_map word_bytes words)) (texts ++ flat_map word_bytes words)) (place + 8) words
put_lies place texts words memory eight fit within =
    let before = take place memory in
    let bytes = flat_map word_bytes words in
    let after = drop (place + length (texts ++ bytes)) memory in
    let turned : (before ++ texts) ++ (bytes ++ after) ≡ (before ++ (texts ++ bytes)) ++ after =
    sym (append_assoc (before ++ texts) bytes after) ∙ ap (λ l. l ++ after) (append_assoc before texts bytes) in
    let both = length-append before texts in
    let front = length-take-le place memory within in
    subst (λ m. Lie m (place + 8) words) turned (words_lie (before ++ texts) words after (place + 8) fit (omega arith))

-- the words of another one, which is below
pub put_leaves : (memory : List ℕ) (b n : ℕ) (bytes : List ℕ) (a : ℕ) (words : List ℕ) → a + 4 * length words ≤ b → Lie memory a words
    → Lie (with_bytes memory b n bytes) a words
put_leaves memory b n bytes a words below lie =
    subst (λ m. Lie m a words) (sym (append_assoc (take b memory) bytes (drop (b + n) memory))) (still_lie memory (bytes ++ drop (b + n) memory) b a words below lie)

-- bytes put whole
pub put_whole : (memory : List ℕ) (place : ℕ) (bytes : List ℕ)
    → with_bytes memory place (length (take (length bytes) bytes)) (take (length bytes) bytes) ≡ with_bytes memory place (length bytes) bytes
put_whole memory place bytes = ap (λ (l : List ℕ). with_bytes memory place (length l) l) (take_all (length bytes) bytes (omega arith))
