-- The four programs of a number are loaded as the machine starts, which then runs them.
use Rattle.std.proofs.Common.{◌≡◌, ◌∙◌, ℕ, zero, suc, ◌+◌, ◌*◌, ◌/◌, ◌≤◌, ◌<◌, List, [], ◌∷◌, ◌++◌, length, refl, sym, ap, subst, arith, length-append}
use Rattle.std.specs.List.{flat_map}
use Rattle.std.proofs.lemmas.List.{length-replicate}
use Rattle.asm_syntax.specs.Statements.{word_bytes}
use Rattle.soak_laws.specs.Code.{IsLoaded, Lie}
use Rattle.soak_laws.specs.Running.{EachProgram, AreRunning, first_of}
use Rattle.soak_laws.specs.Words.{drawn_at, words_of}
use Rattle.soak_laws.proofs.Boot.{boots_running}
use Rattle.soak_laws.proofs.Groups.{program_code, program_fits}
use Rattle.soak_laws.proofs.Images.{put_leaves, put_lies, put_whole}
use Rattle.workload.proofs.Sizes.{content_length}
use Rattle.workload.specs.Groups.{groups}
use Rattle.workload.specs.Programs.{content, kinds_of, place_of, programs, repeated, texts}
use Rattle.xinu_model.proofs.WholeRam.{length-with_bytes}
use Rattle.xinu_model.specs.Boot.{Boots, Disks, LoadedPart, boot_on, end_of_all, fresh_heap, loaded_machine, with_part}
use Rattle.xinu_model.specs.Machine.{Xinu}
use Rattle.xinu_model.specs.Memory.{ram_size, with_bytes, zeros}

-- the words of program i, drawn in this state
abbrev words_in : ℕ → ℕ → List ℕ
words_in i x = repeated (groups (place_of i) (kinds_of i) 64 x)

-- the part of program i
abbrev part_of : ℕ → ℕ → LoadedPart
part_of i x = record { place = place_of i; bytes = content i x; size = length (content i x) }

content_is : (i x : ℕ) → content i x ≡ texts i ++ flat_map word_bytes (words_in i x)
unfolding content
content_is i x = refl

bytes_length : (words : List ℕ) → length (flat_map word_bytes words) ≡ 4 * length words
bytes_length [] = refl
bytes_length (w ∷ words) = omega (arith, length-append (word_bytes w) (flat_map word_bytes words), bytes_length words)

-- a program has its texts and four bytes for each word
content_size : (i x : ℕ) → length (content i x) ≡ 8 + 4 * length (words_in i x)
content_size i x =
    let both = length-append (texts i) (flat_map word_bytes (words_in i x)) in
    let bytes = bytes_length (words_in i x) in
    let whole : length (content i x) ≡ length (texts i ++ flat_map word_bytes (words_in i x)) = ap length (content_is i x) in
    omega (arith, whole, both, bytes)

few_words : (i x : ℕ) → length (words_in i x) ≤ 513
few_words i x = omega (arith, content_size i x, content_length i x)

few_groups : (i x : ℕ) → length (groups (place_of i) (kinds_of i) 64 x) < 1024
few_groups i x =
    let one : length (words_in i x) ≡ length (groups (place_of i) (kinds_of i) 64 x) + 1 = length-append (groups (place_of i) (kinds_of i) 64 x) _ in
    omega (arith, one, few_words i x)

-- ---- one program is put in its place

put_is : (i x : ℕ) (memory : List ℕ) → with_part (part_of i x) memory ≡ with_bytes memory (place_of i) (length (content i x)) (content i x)
put_is i x memory = put_whole memory (place_of i) (content i x)

put_size : (i x : ℕ) (memory : List ℕ) → i ≤ 4 → length memory ≡ ram_size → length (with_part (part_of i x) memory) ≡ ram_size
put_size i x memory few whole =
    ap length (put_is i x memory)
    ∙ length-with_bytes memory (place_of i) (length (content i x)) (content i x) refl (omega (arith, content_length i x))
    ∙ whole

put_there : (i x : ℕ) (memory : List ℕ) → i ≤ 4 → length memory ≡ ram_size → Lie (with_part (part_of i x) memory) (first_of i) (words_in i x)
put_there i x memory few whole =
    subst (λ m. Lie m (first_of i) (words_in i x))
    (sym (put_is i x memory ∙ ap (λ (l : List ℕ). with_bytes memory (place_of i) (length l) l) (content_is i x)))
    (put_lies (place_of i) (texts i) (words_in i x) memory refl (program_fits (place_of i) (kinds_of i) 64 x) (omega arith))

put_other : (i x j y : ℕ) (memory : List ℕ) → 1 ≤ j → j < i → Lie memory (first_of j) (words_in j y) → Lie (with_part (part_of i x) memory) (first_of j) (words_in j y)
put_other i x j y memory some before lie =
    subst (λ m. Lie m (first_of j) (words_in j y)) (sym (put_is i x memory))
    (put_leaves memory (place_of i) (length (content i x)) (content i x) (first_of j) (words_in j y) (omega (arith, few_words j y)) lie)

-- ---- all four

each_of : (P : ℕ → Type 0) → P 1 → P 2 → P 3 → P 4 → EachProgram P
each_of P a b c d zero some few = absurd (omega arith)
each_of P a b c d (suc zero) some few = a
each_of P a b c d (suc (suc zero)) some few = b
each_of P a b c d (suc (suc (suc zero))) some few = c
each_of P a b c d (suc (suc (suc (suc zero)))) some few = d
each_of P a b c d (suc (suc (suc (suc (suc p))))) some few = absurd (omega arith)

zeros_size : length zeros ≡ ram_size
unfolding zeros
zeros_size = length-replicate {A = ℕ} ram_size 0

-- the words of all four lie in RAM
four_lie : (seed : ℕ) → EachProgram (λ p. Lie (loaded_machine (programs seed)).memory (first_of p) (words_of seed p))
four_lie seed =
    let x = drawn_at seed in
    let one = with_part (part_of 1 (x 1)) zeros in
    let two = with_part (part_of 2 (x 2)) one in
    let three = with_part (part_of 3 (x 3)) two in
    let one_size = put_size 1 (x 1) zeros (omega arith) zeros_size in
    let two_size = put_size 2 (x 2) one (omega arith) one_size in
    let three_size = put_size 3 (x 3) two (omega arith) two_size in
    each_of (λ p. Lie (loaded_machine (programs seed)).memory (first_of p) (words_of seed p))
    (put_other 4 (x 4) 1 (x 1) three (omega arith) (omega arith) (put_other 3 (x 3) 1 (x 1) two (omega arith) (omega arith)
    (put_other 2 (x 2) 1 (x 1) one (omega arith) (omega arith) (put_there 1 (x 1) zeros (omega arith) zeros_size))))
    (put_other 4 (x 4) 2 (x 2) three (omega arith) (omega arith) (put_other 3 (x 3) 2 (x 2) two (omega arith) (omega arith)
    (put_there 2 (x 2) one (omega arith) one_size)))
    (put_other 4 (x 4) 3 (x 3) three (omega arith) (omega arith) (put_there 3 (x 3) two (omega arith) two_size))
    (put_there 4 (x 4) three (omega arith) three_size)

-- they end below the heap
four_end : (seed : ℕ) → EachProgram (λ p. place_of p + length (content p (drawn_at seed p)) ≤ end_of_all (programs seed))
four_end seed = each_of (λ p. place_of p + length (content p (drawn_at seed p)) ≤ end_of_all (programs seed)) (omega arith) (omega arith) (omega arith) (omega arith)

low_behind : (end low : ℕ) → low ≡ 8 * ((end + 7) / 8) → end ≤ low
low_behind end low is = omega arith

four_loaded : (seed : ℕ)
    → EachProgram (λ p. IsLoaded (first_of p) (words_of seed p) (fresh_heap (programs seed)).low (loaded_machine (programs seed)).memory)
four_loaded seed p some few =
    let x = drawn_at seed p in
    let size = content_size p x in
    let end = four_end seed p some few in
    let low = low_behind (end_of_all (programs seed)) (fresh_heap (programs seed)).low refl in
    record {
      code = program_code (place_of p) (kinds_of p) 64 x (few_groups p x);
      lie = four_lie seed p some few;
      below = omega (arith, size, end, low);
      ram = omega (arith, few_words p x);
      whole = omega arith;
    }

-- The machine that starts with them runs them.
pub programs_run : (disks : Disks) (seed : ℕ) (start : Xinu) → boot_on disks (programs seed) ≡ Boots start → AreRunning (words_of seed) start
programs_run disks seed start is =
    boots_running (words_of seed) disks (programs seed) start refl (refl, (refl, (refl, (refl, tt)))) (four_loaded seed) is
