-- The programs of every number boot: they lie apart, and the heap has room for their stacks.
use Rattle.std.proofs.Common.{◌≡◌, ◌∙◌, ℕ, zero, suc, ◌+◌, ◌-◌, ◌*◌, ◌/◌, ◌<◌, ◌≤◌, Bool, true, false, List, [], ◌∷◌, ◌++◌, length, replicate, Some, None, refl, sym, ap, arith, append_assoc, append-nil}
use Rattle.std.specs.Prelude.{take, drop, nat_lt, ◌&&◌}
use Rattle.std.proofs.lemmas.Bool.{le-ltb}
use Rattle.std.proofs.lemmas.List.{replicate-append-replicate}
use Rattle.workload.specs.Programs.{content, program_at, programs, after_program}
use Rattle.workload.proofs.Sizes.{content_length}
use Rattle.xinu_model.specs.Boot.{Disks, Loaded, Boots, all_made, all_started, and_then, boot_on, end_of_all, first_overlap, heap_behind, loaded_machine, on_disks, unless_overlap, where_stack, with_image}
use Rattle.xinu_model.specs.Heap.Cells.{Heap, Stack, begins_with, cells_for, highest_free, marked, stack_at, take_stack}
use Rattle.xinu_model.specs.Machine.{Xinu}
use Rattle.xinu_model.specs.Memory.{ram_size, ranges_meet}

-- ---- stacks from a heap of free cells before taken ones

-- n free cells, and then j that are taken
abbrev row : ℕ → ℕ → List Bool
row n j = replicate n true ++ replicate j false

-- such a row begins with as many free cells
begins : (k n j : ℕ) → k ≤ n → begins_with true k (row n j) ≡ true
begins zero n j few = refl
begins (suc k) zero j few = absurd (omega arith)
begins (suc k) (suc n) j few = begins k n j (omega arith)

begins_no_more : (k n j : ℕ) → n < k → begins_with true k (row n j) ≡ false
begins_no_more zero n j few = absurd (omega arith)
begins_no_more (suc k) zero zero few = refl
begins_no_more (suc k) zero (suc j) few = refl
begins_no_more (suc k) (suc n) j few = begins_no_more k n j (omega arith)

none_taken : (k j : ℕ) → 0 < k → highest_free k (replicate j false) ≡ None
none_taken k zero some = refl
none_taken zero (suc j) some = absurd (omega arith)
none_taken (suc k) (suc j) some = rw (none_taken (suc k) j some) refl

none_short : (k n j : ℕ) → n < k → highest_free k (row n j) ≡ None
none_short k zero j few = none_taken k j (omega arith)
none_short k (suc n) j few = rw (none_short k n j (omega arith), begins_no_more k (suc n) j few) refl

-- the highest k free cells are the last ones
highest : (k m j n : ℕ) → 0 < k → m ≡ n + k → highest_free k (row m j) ≡ Some n
highest k zero j n some is = absurd (omega arith)
highest k (suc m) j zero some is = rw (none_short k m j (omega arith), begins k (suc m) j (omega arith)) refl
highest k (suc m) j (suc n) some is = rw (highest k m j n some (omega arith)) refl

take_row : (n m j : ℕ) → n ≤ m → take n (row m j) ≡ replicate n true
take_row zero m j few = refl
take_row (suc n) zero j few = absurd (omega arith)
take_row (suc n) (suc m) j few = ap (λ x. true ∷ x) (take_row n m j (omega arith))

drop_row : (n j : ℕ) → drop n (row n j) ≡ replicate j false
drop_row zero j = refl
drop_row (suc n) j = drop_row n j

-- without them, such a row is left
left : (k n j : ℕ) → marked false n k (row (n + k) j) ≡ row n (k + j)
left k n j =
    rw (take_row n (n + k) j (omega arith), drop_row (n + k) j)
    (append_assoc (replicate n true) (replicate k false) (replicate j false) ∙ ap (λ x. replicate n true ++ x) (replicate-append-replicate k j false))

-- a heap of such a row
abbrev heap_of : ℕ → ℕ → ℕ → Heap
heap_of low n j = record { low = low; cells = row n j }

-- a stack of 4,096 bytes is 512 cells
stacked : (low n j : ℕ) → take_stack 4096 (heap_of low (n + 512) j) ≡ Some (record { top = low + 8 * (n + 512) - 4; heap = heap_of low n (512 + j) })
stacked low n j =
    ap (stack_at (heap_of low (n + 512) j) 512) (highest 512 (n + 512) j n (omega arith) refl)
    ∙ ap (λ cells. Some (record { top = low + 8 * (n + 512) - 4; heap = record { low = low; cells = cells } })) (left 512 n j)

-- ---- the programs lie apart

-- at these places they have at most 32,768 bytes
apart : (a b : ℕ) (low high : List ℕ) → a + length low ≤ b → ranges_meet b (length high) a (length low) ≡ false
apart a b low high before = rw (le-ltb b (a + length low) before) (never (nat_lt 0 (length high) && nat_lt 0 (length low)))
  where
    never : (x : Bool) → (x && false) ≡ false
    never true = refl
    never false = refl

none_overlaps : (a b c d : List ℕ) → length a ≤ 32768 → length b ≤ 32768 → length c ≤ 32768
    → first_overlap 1 [] (program_at 0 a ∷ program_at 32768 b ∷ program_at 65536 c ∷ program_at 98304 d ∷ []) ≡ None
none_overlaps a b c d short_a short_b short_c =
    rw (
      apart 0 32768 a b (omega arith),
      apart 32768 65536 b c (omega arith),
      apart 0 65536 a c (omega arith),
      apart 65536 98304 c d (omega arith),
      apart 32768 98304 b d (omega arith),
      apart 0 98304 a d (omega arith),
    )
    refl

-- ---- their processes are made

-- one more is made if the heap has such a row
made : (i place low n j : ℕ) (bytes : List ℕ) (images : List Loaded) (s : Xinu) → s.parts.heap ≡ heap_of low (n + 512) j
    → (next : Xinu) × ((next.parts.heap ≡ heap_of low n (512 + j)) × (all_made i (program_at place bytes ∷ images) s ≡ all_made (i + 1) images next))
made i place low n j bytes images s is =
    let image = program_at place bytes in
    let stack : Stack = record { top = low + 8 * (n + 512) - 4; heap = heap_of low n (512 + j) } in
    let found : take_stack 4096 s.parts.heap ≡ Some stack = ap (take_stack 4096) is ∙ stacked low n j in
    (with_image i image stack s, (refl, ap (λ o. and_then (where_stack o i image s) (λ x. all_made (i + 1) images x)) found))

-- ---- the machine starts

abbrev four : List ℕ → List ℕ → List ℕ → List ℕ → List Loaded
four a b c d = program_at 0 a ∷ program_at 32768 b ∷ program_at 65536 c ∷ program_at 98304 d ∷ []

ends_low : (a b c d : List ℕ) → length a ≤ 32768 → length b ≤ 32768 → length c ≤ 32768 → length d ≤ 32768 → end_of_all (four a b c d) ≤ 131072
ends_low a b c d short_a short_b short_c short_d = omega arith

four_boot : (disks : Disks) (a b c d : List ℕ) → length a ≤ 32768 → length b ≤ 32768 → length c ≤ 32768 → length d ≤ 32768
    → (start : Xinu) × (boot_on disks (four a b c d) ≡ Boots start)
four_boot disks a b c d short_a short_b short_c short_d =
    let images = four a b c d in
    let first = loaded_machine images in
    let end = end_of_all images in
    let end_low : end ≤ 131072 = ends_low a b c d short_a short_b short_c short_d in
    let low = 8 * cells_for end in
    let k = (ram_size - low) / 8 - 2048 in
    let room : (ram_size - low) / 8 ≡ k + 512 + 512 + 512 + 512 = omega arith in
    let heap : heap_behind end ≡ heap_of low (k + 512 + 512 + 512 + 512) 0 =
    ap (λ cells. record { low = low; cells = cells }) (ap (λ n. replicate n true) room ∙ sym (append-nil (replicate (k + 512 + 512 + 512 + 512) true))) in
    let one = made 1 0 low (k + 512 + 512 + 512) 0 a (program_at 32768 b ∷ program_at 65536 c ∷ program_at 98304 d ∷ []) first heap in
    let two = made 2 32768 low (k + 512 + 512) (512 + 0) b (program_at 65536 c ∷ program_at 98304 d ∷ []) one.0 one.1.0 in
    let three = made 3 65536 low (k + 512) (512 + (512 + 0)) c (program_at 98304 d ∷ []) two.0 two.1.0 in
    let last = made 4 98304 low k (512 + (512 + (512 + 0))) d [] three.0 three.1.0 in
    let all : all_made 1 images first ≡ Boots last.0 = one.1.1 ∙ two.1.1 ∙ three.1.1 ∙ last.1.1 in (
      on_disks disks (all_started images last.0),
      ap (λ o. and_then (unless_overlap o images) (λ s. Boots (on_disks disks s))) (none_overlaps a b c d short_a short_b short_c)
          ∙ ap (λ s. and_then (and_then s (λ s. Boots (all_started images s))) (λ s. Boots (on_disks disks s))) all,
    )

-- the programs of a number are four such programs
pub programs-boot : (disks : Disks) (seed : ℕ) → (start : Xinu) × (boot_on disks (programs seed) ≡ Boots start)
programs-boot disks seed =
    let second = after_program 1 seed in
    let third = after_program 2 second in
    let fourth = after_program 3 third in
    let short : (i x : ℕ) → length (content i x) ≤ 32768 = λ i x. let few = content_length i x in omega arith in
    four_boot disks (content 1 seed) (content 2 second) (content 3 third) (content 4 fourth) (short 1 seed) (short 2 second) (short 3 third) (short 4 fourth)
