-- The machine starts with images whose stacks the heap holds.
use Rattle.std.proofs.Common.{◌≡◌, ◌∙◌, ℕ, zero, suc, ◌+◌, ◌<◌, ◌≤◌, ◌&&◌, Bool, true, false, List, [], ◌∷◌, ◌++◌, length, replicate, take, drop, refl, sym, ap, subst, arith, Option, Some, None, ⊎_elim, append_assoc}
use Rattle.std.proofs.lemmas.Bool.{and_parts, cases_lt, ltb-true}
use Rattle.std.specs.Prelude.{nat_lt}
use Rattle.part_laws.proofs.HeapCells.Refused.{getstk_refuses}
use Rattle.part_laws.proofs.HeapCells.Taken.{getstk_finds}
use Rattle.xinu_model.specs.Boot.{Boots, Disks, Loaded, Start, all_made, all_started, and_then, boot_on, first_overlap, fresh_heap, loaded_machine, on_disks, unless_overlap, where_stack, with_image}
use Rattle.xinu_model.specs.Heap.Cells.{Heap, Stack, begins_with, cells_for, take_stack}
use Rattle.xinu_model.specs.Machine.{Xinu}
use Rattle.xinu_model.specs.Process.Creation.{stack_size}

-- ---- free cells at the front

-- of some that are free, all but the first few, and the first few
next : (m k : ℕ) (cells : List Bool) → begins_with true (suc (m + k)) cells ≡ true
    → ((rest : List Bool) → begins_with true (m + k) rest ≡ true → begins_with true k (drop m rest) ≡ true) → begins_with true k (drop (suc m) cells) ≡ true
next m k [] is behind = absurd (cc)
next m k (true ∷ cells) is behind = behind cells is
next m k (false ∷ cells) is behind = absurd (cc)

begins_behind : (m k : ℕ) (cells : List Bool) → begins_with true (m + k) cells ≡ true → begins_with true k (drop m cells) ≡ true
begins_behind zero k cells is = let e : zero + k ≡ k = omega arith in subst (λ i. begins_with true i cells ≡ true) e is
begins_behind (suc m) k cells is = next m k cells (let e : suc m + k ≡ suc (m + k) = omega arith in subst (λ i. begins_with true i cells ≡ true) e is) (begins_behind m k)

begins_before : (k start : ℕ) (cells more : List Bool) → k ≤ start → begins_with true k cells ≡ true → begins_with true k (take start cells ++ more) ≡ true
begins_before zero start cells more few is = refl
begins_before (suc k) zero cells more few is = absurd (omega arith)
begins_before (suc k) (suc start) [] more few is = absurd (cc)
begins_before (suc k) (suc start) (true ∷ cells) more few is = begins_before k start cells more (omega arith) is
begins_before (suc k) (suc start) (false ∷ cells) more few is = absurd (cc)

begins_fewer : (k m : ℕ) (cells : List Bool) → k ≤ m → begins_with true m cells ≡ true → begins_with true k cells ≡ true
begins_fewer zero m cells few is = refl
begins_fewer (suc k) zero cells few is = absurd (omega arith)
begins_fewer (suc k) (suc m) [] few is = absurd (cc)
begins_fewer (suc k) (suc m) (true ∷ cells) few is = begins_fewer k m cells (omega arith) is
begins_fewer (suc k) (suc m) (false ∷ cells) few is = absurd (cc)

begins_within : (k : ℕ) (cells : List Bool) → begins_with true k cells ≡ true → k ≤ length cells
begins_within zero cells is = omega arith
begins_within (suc k) [] is = absurd (cc)
begins_within (suc k) (true ∷ cells) is = let e = begins_within k cells is in omega arith
begins_within (suc k) (false ∷ cells) is = absurd (cc)

-- ---- stacks

-- a stack is found where free cells begin a heap
stack_given : (n : ℕ) (h : Heap) → 0 < n → 0 < length h.cells → begins_with true (cells_for n) h.cells ≡ true → (stack : Stack) × (take_stack n h ≡ Some stack)
stack_given n h some many begins = by_found (take_stack n h) refl
  where
    by_found : (o : Option Stack) → take_stack n h ≡ o → (stack : Stack) × (take_stack n h ≡ Some stack)
    by_found (Some stack) e = (stack, e)
    by_found None e = let nowhere = getstk_refuses n h some e 0 many in absurd (cc)

-- the other free cells at the front stay, since the highest place is taken
others_free : (n m : ℕ) (h : Heap) (stack : Stack) → 0 < cells_for n → begins_with true (m + cells_for n) h.cells ≡ true → take_stack n h ≡ Some stack
    → begins_with true m stack.heap.cells ≡ true
others_free n m h stack some begins found =
    let within = begins_within (m + cells_for n) h.cells begins in
    let g = getstk_finds n h stack found in
    let high : m ≤ g.start = ⊎_elim
    (λ (low : g.start < m). let none = g.greatest.greatest m low (omega arith) in
    let all = begins_behind m (cells_for n) h.cells begins in absurd (cc))
    (λ (e : m ≤ g.start). e) (cases_lt g.start m) in
    let rest = replicate (cells_for n) false in
    let behind = drop (g.start + cells_for n) h.cells in
    subst (λ l. begins_with true m l ≡ true) (sym (g.taken.cells ∙ append_assoc (take g.start h.cells) rest behind))
    (begins_before m g.start h.cells (rest ++ behind) high (begins_fewer m (m + cells_for n) h.cells (omega arith) begins))

-- ---- images

-- how many cells the stacks of these images take, and whether each has some
abbrev pub cells_of : List Loaded → ℕ
cells_of [] = 0
cells_of (image ∷ images) = cells_of images + cells_for (stack_size image.stack)

abbrev pub all_some : List Loaded → Bool
all_some [] = true
all_some (image ∷ images) = (nat_lt 0 (stack_size image.stack) && nat_lt 0 (cells_for (stack_size image.stack))) && all_some images

made_all : (i : ℕ) (images : List Loaded) (s : Xinu) → all_some images ≡ true → begins_with true (cells_of images) s.parts.heap.cells ≡ true
    → (last : Xinu) × (all_made i images s ≡ Boots last)
made_all i [] s some begins = (s, refl)
made_all i (image ∷ images) s some begins =
    let n = stack_size image.stack in
    let a = and_parts (nat_lt 0 n && nat_lt 0 (cells_for n)) (all_some images) some in
    let b = and_parts (nat_lt 0 n) (nat_lt 0 (cells_for n)) a.0 in
    let any = ltb-true 0 (cells_for n) b.1 in
    let one = stack_given n s.parts.heap (ltb-true 0 n b.0) (let within = begins_within (cells_of images + cells_for n) s.parts.heap.cells begins in omega (arith, any))
    (begins_fewer (cells_for n) (cells_of images + cells_for n) s.parts.heap.cells (omega arith) begins) in
    let rest = made_all (i + 1) images (with_image i image one.0 s) a.1 (others_free n (cells_of images) s.parts.heap one.0 any begins one.1) in
    (rest.0, ap (λ o. and_then (where_stack o i image s) (λ x. all_made (i + 1) images x)) one.1 ∙ rest.1)

begins_all : (k m : ℕ) → k ≤ m → begins_with true k (replicate m true) ≡ true
begins_all zero m few = refl
begins_all (suc k) zero few = absurd (omega arith)
begins_all (suc k) (suc m) few = ap (λ b. true && b) (begins_all k m (omega arith))

-- Images that don't overlap, and whose stacks the heap holds, start.
pub boots_all : (disks : Disks) (images : List Loaded) (m : ℕ) → first_overlap 1 [] images ≡ None → all_some images ≡ true
    → (fresh_heap images).cells ≡ replicate m true → cells_of images ≤ m → (start : Xinu) × (boot_on disks images ≡ Boots start)
boots_all disks images m apart some fresh few =
    let begins = subst (λ cells. begins_with true (cells_of images) cells ≡ true) (sym fresh) (begins_all (cells_of images) m few) in
    let made = made_all 1 images (loaded_machine images) some begins in (
      on_disks disks (all_started images made.0),
      ap (λ o. and_then (unless_overlap o images) (λ x. Boots (on_disks disks x))) apart
          ∙ ap (λ (x : Start). and_then (and_then x (λ y. Boots (all_started images y))) (λ y. Boots (on_disks disks y))) made.1,
    )
