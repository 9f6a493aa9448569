-- When the machine starts, each address is claimed at most once.
use Rattle.std.proofs.Common.{◌≡◌, ℕ, false, zero, suc, ◌+◌, List, [], ◌∷◌, get_or, Option, Some, None, refl, ap, subst, arith, inl}
use Rattle.std.specs.Prelude.{replicate}
use Rattle.event_laws.specs.Ownership.Apart.{is_in_stack, IsApart}
use Rattle.part_laws.specs.FreeCells.{is_in_free}
use Rattle.xinu_model.specs.Boot.{Loaded, first_overlap, fresh_heap, null_process, loaded_machine, image_process, with_image, Start, Boots, Overlaps, NoRoom, and_then, where_stack, all_made, all_started, unless_overlap, boot}
use Rattle.xinu_model.specs.Heap.Cells.{Stack, take_stack}
use Rattle.xinu_model.specs.Machine.{Xinu}
use Rattle.xinu_model.specs.Process.Creation.{stack_size, new_hart}
use Rattle.xinu_model.specs.Sound.Tables.{times}
use Rattle.xinu_model.specs.Tables.{no_process}
use Rattle.event_laws.proofs.Ownership.Claims.{apart_kept, empty_stack, one_at_most}
use Rattle.xinu_model.specs.Footprints.{on_tables}
use Rattle.xinu_laws.specs.Touches.{Reach, KeepsPlaces, Touches}
use Rattle.xinu_laws.proofs.Touches.Boot.{touches_all_started}
use Rattle.xinu_laws.proofs.Touches.Kept.{keeps_places}
use Rattle.table_laws.proofs.Lists.Maps.{one, times_first, times_none}
use Rattle.event_laws.proofs.Ownership.Processes.{apart_made}

-- each of some free numbers has no stack
none_has : (n p : ℕ) → (get_or (replicate n no_process) p no_process).stack_size ≡ 0
none_has zero p = refl
none_has (suc n) zero = refl
none_has (suc n) (suc p) = none_has n p

-- and neither has the null process
null_has : (n p : ℕ) → (get_or (null_process ∷ replicate n no_process) p no_process).stack_size ≡ 0
null_has n zero = refl
null_has n (suc p) = none_has n p

-- so nobody has an address
nobody : (n a : ℕ) → times (is_in_stack a) (null_process ∷ replicate n no_process) ≡ 0
nobody n a =
    let first = times_first (is_in_stack a) null_process (replicate n no_process) in
    let empty = ap one (empty_stack a null_process refl) in
    let others = times_none (is_in_stack a) n no_process (empty_stack a no_process refl) in
    omega arith

-- The machine with the images in RAM, before their processes are made.
pub apart_loaded : (images : List Loaded) → IsApart (loaded_machine images)
apart_loaded images = record {
  low = omega arith;
  stacks = λ p. inl (null_has 63 p);
  claims = λ a.
      let none = nobody 63 a in
      let few = one_at_most (is_in_free a (fresh_heap images)) in
      omega arith;
}

-- what a start so far says
abbrev StartsApart : Start → Type 0
StartsApart start = (s : Xinu) → start ≡ Boots s → IsApart s

-- the first process of an image is made if a stack is found
apart_where_stack : (found : Option Stack) (i : ℕ) (image : Loaded) (s : Xinu) → take_stack (stack_size image.stack) s.parts.heap ≡ found
    → IsApart s → StartsApart (where_stack found i image s)
apart_where_stack None i image s e apart u b = absurd (cc)
apart_where_stack (Some stack) i image s e apart u b =
    let is : with_image i image stack s ≡ u = cc in
    subst IsApart is (apart_made i (image_process i image stack.top) (new_hart image.entry stack.top 0 0) stack image.stack s e refl apart)

-- what follows a start
apart_then : (start : Start) (next : Xinu → Start) → StartsApart start → ((s : Xinu) → IsApart s → StartsApart (next s))
    → StartsApart (and_then start next)
apart_then (Boots s) next first more = more s (first s refl)
apart_then (Overlaps i) next first more = λ u b. absurd (cc)
apart_then (NoRoom i) next first more = λ u b. absurd (cc)

-- the processes of the images are made in order
apart_all_made : (images : List Loaded) (i : ℕ) (s : Xinu) → IsApart s → StartsApart (all_made i images s)
apart_all_made [] i s apart = λ u b. let is : s ≡ u = cc in subst IsApart is apart
apart_all_made (image ∷ images) i s apart =
    let found = take_stack (stack_size image.stack) s.parts.heap in
    apart_then (where_stack found i image s) (λ x. all_made (i + 1) images x) (apart_where_stack found i image s refl apart)
    (λ x made. apart_all_made images (i + 1) x made)

-- anything but the places may change
abbrev beside_places : Reach
beside_places = record { mine = λ sem by. false; asks = λ left. false; parts = on_tables; clock = false }

-- the processes of the images become ready
kept_all_started : (images : List Loaded) (s : Xinu) → KeepsPlaces s (all_started images s)
kept_all_started images s =
    let touches : Touches beside_places s (all_started images s) = touches_all_started images s (λ p. record { idle = λ e. absurd (cc) }) in keeps_places touches refl refl refl

-- the machine starts if no image overlaps an earlier one
apart_unless_overlap : (overlaps : Option ℕ) (images : List Loaded) → StartsApart (unless_overlap overlaps images)
apart_unless_overlap (Some i) images = λ u b. absurd (cc)
apart_unless_overlap None images =
    apart_then (all_made 1 images (loaded_machine images)) (λ s. Boots (all_started images s))
    (apart_all_made images 1 (loaded_machine images) (apart_loaded images))
    (λ s apart u b. let is : all_started images s ≡ u = cc in subst IsApart is (apart_kept (kept_all_started images s) apart))

-- When the machine starts, each address is claimed at most once.
pub apart_boot : (images : List Loaded) (start : Xinu) → boot images ≡ Boots start → IsApart start
apart_boot images start b = apart_unless_overlap (first_overlap 1 [] images) images start b
