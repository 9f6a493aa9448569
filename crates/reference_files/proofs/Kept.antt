-- What a call that takes effect keeps.
use Rattle.std.proofs.Common.{◌≡◌, ◌+◌, ◌-◌, ◌≤◌, ◌<◌, ℕ, suc, List, [], ◌∷◌, length, Option, Some, None, refl, ap, subst, sym, arith}
use Rattle.std.specs.Prelude.{slice_index_or}
use Rattle.std.specs.List.{AllByRecursion}
use Rattle.xinu_base.specs.declared.lines.FileMoment.{FileMoment}
use Rattle.xinu_base.specs.declared.lines.FileMoment.TheVariants.{Finished, Next}
use Rattle.reference_files.proofs.Small.{sound_is_small}
use Rattle.reference_files.specs.Sizes.{IsSmall, most_bytes}
use Rattle.part_laws.proofs.FileSystems.Refusals.{effect_spares}
use Rattle.part_laws.proofs.FileWork.Sound.{works_completed}
use Rattle.xinu_model.specs.Files.Calls.{FileCall, Open, Delete, Close, Read, Write, Getc, Putc, Seek, Truncate, Size}
use Rattle.xinu_model.specs.Files.Sound.{HasBytes, InRam, IsFileRequest, IsFirst, IsSoundWork}
use Rattle.xinu_model.specs.Files.Systems.{FileSystem, OpenFile, open_at}
use Rattle.xinu_model.specs.Files.Work.{FileRequest, FileStep, FileWork, byte_count, first_effect, next_effects, size_at, size_for}
use Rattle.xinu_model.specs.Memory.{ram_size}
use Rattle.xinu_model.proofs.FileOutcomes.{one_at_most}

-- the calls under way stay sound as the first takes effect, whatever is said of it,
same_work : (calls : List FileRequest) (moment : FileMoment) (x : FileStep)
    → (first_effect calls Finished x).work ≡ (first_effect calls moment x).work
same_work [] moment x = refl
same_work (a ∷ calls) moment x = refl

pub sound_after : (moment : FileMoment) (x : FileStep) → IsSoundWork x.work → IsSoundWork (first_effect x.work.calls moment x).work
sound_after moment x k =
    subst IsSoundWork (same_work x.work.calls moment x) (works_completed 1 x (one_at_most x.work.calls x.work) k)

-- and the disk keeps its blocks
pub blocks_after : (calls : List FileRequest) (moment : FileMoment) (x : FileStep)
    → (first_effect calls moment x).work.system.blocks ≡ x.work.system.blocks
blocks_after [] moment x = refl
blocks_after (a ∷ []) moment x = (effect_spares a.call x.work.bytes x.work.system).blocks
blocks_after (a ∷ b ∷ calls) moment x = (effect_spares a.call x.work.bytes x.work.system).blocks

-- the size of the file that a call is about
sized_at : (x : Option OpenFile) (s : FileSystem) → IsSmall s → size_at x s ≤ most_bytes
sized_at None s k = omega arith
sized_at (Some f) s k = k.sizes f.name

sized_for : (call : FileCall) (s : FileSystem) → IsSmall s → size_for call s ≤ most_bytes
sized_for (Open name mode) s k = k.sizes name
sized_for (Delete name) s k = k.sizes name
sized_for (Close d) s k = sized_at (open_at s d) s k
sized_for (Read d n) s k = sized_at (open_at s d) s k
sized_for (Write d n) s k = sized_at (open_at s d) s k
sized_for (Getc d) s k = sized_at (open_at s d) s k
sized_for (Putc d b) s k = sized_at (open_at s d) s k
sized_for (Seek d n) s k = sized_at (open_at s d) s k
sized_for (Truncate d) s k = sized_at (open_at s d) s k
sized_for (Size d) s k = sized_at (open_at s d) s k

counted : (call : FileCall) (at : ℕ) → InRam call at → byte_count call ≤ ram_size
counted (Read d n) at h = omega (arith, h)
counted (Write d n) at h = omega (arith, h)
counted (Open name mode) at h = omega arith
counted (Delete name) at h = omega arith
counted (Close d) at h = omega arith
counted (Getc d) at h = omega arith
counted (Putc d b) at h = omega arith
counted (Seek d n) at h = omega arith
counted (Truncate d) at h = omega arith
counted (Size d) at h = omega arith

-- the first of some requests can be carried out if all can
pub first_right : (calls : List FileRequest) (a : FileRequest) → 0 < length calls → a ≡ slice_index_or calls 0 a
    → AllByRecursion IsFileRequest calls → IsFileRequest a
first_right [] a h e right = absurd (omega (arith, h))
first_right (b ∷ calls) a h e right = subst IsFileRequest (sym e) right.0

-- So it has few turns,
first_turns : (calls : List FileRequest) (w : FileWork) → 0 < length calls → IsFirst calls w → AllByRecursion IsFileRequest calls
    → IsSmall w.system → w.turns + 1 ≤ 4294967295
first_turns [] w h first right small = absurd (omega (arith, h))
first_turns (a ∷ calls) w h first right small =
    let size = sized_for a.call w.system small in
    let count = counted a.call a.at right.0.range in
    let turns = first.0 in
    omega (arith, turns, size, count)

pub few_turns : (w : FileWork) → 0 < length w.calls → IsSoundWork w → w.system.blocks ≤ 65542 → w.turns + 1 ≤ 4294967295
few_turns w h k disk = first_turns w.calls w h k.first k.calls (sound_is_small w.system k.system disk)

-- and writes at most as many bytes as RAM has.
none_written : (bytes : List ℕ) → bytes ≡ [] → length bytes ≤ 1048576
none_written bytes f = (let z = ap (λ (l : List ℕ). length l) f in omega (arith, z))

few_written : (call : FileCall) (at : ℕ) (bytes : List ℕ) → InRam call at → HasBytes call bytes → length bytes ≤ 1048576
few_written (Write d n) at bytes range has = omega (arith, range, has)
few_written (Open name mode) at bytes range has = none_written bytes has
few_written (Delete name) at bytes range has = none_written bytes has
few_written (Close d) at bytes range has = none_written bytes has
few_written (Read d n) at bytes range has = none_written bytes has
few_written (Getc d) at bytes range has = none_written bytes has
few_written (Putc d b) at bytes range has = none_written bytes has
few_written (Seek d n) at bytes range has = none_written bytes has
few_written (Truncate d) at bytes range has = none_written bytes has
few_written (Size d) at bytes range has = none_written bytes has

first_bytes : (calls : List FileRequest) (w : FileWork) → IsFirst calls w → AllByRecursion IsFileRequest calls → length w.bytes ≤ 1048576
first_bytes [] w first right = none_written w.bytes first.1
first_bytes (a ∷ calls) w first right = few_written a.call a.at w.bytes right.0.range first.1

pub few_bytes : (w : FileWork) → IsSoundWork w → length w.bytes ≤ 1048576
few_bytes w k = first_bytes w.calls w k.first k.calls

-- One further call that takes effect is one less to come.
pub next_one : (k n : ℕ) (x : FileStep) → n < k → next_effects (k - n) x ≡ next_effects (k - (n + 1)) (first_effect x.work.calls Next x)
next_one k n x h = (let same : k - n ≡ suc (k - (n + 1)) = omega (arith, h) in ap (λ m. next_effects m x) same)
