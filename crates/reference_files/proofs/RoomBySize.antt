-- Whether files fit after a write, told by their sizes.
use Rattle.std.proofs.Common.{◌≡◌, ℕ, zero, suc, ◌<◌, ◌≤◌, ◌+◌, ◌-◌, Bool, true, false, if◌then◌else◌, List, [], ◌∷◌, drop, drop-cons, length, take, refl, sym, ap, ◌∙◌, arith, inl, inr}
use Rattle.std.proofs.lemmas.Bool.{cases_lt, cond_both}
use Rattle.std.proofs.lemmas.Bool.Decides.{nat_tests}
use Rattle.std.proofs.lemmas.List.{length-append, length-drop, length-take}
use Rattle.std.specs.Prelude.{nat_le, ◌&&◌, slice_index_or}
use Rattle.xinu_model.specs.Files.Room.{data_blocks, data_needed, data_room, index_blocks, index_room}
use Rattle.xinu_model.specs.Files.Stored.{StoredFile, is_named, rewritten, with_contents}
use Rattle.xinu_model.specs.Files.Systems.{FileSystem, OpenFile, open_bytes}
use Rattle.xinu_model.specs.Files.Writing.{files_with, greatest, have_room, overwritten}
use Rattle.xinu_model.specs.Sound.Tables.{total}
use Rattle.reference_files.specs.Sizes.{blocks_with, is_room, size_with, written_size}

-- a file after a write is as long as its parts
pub overwritten_size : (position : ℕ) (new old : List ℕ)
    → length (overwritten position new old) ≡ written_size position (length new) (length old)
overwritten_size position new old = simp (length-append, length-take, length-drop)

resized : (name new : List ℕ) (f : StoredFile) → length (rewritten name new f).bytes ≡ size_with name (length new) f
resized name new f =
    cond_both (is_named name f) (record f { bytes = new }) f (λ (x : StoredFile). length x.bytes ≡ size_with name (length new) f)
    (λ e. ap (λ b. if b then length new else length f.bytes) (sym e)) (λ e. ap (λ b. if b then length new else length f.bytes) (sym e))

-- the blocks that files need of which one has other bytes
blocks_after : (blocks : ℕ → ℕ) (name new : List ℕ) (files : List StoredFile)
    → total (λ (f : StoredFile). blocks (length f.bytes)) (with_contents name new files) ≡ blocks_with blocks name (length new) files
blocks_after blocks name new [] = refl
blocks_after blocks name new (f ∷ files) =
    let h = ap blocks (resized name new f) in
    let i = blocks_after blocks name new files in
    omega (arith, h, i)

-- those of the file at a place, and of the ones behind it
pub blocks_at : (blocks : ℕ → ℕ) (name : List ℕ) (size : ℕ) (files : List StoredFile) (i : ℕ) (f : StoredFile) → i < length files
    → slice_index_or files i f ≡ f
    → blocks_with blocks name size (drop i files) ≡ blocks (size_with name size f) + blocks_with blocks name size (drop (i + 1) files)
blocks_at blocks name size files i f h is =
    let next : suc i ≡ i + 1 = omega arith in
    ap (λ l. blocks_with blocks name size l) (drop-cons files i f h)
    ∙ ap (λ (x : StoredFile). blocks_with blocks name size (x ∷ drop (suc i) files)) is
    ∙ ap (λ n. blocks (size_with name size f) + blocks_with blocks name size (drop n files)) next

-- Whether there is room is told by sizes.
pub room_by_size : (f : OpenFile) (new : List ℕ) (s : FileSystem)
    → is_room f.name (written_size f.position (length new) (length (open_bytes f s))) s ≡ have_room f new s
room_by_size f new s =
    let all = overwritten f.position new (open_bytes f s) in
    ap (λ n. is_room f.name n s) (sym (overwritten_size f.position new (open_bytes f s)))
    ∙ ap (λ n. nat_le n (data_room s.blocks) && nat_le (blocks_with index_blocks f.name (length all) s.files) (index_room s.blocks))
    (sym (blocks_after data_blocks f.name all s.files))
    ∙ ap (λ n. nat_le (data_needed (files_with f new s)) (data_room s.blocks) && nat_le n (index_room s.blocks))
    (sym (blocks_after index_blocks f.name all s.files))

-- a file with more bytes needs no fewer blocks, and nor do files of which one has more bytes
data_blocks_grow : (m n : ℕ) → m ≤ n → data_blocks m ≤ data_blocks n
data_blocks_grow m n h = omega arith

index_blocks_grow : (m n : ℕ) → m ≤ n → index_blocks m ≤ index_blocks n
index_blocks_grow m n h = omega arith

blocks_grow : (blocks : ℕ → ℕ) (name : List ℕ) (m n : ℕ) (files : List StoredFile) → ((i j : ℕ) → i ≤ j → blocks i ≤ blocks j) → m ≤ n
    → blocks_with blocks name m files ≤ blocks_with blocks name n files
blocks_grow blocks name m n [] grow h = omega arith
blocks_grow blocks name m n (f ∷ files) grow h =
    let a = by_name (is_named name f) in let b = blocks_grow blocks name m n files grow h in omega (arith, a, b)
  where
    by_name : (b : Bool) → blocks (if b then m else length f.bytes) ≤ blocks (if b then n else length f.bytes)
    by_name true = grow m n h
    by_name false = omega arith

both_within : (a b c d i j : ℕ) → i ≤ a → j ≤ c → (nat_le a b && nat_le c d) ≡ true → (nat_le i b && nat_le j d) ≡ true
both_within a b c d i j h g e = grind (arith, nat_tests)

room_for_fewer : (name : List ℕ) (m n : ℕ) (s : FileSystem) → m ≤ n → is_room name n s ≡ true → is_room name m s ≡ true
room_for_fewer name m n s h e =
    both_within (blocks_with data_blocks name n s.files) (data_room s.blocks) (blocks_with index_blocks name n s.files) (index_room s.blocks)
    (blocks_with data_blocks name m s.files) (blocks_with index_blocks name m s.files)
    (blocks_grow data_blocks name m n s.files data_blocks_grow h) (blocks_grow index_blocks name m n s.files index_blocks_grow h) e

-- Where there is room for some bytes there is room for fewer,
written_fewer : (position m n size : ℕ) → m ≤ n → written_size position m size ≤ written_size position n size
written_fewer position m n size h = omega arith

have_room_fewer : (f : OpenFile) (bytes : List ℕ) (s : FileSystem) (m n : ℕ) → m ≤ n → n ≤ length bytes → have_room f (take n bytes) s ≡ true
    → have_room f (take m bytes) s ≡ true
have_room_fewer f bytes s m n h within e =
    let size = length (open_bytes f s) in
    let all : length (take n bytes) ≡ n = omega (arith, length-take n bytes) in
    let few : length (take m bytes) ≡ m = omega (arith, length-take m bytes) in
    let long = ap (λ k. is_room f.name (written_size f.position k size) s) (sym all) ∙ room_by_size f (take n bytes) s ∙ e in
    sym (room_by_size f (take m bytes) s) ∙ ap (λ k. is_room f.name (written_size f.position k size) s) few
    ∙ room_for_fewer f.name (written_size f.position m size) (written_size f.position n size) s (written_fewer f.position m n size h) long

-- so where there is none for some there is none for more.
pub no_room_for_more : (f : OpenFile) (bytes : List ℕ) (s : FileSystem) (m n : ℕ) → m ≤ n → n ≤ length bytes → have_room f (take m bytes) s ≡ false
    → have_room f (take n bytes) s ≡ false
no_room_for_more f bytes s m n h within e = by_room (have_room f (take n bytes) s) refl
  where
    by_room : (b : Bool) → have_room f (take n bytes) s ≡ b → b ≡ false
    by_room false g = refl
    by_room true g = absurd (let fewer = have_room_fewer f bytes s m n h within g in cc)

-- the greatest number that passes is this one if it passes, or none does
pub greatest_here : (test : ℕ → Bool) (k : ℕ) → (0 < k → test k ≡ true) → greatest test k ≡ k
greatest_here test zero h = refl
greatest_here test (suc k) h = ap (λ b. if b then suc k else greatest test k) (h (omega arith))

-- it is below another from which on none passes
pub greatest_below : (test : ℕ → Bool) (k n : ℕ) → 0 < k → k ≤ n → ((j : ℕ) → k ≤ j → j ≤ n → test j ≡ false)
    → greatest test (k - 1) ≡ greatest test n
greatest_below test k zero h g none = absurd (omega (arith, h, g))
greatest_below test k (suc n) h g none =
    let last = sym (ap (λ b. if b then suc n else greatest test n) (none (suc n) g (omega arith))) in
    elim (cases_lt n k) [
      | inl lt ↦ ap (greatest test) (let z : k - 1 ≡ n = omega arith in z) ∙ last
      | inr le ↦ greatest_below test k n h le (λ j i m. none j i (omega arith)) ∙ last
    ]
