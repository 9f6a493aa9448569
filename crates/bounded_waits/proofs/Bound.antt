-- No call on files has more good completions than the bound of its disk.
use Rattle.std.proofs.Common.{◌≡◌, ℕ, ◌+◌, ◌≤◌, List, [], ◌∷◌, length, Option, Some, None, arith}
use Rattle.std.specs.List.{find}
use Rattle.std.specs.Prelude.{nat_le}
use Rattle.std.proofs.lemmas.Bool.{and_parts, cond_both, leb-true}
use Rattle.xinu_model.specs.Files.Calls.{FileCall, Open, Delete, Close, Read, Write, Getc, Putc, Seek, Truncate, Size}
use Rattle.xinu_model.specs.Files.Room.{data_blocks, index_blocks, data_room, index_room, data_needed, index_needed}
use Rattle.xinu_model.specs.Files.Sound.{IsSoundFiles, IsFileRequest}
use Rattle.xinu_model.specs.Files.Stored.{StoredFile, bytes_in, file_named, is_named}
use Rattle.xinu_model.specs.Files.Systems.{OpenFile, FileSystem, open_at}
use Rattle.xinu_model.specs.Files.Work.{FileRequest, byte_count, size_at, size_for, most_turns}
use Rattle.xinu_model.specs.Memory.{ram_size}
use Rattle.xinu_model.specs.Sound.Tables.{total}
use Rattle.bounded_waits.specs.Places.{most_completions}

-- a file needs no more than all files
one_of_total : (need : ℕ → ℕ) → need 0 ≡ 0 → (name : List ℕ) (files : List StoredFile)
    → need (length (bytes_in (file_named name files))) ≤ total (λ (f : StoredFile). need (length f.bytes)) files
one_of_total need none name [] = omega (arith, none)
one_of_total need none name (f ∷ files) =
    let rest = one_of_total need none name files in
    cond_both (is_named name f) (Some f) (find (is_named name) files)
    (λ o. need (length (bytes_in o)) ≤ need (length f.bytes) + total (λ (g : StoredFile). need (length g.bytes)) files)
    (λ _. omega arith) (λ _. omega (arith, rest))

-- So no file needs more than a disk has.
file_fits : (name : List ℕ) (s : FileSystem) → IsSoundFiles s → (let n = length (bytes_in (file_named name s.files)) in
    data_blocks n + index_blocks n ≤ data_room s.blocks + index_room s.blocks)
file_fits name s k =
    let both = and_parts (nat_le (data_needed s.files) (data_room s.blocks)) (nat_le (index_needed s.files) (index_room s.blocks)) k.fit in
    let d = leb-true (data_needed s.files) (data_room s.blocks) both.0 in
    let i = leb-true (index_needed s.files) (index_room s.blocks) both.1 in
    let a = one_of_total data_blocks (omega arith) name s.files in
    let b = one_of_total index_blocks (omega arith) name s.files in
    omega (arith, d, i, a, b)

nothing_fits : (s : FileSystem) → data_blocks 0 + index_blocks 0 ≤ data_room s.blocks + index_room s.blocks
nothing_fits s = omega arith

open_fits : (o : Option OpenFile) (s : FileSystem) → IsSoundFiles s
    → data_blocks (size_at o s) + index_blocks (size_at o s) ≤ data_room s.blocks + index_room s.blocks
open_fits None s k = nothing_fits s
open_fits (Some f) s k = file_fits f.name s k

named_fits : (call : FileCall) (s : FileSystem) → IsSoundFiles s
    → data_blocks (size_for call s) + index_blocks (size_for call s) ≤ data_room s.blocks + index_room s.blocks
named_fits (Open name mode) s k = file_fits name s k
named_fits (Delete name) s k = file_fits name s k
named_fits (Close d) s k = open_fits (open_at s d) s k
named_fits (Read d n) s k = open_fits (open_at s d) s k
named_fits (Write d n) s k = open_fits (open_at s d) s k
named_fits (Getc d) s k = open_fits (open_at s d) s k
named_fits (Putc d b) s k = open_fits (open_at s d) s k
named_fits (Seek d n) s k = open_fits (open_at s d) s k
named_fits (Truncate d) s k = open_fits (open_at s d) s k
named_fits (Size d) s k = open_fits (open_at s d) s k

-- bytes that RAM has need no more blocks than all of RAM
few_blocks : (at n : ℕ) → at + n ≤ ram_size → data_blocks n ≤ data_blocks ram_size
few_blocks at n h = omega arith

ram_fits : (at : ℕ) (call : FileCall) → IsFileRequest (record { caller = None; call = call; at = at }) → data_blocks (byte_count call) ≤ data_blocks ram_size
ram_fits at (Open name mode) is = omega arith
ram_fits at (Delete name) is = omega arith
ram_fits at (Close d) is = omega arith
ram_fits at (Read d n) is = few_blocks at n is.range
ram_fits at (Write d n) is = few_blocks at n is.range
ram_fits at (Getc d) is = omega arith
ram_fits at (Putc d b) is = omega arith
ram_fits at (Seek d n) is = omega arith
ram_fits at (Truncate d) is = omega arith
ram_fits at (Size d) is = omega arith

pub turns_bounded : (a : FileRequest) (s : FileSystem) → IsSoundFiles s → IsFileRequest a → most_turns a.call s ≤ most_completions s.blocks
turns_bounded a s k is =
    let f = named_fits a.call s k in
    let r = ram_fits a.at a.call (record { call = is.call; range = is.range }) in
    omega (arith, f, r)
