-- What the engine has of a disk, once a part of it is another, and while a block is wanted.
use Rattle.std.proofs.Common.{◌≡◌, ℕ, List, length, refl, subst, Option}
use Rattle.local_files.specs.declared.OpenFile.{OpenFile}
use Rattle.local_files.specs.declared.Files.{Files}
use Rattle.local_files.specs.declared.Phase.{Phase}
use Rattle.local_files.specs.declared.Phase.TheVariants.{Wants}
use Rattle.local_files.specs.declared.Purpose.{Purpose}
use Rattle.local_files.specs.Standing.{AreOpenOn, HasDisk, Stands, IsWanted, InHand}

-- the disk is as it was when the call began
abbrev pub at_base : {n : ℕ} {devices : List (Option OpenFile)} {out bytes base disk : List ℕ} → HasDisk n devices out bytes base disk → HasDisk n devices out bytes base base
at_base h = record { opened = h.opened; whole = refl; outgoing = h.outgoing; buffer = h.buffer }

-- another disk of its size
abbrev pub with_disk : {n : ℕ} {devices : List (Option OpenFile)} {out bytes base disk made : List ℕ} → HasDisk n devices out bytes base disk → length made ≡ length base
    → HasDisk n devices out bytes base made
with_disk h long = record { opened = h.opened; whole = long; outgoing = h.outgoing; buffer = h.buffer }

-- another block is to be written
abbrev pub with_block : {n : ℕ} {devices : List (Option OpenFile)} {out bytes base disk block : List ℕ} → HasDisk n devices out bytes base disk → length block ≡ 512
    → HasDisk n devices block bytes base disk
with_block h long = record { opened = h.opened; whole = h.whole; outgoing = long; buffer = h.buffer }

-- the buffer has other bytes
abbrev pub with_buffer : {n : ℕ} {devices : List (Option OpenFile)} {out bytes base disk held : List ℕ} → HasDisk n devices out bytes base disk → length held ≡ 1048576
    → HasDisk n devices out held base disk
with_buffer h long = record { opened = h.opened; whole = h.whole; outgoing = h.outgoing; buffer = long }

-- the call is done, and the next one begins on the disk that it made
abbrev pub on_made : {n : ℕ} {devices after : List (Option OpenFile)} {out bytes base disk made : List ℕ} → HasDisk n devices out bytes base disk
    → AreOpenOn n after made → HasDisk n after out bytes made made
on_made h files = record { opened = files; whole = refl; outgoing = h.outgoing; buffer = h.buffer }

-- what is so while a block is wanted
pub in_hand : {e : Files} {base disk : List ℕ} {purpose : Purpose} → e.phase ≡ Wants purpose → Stands e base disk
    → IsWanted purpose e base disk
in_hand {e} {base} {disk} phase s = let H : Phase → Type 0 = λ p. InHand p e base disk in subst H phase s.hand
