-- The steps of `open`, `delete`, `close`, `seek` and the size, and the end of a call that wrote the directory.
use Rattle.std.specs.Prelude.{ℕ, ◌≡◌, ◌+◌, ◌-◌, ◌*◌, ◌<◌, ◌≤◌, Bool, true, false, nat_le, nat_lt, ◌||◌, if◌then◌else◌, List, Option, Some, None, slice_index_or, ℤ, pos, negsuc}
use Rattle.lfs_format.specs.declared.Entry.{Entry}
use Rattle.lfs_format.specs.Directory.{void_entry}
use Rattle.lfs_check.specs.Rules.{entry_is_used}
use Rattle.xinu_model.specs.Files.Modes.{reads, writes}
use Rattle.file_laws.specs.StoredFiles.{empty_entry, one_more}
use Rattle.local_files.specs.Steps.{named_device, is_write, is_truncate, answered, with_device, device_at, lowest_free, at_byte, counted, kept_at}
use Rattle.local_files.specs.Cuts.{cutting}
use Rattle.xinu_base.specs.declared.files.OpenMode.{OpenMode}
use Rattle.local_files.specs.declared.OpenFile.{OpenFile}
use Rattle.local_files.specs.declared.FileCall.{FileCall}
use Rattle.local_files.specs.declared.FileCall.TheVariants.{Open, Delete}
use Rattle.local_files.specs.declared.Files.{Files}
use Rattle.local_files.specs.declared.Phase.TheVariants.{Wants}
use Rattle.local_files.specs.declared.Purpose.TheVariants.{Search, EntryRead}

-- what a device has open at first
abbrev pub opening : ℕ → Entry → OpenMode → OpenFile
opening slot entry mode = record { slot = slot; entry = entry; position = 0; read = reads mode; write = writes mode }

-- the lowest free device gets an entry
abbrev pub opened : ℕ → Entry → OpenMode → Files → Files
opened slot entry mode e = answered (pos (4 + lowest_free e)) (with_device (lowest_free e) (Some (opening slot entry mode)) e)

-- the same, if there is such a device
abbrev pub opening_at : ℕ → Entry → OpenMode → Files → Files
opening_at slot entry mode e = if nat_lt (lowest_free e) 6 then opened slot entry mode e else answered (negsuc 0) e

-- `close` of a device
abbrev pub closing : Option OpenFile → ℕ → Files → Files
closing None d e = answered (negsuc 0) e
closing (Some f) d e = answered (pos 0) (with_device d None e)

-- `seek` in an open file
abbrev pub seeking_in : OpenFile → ℕ → ℤ → Files → Files
seeking_in f d (negsuc n) e = answered (negsuc 0) e
seeking_in f d (pos n) e = if nat_lt f.entry.size n then answered (negsuc 0) e else answered (pos 0)
    (with_device d (Some (record f { position = n })) e)

-- `seek` of a device
abbrev pub seeking : Option OpenFile → ℕ → ℤ → Files → Files
seeking None d n e = answered (negsuc 0) e
seeking (Some f) d n e = seeking_in f d n e

-- the size of what a device has open
abbrev pub sizing : Option OpenFile → Files → Files
sizing None e = answered (negsuc 0) e
sizing (Some f) e = answered (counted f.entry.size) e

-- a name is looked for
abbrev pub looking : FileCall → Files → Files
looking call e = record e { call = call; slot = 78; phase = Wants (Search 0) }

-- an open begins: refused if the file is open or no device is free
abbrev pub beginning : Bool → FileCall → Files → Files
beginning is_open call e = if is_open || nat_le 6 (lowest_free e) then answered (negsuc 0) e else looking call e

-- a deletion begins: refused if the file is open
abbrev pub deleting : Bool → FileCall → Files → Files
deleting is_open call e = if is_open then answered (negsuc 0) e else looking call e

-- a name that is there
abbrev pub finding : FileCall → ℕ → Entry → Files → Files
finding (Open name mode) slot entry e = if mode.only_new then answered (negsuc 0) e else opening_at slot entry mode e
finding (Delete name) slot entry e = cutting entry (record e { slot = slot; entry = entry })
finding _ slot entry e = answered (negsuc 0) e

-- a name that isn't there
abbrev pub missing : FileCall → Files → Files
missing (Open name mode) e =
    if mode.only_old || nat_le 78 e.slot then answered (negsuc 0) e else record e {
      entry = empty_entry name;
      header = one_more e.header;
      phase = Wants EntryRead;
    }
missing _ e = answered (negsuc 0) e

-- the search goes on, or has passed the last block
abbrev pub searching_on : ℕ → Files → Files
searching_on d e = if nat_lt d 5 then record e { phase = Wants (Search (d + 1)) } else missing e.call e

-- a call on a device that wrote the directory is done
abbrev pub ended_at : Option ℕ → Files → Files
ended_at None e = answered (pos 0) e
ended_at (Some d) e =
    answered (if is_write e.call then counted e.counters.done else pos 0) (kept_at (device_at e d) d (if is_truncate e.call then 0 else at_byte e) e)

-- a call that wrote the directory is done
abbrev pub ended : FileCall → Files → Files
ended (Open name mode) e = opening_at e.slot e.entry mode e
ended call e = ended_at (named_device call) e

-- a call that looks for a name
abbrev pub IsLook : FileCall → Type 0
IsLook (Open name mode) = Unit {0}
IsLook (Delete name) = Unit {0}
IsLook _ = ⊥

-- a place for a new file after a directory block, by that before it
pub record IsNoted (d before after : ℕ) (es : List Entry) : Type 0 where
  pub kept : before < 78 → after ≡ before
  pub found : 78 ≤ before → after < 78 → (13 * d ≤ after) × (after < 13 * d + 13)
      × (entry_is_used (slice_index_or es (after - 13 * d) void_entry) ≡ false)
  pub none : 78 ≤ after → (k : ℕ) → k < 13 → entry_is_used (slice_index_or es k void_entry) ≡ true
