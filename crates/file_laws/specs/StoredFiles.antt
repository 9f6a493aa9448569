-- The files of a disk of version 2, as the abstract machine has them.
use Rattle.std.specs.Prelude.{ℕ, ◌+◌, ◌%◌, List, map}
use Rattle.lfs_format.specs.declared.Entry.{Entry}
use Rattle.lfs_check.specs.declared.fields.Header.{Header}
use Rattle.lfs_check.specs.Meets.{null}
use Rattle.lfs_check.specs.Clean.{chain_in, data_in}
use Rattle.lfs_check.specs.Fields.{geometry_of, fields_of}
use Rattle.lfs_layout.specs.Files.{File, bare_name, content_of, files_of}
use Rattle.xinu_model.specs.Files.Stored.{StoredFile}

-- a file without the zeros after its name
abbrev pub stored : File → StoredFile
stored f = record { name = bare_name f.name; bytes = f.bytes }

-- the files of a disk, in the order of their names
unfoldable pub stored_files : List ℕ → List StoredFile
stored_files disk = map stored (files_of disk)

-- the bytes of the file of an entry, as they are read off a disk
abbrev pub entry_bytes : List ℕ → Entry → List ℕ
entry_bytes disk e = content_of (geometry_of disk) (fields_of (geometry_of disk) disk).indexes disk e

-- its index blocks
abbrev pub entry_chain : List ℕ → Entry → List ℕ
entry_chain disk e = chain_in (geometry_of disk) (fields_of (geometry_of disk) disk).indexes e

-- its data blocks
abbrev pub entry_data : List ℕ → Entry → List ℕ
entry_data disk e = data_in (geometry_of disk) (fields_of (geometry_of disk) disk).indexes e

-- the entry of an empty file
abbrev pub empty_entry : List ℕ → Entry
empty_entry name = record { size = 0; first = null; name = name }

-- the counts with one file more
abbrev pub one_more : Header → Header
one_more h = record h { files = (h.files + 1) % 4294967296 }
