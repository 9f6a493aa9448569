-- The devices' part of the state: the console, the name space, the raw disk, and the file system with its calls under way.
use Rattle.std.specs.Prelude.{List, [], replicate, ℕ}
use Rattle.xinu_model.specs.Console.State.{Console, first_console}
use Rattle.xinu_model.specs.Files.Systems.{closed_system}
use Rattle.xinu_model.specs.Files.Work.{FileWork, calls_given_up}
use Rattle.xinu_model.specs.Names.Mounting.{NameRow}
use Rattle.xinu_model.specs.RawDisk.Constants.{RD_BLKSIZ}
use Rattle.xinu_model.specs.RawDisk.Requests.{RawDisk, requests_given_up}

-- The console, the mounted prefixes, the raw disk, and the files with the calls on them.
pub record Devices : Type 0 where
  pub console : Console
  pub names : List NameRow
  pub disk : RawDisk
  pub files : FileWork

-- what is left of what p asked of disks, once it died
abbrev pub given_up : ℕ → Devices → Devices
given_up p d = record d { disk = requests_given_up p d.disk; files = calls_given_up p d.files }

-- the blocks of a raw disk on which nothing was written
unfoldable pub empty_blocks : List (List ℕ)
empty_blocks = replicate 64 (replicate RD_BLKSIZ 0)

-- The devices at the start: nothing is mounted, no request and no call on files is under way, the raw disk has 64 empty blocks, and the file
-- system's disk has 256 blocks and no file.
abbrev pub first_devices : Devices
first_devices = record {
  console = first_console;
  names = [];
  disk = record { blocks = empty_blocks; requests = [] };
  files = record { system = closed_system 256 []; calls = []; turns = 0; bytes = [] };
}
