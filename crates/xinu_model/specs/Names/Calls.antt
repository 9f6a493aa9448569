-- The name space as processes call it (book, chapter 21, `mount.c`, `namopen.c`).
use Rattle.std.specs.Prelude.{ℕ, if◌then◌else◌, List, Option, Some, None, is_some}
use Rattle.xinu_base.specs.Constants.{OK}
use Rattle.xinu_model.specs.Devices.Table.{kind_of}
use Rattle.xinu_model.specs.Devices.Texts.{text_at}
use Rattle.xinu_model.specs.Machine.{Xinu, CallResult, refused}
use Rattle.xinu_model.specs.Names.Mounting.{NameRow, mounted}
use Rattle.xinu_model.specs.Semaphores.Calls.{answers}

-- the mounted prefixes of a state, and the state with others
abbrev pub names_of : Xinu → List NameRow
names_of s = s.parts.devices.names

abbrev pub with_names : List NameRow → Xinu → Xinu
with_names rows s = record s { parts = record s.parts { devices = record s.parts.devices { names = rows } } }

-- the prefixes with one more, if it may be mounted
abbrev pub mount_rows : Option (List NameRow) → Xinu → CallResult
mount_rows None s = refused s
mount_rows (Some rows) s = answers OK (with_names rows s)

-- a prefix and what takes its place, if both texts are there
abbrev pub mount_texts : Option (List ℕ) → Option (List ℕ) → ℕ → Xinu → CallResult
mount_texts None replacement dev s = refused s
mount_texts (Some prefix) None dev s = refused s
mount_texts (Some prefix) (Some replacement) dev s =
    mount_rows (mounted (record { prefix = prefix; replacement = replacement; device = dev }) (names_of s)) s

-- Call 44: the text at an address is mounted as a prefix, with another text in its place, for a device. Refused if there is no such device, a
-- text isn't there or is too long, or there are as many prefixes as there can be.
abbrev pub mount : ℕ → ℕ → ℕ → Xinu → CallResult
mount prefix replacement dev s =
    if is_some (kind_of dev) then mount_texts (text_at prefix s.memory) (text_at replacement s.memory) dev s else refused s
