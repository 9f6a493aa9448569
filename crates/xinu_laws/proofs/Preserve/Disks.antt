-- The machine starts in a sound state on any sound disks, and on those that it has if it is given none as without them.
use Rattle.std.proofs.Common.{◌≡◌, ◌<◌, ◌∙◌, List, [], length, refl, sym, ap, subst}
use Rattle.xinu_base.specs.Constants.{NPROC}
use Rattle.xinu_model.specs.Boot.{Loaded, Boots, Disks, first_disks, on_disks, boot, boot_on, and_then}
use Rattle.xinu_model.specs.Devices.State.{Devices, first_devices}
use Rattle.xinu_model.specs.Files.Work.{callers_waiting}
use Rattle.xinu_model.specs.Machine.{Xinu}
use Rattle.xinu_model.specs.RawDisk.Requests.{requesters}
use Rattle.xinu_model.specs.Sound.State.{IsSound}
use Rattle.part_laws.specs.GivenDisks.{AreSoundDisks}
use Rattle.xinu_laws.proofs.Preserve.Events.{sound_boot}
use Rattle.xinu_laws.proofs.RawDisks.Started.{start_devices}
use Rattle.table_laws.proofs.Tables.Starts.{boots_from}

-- a sound state of which nothing was asked is sound on other disks
sound_on : (d : Disks) (s : Xinu) → AreSoundDisks d → s.parts.devices.disk.requests ≡ [] → s.parts.devices.files.calls ≡ [] → IsSound s
    → IsSound (on_disks d s)
sound_on d s good requests calls k = record {
  tables = k.tables;
  harts = k.harts;
  unused = k.unused;
  pools = k.pools;
  ports = k.ports;
  devices = record {
    console = k.devices.console;
    names = k.devices.names;
    disk = record {
      itself = record { blocks = good.blocks; requests = tt; callers = tt };
      waiters = k.devices.disk.waiters ∙ ap requesters requests;
      tokens = k.devices.disk.tokens;
      replies = k.devices.disk.replies;
    };
    files = record {
      itself = record { system = good.files; calls = tt; callers = tt; first = (refl, refl) };
      waiters = k.devices.files.waiters ∙ ap callers_waiting calls;
      tokens = k.devices.files.tokens;
    };
  };
  ram = k.ram;
}

-- The machine starts in a sound state.
pub sound_boot_on : (disks : Disks) (images : List Loaded) (start : Xinu) → length images < NPROC → AreSoundDisks disks
    → boot_on disks images ≡ Boots start → IsSound start
sound_boot_on disks images start few good e =
    let b = boots_from (boot images) (λ s. Boots (on_disks disks s)) start e in
    let is : on_disks disks b.0 ≡ start = cc in
    let devices = start_devices images b.0 b.1 in
    subst IsSound is (sound_on disks b.0 good (ap (λ (d : Devices). d.disk.requests) devices) (ap (λ (d : Devices). d.files.calls) devices)
    (sound_boot images b.0 few b.1))

-- the disks that it is given are those that it has
on_first : (s : Xinu) → s.parts.devices ≡ first_devices → on_disks first_disks s ≡ s
on_first s e =
    ap (λ (d : Devices). record s { parts = record s.parts { devices = record d { disk = first_devices.disk; files = first_devices.files } } }) e
    ∙ ap (λ (d : Devices). record s { parts = record s.parts { devices = d } }) (sym e)

-- It starts on the disks that it has if it is given none as without them.
pub boot_on_first : (images : List Loaded) (start : Xinu) → boot images ≡ Boots start → boot_on first_disks images ≡ Boots start
boot_on_first images start e =
    ap (λ x. and_then x (λ s. Boots (on_disks first_disks s))) e ∙ ap Boots (on_first start (start_devices images start e))
