-- At the start the clock and the numbers of the ports are at 0, and the disk has the blocks that it is given.
use Rattle.std.proofs.Common.{◌≡◌, ◌∙◌, ◌≤◌, List, sym, ap, arith}
use Rattle.table_laws.proofs.Tables.Starts.{boots_from}
use Rattle.reference_check.specs.Bounds.{IsWithin}
use Rattle.xinu_laws.proofs.Touches.Boot.{boot_numbers, boot_ticks}
use Rattle.xinu_model.specs.Boot.{Boots, Disks, Loaded, boot, boot_on, on_disks}
use Rattle.xinu_model.specs.Files.Syscalls.{files_of}
use Rattle.xinu_model.specs.Machine.{Xinu}
use Rattle.xinu_model.specs.Ports.Queues.{port_at}
use Rattle.xinu_model.specs.Sound.State.{IsSound}

-- A start that is sound, on a disk with files of at most 65542 blocks, is within the bounds of a state before any event.
pub within_start : (disks : Disks) (images : List Loaded) (start : Xinu) → disks.size ≤ 65542 → IsSound start → boot_on disks images ≡ Boots start
    → IsWithin 0 start
within_start disks images start few sound e =
    let b = boots_from (boot images) (λ s. Boots (on_disks disks s)) start e in
    let same : on_disks disks b.0 ≡ start = cc in
    let ticks : start.tables.ticks ≡ 0 = ap (λ (s : Xinu). s.tables.ticks) (sym same) ∙ boot_ticks images b.0 b.1 in
    let blocks : (files_of start).system.blocks ≡ disks.size = ap (λ (s : Xinu). (files_of s).system.blocks) (sym same) in
    record {
      sound = sound;
      ticks = omega (arith, ticks);
      numbers = λ q. (let n : (port_at start.parts.ports q).seq ≡ 0 = ap (λ (s : Xinu). (port_at s.parts.ports q).seq) (sym same) ∙ boot_numbers images b.0 b.1 q in omega (arith, n));
      blocks = omega (arith, blocks, few);
    }
