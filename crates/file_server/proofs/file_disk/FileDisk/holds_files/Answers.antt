use Rattle.std.proofs.Common.{◌≡◌, ◌/◌, length, refl, subst, arith}
use Rattle.file_server.specs.DiskStates.{DiskState, HasFewTurns, IsFirstHeld}
use Rattle.file_server.proofs.Held.{held_files}
use Rattle.file_server.proofs.Turns.{few_turns}
use Rattle.given_disks.specs.HeldFiles.{HoldsFiles}
use Rattle.local_files.specs.Hands.{system}
use Rattle.xinu_model.specs.Files.Work.{FileWork}
use Rattle.file_server.proofs.file_disk.FileDisk.holds_files.Goals as goal

pub returns : goal.returns
returns c =
    let e = c.self.inside.files in let base = c.self.inside.settled.items in let s = c.self.invariant.stands in
    let blocks : e.blocks ≡ length base / 512 = (let b = s.blocks in omega (arith, b)) in
    let P : DiskState → Type 0 = λ v. (w : FileWork) → w.system ≡ v.system → IsFirstHeld v.hand w.calls → HoldsFiles v.image w in
    let Q : DiskState → Type 0 = λ v. HasFewTurns v.system in
    record {
      holds = subst P c.self.view_is (held_files e base c.self.inside.disk.items s c.self.invariant.taken c.holds_files_at_rest.ensures.work);
      few = subst Q c.self.view_is (λ call at within. few_turns call at (system e base) base s.clean blocks refl within);
    }
