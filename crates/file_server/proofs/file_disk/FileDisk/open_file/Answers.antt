use Rattle.std.proofs.Common.{◌≡◌, Some, None, rules, subst}
use Rattle.file_server.proofs.Places.{place_closed, place_open}
use Rattle.file_server.specs.DiskStates.{DiskState}
use Rattle.file_server.specs.OpenFiles.{place_of}
use Rattle.local_files.specs.Steps.{device_at}
use Rattle.xinu_model.specs.Files.Systems.{open_at}
use Rattle.file_server.proofs.file_disk.FileDisk.open_file.Goals as goal

pub returns-in-None : goal.returns-in-None
returns-in-None c =
    let e = c.self.inside.files in
    let none : device_at e c.args.d ≡ None = search rules in
    record { place = subst (λ (v : DiskState). None ≡ place_of (open_at v.system c.args.d) v.system) c.self.view_is (place_closed e c.self.inside.settled.items c.args.d none) }

pub returns-in-Some : goal.returns-in-Some
returns-in-Some c =
    let e = c.self.inside.files in
    let f = c.in-Some.f in
    let some : device_at e c.args.d ≡ Some f = search rules in
    record {
      place = subst (λ (v : DiskState). Some (f.position, f.entry.size) ≡ place_of (open_at v.system c.args.d) v.system) c.self.view_is
          (place_open e c.self.inside.settled.items c.self.inside.disk.items c.args.d f c.self.invariant.stands some);
    }
