use Rattle.std.proofs.Common.{◌≡◌, ◌∙◌, Option, ap, subst}
use Rattle.std.specs.Prelude.{count_by, is_some, nat_lt}
use Rattle.std.specs.List.{list_any}
use Rattle.file_server.proofs.Places.{any_open}
use Rattle.file_server.specs.DiskStates.{DiskState}
use Rattle.xinu_model.specs.Files.Systems.{OpenFile}
use Rattle.file_server.proofs.file_disk.FileDisk.has_open.Goals as goal

pub returns : goal.returns
returns c =
    let n = count_by is_some c.self.inside.files.devices in
    record {
      any = ap (nat_lt 0) c.open_count.ensures
          ∙ subst (λ (v : DiskState). nat_lt 0 n ≡ list_any (λ (x : Option OpenFile). is_some x) v.system.devices) c.self.view_is (any_open c.self.inside.files.devices);
    }
