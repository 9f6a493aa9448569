use Rattle.std.proofs.Common.{map, refl, subst}
use Rattle.file_server.specs.Requests.{request_of}
use Rattle.file_server.specs.ServerStates.{ServerState}
use Rattle.file_server.specs.Servers.{work_of}
use Rattle.file_server.proofs.Servers.{first_is_held}
use Rattle.given_disks.specs.HeldFiles.{HoldsFiles}
use Rattle.file_server.proofs.server.FileServer.holds.Goals as goal

pub returns : goal.returns
returns c =
    let d = c.self.inside.disk in let requests = c.self.inside.requests.items in
    let P : ServerState → Type 0 = λ v. HoldsFiles v.image v.work in
    record {
      holds = subst P c.self.view_is
          (c.holds_files.ensures.holds (work_of d requests c.self.inside.turns) refl
          (first_is_held d.hand (map request_of requests) c.self.inside.turns d.system c.self.invariant.first));
    }
