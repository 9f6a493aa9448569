-- What is kept and what is left give what stays of all, and each can be carried out.
use Rattle.std.proofs.Common.{◌≡◌, ◌≤◌, drop, map}
use Rattle.arrayvec.specs.ArrayVec.{array_vec_len}
use Rattle.file_server.specs.Requests.{AreRequests, kept_after, request_of}
use Rattle.xinu_model.specs.Files.Work.{FileRequest, orphaned_call}
use Rattle.xinu_model.specs.RawDisk.Callers.{given_up}
use Rattle.file_server.proofs.server.FileServer.forget.Given as goal

abbrev pub invariant-loop-r : goal.invariant-loop-r
invariant-loop-r l = record {
  short : array_vec_len l.kept ≤ l.r-index;
  left : kept_after l.p (map request_of l.kept.items) (map request_of (drop l.r-index l.r-items))
      ≡ given_up (λ (a : FileRequest). a.caller) orphaned_call l.p (map request_of l.r-items);
  kept : AreRequests l.kept.items;
  rest : AreRequests (drop l.r-index l.r-items);
}
