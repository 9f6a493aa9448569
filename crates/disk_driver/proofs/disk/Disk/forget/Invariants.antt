-- What is kept and what is left give what stays of all.
use Rattle.std.proofs.Common.{◌≡◌, ◌≤◌, drop, map}
use Rattle.arrayvec.specs.ArrayVec.{array_vec_len}
use Rattle.disk_driver.specs.Served.{kept_after, request_of}
use Rattle.xinu_model.specs.RawDisk.Callers.{given_up}
use Rattle.xinu_model.specs.RawDisk.Requests.{orphaned_request, Request}
use Rattle.disk_driver.proofs.disk.Disk.forget.Given as goal

abbrev pub invariant-loop-r : goal.invariant-loop-r
invariant-loop-r l = record {
  short : array_vec_len l.kept ≤ l.r-index;
  left : kept_after l.p (map request_of l.kept.items) (map request_of (drop l.r-index l.r-items))
      ≡ given_up (λ (r : Request). r.caller) orphaned_request l.p (map request_of l.r-items);
}
