-- No call has begun, and so many took effect one after another.
use Rattle.std.proofs.Common.{◌≡◌, ◌≤◌, ◌+◌, None}
use Rattle.arrayvec.specs.ArrayVec.{array_vec_len}
use Rattle.file_server.specs.Requests.{AreRequests}
use Rattle.file_server.specs.Starts.{WentOn, about_to}
use Rattle.file_server.proofs.starting.begin_next.Given as goal

abbrev pub invariant-loop : goal.invariant-loop
invariant-loop l = record {
  idle : l.disk.hand ≡ None;
  calls : AreRequests l.requests.items;
  room : array_vec_len l.notes + array_vec_len l.requests ≤ 64;
  went : WentOn (about_to l.fn.disk l.fn.requests.items l.fn.ram l.fn.notes.items) (about_to l.disk l.requests.items l.ram l.notes.items);
  image : l.disk.image ≡ l.fn.disk.image;
}

abbrev pub decreases-loop : goal.decreases-loop
decreases-loop l = array_vec_len l.requests
