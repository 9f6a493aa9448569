-- A run with the same inputs, and then once more.
use Rattle.std.proofs.Common.{◌∙◌}
use Rattle.replayed_run.specs.Replayed.{HasInputs, Replayed}

pub inputs_again : (a b c : Replayed) → HasInputs a.disks a.files a.events b → HasInputs b.disks b.files b.events c → HasInputs a.disks a.files a.events c
inputs_again a b c one two = record {
  same_disks = two.same_disks ∙ one.same_disks;
  same_files = two.same_files ∙ one.same_files;
  same_events = two.same_events ∙ one.same_events;
}
