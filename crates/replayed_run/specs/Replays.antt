-- What a run that can be had again keeps true.
use Rattle.std.specs.Prelude.{◌≡◌, ◌≤◌, drop, false, length, map}
use Rattle.given_disks.specs.Disks.{disks_of}
use Rattle.replayed_run.specs.Replayed.{IsReplayed, Replayed}
use Rattle.replayed_run.specs.Texts.{HasNoMore, kept}
use Rattle.replayed_run.specs.declared.replay.Replay.TheInside.{Inside}
use Rattle.run_inputs.specs.InputFaults.{have_fault}

-- its inputs, how many events were taken, the state of its machine, and what is known of what its events printed
abbrev pub replayed_of : Inside → Replayed
replayed_of r = record {
  disks = disks_of r.inputs.disk0 r.inputs.disk1;
  files = map (λ v. v.items) r.inputs.images.items;
  events = r.inputs.schedule;
  taken = r.taken;
  state = r.machine.state;
  over = r.machine.over;
  told = kept r.texts r.texts.far;
  known = r.is_known;
}

-- The events that are left are those that weren't taken, and the state is that of a run of those that were.
pub record IsReplay (r : Inside) : Type 0 where
  pub some : 1 ≤ length r.inputs.images.items
  pub few : length r.inputs.images.items ≤ 8
  pub good : have_fault (map (λ v. v.items) r.inputs.images.items) ≡ false
  pub most : length r.inputs.schedule ≤ 1000000000
  pub within : r.taken ≤ length r.inputs.schedule
  pub left : r.left ≡ drop r.taken r.inputs.schedule
  pub counted : r.machine.events ≡ r.taken
  pub over : r.machine.over ≡ r.has_ended
  pub no_more : HasNoMore r.texts
  pub replayed : IsReplayed (replayed_of r)
