-- What a run deserves once its inputs were read: the machine starts, or it doesn't. What is asked of its output changes no refusal.
use Rattle.std.specs.Prelude.{List}
use Rattle.xinu_base.specs.declared.events.Event.{Event}
use Rattle.xinu_model.specs.Boot.{Disks, Loaded, Start, Boots, Overlaps, NoRoom, boot_on}
use Rattle.xinu_commands.specs.InputVerdict.{Next}
use Rattle.xinu_commands.specs.Work.{Verdict, Refuses, Does, Runs, Wanted}
use Rattle.run_inputs.specs.declared.refusals.Refusal.TheVariants as refusal

-- what a run goes on besides its events and its images: its disks, and what is asked of it
pub record Setup : Type 0 where
  pub disks : Disks
  pub wanted : Wanted

-- the machine starts, or it doesn't
abbrev pub start_verdict : Wanted → List Event → Start → Verdict
start_verdict wanted events (Boots start) = Does (Runs wanted start events)
start_verdict wanted events (Overlaps i) = Refuses (refusal.Overlap i)
start_verdict wanted events (NoRoom i) = Refuses (refusal.NoRoom i)

-- the images are loaded, and run through the events
unfoldable pub boot_verdict : Setup → List Event → List Loaded → Verdict
boot_verdict s events images = start_verdict s.wanted events (boot_on s.disks images)

-- What a run deserves after its inputs.
abbrev pub run_verdict : Wanted → Next
run_verdict wanted events disks images = boot_verdict (record { disks = disks; wanted = wanted }) events images
