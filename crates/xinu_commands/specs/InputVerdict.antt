-- What the inputs of a run deserve, and so those of a check of a trace: by what they are judged to be, which is in Judging.antt of the crate run_inputs.
use Rattle.std.specs.Prelude.{ℕ, List, map}
use Rattle.given_disks.specs.Disks.{disks_of}
use Rattle.run_inputs.specs.InputFaults.{images_loaded}
use Rattle.run_inputs.specs.Judging.{Judged, Refused, Accepted, judged}
use Rattle.run_inputs.specs.declared.inputs.Inputs.{Inputs}
use Rattle.run_inputs.specs.declared.refusals.Refusal.TheVariants as refusal
use Rattle.xinu_base.specs.declared.events.Event.{Event}
use Rattle.xinu_model.specs.Boot.{Disks, Loaded}
use Rattle.xinu_commands.specs.Work.{Refuses, Verdict, if_some}

-- what is deserved after the inputs, by the events, the disks and the images
abbrev pub Next : Type 0
Next = List Event → Disks → List Loaded → Verdict

-- Inputs that are refused deserve that refusal; by any others the rest is judged.
abbrev pub after_judged : Next → Judged → Verdict
after_judged next (Refused cause) = Refuses cause
after_judged next (Accepted events disks images) = next events disks images

-- what inputs with these bytes deserve
abbrev pub inputs_verdict : Next → List ℕ → List ℕ → List ℕ → List (List ℕ) → Verdict
inputs_verdict next schedule disk0 disk1 images = after_judged next (judged schedule disk0 disk1 images)

-- What is deserved by inputs that were read. (Their image files load, so the refusal is never reached.)
abbrev pub left_verdict : Next → Inputs → Verdict
left_verdict next x = if_some refusal.NoMemory (images_loaded (map (λ v. v.items) x.images.items)) (next x.schedule (disks_of x.disk0 x.disk1))

-- What is deserved after the inputs is no refusal of one of them.
abbrev pub IsLater : Verdict → Type 0
IsLater (Refuses refusal.Usage) = ⊥
IsLater (Refuses (refusal.Schedule l)) = ⊥
IsLater (Refuses (refusal.Disk d b r)) = ⊥
IsLater (Refuses (refusal.Image i f)) = ⊥
IsLater _ = Unit {0}
