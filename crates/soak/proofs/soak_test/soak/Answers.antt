use Rattle.std.proofs.Common.{◌∙◌, ap, length}
use Rattle.given_disks.specs.Disks.{disks_of}
use Rattle.image_loader.specs.ImageFiles.{image_in}
use Rattle.image_loader.specs.Images.{loaded_of}
use Rattle.soak.proofs.Loaded.{are_programs, programs_boot}
use Rattle.workload.specs.Programs.{after_programs}
use Rattle.soak.proofs.soak_test.soak.Goals as goal
use Rattle.workload.proofs.Reading.{length-events_in}

pub run-requires-clause-count : goal.run-requires-clause-count
run-requires-clause-count c = ap length c.in-Ok.ensures.schedule ∙ length-events_in 200000 (after_programs 1 4 c.args.seed)

pub returns-in-Ok-run : goal.returns-in-Ok-run
returns-in-Ok-run c =
    let made = c.in-Ok.ensures in
    let are = are_programs c.args.seed (image_in c.as_slice.result.now) (image_in c.as_slice-2.result.now) (image_in c.as_slice-3.result.now) (image_in c.as_slice-4.result.now)
    (loaded_of c.image.result) (loaded_of c.image-2.result) (loaded_of c.image-3.result) (loaded_of c.image-4.result)
    (ap image_in c.as_slice.ensures.value ∙ made.first) c.image.ensures.image (ap image_in c.as_slice-2.ensures.value ∙ made.second) c.image-2.ensures.image
    (ap image_in c.as_slice-3.ensures.value ∙ made.third) c.image-3.ensures.image (ap image_in c.as_slice-4.ensures.value ∙ made.fourth) c.image-4.ensures.image in
    record {
      soaks = record {
        start = c.in_ok-machine.machine.state;
        boots = programs_boot (disks_of c.args.disk0 c.args.disk1) c.args.seed _ c.in_ok-machine.machine are c.in_ok-machine.ensures.starts;
        soaks = c.in-Ok-run.ensures.soaks;
      };
    }
