use Rattle.std.proofs.Common.{ℕ, [], ap, ◌∙◌}
use Rattle.xinu_model.specs.Machine.{CallResult, end_of_event}
use Rattle.xinu_model.specs.RawDisk.Calls.{disk_completes, disk_of}
use Rattle.xinu_model.specs.RawDisk.Completions.{raw_completed}
use Rattle.machine.proofs.Closing.{effect_as}
use Rattle.machine.proofs.Completions.{completion_is}
use Rattle.machine.proofs.events.complete.Goals as goal

pub returns : goal.returns
returns g c =
    let s = c.args.kernel.now.came.call.state in
    let e = ap (λ (n : ℕ). end_of_event n [] c.on_disk.new.self.came) c.current-current.ensures.current
    ∙ ap (λ (r : CallResult). end_of_event s.tables.current [] r) c.on_disk.ensures.completes ∙ completion_is (raw_completed c.args.good (disk_of s)) s in
    record {
      effect = effect_as _ (disk_completes c.args.good s) _ _ _ _ _ _ e c.end_event.ensures.effect;
      idle = c.end_event.ensures.idle;
      sound = c.end_event.ensures.sound;
      image = c.end_event.ensures.image ∙ c.on_disk.ensures.image;
    }
