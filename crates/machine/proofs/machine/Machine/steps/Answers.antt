use Rattle.machine.proofs.PlainSteps.{machine_after, sound_after}
use Rattle.machine.proofs.machine.Machine.steps.Goals as goal

pub invariant_of-self : goal.invariant_of-self
invariant_of-self c =
    machine_after
    c.self.inside c.args.self.now c.steps-taken.new.self c.steps-taken.result c.args.most c.self.invariant c.self.view_is
    c.requires.goes_on c.requires.few c.steps-taken.ensures.most c.steps-taken.ensures.steps c.steps-taken.ensures.tables
    c.steps-taken.ensures.parts c.steps-taken.ensures.image

pub returns-clause-sound : goal.returns-clause-sound
returns-clause-sound c =
    sound_after
    c.self.inside c.args.self.now c.steps-taken.new.self c.steps-taken.result c.args.most c.self.invariant c.self.view_is
    c.requires.goes_on c.requires.few c.steps-taken.ensures.most c.steps-taken.ensures.steps c.steps-taken.ensures.tables
    c.steps-taken.ensures.parts c.steps-taken.ensures.image
