use Rattle.local_files.proofs.AtRest.{held_always, work_held}
use Rattle.local_files.proofs.Files.holds_files_at_rest.Goals as goal

pub returns : goal.returns
returns c = record { held = held_always c.args.self.now; work = work_held c.args.self.now }
