use Rattle.workload.proofs.Booting.{programs-boot}
use Rattle.workload.proofs.laws.programs_boot.Goals as goal

pub returns : goal.returns
returns c = programs-boot
