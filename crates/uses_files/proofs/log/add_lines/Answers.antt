use Rattle.std.proofs.Common.{refl}
use Rattle.lfs_check.specs.Rules.{is_name, text_length}
use Rattle.uses_files.proofs.log.add_lines.Goals as goal

pub make_call-opened-requires-clause-call : goal.make_call-opened-requires-clause-call
unfolding is_name text_length
make_call-opened-requires-clause-call c = (refl, refl)
