use Rattle.file_laws.proofs.Patched.{middle_patched}
use Rattle.file_laws.proofs.puts.bytes_are_patched.Goals as goal

pub returns : goal.returns
returns c = middle_patched
