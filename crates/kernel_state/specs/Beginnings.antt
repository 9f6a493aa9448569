-- How a call begins, by what the code answers.
use Rattle.std.specs.Prelude.{ℕ, ◌≡◌, []}
use Rattle.kernel_state.specs.declared.begun.Begun.{Begun}
use Rattle.kernel_state.specs.declared.begun.Begun.TheVariants.{ByRow, AtOnce}
use Rattle.xinu_base.specs.declared.syscalls.Next.{Next}
use Rattle.xinu_base.specs.declared.syscalls.Next.TheVariants.{Returns}
use Rattle.xinu_model.specs.Files.Calls.{FileCall}
use Rattle.xinu_model.specs.Files.Syscalls.{at_once, awaits_files, files_of, request_for}
use Rattle.xinu_model.specs.Machine.{CallResult, Xinu}

-- Its row makes a call on files, of which none is under way, and lets its caller wait. It took effect as it was made.
pub record TakesEffect (row : CallResult) (s : Xinu) (result : CallResult) : Type 0 where
  pub call : FileCall
  pub at : ℕ
  pub alone : (files_of s).calls ≡ []
  pub waits : row ≡ awaits_files call at s
  pub effect : result ≡ at_once (request_for call at s) s

-- what a call came to that began so: what its row does, or its effect on files
abbrev pub BeginsAs : Begun → CallResult → Xinu → CallResult → Type 0
BeginsAs (ByRow next) row s result = result ≡ row
BeginsAs (AtOnce reply) row s result = TakesEffect row s result

-- how it goes
abbrev pub next_of : Begun → Next
next_of (ByRow next) = next
next_of (AtOnce reply) = Returns reply
