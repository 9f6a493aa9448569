-- What `open` comes to.
use Rattle.file_server.specs.Requests.{call_with}
use Rattle.io_calls.specs.declared.open_calls.Opening.{Opening}
use Rattle.io_calls.specs.declared.open_calls.Opening.TheVariants.{Answers, Asks}
use Rattle.local_files.specs.Hands.{IsCall}
use Rattle.xinu_model.specs.Files.Syscalls.{awaits_files}
use Rattle.xinu_model.specs.Machine.{CallResult, Xinu}
use Rattle.xinu_model.specs.Semaphores.Calls.{answers}

-- the caller is answered, or waits for files
abbrev pub comes_to : Opening → Xinu → CallResult
comes_to (Answers value) s = answers value s
comes_to (Asks call) s = awaits_files (call_with call 0) 0 s

-- the file system can be asked for a call
abbrev pub CanBeMade : Opening → Type 0
CanBeMade (Answers value) = Unit {0}
CanBeMade (Asks call) = IsCall call
