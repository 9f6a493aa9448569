-- A part of a call, after which it is answered or goes on.
use Rattle.std.specs.Prelude.{◌+◌, true, false, slice_index, Option, Some, None}
use Rattle.xinu_base.specs.declared.processes.Rest.TheVariants.{TtyWrite}
use Rattle.xinu_base.specs.declared.processes.Span.{Span}
use Rattle.xinu_model.specs.Console.Putting.{TY_OSEM, put_byte}
use Rattle.xinu_model.specs.Semaphores.Waiting.{await}
use Rattle.reference_state.specs.Answers.{came_to}
use Rattle.reference_state.specs.declared.answers.Answer.{Answer}
use Rattle.xinu_model.specs.Machine.{CallResult, CallState, Xinu}

-- the call is answered, or what follows is done
abbrev pub and_then : Option Answer → (Xinu → CallResult) → CallState → CallResult
and_then (Some a) then_ d = came_to d a
and_then None then_ d = then_ d.state

-- the next byte of a write is put, and what follows is done
abbrev pub writes_one : Span → (Xinu → CallResult) → Xinu → CallResult
writes_one part then_ s = await TY_OSEM (TtyWrite part false)
    (λ x. put_byte (slice_index x.memory (part.at + part.done)) (TtyWrite part true) then_ x) s
