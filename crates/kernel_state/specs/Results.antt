-- How a call went, by what the code answers.
use Rattle.std.specs.Prelude.{◌≡◌, Option, Some, None, ℤ}
use Rattle.xinu_base.specs.declared.syscalls.Next.{Next}
use Rattle.xinu_base.specs.declared.syscalls.Next.TheVariants as next
use Rattle.xinu_model.specs.Machine.{Answer, CallResult, CallState, Gone, Panics, Returns, Silent, start, Waits, Xinu}

-- how a call goes
abbrev pub answer_of : Next → Answer
answer_of (next.Returns value) = Returns value
answer_of next.Waits = Waits
answer_of next.Gone = Gone
answer_of next.Panics = Panics

-- how it goes in an event, and nothing is answered before there is a call
abbrev pub answer_so_far : Option Next → Answer
answer_so_far None = Silent
answer_so_far (Some next) = answer_of next

-- what a call came to
abbrev pub came_to : CallState → Next → CallResult
came_to d next = record { call = d; answer = answer_of next }

-- the value that a caller is answered, if it is
abbrev pub value_of : Answer → Option ℤ
value_of (Returns value) = Some value
value_of Waits = None
value_of Gone = None
value_of Panics = None
value_of Silent = None

-- no event is under way
abbrev pub idle : Xinu → CallResult
idle s = record { call = start s; answer = Silent }

-- in this event nothing was done yet
pub record IsIdle (result : CallResult) : Type 0 where
  pub is : result ≡ idle result.call.state

-- nobody was released yet, and no resched is owed
pub record IsStart (d : CallState) : Type 0 where
  pub is : d ≡ start d.state
