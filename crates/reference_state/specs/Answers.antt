-- How a call went, by what the code answers.
use Rattle.std.specs.Prelude.{◌≡◌, [], false}
use Rattle.reference_state.specs.declared.answers.Answer.{Answer}
use Rattle.reference_state.specs.declared.answers.Answer.TheVariants as answer
use Rattle.xinu_model.specs.Machine as model

-- the answer that a value of the code names
abbrev pub answer_of : Answer → model.Answer
answer_of (answer.Returns value) = model.Returns value
answer_of answer.Waits = model.Waits
answer_of answer.Gone = model.Gone
answer_of answer.Panics = model.Panics
answer_of answer.Silent = model.Silent

-- what a call came to: the state that it left, and its answer
abbrev pub came_to : model.CallState → Answer → model.CallResult
came_to d a = record { call = d; answer = answer_of a }

-- Nobody was released yet, and no resched is owed.
pub record IsStart (d : model.CallState) : Type 0 where
  pub released : d.released ≡ []
  pub owes : d.owes_resched ≡ false
