use Rattle.xinu_commands.proofs.Answered.{done_answers, refused_answers}
use Rattle.xinu_commands.proofs.top.xinu.Goals as goal

pub returns-in-Ok : goal.returns-in-Ok
returns-in-Ok g c =
    let carried = c.in-Ok.ensures.carries in
    record { answers = done_answers _ _ _ _ _ carried.performs carried.status }

pub returns-in-Err : goal.returns-in-Err
returns-in-Err g c = record {
  answers = refused_answers _ c.in-Err.refusal c.refuse.result _ _ _ c.in-Err.ensures.carries.performs c.refuse.ensures;
}
