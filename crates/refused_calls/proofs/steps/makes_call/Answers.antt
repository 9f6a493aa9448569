use Rattle.std.proofs.Common.{◌∙◌, sym}
use Rattle.refused_calls.proofs.Ecalls.{calls_not, calls_so}
use Rattle.xinu_model.specs.Machine.{current_hart}
use Rattle.refused_calls.proofs.steps.makes_call.Goals as goal

pub returns-in-Some : goal.returns-in-Some
returns-in-Some c =
    let s = c.args.k.now.call.state in
    record { makes = calls_so (current_hart s) s.memory c.in-Some.word (sym c.next_word.ensures.word ∙ c.in-Some.is) c.in-Some.ensures.fits }

pub returns-in-None : goal.returns-in-None
returns-in-None c =
    let s = c.args.k.now.call.state in record { makes = calls_not (current_hart s) s.memory (sym c.next_word.ensures.word ∙ c.in-None.is) }
