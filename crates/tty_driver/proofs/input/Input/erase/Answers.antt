use Rattle.std.proofs.Common.{◌∙◌}
use Rattle.tty_driver.proofs.Splits.{erased_input}
use Rattle.tty_driver.proofs.input.Input.erase.Goals as goal
use Rattle.tty_driver.proofs.input.Input.erase.Goals.{in-Some-Char, in-Some-End, in-Some-End-2}

pub invariant_of-self : goal.invariant_of-self
invariant_of-self c =
    let e = erased_input c.self.inside c.args.self.now c.self.view_is c.self.invariant c.requires.typed in
    rw c.pop_back.ensures.items (record { split = e.split; capacity = c.self.invariant.capacity })

pub returns-clause-erased : goal.returns-clause-erased
returns-clause-erased c =
    let e = erased_input c.self.inside c.args.self.now c.self.view_is c.self.invariant c.requires.typed in
    let committed = e.committed in
    let line = e.line in
    rw c.pop_back.ensures.items (cc)

pub returns-clause-byte : goal.returns-clause-byte
returns-clause-byte c =
    let e = erased_input c.self.inside c.args.self.now c.self.view_is c.self.invariant c.requires.typed in
    let last = c.pop_back.ensures.value ∙ e.last in
    elim c.match-pop_back.branch [
      | in-Some-Char w ↦ (let byte = w.in-Some-Char in let is = w.result-is in cc)
      | in-Some-End w ↦ (let none = w.in-Some-End in absurd (cc))
      | in-Some-End-2 w ↦ (let none = w.in-Some-End in absurd (cc))
    ]
