use Rattle.std.proofs.Common.{slice_index, true, false, ap, ◌∙◌, sym}
use Rattle.std.proofs.lemmas.Bool.{eq-eqb, ne_eqb}
use Rattle.xinu_base.specs.Constants.{INITRET}
use Rattle.xinu_model.proofs.ZeroRegister.{zero_register}
use Rattle.rv_hart.proofs.Fetched.{ended, performs}
use Rattle.rv_hart.proofs.stepping.step.Goals as goal

pub returns-in-Some : goal.returns-in-Some
returns-in-Some c =
    let h = c.args.hart.now in
    let memory = c.args.ram.now in
    let is = performs h memory c.in-Some.word (sym c.read32.ensures ∙ c.in-Some.is) in
    record {
      outcome = c.execute.ensures.outcome ∙ ap (λ did. did.outcome) (sym is);
      hart = c.execute.ensures.hart ∙ ap (λ did. did.hart) (sym is);
      memory = c.execute.ensures.memory ∙ ap (λ did. did.memory) (sym is);
      zero = λ zero. ap (λ h. slice_index h.regs 0) c.execute.ensures.hart ∙ (zero_register c.in-Some.word h memory).zero zero;
    }

pub returns-in-None : goal.returns-in-None
returns-in-None c =
    let h = c.args.hart.now in
    let memory = c.args.ram.now in
    let is = ended h memory (sym c.read32.ensures ∙ c.in-None.is) true (eq-eqb h.pc INITRET c.if-hart.true) in
    record {
      outcome = ap (λ did. did.outcome) (sym is);
      hart = ap (λ did. did.hart) (sym is);
      memory = ap (λ did. did.memory) (sym is);
      zero = λ zero. zero;
    }

pub returns-in-None-2 : goal.returns-in-None-2
returns-in-None-2 c =
    let h = c.args.hart.now in
    let memory = c.args.ram.now in
    let is = ended h memory (sym c.read32.ensures ∙ c.in-None-2.is) false (ne_eqb h.pc INITRET c.if-hart.false) in
    record {
      outcome = ap (λ did. did.outcome) (sym is);
      hart = ap (λ did. did.hart) (sym is);
      memory = ap (λ did. did.memory) (sym is);
      zero = λ zero. zero;
    }
