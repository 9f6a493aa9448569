-- Each call is looked at.
use Rattle.std.proofs.Common.{◌≡◌, ℕ, ◌+◌, List, ◌∙◌, sym, ap, arith}
use Rattle.std.specs.Str.{bytes_eq}
use Rattle.xinu_base.specs.Syscalls.{CALLS}
use Rattle.asm_syntax.proofs.CallLemmas.{call_from, call_of-start, call_from-next, call_from-here, call_from-end}
use Rattle.asm_syntax.proofs.calls.call_of.Goals as goal

pub loop-number-init : goal.loop-number-init
loop-number-init c = call_of-start c.args.name.now

pub loop-number-preserved : goal.loop-number-preserved
loop-number-preserved c =
    c.loop-number.invariant
    ∙ call_from-next c.loop-number.number c.args.name.now c.loop-number.auto.number (omega arith)
    (ap (λ (n : List ℕ). bytes_eq n c.args.name.now) (sym c.call_name.ensures.name)
    ∙ rw c.as_bytes.ensures.value at (sym c.eq.ensures ∙ c.if-eq.false))

pub returns-then-eq : goal.returns-then-eq
returns-then-eq c = record {
  call = sym (c.loop-number.invariant
      ∙ call_from-here c.loop-number.number c.args.name.now c.loop-number.auto.number (omega arith)
      (ap (λ (n : List ℕ). bytes_eq n c.args.name.now) (sym c.call_name.ensures.name)
      ∙ rw c.as_bytes.ensures.value at (sym c.eq.ensures ∙ c.if-eq.true)));
  small = omega arith;
}

pub returns : goal.returns
returns c =
    let last : c.loop-number.number ≡ CALLS + 1 = omega arith in
    record {
      call = sym (c.loop-number.invariant ∙ ap (λ (n : ℕ). call_from n c.args.name.now) last ∙ call_from-end c.args.name.now);
      small = tt;
    }
