-- Each name is looked at.
use Rattle.std.proofs.Common.{◌∙◌, ◌<◌, ◌≤◌, sym, length, arith}
use Rattle.asm_syntax.proofs.RegisterLemmas.{register_from-start, register_from-next, register_from-here, register_from-end, names_are}
use Rattle.asm_syntax.proofs.words.register_named.Goals as goal

pub loop-number-init : goal.loop-number-init
loop-number-init c = register_from-start _ c.register_names-names.result c.args.name.now c.register_names-names.ensures.names

pub loop-number-preserved : goal.loop-number-preserved
loop-number-preserved c =
    let names = names_are (λ it. it.now) c.register_names-names.result c.register_names-names.ensures.names in
    let within : c.loop-number.number < length c.register_names-names.result = omega (arith, c.loop-number-test.true, names) in
    c.loop-number.invariant
    ∙ register_from-next _ c.register_names-names.result c.loop-number.number c.args.name.now _ within
    (rw c.from.ensures at (rw c.as_bytes.ensures.value at (sym c.eq.ensures ∙ c.if-eq.false)))

pub returns-then-eq-clause-register : goal.returns-then-eq-clause-register
returns-then-eq-clause-register c =
    let names = names_are (λ it. it.now) c.register_names-names.result c.register_names-names.ensures.names in
    let within : c.loop-number.number < length c.register_names-names.result = omega (arith, c.loop-number-test.true, names) in
    sym (c.loop-number.invariant
    ∙ register_from-here _ c.register_names-names.result c.loop-number.number c.args.name.now _ within
    (rw c.from.ensures at (rw c.as_bytes.ensures.value at (sym c.eq.ensures ∙ c.if-eq.true))))

pub returns-clause-register : goal.returns-clause-register
returns-clause-register c =
    let names = names_are (λ it. it.now) c.register_names-names.result c.register_names-names.ensures.names in
    let all : length c.register_names-names.result ≤ c.loop-number.number = omega (arith, names) in
    sym (c.loop-number.invariant ∙ register_from-end _ c.register_names-names.result c.loop-number.number c.args.name.now all)
