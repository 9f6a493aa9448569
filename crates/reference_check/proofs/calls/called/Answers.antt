use Rattle.std.proofs.Common.{◌≡◌, ◌∙◌, ap, rules, sym}
use Rattle.reference_check.proofs.Fewness.{few_waiters}
use Rattle.reference_check.proofs.Rows.{plain_leaves, refused_without}
use Rattle.xinu_base.specs.Constants.{SYSERR}
use Rattle.xinu_model.specs.Machine.{CallResult, CallState, Returns, start}
use Rattle.reference_check.proofs.calls.called.Goals as goal

pub core_call-requires-clause-few_waiters : goal.core_call-requires-clause-few_waiters
core_call-requires-clause-few_waiters c = λ sem. few_waiters c.args.m.now.state.tables sem c.requires.within.sound.tables.inside

pub returns-in_ok-core_call-in-Some-Processes-clause-leaves : goal.returns-in_ok-core_call-in-Some-Processes-clause-leaves
returns-in_ok-core_call-in-Some-Processes-clause-leaves c =
    let family = sym c.family_of.ensures.family ∙ c.in-Some-Processes.is in
    plain_leaves c.args.call.number c.args.call.args c.args.m.now.state c.core_call.new.m _ c.requires.within.sound
    (λ e. let other = sym family ∙ e in absurd (cc)) c.in_ok-core_call-in-Some-Processes.ensures.call

pub returns-in_ok-port_call-in-Some-Ports-clause-leaves : goal.returns-in_ok-port_call-in-Some-Ports-clause-leaves
returns-in_ok-port_call-in-Some-Ports-clause-leaves c =
    let family = sym c.family_of.ensures.family ∙ c.in-Some-Ports.is in
    plain_leaves c.args.call.number c.args.call.args c.args.m.now.state c.port_call.new.m _ c.requires.within.sound
    (λ e. let other = sym family ∙ e in absurd (cc)) c.in_ok-port_call-in-Some-Ports.ensures.call

pub returns-in-None-clause-called : goal.returns-in-None-clause-called
returns-in-None-clause-called c =
    let begins : c.args.m.now ≡ start c.args.m.now.state = search rules in
    ap (λ (d : CallState). let r : CallResult = record { call = d; answer = Returns SYSERR } in r) begins
    ∙ refused_without c.args.call.number c.args.call.args c.args.m.now.state (sym c.family_of.ensures.family ∙ c.in-None.is)
