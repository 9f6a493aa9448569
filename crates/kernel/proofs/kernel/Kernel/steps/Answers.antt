use Rattle.std.proofs.Common.{◌≡◌, ◌≢◌, ◌∙◌, ap, rules, sym}
use Rattle.kernel.proofs.PlainSteps.{after_steps, keeps_steps}
use Rattle.kernel.proofs.Values.{came_is}
use Rattle.kernel_state.specs.Results.{idle}
use Rattle.xinu_base.specs.declared.processes.Rest.TheVariants.{Nothing}
use Rattle.xinu_laws.proofs.PlainSteps.{null_plain, null_steps}
use Rattle.xinu_model.specs.Tables.{process_at}
use Rattle.kernel.proofs.kernel.Kernel.steps.Goals as goal

pub returns-then-eq-clause-steps : goal.returns-then-eq-clause-steps
returns-then-eq-clause-steps c =
    let s = c.args.self.now.came.call.state in
    let zero : s.tables.current ≡ 0 = search rules in
    c.requires.idle.is ∙ ap idle (sym (null_steps c.args.most s zero))

pub returns-then-eq-clause-plain : goal.returns-then-eq-clause-plain
returns-then-eq-clause-plain c =
    let s = c.args.self.now.came.call.state in
    let zero : s.tables.current ≡ 0 = search rules in
    null_plain c.args.most s zero c.requires.lives

pub invariant_of-self : goal.invariant_of-self
invariant_of-self c =
    let t = c.args.self.now.came.call.state.tables in
    let n : t.current ≢ 0 = search rules in
    let done : (process_at t t.current).rest ≡ Nothing = search rules in
    keeps_steps c.self.inside c.instructions.new.k c.args.self.now.came c.args.most c.instructions.result (came_is c.self.view_is) c.self.invariant.keeps
    c.requires.idle n done c.requires.lives c.instructions.ensures.state c.instructions.ensures.count

pub returns-clause-steps : goal.returns-clause-steps
returns-clause-steps c =
    let t = c.args.self.now.came.call.state.tables in
    let n : t.current ≢ 0 = search rules in
    let done : (process_at t t.current).rest ≡ Nothing = search rules in
    (after_steps c.self.inside c.instructions.new.k c.args.self.now.came c.args.most c.instructions.result (came_is c.self.view_is) c.self.invariant.keeps
    c.requires.idle n done c.requires.lives c.instructions.ensures.state c.instructions.ensures.count).state

pub returns-clause-plain : goal.returns-clause-plain
returns-clause-plain c =
    let t = c.args.self.now.came.call.state.tables in
    let n : t.current ≢ 0 = search rules in
    let done : (process_at t t.current).rest ≡ Nothing = search rules in
    (after_steps c.self.inside c.instructions.new.k c.args.self.now.came c.args.most c.instructions.result (came_is c.self.view_is) c.self.invariant.keeps
    c.requires.idle n done c.requires.lives c.instructions.ensures.state c.instructions.ensures.count).plain

pub returns-clause-tables : goal.returns-clause-tables
returns-clause-tables c =
    let t = c.args.self.now.came.call.state.tables in
    let n : t.current ≢ 0 = search rules in
    let done : (process_at t t.current).rest ≡ Nothing = search rules in
    (after_steps c.self.inside c.instructions.new.k c.args.self.now.came c.args.most c.instructions.result (came_is c.self.view_is) c.self.invariant.keeps
    c.requires.idle n done c.requires.lives c.instructions.ensures.state c.instructions.ensures.count).tables

pub returns-clause-parts : goal.returns-clause-parts
returns-clause-parts c =
    let t = c.args.self.now.came.call.state.tables in
    let n : t.current ≢ 0 = search rules in
    let done : (process_at t t.current).rest ≡ Nothing = search rules in
    (after_steps c.self.inside c.instructions.new.k c.args.self.now.came c.args.most c.instructions.result (came_is c.self.view_is) c.self.invariant.keeps
    c.requires.idle n done c.requires.lives c.instructions.ensures.state c.instructions.ensures.count).parts
