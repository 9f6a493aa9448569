use Rattle.std.proofs.Common.{◌≡◌, ◌∙◌, ap, pos, rules, Some, w32}
use mir.Val.{to_z}
use Rattle.reference_state.specs.Answers.{came_to}
use Rattle.reference_state.specs.declared.answers.Answer.TheVariants.{Returns}
use Rattle.xinu_model.specs.Heap.Cells.{take_stack}
use Rattle.xinu_model.specs.Machine.{start}
use Rattle.xinu_model.specs.Process.Creation.{new_hart, new_process, stack_size}
use Rattle.reference_calls.proofs.Made.{created_on}
use Rattle.reference_calls.proofs.creation.created.Goals as goal

pub returns : goal.returns
returns c =
    let s = c.args.m.now.state in
    let heap = c.stack_taken.new.m.state.parts.heap in
    let begins : c.args.m.now ≡ start s = search rules in
    let found : take_stack (stack_size c.args.new.stack) s.parts.heap ≡ Some (record { top = c.in-Some.top; heap = heap }) = search rules in
    let is : c.new_process-x.result ≡ new_process c.args.name c.args.new.priority s.tables.current c.in-Some.top (stack_size c.args.new.stack) =
    search rules in
    let has : c.new_hart.result ≡ new_hart c.args.new.entry c.in-Some.top c.args.new.args.0 c.args.new.args.1 = search rules in
    let number : to_z w32 c.index.result ≡ pos c.args.p = search rules in
    record {
      created = ap (λ n. came_to c.make_process.new.m (Returns n)) number
          ∙ created_on c.args.p c.args.new.entry c.args.new.stack c.in-Some.top c.args.new.args.0 c.args.new.args.1 c.args.new.priority c.args.name heap
          c.new_process-x.result c.new_hart.result s c.args.m.now c.stack_taken.new.m c.make_process.new.m begins found
          c.in-Some.ensures.heap c.in_ok-make_process.ensures.made is has;
    }
