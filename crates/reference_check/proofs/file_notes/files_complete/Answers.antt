use Rattle.std.proofs.Common.{◌≡◌, ◌∙◌, ◌+◌, ◌++◌, ap, arith, map, rules, true}
use Rattle.reference_check.proofs.FileSteps.{completes}
use Rattle.xinu_model.specs.Files.Rest.{are_calls}
use Rattle.xinu_model.specs.Files.Syscalls.{all_told, file_line, files_of}
use Rattle.xinu_model.specs.Files.Work.{least_effects}
use Rattle.xinu_model.specs.Machine.{CallState, start}
use Rattle.reference_check.proofs.file_notes.files_complete.Goals as goal
use Rattle.xinu_model.proofs.FileOutcomes.{one_at_most}

pub overflow_add-effects : goal.overflow_add-effects
overflow_add-effects c =
    let least = c.least_effects.ensures.least in
    let most = one_at_most c.m.inside.files.calls c.m.inside.files in
    omega (arith, least, most)

pub returns-clause-completes : goal.returns-clause-completes
returns-clause-completes c =
    let d = c.args.m.now in
    let begins : d ≡ start d.state = search rules in
    let some : are_calls (files_of d.state).calls ≡ true = search rules in
    let least = c.least_effects.ensures.least ∙ ap (λ (x : CallState). least_effects (files_of x.state).calls (files_of x.state)) c.m.view_is in
    let none = c.no_lines-first.result.items in
    completes c.args.choice (c.least_effects.result + c.args.choice) c.current-was.result c.in_ok-notes.notes.items none c.push_notes.new.lines.items
    d c.complete.new.m c.tell_all.new.m c.end_of_event.result c.end_of_event.new.self.state begins some c.current-was.ensures.current
    (ap (λ n. n + c.args.choice) least) c.in_ok-notes.ensures.completed c.in_ok-notes.ensures.notes c.no_lines-first.ensures.none
    (c.in_ok-push_notes.ensures.pushed ∙ ap (λ l. none ++ map file_line l) c.deref.ensures.value)
    (c.in_ok-tell_all.ensures.told ∙ ap (λ l. all_told l c.complete.new.m) c.deref-2.ensures.value) c.end_of_event.ensures.ends
