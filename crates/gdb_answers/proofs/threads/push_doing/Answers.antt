-- Three pieces.
use Rattle.std.proofs.Common.{ℕ, List, ◌∙◌, ◌++◌, ap, rules, w16}
use Rattle.std.proofs.lemmas.Int.{to_z-of_z}
use mir.Val.{SFits}
use Rattle.std.specs.Prelude.{codes}
use Rattle.std.specs.Fmt.{signed_decimal}
use Rattle.gdb_answers.proofs.Pushes.{both}
use Rattle.gdb_answers.specs.Threads.{state_text}
use Rattle.xinu_base.specs.declared.processes.Process.{Process}
use Rattle.xinu_model.specs.Tables.{process_at, state_at}
use Rattle.gdb_answers.proofs.threads.push_doing.Goals as goal

pub returns : goal.returns
returns c =
    let t = c.args.text.now.items in
    let tables = c.args.tables.now in
    let p = c.args.p in
    let state = state_text tables p (state_at tables p) in
    let comma : List ℕ = codes ", priority " in
    let digits = signed_decimal (process_at tables p).priority in
    let fits : SFits w16 c.process.result.now.priority = search rules in
    let last = c.in_ok-extend_from_slice-2.ensures.items ∙ ap (λ l. c.extend_from_slice.new.self.items ++ l) (c.as_bytes.ensures.value ∙ c.format.ensures.text ∙ ap signed_decimal (to_z-of_z w16 c.process.result.now.priority fits ∙ ap (λ (x : Process). x.priority) c.process.ensures.process)) in
    record { appended = both t (state ++ comma) digits _ _ (both t state comma _ _ c.in_ok-push_state.ensures.appended c.in_ok-extend_from_slice.ensures.items) last }
