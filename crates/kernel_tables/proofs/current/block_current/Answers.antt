use Rattle.std.proofs.Common.{◌≡◌, ◌∙◌, ap, sym, subst}
use Rattle.xinu_base.specs.declared.processes.Process.{Process}
use Rattle.xinu_base.specs.declared.processes.State.TheVariants.{Current}
use Rattle.process_core.specs.Tables.{process_in, ProcessTable, tables_of, with_process}
use Rattle.xinu_model.specs.Process.Scheduling.{in_state}
use Rattle.xinu_model.specs.Tables.{message_at, move_to, Nowhere, process_at}
use Rattle.kernel_tables.proofs.Running.{blocked_once, fits_rested, rested, runs_rested}
use Rattle.kernel_tables.proofs.current.block_current.Goals as goal

pub block-requires-clause-runs : goal.block-requires-clause-runs
block-requires-clause-runs c =
    let s = c.args.procs.now in
    let R : ProcessTable → Type 0 = λ u. (process_in u.processes u.current).state ≡ Current in
    subst R (sym (c.set_rest.ensures.procs
    ∙ ap (λ p. with_process p (record (process_in s.processes p) { rest = c.args.rest }) s) c.current-current.ensures.current))
    (ap (λ (x : Process). x.state) (runs_rested s c.args.rest c.requires.runs) ∙ c.requires.runs)

pub returns-clause-blocked : goal.returns-clause-blocked
returns-clause-blocked c ls b f =
    let s = c.args.procs.now in
    let u = with_process s.current (rested c.args.rest s) s in
    let e : c.set_rest.new.self ≡ u = c.set_rest.ensures.procs
    ∙ ap (λ p. with_process p (record (process_in s.processes p) { rest = c.args.rest }) s) c.current-current.ensures.current in
    c.block.ensures.blocked ls b (rw e (fits_rested ls s c.args.rest f c.requires.runs))
    ∙ ap (λ v. let t = tables_of ls v b in move_to t.current (in_state c.args.state (process_at t t.current))
    (message_at t t.current) Nowhere t) e
    ∙ blocked_once ls s b c.args.state c.args.rest c.requires.runs
