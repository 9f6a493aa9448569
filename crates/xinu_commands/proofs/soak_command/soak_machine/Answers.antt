use Rattle.std.proofs.Common.{ℕ, List, [], Some, None, refl, subst}
use Rattle.std.specs.String.{string_bytes}
use Rattle.command_line.specs.Commands.{Soak}
use Rattle.xinu_commands.specs.Stages.{Performs, SendsOutput, left_by}
use Rattle.xinu_commands.specs.Work.{output_of}
use Rattle.xinu_commands.proofs.Staged.{of_err}
use Rattle.xinu_commands.proofs.SoakSent.{clean_ends, raw_ends, start_ends, test_ends}
use Rattle.xinu_commands.proofs.soak_command.soak_machine.Goals as goal

pub returns-in_err-disk0 : goal.returns-in_err-disk0
returns-in_err-disk0 g c =
    let h = g.H.Host.view c.args.host.now in
    let seed = c.args.seed in
    let r = c.in_err-disk0.field-0.0 in
    record {
      performs = of_err c.from_residual.result r (λ ended left. Performs (Some (Soak seed)) ended left h h) c.from_residual.ensures.0 c.from_residual.ensures.1
          (raw_ends seed r h c.in_err-disk0.ensures.refused);
    }

pub returns-in_err-disk1 : goal.returns-in_err-disk1
returns-in_err-disk1 g c =
    let h = g.H.Host.view c.args.host.now in
    let seed = c.args.seed in
    let r = c.in_err-disk1.field-0.0 in
    record {
      performs = of_err c.from_residual-in_err-disk1.result r (λ ended left. Performs (Some (Soak seed)) ended left h h) c.from_residual-in_err-disk1.ensures.0 c.from_residual-in_err-disk1.ensures.1
          (clean_ends seed r h c.in_ok-disk0.ensures.ok.0 c.in_err-disk1.ensures.refused);
    }

pub returns-in-Err : goal.returns-in-Err
returns-in-Err g c =
    let raw = c.in_ok-disk0.ensures.ok in
    let clean = c.in_ok-disk1.ensures.ok in
    record {
      performs = start_ends c.args.seed c.in_ok-disk0.disk0 c.in_ok-disk1.disk1 raw.0 clean.0 raw.1 clean.1 c.in-Err.fault c.from.result (g.H.Host.view c.args.host.now) c.from.ensures c.in-Err.ensures.soaks;
    }

pub returns-in_err-print_text : goal.returns-in_err-print_text
returns-in_err-print_text g c =
    let h = g.H.Host.view c.args.host.now in
    let k = g.H.Host.view c.print_text.new.host in
    let seed = c.args.seed in
    let raw = c.in_ok-disk0.ensures.ok in
    let clean = c.in_ok-disk1.ensures.ok in
    let soaked = c.in-Ok.soaked in
    let r = c.in_err-print_text.field-0.0 in
    let P : List ℕ → Type 0 = λ b. SendsOutput (output_of b None None) [] (Some r) h k in
    let sends = subst P c.as_bytes.ensures.value c.in_err-print_text.ensures.sends in
    record {
      performs = of_err c.from_residual-in_err-print_text.result r (λ ended left. Performs (Some (Soak seed)) ended left h k) c.from_residual-in_err-print_text.ensures.0 c.from_residual-in_err-print_text.ensures.1
          (test_ends seed c.in_ok-disk0.disk0 c.in_ok-disk1.disk1 raw.0 clean.0 raw.1 clean.1 (string_bytes soaked.summary) (left_by soaked.machine) (Some r) None h k c.in-Ok.ensures.soaks
          sends (λ none. absurd (cc)) (λ some. refl));
    }

pub returns : goal.returns
returns g c =
    let h = g.H.Host.view c.args.host.now in
    let k = g.H.Host.view c.print_text.new.host in
    let raw = c.in_ok-disk0.ensures.ok in
    let clean = c.in_ok-disk1.ensures.ok in
    let soaked = c.in-Ok.soaked in
    let left = left_by soaked.machine in
    let P : List ℕ → Type 0 = λ b. SendsOutput (output_of b None None) [] None h k in
    let sends = subst P c.as_bytes.ensures.value c.in_ok-print_text.ensures.sends in
    record {
      performs = test_ends c.args.seed c.in_ok-disk0.disk0 c.in_ok-disk1.disk1 raw.0 clean.0 raw.1 clean.1 (string_bytes soaked.summary) left None (Some left) h k c.in-Ok.ensures.soaks
          sends (λ none. refl) (λ some. absurd (cc));
    }
