use Rattle.std.proofs.Common.{ℕ, List, arith, subst}
use Rattle.std.specs.Prelude.{Err, Ok}
use Rattle.xinu_commands.specs.Judging.{ChecksInputs, JudgesTrace}
use Rattle.run_inputs.proofs.ImageFiles.{of_error}
use Rattle.xinu_commands.proofs.Judged.{trace_judged, trace_refused, trace_unfetched, trace_unjudged, trace_unsent}
use Rattle.xinu_commands.proofs.check_command.check_inputs.Goals as goal

pub returns-in_err-trace : goal.returns-in_err-trace
returns-in_err-trace g c =
    let h = g.H.Host.view c.args.host.now in
    let k = g.H.Host.view c.fetch_file.new.host in
    let r = c.in_err-trace.field-0.0 in
    record {
      checks = of_error c.from_residual.result r (λ y. ChecksInputs c.args.name.now c.args.inputs y h k) c.from_residual.ensures.0 c.from_residual.ensures.1
          (trace_unfetched c.args.name.now c.args.inputs c.requires.good r h k c.in_err-trace.ensures.fetches);
    }

pub returns-then-len-gt-LONGEST_TRACE : goal.returns-then-len-gt-LONGEST_TRACE
returns-then-len-gt-LONGEST_TRACE g c = record {
  checks = trace_refused c.args.name.now c.args.inputs c.requires.good c.in_ok-trace.trace.items (g.H.Host.view c.args.host.now) (g.H.Host.view c.fetch_file.new.host)
      c.in_ok-trace.ensures.bytes c.in_ok-trace.ensures.fetches (omega arith);
}

pub returns-in_err-is_transcript : goal.returns-in_err-is_transcript
returns-in_err-is_transcript g c =
    let h = g.H.Host.view c.args.host.now in
    let k = g.H.Host.view c.fetch_file.new.host in
    let r = c.in_err-is_transcript.field-0.0 in
    let P : List ℕ → Type 0 = λ trace. JudgesTrace trace c.args.inputs (Err r) in
    record {
      checks = of_error c.from_residual-in_err-is_transcript.result r (λ y. ChecksInputs c.args.name.now c.args.inputs y h k) c.from_residual-in_err-is_transcript.ensures.0 c.from_residual-in_err-is_transcript.ensures.1
          (trace_unjudged c.args.name.now c.args.inputs c.requires.good c.in_ok-trace.trace.items r h k c.in_ok-trace.ensures.bytes c.in_ok-trace.ensures.fetches
          (subst P c.as_slice.ensures.value c.in_err-is_transcript.ensures.judges));
    }

pub returns-in_err-print_judgement : goal.returns-in_err-print_judgement
returns-in_err-print_judgement g c =
    let h = g.H.Host.view c.args.host.now in
    let j = g.H.Host.view c.fetch_file.new.host in
    let k = g.H.Host.view c.print_judgement.new.host in
    let r = c.in_err-print_judgement.field-0.0 in
    let b = c.in_ok-is_transcript.is_transcript in
    let P : List ℕ → Type 0 = λ trace. JudgesTrace trace c.args.inputs (Ok b) in
    record {
      checks = of_error c.from_residual-in_err-print_judgement.result r (λ y. ChecksInputs c.args.name.now c.args.inputs y h k) c.from_residual-in_err-print_judgement.ensures.0 c.from_residual-in_err-print_judgement.ensures.1
          (trace_unsent c.args.name.now c.args.inputs c.requires.good c.in_ok-trace.trace.items b r h j k c.in_ok-trace.ensures.bytes c.in_ok-trace.ensures.fetches
          (subst P c.as_slice.ensures.value c.in_ok-is_transcript.ensures.judges) c.in_err-print_judgement.ensures.sends);
    }

pub returns : goal.returns
returns g c =
    let b = c.in_ok-is_transcript.is_transcript in
    let P : List ℕ → Type 0 = λ trace. JudgesTrace trace c.args.inputs (Ok b) in
    record {
      checks = trace_judged c.args.name.now c.args.inputs c.requires.good c.in_ok-trace.trace.items b (g.H.Host.view c.args.host.now) (g.H.Host.view c.fetch_file.new.host) (g.H.Host.view c.print_judgement.new.host)
          c.in_ok-trace.ensures.bytes c.in_ok-trace.ensures.fetches (subst P c.as_slice.ensures.value c.in_ok-is_transcript.ensures.judges) c.in_ok-print_judgement.ensures.sends;
    }
