use Rattle.std.proofs.Common.{◌∙◌, [], ◌∷◌, ℕ, List, Some, None, refl, subst}
use Rattle.host_port.specs.Outside.{naming}
use Rattle.host_port.specs.declared.host.Channel.TheVariants.{Disk1}
use Rattle.lfs_check.specs.Faults.{named}
use Rattle.lfs_check.specs.Fields.{geometry_of}
use Rattle.lfs_check.specs.Rules.{rule_0}
use Rattle.lfs_layout.specs.Images.{repaired}
use Rattle.run_inputs.specs.Conversions.{check_refusal}
use Rattle.xinu_commands.specs.DiskVerdict.{repair_line, repair_verdict}
use Rattle.run_inputs.specs.Fetching.{refusal_of}
use Rattle.xinu_commands.specs.Stages.{SendsOutput, Stage, no_fetches}
use Rattle.xinu_commands.specs.Work.{output_of}
use Rattle.xinu_commands.proofs.DiskVerdicts.{repair_broken, repair_counts, repair_does, sized, unsized}
use Rattle.xinu_commands.proofs.InOrder.{AreApart, both_sent, first_sent}
use Rattle.xinu_commands.proofs.Staged.{broken_stage, of_refused, sent_stage}
use Rattle.xinu_commands.proofs.disk.repair_bytes.Goals as goal

pub returns-in_err-repaired : goal.returns-in_err-repaired
returns-in_err-repaired g c =
    let h = g.H.Host.view c.args.host.now in
    let bytes = c.args.bytes.now in
    let calls = naming Disk1 c.args.out.now ∷ [] in
    let e = c.in_err-repaired.field-0.0 in
    record {
      stage = of_refused c.from_residual.result (check_refusal e) (λ ended. Stage (repair_verdict bytes) no_fetches calls ended None h h) c.from_residual.ensures.0 c.from_residual.ensures.1
          (broken_stage (repair_verdict bytes) no_fetches calls e (named 0 (rule_0 (geometry_of bytes) bytes)) h c.in_err-repaired.ensures.image (λ x is. repair_broken bytes x (unsized bytes x is)) (λ x. refl));
    }

pub returns-in_err-print_line : goal.returns-in_err-print_line
returns-in_err-print_line g c =
    let h = g.H.Host.view c.args.host.now in
    let k = g.H.Host.view c.print_line.new.host in
    let bytes = c.args.bytes.now in
    let calls = naming Disk1 c.args.out.now ∷ [] in
    let apart : AreApart (output_of (repair_line bytes) None None) (output_of [] (Some (repaired bytes)) None) = record { no_text = refl; no_disk = refl; disk0 = tt; disk1 = tt; image = tt } in
    let r = c.in_err-print_line.field-0.0 in
    let text = c.repair_line.ensures ∙ repair_counts bytes c.in_ok-repaired.repaired.kept c.in_ok-repaired.repaired.dropped c.in_ok-repaired.ensures.kept c.in_ok-repaired.ensures.dropped in
    let P : List ℕ → Type 0 = λ t. SendsOutput (output_of t None None) [] (Some r) h k in
    record {
      stage = of_refused c.from_residual-in_err-print_line.result r (λ ended. Stage (repair_verdict bytes) no_fetches calls ended None h k) c.from_residual-in_err-print_line.ensures.0 c.from_residual-in_err-print_line.ensures.1
          (sent_stage (repair_verdict bytes) (repair_line bytes) (Some (repaired bytes)) None calls (Some r) h k (repair_does bytes (sized bytes c.in_ok-repaired.ensures.image.0))
          (first_sent (output_of (repair_line bytes) None None) (output_of [] (Some (repaired bytes)) None) [] calls apart r h k (subst P text c.in_err-print_line.ensures.sends)));
    }

pub returns : goal.returns
returns g c =
    let h = g.H.Host.view c.args.host.now in
    let i = g.H.Host.view c.print_line.new.host in
    let k = g.H.Host.view c.send_file.new.host in
    let bytes = c.args.bytes.now in
    let calls = naming Disk1 c.args.out.now ∷ [] in
    let apart : AreApart (output_of (repair_line bytes) None None) (output_of [] (Some (repaired bytes)) None) = record { no_text = refl; no_disk = refl; disk0 = tt; disk1 = tt; image = tt } in
    let ended = refusal_of c.send_file.result in
    let text = c.repair_line.ensures ∙ repair_counts bytes c.in_ok-repaired.repaired.kept c.in_ok-repaired.repaired.dropped c.in_ok-repaired.ensures.kept c.in_ok-repaired.ensures.dropped in
    let P : List ℕ → Type 0 = λ t. SendsOutput (output_of t None None) [] None h i in
    let Q : List ℕ → Type 0 = λ b. SendsOutput (output_of [] (Some b) None) calls ended i k in
    record {
      stage = sent_stage (repair_verdict bytes) (repair_line bytes) (Some (repaired bytes)) None calls ended h k (repair_does bytes (sized bytes c.in_ok-repaired.ensures.image.0))
          (both_sent (output_of (repair_line bytes) None None) (output_of [] (Some (repaired bytes)) None) [] calls apart ended h i k (subst P text c.in_ok-print_line.ensures.sends)
          (subst Q (c.bytes.ensures.bytes ∙ c.in_ok-repaired.ensures.image.1) c.send_file.ensures.sends));
    }
