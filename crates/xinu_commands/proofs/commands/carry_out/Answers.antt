use Rattle.std.proofs.Common.{◌∙◌, ◌≡◌, Some, ap, arith, if◌then◌else◌, length, map}
use Rattle.std.specs.Prelude.{Err}
use Rattle.std.specs.String.{string_bytes}
use Rattle.std.proofs.lemmas.List.{length-map}
use Rattle.command_line.specs.Commands.{command_of}
use Rattle.command_line.specs.Commands.{Run, Asm, Soak, Check, Disk}
use Rattle.command_line.specs.Names.{action_names, asm_names, command_names, run_names, check_names}
use Rattle.xinu_commands.proofs.Answered.{args_refuse}
use Rattle.xinu_commands.proofs.Done.{action_status, asm_status, carries_done, carries_left, judgement_status}
use Rattle.run_inputs.proofs.RunCounts.{image_count}
use Rattle.xinu_commands.proofs.Possible.{check_count, possible}
use Rattle.xinu_commands.proofs.commands.carry_out.Goals as goal

pub returns-in-Err : goal.returns-in-Err
returns-in-Err g c = record {
  carries = record {
    performs = args_refuse c.in-Err.fault c.from.result (command_of (map string_bytes c.args.args.now)) (g.H.Host.view c.args.host.now) c.from.ensures (λ is. c.in-Err.ensures.no_command (ap Err is));
    status = tt;
  };
}

pub run-requires : goal.run-requires
run-requires g c =
    let files = c.in-Run.files in
    let count = image_count (map string_bytes c.args.args.now) (run_names files) (c.in-Ok.ensures.command ∙ ap (λ x. Some (command_names x)) c.in-Run.is) in
    let same : length (map (λ s. s.now) files.images.items) ≡ length files.images.items = length-map files.images.items (λ s. s.now) in
    record { some = omega (arith, count.some, same); few = omega (arith, count.few, same) }

pub check-requires : goal.check-requires
check-requires g c =
    let files = c.in-Check.files in
    let count = check_count (map string_bytes c.args.args.now) (check_names files) (c.in-Ok.ensures.command ∙ ap (λ x. Some (command_names x)) c.in-Check.is) in
    let same : length (map (λ s. s.now) files.images.items) ≡ length files.images.items = length-map files.images.items (λ s. s.now) in
    record { few = omega (arith, count.few, same) }

pub act-requires : goal.act-requires
act-requires g c = record { possible = possible (map string_bytes c.args.args.now) (action_names c.in-Disk.action) (c.in-Ok.ensures.command ∙ ap (λ x. Some (command_names x)) c.in-Disk.is) }

pub returns-in-Ok-run : goal.returns-in-Ok-run
returns-in-Ok-run g c = record {
  carries = carries_left (command_of (map string_bytes c.args.args.now)) (Run (run_names c.in-Run.files)) c.left.result c.in-Ok-run.machine (g.H.Host.view c.args.host.now) (g.H.Host.view c.run.new.host)
      (c.in-Ok.ensures.command ∙ ap (λ x. Some (command_names x)) c.in-Run.is) c.left.ensures.done c.in-Ok-run.ensures.performs;
}

pub returns-in-Ok-assemble_file : goal.returns-in-Ok-assemble_file
returns-in-Ok-assemble_file g c =
    let h = g.H.Host.view c.args.host.now in
    let k = g.H.Host.view c.assemble_file.new.host in
    record {
      carries = carries_done (command_of (map string_bytes c.args.args.now)) (Asm (asm_names c.in-Asm.files)) c.finished.result 0 h k
          (c.in-Ok.ensures.command ∙ ap (λ x. Some (command_names x)) c.in-Asm.is) c.finished.ensures.done c.in-Ok-assemble_file.ensures.performs (asm_status (asm_names c.in-Asm.files) h k c.in-Ok-assemble_file.ensures.performs);
    }

pub returns-in-Ok-soak_machine : goal.returns-in-Ok-soak_machine
returns-in-Ok-soak_machine g c = record {
  carries = carries_left (command_of (map string_bytes c.args.args.now)) (Soak c.in-Soak.seed) c.left-in-Ok-soak_machine.result c.in-Ok-soak_machine.machine (g.H.Host.view c.args.host.now) (g.H.Host.view c.soak_machine.new.host)
      (c.in-Ok.ensures.command ∙ ap (λ x. Some (command_names x)) c.in-Soak.is) c.left-in-Ok-soak_machine.ensures.done c.in-Ok-soak_machine.ensures.performs;
}

pub returns-in-Ok-check : goal.returns-in-Ok-check
returns-in-Ok-check g c =
    let checks = c.in-Ok-check.ensures.checks in
    let b = c.in-Ok-check.is_transcript in
    record {
      carries = carries_done (command_of (map string_bytes c.args.args.now)) (Check (check_names c.in-Check.files)) c.judged.result (if b then 0 else 10) (g.H.Host.view c.args.host.now) (g.H.Host.view c.check.new.host)
          (c.in-Ok.ensures.command ∙ ap (λ x. Some (command_names x)) c.in-Check.is) c.judged.ensures.done checks.performs (judgement_status b checks.performs.obeys.carries.output checks.output);
    }

pub returns-in-Ok-act : goal.returns-in-Ok-act
returns-in-Ok-act g c =
    let h = g.H.Host.view c.args.host.now in
    let k = g.H.Host.view c.act.new.host in
    record {
      carries = carries_done (command_of (map string_bytes c.args.args.now)) (Disk (action_names c.in-Disk.action)) c.finished-in-Ok-act.result 0 h k
          (c.in-Ok.ensures.command ∙ ap (λ x. Some (command_names x)) c.in-Disk.is) c.finished-in-Ok-act.ensures.done c.in-Ok-act.ensures.performs (action_status (action_names c.in-Disk.action) h k c.in-Ok-act.ensures.performs);
    }
