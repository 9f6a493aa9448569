use Rattle.std.proofs.Common.{List, ℕ, [], ◌∷◌, arith, subst}
use Rattle.host_port.specs.Outside.{naming}
use Rattle.host_port.specs.declared.host.Channel.TheVariants.{Image}
use Rattle.xinu_commands.specs.AsmVerdict.{written_file}
use Rattle.run_inputs.specs.Fetching.{refusal_of}
use Rattle.xinu_commands.specs.Stages.{SendsOutput, output_on}
use Rattle.xinu_commands.proofs.Assembled.{faulty_stage, long_stage, made_stage}
use Rattle.xinu_commands.proofs.asm_command.assemble_text.Goals as goal

pub returns-then-source-gt-LONGEST_SOURCE : goal.returns-then-source-gt-LONGEST_SOURCE
returns-then-source-gt-LONGEST_SOURCE g c = record {
  stage = long_stage c.args.elf c.args.source.now (naming Image c.args.out.now ∷ []) (g.H.Host.view c.args.host.now) (omega arith);
}

pub returns-in-Err : goal.returns-in-Err
returns-in-Err g c = record {
  stage =
      faulty_stage c.args.elf c.args.source.now (naming Image c.args.out.now ∷ []) c.in-Err.fault c.asm_refusal.result
      (g.H.Host.view c.args.host.now) c.asm_refusal.ensures.refusal (omega arith) c.in-Err.ensures.assembled;
}

pub returns-in-Ok : goal.returns-in-Ok
returns-in-Ok g c =
    let calls = naming Image c.args.out.now ∷ [] in
    let h = g.H.Host.view c.args.host.now in
    let k = g.H.Host.view c.write_file.new.host in
    let ended = refusal_of c.write_file.result in
    let P : List ℕ → Type 0 = λ file. SendsOutput (output_on Image (written_file c.args.elf file)) calls ended h k in
    record {
      stage = made_stage c.args.elf c.args.source.now c.in-Ok.file.items calls ended h k (omega arith) c.in-Ok.ensures.assembled
          (subst P c.as_slice.ensures.value c.write_file.ensures.sends);
    }
