use Rattle.std.proofs.Common.{◌≡◌, ℕ, arith, refl, subst}
use Rattle.host_port.specs.Printing.{Prints}
use Rattle.xinu_commands.specs.DiskVerdict.{file_lines}
use Rattle.run_inputs.specs.Fetching.{refusal_of}
use Rattle.xinu_commands.proofs.Carried.{fresh}
use Rattle.xinu_commands.proofs.FileLines.{first_lines, last_lines, lines_to, more_lines}
use Rattle.xinu_commands.proofs.Sent.{text_sent}
use Rattle.xinu_commands.proofs.sending.print_files.Goals as goal

pub loop-k-init : goal.loop-k-init
loop-k-init g c = first_lines _ _ _ c.new-out.ensures.fresh

pub loop-k-preserved : goal.loop-k-preserved
loop-k-preserved g c = more_lines _ _ _ _ _ _ _ c.loop-k.invariant c.print_file.ensures.prints

pub returns : goal.returns
returns g c =
    let all : c.loop-k.k ≡ 78 = omega (arith, c.loop-k-test.false) in
    let P : ℕ → Type 0 = λ k. Prints fresh c.loop-k.out (g.H.Host.view c.args.host.now) (g.H.Host.view c.loop-k.host) (lines_to k c.args.image.now) in
    record {
      sends = text_sent (file_lines c.args.image.now) fresh c.loop-k.out (refusal_of c.printed.result) _ _ refl (last_lines _ _ _ c.args.image.now c.requires.clean (subst P all c.loop-k.invariant)) c.printed.ensures.refused;
    }
