-- What the lines so far have given, and what those that are left will give.
use Rattle.std.proofs.Common.{◌≡◌, ◌+◌, ◌++◌, ◌≤◌, length}
use Rattle.std.specs.Prelude.{unwrap_or}
use Rattle.rv_asm.specs.Assembly.{lines_in, content}
use Rattle.rv_asm.specs.CodeLabels.{found}
use Rattle.rv_asm.specs.CodeLayouts.{seen_layout}
use Rattle.rv_asm.specs.Faults.{first_fault, first_astray, fault_or}
use Rattle.rv_asm.specs.Layouts.{start}
use Rattle.rv_asm.proofs.passes.run_over.Given as goal

abbrev pub invariant-loop-rest : goal.invariant-loop-rest
invariant-loop-rest l = record {
  faults : first_fault (found l.all.labels) 1 (lines_in l.text) start
      ≡ first_fault (found l.all.labels) (l.number + 1) (lines_in l.rest) (seen_layout l.pass.layout);
  content : content (found l.all.labels) (lines_in l.text) start
      ≡ l.pass.content.items ++ content (found l.all.labels) (lines_in l.rest) (seen_layout l.pass.layout);
  astray : first_astray (found l.all.labels) (unwrap_or l.all.place 0) l.all.at 1 (lines_in l.text) start
      ≡ fault_or l.pass.astray
      (first_astray (found l.all.labels) (unwrap_or l.all.place 0) l.all.at (l.number + 1) (lines_in l.rest) (seen_layout l.pass.layout));
  lines : l.number + length l.rest ≤ length l.text;
}

abbrev pub decreases-loop-rest : goal.decreases-loop-rest
decreases-loop-rest l = length l.rest
