-- The lines that are left lie after those so far.
use Rattle.std.proofs.Common.{◌≡◌, length}
use Rattle.rv_asm.specs.Assembly.{lines_in}
use Rattle.rv_asm.specs.CodeLayouts.{seen_layout}
use Rattle.rv_asm.specs.Layouts.{after_all, start}
use Rattle.rv_asm.proofs.layouts.lay_out.Given as goal

abbrev pub invariant-loop-rest : goal.invariant-loop-rest
invariant-loop-rest l = after_all (lines_in l.text) start ≡ after_all (lines_in l.rest) (seen_layout l.layout)

abbrev pub decreases-loop-rest : goal.decreases-loop-rest
decreases-loop-rest l = length l.rest
