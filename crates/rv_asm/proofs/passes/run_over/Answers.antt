-- One more line.
use Rattle.std.proofs.Common.{◌≡◌, ◌+◌, ◌∷◌, ◌∙◌, arith}
use Rattle.std.specs.Prelude.{unwrap_or}
use Rattle.asm_syntax.specs.Statements.{line_of}
use Rattle.rv_asm.specs.Assembly.{lines_in, content}
use Rattle.rv_asm.specs.CodeLabels.{found}
use Rattle.rv_asm.specs.CodeLayouts.{seen_layout}
use Rattle.rv_asm.specs.Faults.{first_astray}
use Rattle.rv_asm.specs.Layouts.{start}
use Rattle.rv_asm.proofs.PassLemmas.{lines_in-cons, faults-next, content-next, astray-next}
use Rattle.rv_asm.proofs.passes.run_over.Goals as goal

pub loop-rest-preserved : goal.loop-rest-preserved
loop-rest-preserved c =
    let is : lines_in c.loop-rest.rest.now ≡ line_of c.first_line.result.0.now ∷ lines_in c.first_line.result.1.now =
    lines_in-cons c.loop-rest.rest.now c.first_line.result.0.now c.first_line.result.1.now c.first_line.ensures.lines in
    record {
      faults = c.loop-rest.invariant.faults
          ∙ faults-next (found c.args.all.now.labels) (c.loop-rest.number + 1) (lines_in c.loop-rest.rest.now)
          (lines_in c.first_line.result.1.now) (line_of c.first_line.result.0.now) (seen_layout c.loop-rest.pass.layout)
          (seen_layout c.take.new.self.layout) is c.in_ok-take.ensures.sound c.in_ok-take.ensures.layout;
      content =
          content-next (content (found c.args.all.now.labels) (lines_in c.args.text.now) start) (found c.args.all.now.labels)
          (lines_in c.loop-rest.rest.now) (lines_in c.first_line.result.1.now) (line_of c.first_line.result.0.now)
          (seen_layout c.loop-rest.pass.layout) (seen_layout c.take.new.self.layout) c.loop-rest.pass.content.items
          c.take.new.self.content.items c.loop-rest.invariant.content is c.in_ok-take.ensures.layout c.in_ok-take.ensures.content;
      astray =
          astray-next
          (first_astray (found c.args.all.now.labels) (unwrap_or c.args.all.now.place 0) c.args.all.now.at 1 (lines_in c.args.text.now)
          start)
          (found c.args.all.now.labels) (unwrap_or c.args.all.now.place 0) c.args.all.now.at (c.loop-rest.number + 1)
          (lines_in c.loop-rest.rest.now) (lines_in c.first_line.result.1.now) (line_of c.first_line.result.0.now)
          (seen_layout c.loop-rest.pass.layout) (seen_layout c.take.new.self.layout) c.loop-rest.pass.astray c.take.new.self.astray
          c.loop-rest.invariant.astray is c.in_ok-take.ensures.layout c.in_ok-take.ensures.astray;
      lines = omega (arith, c.loop-rest.invariant.lines, c.first_line.ensures.shorter);
    }
