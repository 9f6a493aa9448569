-- One label, and then the others.
use Rattle.std.proofs.Common.{◌∙◌, ap}
use Rattle.asm_syntax.specs.Statements.{Line, line_of}
use Rattle.rv_asm.specs.CodeLayouts.{seen_layout}
use Rattle.rv_asm.proofs.LabelledLayouts.{labels_layout, labels_double, or_known, or_unknown}
use Rattle.rv_asm.proofs.layouts.Layout.take_labels.Goals as goal

pub loop-name-preserved-then-double : goal.loop-name-preserved-then-double
loop-name-preserved-then-double c = record {
  layout =
      labels_layout (line_of c.args.line.now) (line_of c.loop-name.rest.now) (line_of c.in-Some.next.now) (seen_layout c.args.self.now)
      (seen_layout c.loop-name.self) (seen_layout c.label.new.self) c.in-Some.name.now c.in-Some.ensures.label c.in_ok-known.ensures.layout
      c.loop-name.invariant.layout;
  double = c.loop-name.invariant.double ∙ or_known c.loop-name.double _ _ c.if-double.true;
  said = c.loop-name.invariant.said ∙ c.in-Some.ensures.said;
  statement = c.loop-name.invariant.statement ∙ ap (λ (l : Line). l.statement) c.in-Some.ensures.label;
}

pub loop-name-preserved : goal.loop-name-preserved
loop-name-preserved c = record {
  layout =
      labels_layout (line_of c.args.line.now) (line_of c.loop-name.rest.now) (line_of c.in-Some.next.now) (seen_layout c.args.self.now)
      (seen_layout c.loop-name.self) (seen_layout c.label.new.self) c.in-Some.name.now c.in-Some.ensures.label c.in_ok-known.ensures.layout
      c.loop-name.invariant.layout;
  double =
      c.loop-name.invariant.double ∙ or_unknown c.loop-name.double _ c.if-double.false
      ∙ labels_double (line_of c.loop-name.rest.now) (line_of c.in-Some.next.now) (seen_layout c.loop-name.self)
      (seen_layout c.label.new.self) c.in-Some.name.now c.in_ok-known.known c.in-Some.ensures.label c.in_ok-known.ensures.layout
      c.in_ok-known.ensures.known;
  said = c.loop-name.invariant.said ∙ c.in-Some.ensures.said;
  statement = c.loop-name.invariant.statement ∙ ap (λ (l : Line). l.statement) c.in-Some.ensures.label;
}
