use Rattle.trace_report.specs.Reports.{happening_text}
use Rattle.trace_report.proofs.events.push_happening.Goals as goal

pub returns-in-Step : goal.returns-in-Step
unfolding happening_text
returns-in-Step c = record { happening = rw (c.in-Step.is, ← c.index.ensures.index) c.push_numbered.ensures.numbered }
