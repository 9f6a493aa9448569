-- The next entry is the first of the kind and process, or there is none.
use Rattle.std.proofs.Common.{◌∙◌, ap, sym}
use Rattle.race_entries.specs.Entries.{found}
use Rattle.race_entries.proofs.Finding.{first_found, none_found}
use Rattle.race_entries.proofs.byte.ByteEntries.find.Goals as goal

pub returns-then-is_by : goal.returns-then-is_by
returns-then-is_by c =
    let items = c.deref-entry-items.result.now in
    let first = first_found c.args.stores c.args.process items c.loop-entry.entry-index c.loop-entry-test.true c.loop-entry.invariant
    (sym c.is_by.ensures.is_by ∙ c.if-is_by.true) in
    record { found = sym first ∙ ap (found c.args.stores c.args.process) (c.deref-entry-items.ensures.value ∙ c.self.view_is) }

pub returns : goal.returns
returns c =
    let items = c.deref-entry-items.result.now in
    let none = none_found c.args.stores c.args.process items c.loop-entry.entry-index c.loop-entry-test.false c.loop-entry.invariant in
    record { found = sym none ∙ ap (found c.args.stores c.args.process) (c.deref-entry-items.ensures.value ∙ c.self.view_is) }
