-- The entry is the one of its kind and process.
use Rattle.std.proofs.Common.{◌∙◌, ◌<◌, ap, length, subst, sym}
use Rattle.std.proofs.lemmas.Bool.{ltb-true}
use Rattle.race_entries.specs.Entries.{Apart, found}
use Rattle.race_entries.proofs.Apartness.{apart_at}
use Rattle.race_entries.proofs.byte.ByteEntries.entry.Goals as goal

pub returns-clause-only : goal.returns-clause-only
returns-clause-only c =
    let items = c.deref.result.now in
    let e = c.in_ok-entry.entry.now in
    let lookup = c.in_ok-entry.ensures.lookup in
    let low : c.args.i < length items = ltb-true c.args.i (length items) (sym lookup.0) in
    let same = c.deref.ensures.value ∙ c.self.view_is in
    let apart = subst Apart (sym c.deref.ensures.value) c.self.invariant in
    ap (found e.stores e.process) (sym same) ∙ apart_at items c.args.i e low lookup.1 apart
