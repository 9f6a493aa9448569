-- The entry takes the place of the first of its kind and process, or comes after all.
use Rattle.std.proofs.Common.{◌≡◌, ◌∙◌, ◌<◌, ◌≤◌, List, Some, true, length, if◌then◌else◌, ap, sym, subst, arith}
use Rattle.race_entries.specs.Entries.{Apart, found, is_by}
use Rattle.race_entries.specs.declared.entry.Entry.{Entry}
use Rattle.race_entries.proofs.Apartness.{apart_push, apart_set}
use Rattle.race_entries.proofs.Finding.{at, none_found, push_found, read_at, set_found}
use Rattle.race_entries.proofs.Keys.{keyed_is}
use Rattle.race_entries.proofs.byte.ByteEntries.enter.Goals as goal

low : (c : goal.After-self-1) → c.loop-i.i < length c.loop-i.self-inside.entries.items
low c = omega (arith, c.loop-i-test.true, c.len-i-end.ensures, c.self.inside.entries.ok, ap length c.loop-i.invariant.same)

is : (c : goal.After-self-1) → is_by c.args.entry.stores c.args.entry.process (at c.loop-i.self-inside.entries.items c.loop-i.i) ≡ true
is c =
    ap (is_by c.args.entry.stores c.args.entry.process) (read_at c.loop-i.self-inside.entries.items c.loop-i.i c.index.result.now (low c) c.index.ensures)
    ∙ sym c.is_by.ensures.is_by ∙ c.if-is_by.true

pub invariant_of-self : goal.invariant_of-self
invariant_of-self c =
    let apart : Apart c.loop-i.self-inside.entries.items = subst Apart (sym c.loop-i.invariant.same) c.self.invariant in
    apart_set c.args.entry c.loop-i.self-inside.entries.items c.loop-i.i (low c) (keyed_is _ c.args.entry (is c)) apart

pub returns-then-is_by-clause-entered : goal.returns-then-is_by-clause-entered
returns-then-is_by-clause-entered c stores u =
    let items = c.loop-i.self-inside.entries.items in
    let e = c.args.entry in
    let old : items ≡ c.args.self.now = c.loop-i.invariant.same ∙ c.self.view_is in
    set_found e items c.loop-i.i (low c) c.loop-i.invariant.missed (keyed_is _ e (is c)) stores u
    ∙ ap (λ (l : List Entry). if is_by stores u e then Some e else found stores u l) old

pub invariant_of-self-2 : goal.invariant_of-self-2
invariant_of-self-2 c =
    let items = c.loop-i.self-inside.entries.items in
    let e = c.args.entry in
    let apart : Apart items = subst Apart (sym c.loop-i.invariant.same) c.self.invariant in
    let all : length items ≤ c.loop-i.i = omega (arith, c.loop-i-test.false, c.len-i-end.ensures, c.self.inside.entries.ok, ap length c.loop-i.invariant.same) in
    let none = none_found e.stores e.process items c.loop-i.i all c.loop-i.invariant.missed in
    subst Apart (sym c.in_ok-push.ensures.items) (apart_push e items none apart)

pub returns-clause-entered : goal.returns-clause-entered
returns-clause-entered c stores u =
    let items = c.loop-i.self-inside.entries.items in
    let e = c.args.entry in
    let all : length items ≤ c.loop-i.i = omega (arith, c.loop-i-test.false, c.len-i-end.ensures, c.self.inside.entries.ok, ap length c.loop-i.invariant.same) in
    let none = none_found e.stores e.process items c.loop-i.i all c.loop-i.invariant.missed in
    let old : items ≡ c.args.self.now = c.loop-i.invariant.same ∙ c.self.view_is in
    ap (found stores u) c.in_ok-push.ensures.items ∙ push_found e items none stores u
    ∙ ap (λ (l : List Entry). if is_by stores u e then Some e else found stores u l) old
