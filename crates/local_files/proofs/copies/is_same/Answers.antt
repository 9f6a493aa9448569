use Rattle.std.proofs.Common.{◌≡◌, ◌∙◌, sym, true}
use Rattle.std.specs.Cmp.{booleans_Decides}
use Rattle.std.proofs.lemmas.Bool.{false≢true}
use Rattle.std.proofs.lemmas.Bool.Decides.{Decides-eqb}
use Rattle.std.proofs.lemmas.Slice.Eq.{slice_eq-Decides}
use Rattle.local_files.proofs.SameOpen.{shown_same, same_shown}
use Rattle.local_files.proofs.copies.is_same.Goals as goal
use Rattle.local_files.proofs.copies.is_same.Goals.{then-f-g, else-f-g, then-f-g-2, else-f-g-2}

pub returns-then-f-g-3 : goal.returns-then-f-g-3
returns-then-f-g-3 c = record {
  equal = λ base other_base clean other_clean is other_is.
      let f = c.in-Some-Some.f in let g = c.in-Some-Some.g in
      let names = slice_eq-Decides Decides-eqb f.entry.name g.entry.name c.eq.result c.eq.ensures in
      let first : c.if-f-g.value ≡ true = elim c.if-f-g-2.branch [ then-f-g-2 w ↦ w.if-f-g-2.true | else-f-g-2 w ↦ sym w.value-is ∙ c.if-f-g-3.true ] in
      let write : f.write ≡ g.write = elim c.if-f-g-2.branch [ then-f-g-2 w ↦ (booleans_Decides f.write g.write).0 (sym w.value-is ∙ c.if-f-g-3.true) | else-f-g-2 w ↦ absurd (false≢true (sym w.if-f-g-2.false ∙ first)) ] in
      let position : f.position ≡ g.position = elim c.if-f-g.branch [ then-f-g w ↦ w.if-f-g.true | else-f-g w ↦ (Decides-eqb f.position g.position).0 (sym w.value-is ∙ first) ] in
      let read : f.read ≡ g.read = elim c.if-f-g.branch [ then-f-g w ↦ (booleans_Decides f.read g.read).0 (sym w.value-is ∙ first) | else-f-g w ↦ absurd (w.if-f-g.false position) ] in (
        λ t. shown_same c.args.file c.args.other f g c.in-Some-Some.is-0 c.in-Some-Some.is-1 (record { position = position; read = read; write = write; name = names.0 t }),
        λ e. names.1 (same_shown base other_base c.args.file c.args.other f g c.in-Some-Some.is-0 c.in-Some-Some.is-1 clean other_clean is other_is e).name,
      );
}

pub returns-else-f-g-3 : goal.returns-else-f-g-3
returns-else-f-g-3 c = record {
  equal = λ base other_base clean other_clean is other_is.
      let f = c.in-Some-Some.f in let g = c.in-Some-Some.g in (
        λ t. absurd (false≢true (sym c.if-f-g-3.false ∙ t)),
        λ e. (let same = same_shown base other_base c.args.file c.args.other f g c.in-Some-Some.is-0 c.in-Some-Some.is-1 clean other_clean is other_is e in
            let first : c.if-f-g.value ≡ true = elim c.if-f-g.branch [ then-f-g w ↦ w.value-is ∙ (booleans_Decides f.read g.read).1 same.read | else-f-g w ↦ absurd (w.if-f-g.false same.position) ] in
            elim c.if-f-g-2.branch [ then-f-g-2 w ↦ w.value-is ∙ (booleans_Decides f.write g.write).1 same.write | else-f-g-2 w ↦ w.value-is ∙ first ]),
      );
}
