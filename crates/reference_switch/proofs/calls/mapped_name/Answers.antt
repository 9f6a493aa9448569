use Rattle.std.proofs.Common.{◌≡◌, ◌∙◌, List, ℕ, Option, ap, subst}
use Rattle.std.specs.Prelude.{IfOk}
use Rattle.xinu_model.specs.Machine.{CallState}
use Rattle.xinu_model.specs.Names.Calls.{names_of}
use Rattle.xinu_model.specs.Names.Mapping.{MappedName, map_name}
use Rattle.xinu_model.specs.Names.Mounting.{NameRow}
use Rattle.reference_switch.proofs.calls.mapped_name.Goals as goal

pub returns : goal.returns
returns c =
    let rows = c.deref.ensures.value ∙ ap (λ (d : CallState). names_of d.state) c.m.view_is in
    let s = c.args.m.now.state in
    record {
      mapped = subst (λ (o : Option MappedName). IfOk c.map_name.result (λ r. r ≡ o))
          (ap (λ (l : List NameRow). map_name l c.name.inside.bytes.items) rows ∙ ap (λ (n : List ℕ). map_name (names_of s) n) c.name.view_is)
          c.map_name.ensures.mapped;
    }
