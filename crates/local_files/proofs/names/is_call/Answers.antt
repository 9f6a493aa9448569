use Rattle.std.proofs.Common.{sym, ◌∙◌, subst}
use Rattle.local_files.specs.declared.FileCall.{FileCall}
use Rattle.local_files.specs.Hands.{IsCall}
use Rattle.local_files.proofs.names.is_call.Goals as goal

pub returns-in-Open : goal.returns-in-Open
returns-in-Open c =
    let P : FileCall → Type 0 = λ x. IsCall x in
    record {
      can = λ h. subst P (sym c.in-Open.is) (sym c.is_name.ensures.name ∙ h, c.is_name.ensures.len);
      only = λ h. c.is_name.ensures.name ∙ (subst P c.in-Open.is h).0;
    }

pub returns-in-Delete : goal.returns-in-Delete
returns-in-Delete c =
    let P : FileCall → Type 0 = λ x. IsCall x in
    record {
      can = λ h. subst P (sym c.in-Delete.is) (sym c.is_name-in-Delete.ensures.name ∙ h, c.is_name-in-Delete.ensures.len);
      only = λ h. c.is_name-in-Delete.ensures.name ∙ (subst P c.in-Delete.is h).0;
    }
