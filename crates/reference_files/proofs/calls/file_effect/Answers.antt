use Rattle.std.proofs.Common.{◌∙◌, ap, sym}
use Rattle.reference_state.specs.FileCalls.{file_call_of}
use Rattle.reference_state.specs.declared.files.FileCall.{FileCall}
use Rattle.xinu_model.specs.Files.Calls as model
use Rattle.xinu_model.specs.Files.Opening.{delete_file}
use Rattle.reference_files.proofs.calls.file_effect.Goals as goal

pub returns-in-Delete : goal.returns-in-Delete
returns-in-Delete c =
    let s = c.args.s.now in
    record {
      effect = c.delete_file.ensures.deleted
          ∙ ap (λ name. delete_file name s) (c.deref-in-Delete.ensures.value ∙ c.name-in-Delete.view_is)
          ∙ ap (λ (x : FileCall). model.file_effect (file_call_of x) c.args.bytes.now s) (sym c.in-Delete.is);
    }
