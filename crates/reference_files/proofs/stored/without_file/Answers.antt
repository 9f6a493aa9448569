use Rattle.std.proofs.Common.{rules, not}
use Rattle.std.proofs.lemmas.Fn.{filter_same}
use Rattle.xinu_model.specs.Files.Stored.{StoredFile, is_named}
use Rattle.reference_files.proofs.stored.without_file.Goals as goal

pub returns : goal.returns
returns c = record {
  without = filter_same _ (λ (f : StoredFile). not (is_named c.args.name.now f)) _ (λ x b f' k. search rules) _ _ c.retain.ensures.filtered;
}
