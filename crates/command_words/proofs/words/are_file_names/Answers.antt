-- All arguments pass a test if and only if all their texts do.
use Rattle.std.proofs.Common.{◌∙◌, List, ℕ, Bor, rules, sym, tests}
use Rattle.std.proofs.lemmas.Iterator.{YieldsList-from_slice}
use Rattle.std.proofs.lemmas.Iterator.Search.{all_from_yields_List}
use Rattle.std.proofs.lemmas.List.Folds.{list_all-map}
use Rattle.command_line.specs.RunArgs.{is_file_name}
use Rattle.command_words.proofs.words.are_file_names.Goals as goal

pub returns : goal.returns
returns c = record {
  names = all_from_yields_List (λ (s : Bor (List ℕ)). is_file_name s.now) _ _ c.all.result c.all.ensures.ran (YieldsList-from_slice c.args.images.now cc) (λ x b q k. search (rules, tests))
      ∙ sym (list_all-map is_file_name (λ s. s.now) c.args.images.now);
}
