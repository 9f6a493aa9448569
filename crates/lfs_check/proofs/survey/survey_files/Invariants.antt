use Rattle.std.proofs.Common.{◌≡◌, ◌++◌, drop}
use Rattle.std.specs.List.{flat_map}
use Rattle.lfs_check.specs.Checks.{least, lowest_of, file_fault_4, file_fault_5, file_index_numbers, file_data_numbers}
use Rattle.lfs_check.proofs.survey.survey_files.Given as goal

abbrev pub invariant-loop-k : goal.invariant-loop-k
invariant-loop-k l = record {
  rule_4 : least l.survey.rule_4 (lowest_of (file_fault_4 l.fields.geometry l.fields.indexes.now) l.k (drop l.k l.entries)) ≡ least l.initial.survey.rule_4 (lowest_of (file_fault_4 l.fields.geometry l.fields.indexes.now) 0 l.entries);
  rule_5 : least l.survey.rule_5 (lowest_of (file_fault_5 l.fields.geometry l.fields.indexes.now) l.k (drop l.k l.entries)) ≡ least l.initial.survey.rule_5 (lowest_of (file_fault_5 l.fields.geometry l.fields.indexes.now) 0 l.entries);
  index_numbers : l.survey.index_numbers.items ++ flat_map (file_index_numbers l.fields.geometry l.fields.indexes.now) (drop l.k l.entries) ≡ l.initial.survey.index_numbers.items ++ flat_map (file_index_numbers l.fields.geometry l.fields.indexes.now) l.entries;
  data_numbers : l.survey.data_numbers.items ++ flat_map (file_data_numbers l.fields.geometry l.fields.indexes.now) (drop l.k l.entries) ≡ l.initial.survey.data_numbers.items ++ flat_map (file_data_numbers l.fields.geometry l.fields.indexes.now) l.entries;
}
