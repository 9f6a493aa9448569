use Rattle.std.proofs.Common.{◌∙◌, sym, ap, ◌+◌, ◌++◌, drop, arith}
use Rattle.std.specs.List.{flat_map}
use Rattle.lfs_format.specs.Directory.{void_entry}
use Rattle.lfs_check.specs.Checks.{least, lowest_of, file_fault_4, file_fault_5, file_index_numbers, file_data_numbers}
use Rattle.lfs_check.proofs.Surveys.{lowest_of-more, lowest_of-all, numbers-more}
use Rattle.lfs_check.proofs.survey.survey_files.Goals as goal

pub loop-k-preserved : goal.loop-k-preserved
loop-k-preserved c =
    let g = c.args.fields.now.geometry in let ix = c.args.fields.now.indexes.now in let es = c.args.entries.now in let k = c.loop-k.k in let s = c.loop-k.survey in
    record {
      rule_4 = ap (λ f. least f (lowest_of (file_fault_4 g ix) (k + 1) (drop (k + 1) es))) c.in_ok-survey_file.ensures.rule_4 ∙ sym (lowest_of-more (file_fault_4 g ix) es k void_entry s.rule_4 (omega arith)) ∙ c.loop-k.invariant.rule_4;
      rule_5 = ap (λ f. least f (lowest_of (file_fault_5 g ix) (k + 1) (drop (k + 1) es))) c.in_ok-survey_file.ensures.rule_5 ∙ sym (lowest_of-more (file_fault_5 g ix) es k void_entry s.rule_5 (omega arith)) ∙ c.loop-k.invariant.rule_5;
      index_numbers = ap (λ m. m ++ flat_map (file_index_numbers g ix) (drop (k + 1) es)) c.in_ok-survey_file.ensures.index_numbers ∙ sym (numbers-more (file_index_numbers g ix) es k void_entry s.index_numbers.items (omega arith)) ∙ c.loop-k.invariant.index_numbers;
      data_numbers = ap (λ m. m ++ flat_map (file_data_numbers g ix) (drop (k + 1) es)) c.in_ok-survey_file.ensures.data_numbers ∙ sym (numbers-more (file_data_numbers g ix) es k void_entry s.data_numbers.items (omega arith)) ∙ c.loop-k.invariant.data_numbers;
    }

pub returns-clause-rule_4 : goal.returns-clause-rule_4
returns-clause-rule_4 c = sym (lowest_of-all (file_fault_4 c.args.fields.now.geometry c.args.fields.now.indexes.now) c.args.entries.now c.loop-k.k c.loop-k.survey.rule_4 (omega arith)) ∙ c.loop-k.invariant.rule_4

pub returns-clause-rule_5 : goal.returns-clause-rule_5
returns-clause-rule_5 c = sym (lowest_of-all (file_fault_5 c.args.fields.now.geometry c.args.fields.now.indexes.now) c.args.entries.now c.loop-k.k c.loop-k.survey.rule_5 (omega arith)) ∙ c.loop-k.invariant.rule_5
