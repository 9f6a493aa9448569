-- The getter's values, by the rows of the matches.
use Rattle.std.proofs.Common.{◌∙◌, [], ap, codes, map, option_map, sym}
use Rattle.std.specs.Option.{unwrap_or}
use Rattle.std.proofs.lemmas.Result.{IfOk-weaker}
use Rattle.clap.specs.Matches.{found_of}
use Rattle.clap.proofs.WalkLemmas.{raw_values-rows}
use Rattle.command_line.proofs.matches.args_of.Goals as goal

pub returns-in-Some : goal.returns-in-Some
returns-in-Some c =
    let all = ap (option_map (λ s. map (λ v. v.now) s.now)) (sym c.in-Some.is) ∙ c.get_strs.ensures ∙ raw_values-rows (found_of c.args.matches.now) (codes "arg") in
    record { args = IfOk-weaker c.from_slice.result _ _ (λ v e. ap (map (λ s. s.now)) e ∙ ap (λ o. unwrap_or o []) all) c.from_slice.ensures.items }

pub returns-in-None : goal.returns-in-None
returns-in-None c =
    let all = ap (option_map (λ s. map (λ v. v.now) s.now)) (sym c.in-None.is) ∙ c.get_strs.ensures ∙ raw_values-rows (found_of c.args.matches.now) (codes "arg") in
    record { args = ap (map (λ s. s.now)) c.new.ensures.items ∙ ap (λ o. unwrap_or o []) all }
