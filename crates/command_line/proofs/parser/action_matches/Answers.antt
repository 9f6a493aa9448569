-- The law at the actions of a disk.
use Rattle.std.proofs.Common.{◌≡◌, ◌∙◌, [], ap, map, subst}
use Rattle.std.specs.String.{string_bytes}
use Rattle.std.proofs.lemmas.Result.{IfOk-weaker}
use Rattle.clap.proofs.WalkLemmas.{IfOk-both}
use Rattle.clap.specs.Words.{fault_of, subcommand_of, subcommand_rows_of}
use Rattle.command_line.proofs.Law.{strings_utf8}
use Rattle.command_line.proofs.Parse.{action_matched, action_unmatched}
use Rattle.command_line.proofs.parser.action_matches.Goals as goal

pub returns-clause-action : goal.returns-clause-action
returns-clause-action c =
    let args = map string_bytes c.args.args.now in
    let told = c.in_ok-disk_parser.ensures.told in
    IfOk-weaker c.matches_of.result _ _
    (λ m p. action_matched args (strings_utf8 c.args.args.now) (subst (λ a. fault_of a args ≡ []) told p.0) (subcommand_rows_of m) (p.1 ∙ ap (λ a. subcommand_of a args) told))
    (IfOk-both c.matches_of.result _ _ c.matches_of.ensures.faultless c.matches_of.ensures.rows)

pub returns-clause-no_command : goal.returns-clause-no_command
returns-clause-no_command c =
    let args = map string_bytes c.args.args.now in
    λ is. action_unmatched args (strings_utf8 c.args.args.now) (subst (λ a. fault_of a args ≡ [] → ⊥) c.in_ok-disk_parser.ensures.told (c.matches_of.ensures.faulty is))
