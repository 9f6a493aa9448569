-- Each method sets one field of the command.
use Rattle.std.proofs.Common.{◌∙◌, true, ap}
use Rattle.clap.specs.Simple.{App, app_of_fields}
use Rattle.clap.specs.declared.builder.command.Command.{Command}
use Rattle.clap.specs.declared.builder.command.Command.TheOpen.{Command-F}
use Rattle.command_line.proofs.parser.Parser.program.Goals as goal

-- what a parser is told, by what it was told of a new command
abbrev told_of : App → App
told_of app = record app {
  top = record app.top {
    no_binary_name = true;
    disable_help_flag = true;
    disable_help_subcommand = true;
    disable_version_flag = true;
    subcommand_required = true;
  };
}

pub returns : goal.returns
returns c =
    let fields =
    c.subcommand_required.ensures
    ∙ ap (λ (f : Command-F Command). record f { subcommand_required = true })
    (c.disable_version_flag.ensures
    ∙ ap (λ (f : Command-F Command). record f { disable_version_flag = true })
    (c.disable_help_subcommand.ensures
    ∙ ap (λ (f : Command-F Command). record f { disable_help_subcommand = true })
    (c.disable_help_flag.ensures ∙ ap (λ (f : Command-F Command). record f { disable_help_flag = true }) c.no_binary_name.ensures))) in
    record {
      told = ap app_of_fields fields ∙ ap told_of c.new.ensures.app;
      local = ap (λ (f : Command-F Command). f.has_globals) fields ∙ c.new.ensures.local;
    }
