-- The command by the first argument.
use Rattle.std.proofs.Common.{◌∙◌, ap, map, option_map, sym}
use Rattle.std.proofs.lemmas.Result.{IfOk-weaker}
use Rattle.std.specs.String.{string_bytes}
use Rattle.command_line.specs.Commands.{Disk}
use Rattle.command_line.proofs.Choices.{disk_chosen, opened, simple_chosen}
use Rattle.command_line.proofs.command.command_of.Goals as goal

pub returns-in-Ok : goal.returns-in-Ok
returns-in-Ok c =
    let are = opened string_bytes c.args.args.now c.first-item.result c.as_str.result.now c.in-len1-up.len_at_least c.first-item.is c.as_str.ensures.value in
    record {
      command = disk_chosen (map string_bytes c.args.args.now) _ c.as_str.result.now _ are (sym c.eq.ensures ∙ c.if-eq.true) (ap (option_map Disk) c.in-Ok.ensures.action);
      no_command = λ is. absurd (cc);
    }

pub returns-in-Err : goal.returns-in-Err
returns-in-Err c =
    let are = opened string_bytes c.args.args.now c.first-item.result c.as_str.result.now c.in-len1-up.len_at_least c.first-item.is c.as_str.ensures.value in
    record {
      command = tt;
      no_command = λ is. disk_chosen (map string_bytes c.args.args.now) _ c.as_str.result.now _ are (sym c.eq.ensures ∙ c.if-eq.true) (ap (option_map Disk) (c.in-Err.ensures.no_command (cc)));
    }

pub returns-else-eq : goal.returns-else-eq
returns-else-eq c =
    let are = opened string_bytes c.args.args.now c.first-item.result c.as_str.result.now c.in-len1-up.len_at_least c.first-item.is c.as_str.ensures.value in
    record {
      command = IfOk-weaker c.simple_command_of.result _ _ (λ x e. simple_chosen (map string_bytes c.args.args.now) _ c.as_str.result.now _ are (sym c.eq.ensures ∙ c.if-eq.false) e) c.simple_command_of.ensures.command;
      no_command = λ is. simple_chosen (map string_bytes c.args.args.now) _ c.as_str.result.now _ are (sym c.eq.ensures ∙ c.if-eq.false) (c.simple_command_of.ensures.no_command is);
    }
