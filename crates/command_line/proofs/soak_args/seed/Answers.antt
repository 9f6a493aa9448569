-- A text of digits that is no number is no number of a soak test.
use Rattle.std.proofs.Common.{◌∙◌, Some, None, ap, sym}
use Rattle.std.specs.Prelude.{if◌then◌else◌}
use Rattle.std.specs.List.{list_all}
use Rattle.std.specs.Char.{is_ascii_digit}
use Rattle.std.specs.Str.Parse.{digits_value}
use Rattle.command_line.proofs.Digits.{no_seed}
use Rattle.command_line.proofs.soak_args.seed.Goals as goal

pub returns-in-Err : goal.returns-in-Err
returns-in-Err c =
    let digits = c.args.digits.now in
    let all = ap (list_all is_ascii_digit) (sym c.as_bytes.ensures.value) ∙ sym c.if-not-are_digits.ensures in
    record { seed = sym (ap (λ b. if b then Some (digits_value 10 digits) else None) (no_seed digits all c.in-Err.ensures.value.0)) }
