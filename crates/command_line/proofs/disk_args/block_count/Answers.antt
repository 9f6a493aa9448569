-- A text of digits that is no number is no count.
use Rattle.std.proofs.Common.{◌≤◌, ◌∙◌, Some, None, ap, sym, arith, length}
use Rattle.std.specs.Prelude.{if◌then◌else◌}
use Rattle.std.specs.List.{list_all}
use Rattle.std.specs.Char.{is_ascii_digit}
use Rattle.std.specs.Str.Parse.{digits_value}
use Rattle.command_line.proofs.Digits.{no_count}
use Rattle.command_line.proofs.disk_args.block_count.Goals as goal

pub returns-in-Err : goal.returns-in-Err
returns-in-Err c =
    let digits = c.args.digits.now in
    let all = ap (list_all is_ascii_digit) (sym c.as_bytes.ensures.value) ∙ sym c.if-not-are_digits.ensures in
    let few : length digits ≤ 5 = omega arith in
    record { count = sym (ap (λ b. if b then Some (digits_value 10 digits) else None) (no_count digits all few c.in-Err.ensures.value.0)) }
