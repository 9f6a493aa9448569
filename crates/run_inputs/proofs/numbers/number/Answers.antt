-- A text of digits that is no number is none from 1 to a bound.
use Rattle.std.proofs.Common.{◌∙◌, Some, None, ap, arith, sym}
use Rattle.std.specs.Prelude.{if◌then◌else◌}
use Rattle.std.specs.List.{list_all}
use Rattle.std.specs.Char.{is_ascii_digit}
use Rattle.std.specs.Str.Parse.{digits_value}
use Rattle.run_inputs.proofs.Digits.{no_number}
use Rattle.run_inputs.proofs.numbers.number.Goals as goal

pub returns-in-Err : goal.returns-in-Err
returns-in-Err c =
    let digits = c.args.digits.now in
    let all = ap (list_all is_ascii_digit) (sym c.as_bytes.ensures.value) ∙ sym c.if-not-are_digits.ensures.digits in
    let none = no_number digits c.args.most all (omega (arith, c.if-digits-gt10.false)) c.in-Err.ensures.value.0 in
    record { number = sym (ap (λ b. if b then Some (digits_value 10 digits) else None) none) }
