-- The number of a few digits, as std reads it.
use Rattle.std.proofs.Common.{◌≡◌, ◌∙◌, true, arith, rules, ap, subst}
use Rattle.std.specs.Char.{is_ascii_digit}
use Rattle.std.specs.List.{list_all}
use Rattle.std.specs.Result.{result_unwrap_or}
use Rattle.std.specs.Str.Parse.{ParsesUnsigned, digits_value}
use Rattle.std.proofs.lemmas.Fmt.{IsAscii-from_digits}
use Rattle.std.proofs.lemmas.Str.{IsUtf8-from_ascii}
use Rattle.std.proofs.lemmas.Str.Parse.{IsDigitsTest, IsNumeralModel, digits_value_short, numerals_by_value, parse_gives}
use Rattle.printed_runs.proofs.notes.value_of.Goals as goal

tests : IsDigitsTest (λ ds. list_all is_ascii_digit ds ≡ true)
tests = search rules

own : IsNumeralModel (λ ds. list_all is_ascii_digit ds ≡ true) (digits_value 10)
own = numerals_by_value _ tests

pub returns-in-Ok : goal.returns-in-Ok
returns-in-Ok c =
    let few = digits_value_short own c.args.digits.now 9 c.requires.digits c.requires.few in
    let parses = subst (λ text. ParsesUnsigned 32 10 text c.parse.result) c.in-Ok.ensures.cases.0 c.parse.ensures.value.0 in
    let gives = parse_gives own 32 c.args.digits.now c.parse.result parses c.requires.digits c.requires.some (omega (arith, few)) in
    record { value = c.unwrap_or.ensures ∙ ap (λ r. result_unwrap_or r 0) gives }

pub returns-in-Err : goal.returns-in-Err
returns-in-Err c = absurd (c.in-Err.ensures.cases.0 (IsUtf8-from_ascii _ (IsAscii-from_digits _ (own.to _ c.requires.digits))))
