use Rattle.std.proofs.Common.{◌∙◌, ap, arith, sym}
use Rattle.std.specs.List.{list_all}
use Rattle.std.specs.Char.{is_ascii_digit}
use Rattle.command_words.proofs.Numbers.{no_number}
use Rattle.command_words.proofs.value_kinds.number_in.Goals as goal

pub returns-in-Err : goal.returns-in-Err
returns-in-Err c =
    let digits = ap (list_all is_ascii_digit) (sym c.as_bytes.ensures.value) ∙ sym c.are_digits.ensures.digits ∙ c.if-not-are_digits.false in
    record { number = no_number c.args.digits.now digits (omega arith) c.in-Err.ensures.value.0 }
