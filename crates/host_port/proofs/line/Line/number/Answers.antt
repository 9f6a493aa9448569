-- A number of 32 bits has at most ten digits and a sign.
use Rattle.std.proofs.Common.{◌≤◌, length, arith}
use Rattle.std.specs.Fmt.{signed_decimal}
use Rattle.std.proofs.lemmas.Fmt.{length_signed_le}
use Rattle.host_port.proofs.line.Line.number.Goals as goal

pub returns-clause-small : goal.returns-clause-small
returns-clause-small c = λ few.
    let digits : length (signed_decimal c.args.n) ≤ 11 = length_signed_le 10 c.args.n (omega arith) (omega arith) in
    grind (arith, digits)
