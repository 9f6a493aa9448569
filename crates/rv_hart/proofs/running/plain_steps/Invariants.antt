use Rattle.std.proofs.Common.{◌≡◌, ◌-◌}
use Rattle.xinu_model.specs.Isa.Ran.{ran, ran_on}
use Rattle.rv_hart.proofs.running.plain_steps.Given as goal

-- what is left comes to what all was to come to
abbrev pub invariant-loop-count : goal.invariant-loop-count
invariant-loop-count l = ran_on l.count (l.most - l.count) l.hart l.ram ≡ ran l.most l.initial.hart l.initial.ram
