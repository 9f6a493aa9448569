use Rattle.std.proofs.Common.{◌≡◌, ◌<◌, ℕ, length, get_or, take, min}
use Rattle.lfs_check.specs.Meets.{times_met}
use Rattle.lfs_check.proofs.meets.count_meets.Given as goal

abbrev pub invariant-loop-m : goal.invariant-loop-m
invariant-loop-m l = record {
  len : length l.counts.items ≡ l.high;
  each : (n : ℕ) → n < l.high → get_or l.counts.items n 0 ≡ min 2 (times_met n (take l.m-index l.met));
}
