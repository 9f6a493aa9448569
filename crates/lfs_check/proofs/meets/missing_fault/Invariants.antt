use Rattle.std.proofs.Common.{◌≡◌, ◌+◌, ◌-◌, nat_le, slice_index}
use Rattle.lfs_check.specs.Meets.{lowest_from}
use Rattle.lfs_check.proofs.meets.missing_fault.Given as goal

abbrev pub invariant-loop-i : goal.invariant-loop-i
invariant-loop-i l = lowest_from (λ n. nat_le (slice_index l.counts n) 0) (l.low + l.i) (l.many - l.i) ≡ lowest_from (λ n. nat_le (slice_index l.counts n) 0) l.low l.many
