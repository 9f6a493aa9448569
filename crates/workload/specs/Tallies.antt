-- What a tally has counted.
use Rattle.std.specs.Prelude.{ℕ, ◌*◌, ◌≤◌}
use Rattle.workload.specs.Summaries.{Counts}
use Rattle.workload.specs.declared.tallies.Tally.TheInside.{Inside}

-- the counts of texts, and how many texts there were
pub record Tallied : Type 0 where
  pub counts : Counts
  pub texts : ℕ

abbrev pub tallied_of : Inside → Tallied
tallied_of t = record {
  counts = record { calls = t.calls; replies = t.replies; switches = t.switches; sent = t.sent };
  texts = t.texts;
}

-- A text has fewer than 2^64 lines.
pub record IsTally (t : Inside) : Type 0 where
  pub calls : t.calls ≤ t.texts * 18446744073709551616
  pub replies : t.replies ≤ t.texts * 18446744073709551616
  pub switches : t.switches ≤ t.texts * 18446744073709551616
  pub sent : t.sent ≤ t.texts * 18446744073709551616
