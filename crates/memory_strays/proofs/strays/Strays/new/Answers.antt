-- No word is executed.
use Rattle.std.proofs.Common.{◌∙◌, Bool, List, None, ap, false, not, replicate}
use Rattle.memory_strays.specs.Strays.{Noted, nothing_noted}
use Rattle.memory_strays.proofs.strays.Strays.new.Goals as goal

-- nothing is noted, with these words executed, and by whether an image lies near null
abbrev none_noted : List Bool → Bool → Noted
none_noted executed near =
    record { executed = executed; is_clear = not near; below = None; stack = None; code = None; free = None; null = None }

pub returns : goal.returns
unfolding nothing_noted
returns c = record {
  none = ap (λ (l : List Bool). none_noted l c.lie_near_null.result) (c.in_ok-executed.ensures.items_if_clones_equal (λ y same. same))
      ∙ ap (none_noted (replicate 262144 false)) c.lie_near_null.ensures.lie;
}
