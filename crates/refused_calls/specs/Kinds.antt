-- Refused calls by their kinds: calls of one number that are refused for one reason.
use Rattle.std.specs.Prelude.{ℕ, ◌==◌, nat_le, Bool, if◌then◌else◌, ◌&&◌, ◌||◌, List, [], ◌∷◌, ◌++◌, length, map, take}
use Rattle.std.specs.List.{list_any}
use Rattle.refusal_reasons.specs.contracts.reasons.Reason.{the_type}
use Rattle.refusal_reasons.specs.declared.reasons.Reason.{Reason}
use Rattle.refused_calls.specs.declared.kinds.Kind.{Kind}
use Rattle.refused_calls.specs.declared.refused.Refused.{Refused}
use Rattle.xinu_model.specs.Sound.Tables.{times}
use denote.Enum.Declared.{tag_of}

-- the place of a reason among all
abbrev pub place_among : Reason → ℕ
place_among reason = tag_of the_type reason

-- whether two refused calls are of one kind
abbrev pub same_kind : Refused → Refused → Bool
same_kind a b = (a.call.number == b.call.number) && (place_among a.reason == place_among b.reason)

-- the first calls of their kinds, with one more if it is the first of its kind and there are fewer than twenty
abbrev pub with_first : Refused → List Refused → List Refused
with_first r seen = if nat_le 20 (length seen) || list_any (same_kind r) seen then seen else seen ++ r ∷ []

-- the same with those that follow
abbrev pub firsts_after : List Refused → List Refused → List Refused
firsts_after seen [] = seen
firsts_after seen (r ∷ rest) = firsts_after (with_first r seen) rest

-- a kind by a call, and how many of these calls are of that kind
abbrev pub kind_in : List Refused → Refused → Kind
kind_in calls r = record { first = r; count = times (same_kind r) calls }

-- The kinds of refused calls in the order of their first calls, at most twenty.
abbrev pub kinds_of : List Refused → List Kind
kinds_of calls = map (kind_in calls) (firsts_after [] calls)

-- a call by itself
abbrev pub single : Refused → Kind
single r = record { first = r; count = 1 }

-- Each refused call by itself, at most ten thousand.
abbrev pub each_of : List Refused → List Kind
each_of calls = map single (take 10000 calls)
