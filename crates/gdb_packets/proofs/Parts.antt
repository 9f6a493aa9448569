-- Actions between semicolons.
use Rattle.std.proofs.Common.{◌≡◌, ◌∙◌, ℕ, ◌+◌, ◌<◌, ◌==◌, Bool, false, List, [], ◌∷◌, length, take, drop, Some, None, refl, ap, arith, map}
use Rattle.std.specs.List.{All, position, position_or_len, slice_split}
use Rattle.std.proofs.lemmas.List.{length-map}
use Rattle.std.proofs.lemmas.List.Splits.{length-slice_split, slice_split_first, slice_split_none}
use Rattle.std.proofs.lemmas.List.Elements.{All-from_get_or}
use Rattle.std.proofs.lemmas.List.Sums.{fails_before_first}
use Rattle.gdb_packets.proofs.Cuts.{place_of, place_within, no_place}
use Rattle.gdb_packets.specs.Actions.{action_in, actions_in, lone}
use Rattle.gdb_packets.specs.declared.actions.Action.{Action}

abbrev is_semicolon : ℕ → Bool
is_semicolon b = b == 59

-- the first action ends at the first semicolon
pub actions-first : (bytes : List ℕ) (i : ℕ) → position (λ b. b == 59) bytes ≡ Some i
    → actions_in bytes ≡ action_in (take i bytes) ∷ actions_in (drop (i + 1) bytes)
actions-first bytes i is =
    ap (λ parts. map action_in parts) (slice_split_first is_semicolon bytes 0 (place_within is_semicolon bytes i is))
    ∙ ap (λ (k : ℕ). action_in (take k bytes) ∷ actions_in (drop (k + 1) bytes)) (place_of is_semicolon bytes i is)

-- one action of many isn't alone
lone-more : (action : Action) (actions : List Action) → 0 < length actions → lone (action ∷ actions) ≡ None
lone-more action [] some = absurd (omega arith)
lone-more action (next ∷ actions) some = refl

-- with a semicolon there are two actions at least
pub actions-many : (bytes : List ℕ) (i : ℕ) → position (λ b. b == 59) bytes ≡ Some i → lone (actions_in bytes) ≡ None
actions-many bytes i is =
    let some : 0 < length (actions_in (drop (i + 1) bytes)) =
    omega (arith, length-map (slice_split is_semicolon (drop (i + 1) bytes)) action_in, length-slice_split is_semicolon (drop (i + 1) bytes)) in
    ap lone (actions-first bytes i is) ∙ lone-more (action_in (take i bytes)) (actions_in (drop (i + 1) bytes)) some

-- without a semicolon there is one action
pub actions-last : (bytes : List ℕ) → position (λ b. b == 59) bytes ≡ None → actions_in bytes ≡ action_in bytes ∷ []
actions-last bytes is =
    let none : length bytes ≡ position_or_len is_semicolon bytes = no_place is_semicolon bytes is in
    let fails : All (λ (b : ℕ). is_semicolon b ≡ false) bytes =
    All-from_get_or (λ (b : ℕ). is_semicolon b ≡ false) bytes 0 (λ k within. fails_before_first is_semicolon bytes k 0 (omega arith)) in
    ap (λ parts. map action_in parts) (slice_split_none is_semicolon bytes fails)
