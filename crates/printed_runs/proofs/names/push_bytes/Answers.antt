-- One byte more.
use Rattle.std.proofs.Common.{◌≡◌, ◌∙◌, ◌&&◌, ◌∷◌, ◌++◌, ◌≤◌, [], true, List, ℕ, ap, sym, arith, drop, length, get_or, append_assoc, append-nil}
use Rattle.std.proofs.lemmas.Bool.{and_parts}
use Rattle.printed_runs.specs.Names.{byte_of, is_digit, is_name, is_pair, is_shown, name_of}
use Rattle.printed_runs.proofs.Digits.{is_name-pair, name_of-end, name_of-pair}
use Rattle.printed_runs.proofs.names.push_bytes.Goals as goal

-- the digits that come next, and those after them
parts : (left : List ℕ) → 2 ≤ length left → is_name left ≡ true → (is_pair (get_or left 0 0) (get_or left 1 0) ≡ true) × (is_name (drop 2 left) ≡ true)
parts left some name =
    let both = and_parts (is_pair (get_or left 0 0) (get_or left 1 0)) (is_name (drop 2 left)) (sym (is_name-pair left some) ∙ name) in
    (both.0, both.1)

pub byte_of-requires-clause-high : goal.byte_of-requires-clause-high
byte_of-requires-clause-high c =
    let left = c.loop-left.left.now in
    let h = get_or left 0 0 in
    let l = get_or left 1 0 in
    (and_parts (is_digit h) (is_digit l && is_shown (byte_of h l)) (parts left c.loop-left-test.true c.loop-left.invariant.name).0).0

pub byte_of-requires-clause-low : goal.byte_of-requires-clause-low
byte_of-requires-clause-low c =
    let left = c.loop-left.left.now in
    let h = get_or left 0 0 in
    let l = get_or left 1 0 in
    (and_parts (is_digit l) (is_shown (byte_of h l)) (and_parts (is_digit h) (is_digit l && is_shown (byte_of h l)) (parts left c.loop-left-test.true c.loop-left.invariant.name).0).1).0

pub loop-left-preserved : goal.loop-left-preserved
loop-left-preserved c =
    let left = c.loop-left.left.now in
    let t = c.loop-left.text.items in
    let b = byte_of (get_or left 0 0) (get_or left 1 0) in
    let back = c.split_at.ensures.back in
    record {
      name = ap is_name back ∙ (parts left c.loop-left-test.true c.loop-left.invariant.name).1;
      bytes = ap (λ (ds : List ℕ). c.push.new.self.items ++ name_of ds) back
          ∙ ap (λ (bs : List ℕ). bs ++ name_of (drop 2 left)) c.in_ok-push.ensures.items
          ∙ ap (λ (x : ℕ). (t ++ x ∷ []) ++ name_of (drop 2 left)) c.byte_of.ensures.byte
          ∙ append_assoc t (b ∷ []) (name_of (drop 2 left))
          ∙ ap (λ (bs : List ℕ). t ++ bs) (sym (name_of-pair left c.loop-left-test.true))
          ∙ c.loop-left.invariant.bytes;
    }

pub returns : goal.returns
returns c =
    let none = name_of-end c.loop-left.left.now (omega (arith, c.loop-left-test.false)) in
    record { bytes = sym (append-nil c.loop-left.text.items) ∙ ap (λ (bs : List ℕ). c.loop-left.text.items ++ bs) (sym none) ∙ c.loop-left.invariant.bytes }
