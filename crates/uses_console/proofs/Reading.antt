-- The items of a console are taken, one after another.
use Rattle.std.proofs.Common.{◌≡◌, ◌∙◌, ℕ, suc, ◌+◌, ◌≤◌, List, [], ◌∷◌, ◌++◌, map, length, refl, sym, ap, arith}
use Rattle.std.proofs.lemmas.List.{append_assoc, append-nil}
use Rattle.xinu_base.specs.declared.console.Item.{Item}
use Rattle.xinu_model.specs.Console.Sound.{IsSoundConsole}
use Rattle.xinu_model.specs.Console.State.{Console, byte_of, with_next_item}
use Rattle.uses_console.specs.Lines.{with_none_committed}

-- What holds after n of k items were taken, as these bytes: nothing else has changed.
pub record IsReading (before now : Console) (bytes : List ℕ) (n k : ℕ) : Type 0 where
  pub rest : record before { committed = now.committed } ≡ now
  pub whole : bytes ++ map byte_of now.committed ≡ map byte_of before.committed
  pub count : n + length now.committed ≡ k
  pub most : k ≤ 128

-- nothing was taken
pub none_taken : (c : Console) → IsSoundConsole c → IsReading c c [] 0 (length c.committed)
none_taken c sound = let room = sound.input in record { rest = refl; whole = refl; count = omega arith; most = omega arith }

-- one item more
pub one_taken : (before now after : Console) (x : Item) (bytes : List ℕ) (n k : ℕ) → IsReading before now bytes n k → now ≡ with_next_item x after
    → IsReading before after (bytes ++ byte_of x ∷ []) (n + 1) k
one_taken before now after x bytes n k r is =
    let items : now.committed ≡ x ∷ after.committed = ap (λ c. c.committed) is in
    let many : length now.committed ≡ suc (length after.committed) = ap length items in
    let count = r.count in
    record {
      rest = ap (λ (c : Console). record c { committed = after.committed }) (r.rest ∙ is);
      whole = append_assoc bytes (byte_of x ∷ []) (map byte_of after.committed) ∙ ap (λ l. bytes ++ map byte_of l) (sym items) ∙ r.whole;
      count = omega (arith, many, count);
      most = r.most;
    }

-- all are taken once none is left
pub all_taken : (before now : Console) (bytes : List ℕ) (n k : ℕ) → IsReading before now bytes n k → k ≤ n
    → (bytes ≡ map byte_of before.committed) × (now ≡ with_none_committed before)
all_taken before now bytes n k r none =
    let count = r.count in
    let items : now.committed ≡ [] = go now.committed (omega (arith, count, none)) in (
      sym (append-nil bytes) ∙ ap (λ l. bytes ++ map byte_of l) (sym items) ∙ r.whole,
      sym r.rest ∙ ap (λ l. record before { committed = l }) items,
    )
  where
    go : (l : List Item) → length l ≡ 0 → l ≡ []
    go [] e = refl
    go (y ∷ l) e = absurd (omega (arith, e))
