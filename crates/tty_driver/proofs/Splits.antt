-- A ring's items as those that can be taken and the line after them.
use Rattle.std.proofs.Common.{◌≡◌, ℕ, zero, suc, ◌+◌, ◌-◌, ◌<◌, ◌≤◌, List, [], ◌∷◌, ◌++◌, length, take, drop, map, Some, None, refl, sym, ap, subst, ◌∙◌, arith}
use Rattle.std.specs.Prelude.{slice_get}
use Rattle.std.proofs.Math.Seq.{take-append_seam, drop-append_seam}
use Rattle.std.proofs.lemmas.List.{length-append, length-map, map-append, append_assoc, length-drop}
use Rattle.circular_buffer.specs.Buffer.{last_item}
use Rattle.xinu_base.specs.declared.console.Item.{Item}
use Rattle.xinu_base.specs.declared.console.Item.TheVariants.{Char}
use Rattle.xinu_model.specs.Console.Constants.{TY_IBUFLEN}
use Rattle.xinu_model.specs.Console.Rows.{last_or, without_last}
use Rattle.xinu_model.specs.Console.State.{byte_of}
use Rattle.tty_driver.specs.Input.{Received, received_of, committed_in, line_in, IsSplit, IsInput}
use Rattle.tty_driver.specs.declared.input.Input.TheInside.{Inside}

-- bytes as items are those bytes
bytes_of_chars : (t : List ℕ) → map byte_of (map Char t) ≡ t
bytes_of_chars [] = refl
bytes_of_chars (b ∷ t) = ap (λ l. b ∷ l) (bytes_of_chars t)

-- items and then a line, as a ring has them
joined : List Item → List ℕ → List Item
joined c t = c ++ map Char t

joined_size : (c : List Item) (t : List ℕ) → length (joined c t) ≡ length c + length t
unfolding joined
joined_size c t = let e = length-append c (map Char t) in let f = length-map t Char in omega arith

-- where the line begins
begins : (c : List Item) (t : List ℕ) → length (joined c t) - length t ≡ length c
begins c t = let e = joined_size c t in omega arith

-- Items that are joined so are taken apart so.
committed_split : (c : List Item) (t : List ℕ) → committed_in (length t) (joined c t) ≡ c
unfolding joined
committed_split c t = ap (λ k. take k (c ++ map Char t)) (begins c t) ∙ take-append_seam c (map Char t)

line_split : (c : List Item) (t : List ℕ) → line_in (length t) (joined c t) ≡ t
unfolding joined
line_split c t =
    ap (λ k. map byte_of (drop k (c ++ map Char t))) (begins c t)
    ∙ (ap (map byte_of) (drop-append_seam c (map Char t)) ∙ bytes_of_chars t)

joined_is_split : (c : List Item) (t : List ℕ) → length c + length t ≤ TY_IBUFLEN → IsSplit (length t) (joined c t)
unfolding joined
joined_is_split c t h = let e = joined_size c t in record {
  whole = sym (ap (λ x. x ++ map Char (line_in (length t) (c ++ map Char t))) (committed_split c t)
      ∙ ap (λ x. c ++ map Char x) (line_split c t));
  within = omega arith;
  short = omega arith;
}

-- the line has the bytes that are counted
line_size : (n : ℕ) (items : List Item) → n ≤ length items → length (line_in n items) ≡ n
line_size n items h =
    length-map (drop (length items - n) items) byte_of ∙ (length-drop (length items - n) items ∙ omega arith)

-- a line that isn't empty, by its last byte
by_last : (b : ℕ) (t : List ℕ) → b ∷ t ≡ without_last (b ∷ t) ++ last_or 0 (b ∷ t) ∷ []
by_last b t = go b t 0
  where
    go : (b : ℕ) (t : List ℕ) (d : ℕ) → b ∷ t ≡ take (length t) (b ∷ t) ++ last_or d (b ∷ t) ∷ []
    go b [] d = refl
    go b (k ∷ t) d = ap (λ l. b ∷ l) (go k t b)

length_without_last : (b : ℕ) (t : List ℕ) → length (without_last (b ∷ t)) ≡ length t
length_without_last b [] = refl
length_without_last b (k ∷ t) = ap suc (length_without_last k t)

-- the last of some items and one more is that one, and the others are left without it
size_with : (c : List Item) (x : Item) → length (c ++ x ∷ []) - 1 ≡ length c
size_with c x = let e = length-append c (x ∷ []) in omega arith

last_of_more : (c : List Item) (x : Item) → last_item (c ++ x ∷ []) ≡ Some x
last_of_more c x = ap (slice_get (c ++ x ∷ [])) (size_with c x) ∙ go c
  where
    go : (c : List Item) → slice_get (c ++ x ∷ []) (length c) ≡ Some x
    go [] = refl
    go (y ∷ c) = go c

left_of_more : (c : List Item) (x : Item) → take (length (c ++ x ∷ []) - 1) (c ++ x ∷ []) ≡ c
left_of_more c x = ap (λ k. take k (c ++ x ∷ [])) (size_with c x) ∙ take-append_seam c (x ∷ [])

-- What erasing a byte of the line does to the ring: n bytes of the line are left of these, after the same committed items.
pub record IsErased (n : ℕ) (items : List Item) (bytes : List ℕ) (committed_before : List Item) : Type 0 where
  pub last : last_item items ≡ Some (Char (last_or 0 bytes))
  pub split : IsSplit n (take (length items - 1) items)
  pub committed : committed_in n (take (length items - 1) items) ≡ committed_before
  pub line : line_in n (take (length items - 1) items) ≡ without_last bytes

-- of a ring with a line that isn't empty
joined_erased : (c : List Item) (b : ℕ) (t : List ℕ) → length c + suc (length t) ≤ TY_IBUFLEN
    → IsErased (length t) (joined c (b ∷ t)) (b ∷ t) c
unfolding joined
joined_erased c b t h =
    let rest = without_last (b ∷ t) in
    let last = last_or 0 (b ∷ t) in
    let n : length rest ≡ length t = length_without_last b t in
    let f : c ++ map Char (b ∷ t) ≡ (c ++ map Char rest) ++ Char last ∷ [] =
    ap (λ l. c ++ map Char l) (by_last b t)
    ∙ (ap (λ l. c ++ l) (map-append Char rest (last ∷ [])) ∙ sym (append_assoc c (map Char rest) (Char last ∷ []))) in
    let g : take (length (c ++ map Char (b ∷ t)) - 1) (c ++ map Char (b ∷ t)) ≡ joined c rest =
    ap (λ (l : List Item). take (length l - 1) l) f ∙ left_of_more (c ++ map Char rest) (Char last) in
    record {
      last = ap last_item f ∙ last_of_more (c ++ map Char rest) (Char last);
      split = subst (IsSplit (length t)) (sym g) (subst (λ m. IsSplit m (joined c rest)) n (joined_is_split c rest (omega arith)));
      committed = ap (committed_in (length t)) g ∙ subst (λ m. committed_in m (joined c rest) ≡ c) n (committed_split c rest);
      line = ap (line_in (length t)) g ∙ subst (λ m. line_in m (joined c rest) ≡ rest) n (line_split c rest);
    }

-- of any ring with a line that isn't empty
erased_of : (items c : List Item) (t : List ℕ) (n : ℕ) → items ≡ joined c t → length items ≤ TY_IBUFLEN → length t ≡ suc n → IsErased n items t c
erased_of items c [] n e short size = absurd (omega arith)
erased_of items c (b ∷ t) n e short size =
    let k : length t ≡ n = omega arith in
    let all : length items ≡ length c + suc (length t) = ap length e ∙ joined_size c (b ∷ t) in
    subst (λ j. IsErased j items (b ∷ t) c) k
    (subst (λ l. IsErased (length t) l (b ∷ t) c) (sym e) (joined_erased c b t (omega arith)))

erased : (n : ℕ) (items : List Item) → 0 < length (line_in n items) → IsSplit n items
    → IsErased (n - 1) items (line_in n items) (committed_in n items)
unfolding joined
erased n items h s =
    let e = line_size n items s.within in
    erased_of items (committed_in n items) (line_in n items) (n - 1) s.whole s.short (omega arith)

-- The same by what the ring stands for.
pub erased_input : (i : Inside) (now : Received) → received_of i ≡ now → IsInput i → 0 < length now.line
    → IsErased (i.typed - 1) i.ring.items now.line now.committed
erased_input i now is inside =
    subst (λ (v : Received). 0 < length v.line → IsErased (i.typed - 1) i.ring.items v.line v.committed) is
    (λ h. erased i.typed i.ring.items h inside.split)

-- What taking the first item does to the ring.
pub record IsTaken (n : ℕ) (items : List Item) (x : Item) : Type 0 where
  pub committed : committed_in n items ≡ x ∷ committed_in n (drop 1 items)
  pub line : line_in n items ≡ line_in n (drop 1 items)

-- if an item can be taken the line isn't all
at_least_one : (items : List Item) (j : ℕ) → 0 < length (take j items) → 0 < j
at_least_one items zero h = absurd (omega arith)
at_least_one items (suc j) h = omega arith

pub taken : (n : ℕ) (items : List Item) (x : Item) → 0 < length (committed_in n items) → slice_get items 0 ≡ Some x → IsTaken n items x
taken n [] x h e = cc
taken n (y ∷ items) x h e =
    let one = at_least_one (y ∷ items) (suc (length items) - n) h in
    let k : suc (length items) - n ≡ suc (length items - n) = omega arith in
    let f : y ≡ x = cc in
    record {
      committed = ap (λ j. take j (y ∷ items)) k ∙ ap (λ z. z ∷ take (length items - n) items) f;
      line = ap (λ j. map byte_of (drop j (y ∷ items))) k;
    }

-- If an item can be taken there is one.
pub some_item : (n : ℕ) (items : List Item) → 0 < length (committed_in n items) → slice_get items 0 ≡ None → ⊥
some_item n [] h e = let one = at_least_one [] (0 - n) h in omega arith
some_item n (y ∷ items) h e = cc
