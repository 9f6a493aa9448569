-- A write to the front of the part of a list from one place on.
use Rattle.std.proofs.Common.{◌≡◌, ℕ, ◌+◌, ◌-◌, ◌≤◌, List, [], ◌++◌, length, take, drop, sym, append_assoc, arith}
use Rattle.std.proofs.lemmas.List.{take_all, drop-drop, length-drop, append-nil}
use Rattle.std.proofs.Math.ListN.{drop_of_length-le}
use borrow.Rule.Slice.PartMut.{put_mid}

-- the list keeps what is before the place and after the bytes
pub put_front : (a n : ℕ) (xs ys bytes : List ℕ) → a + n ≤ length xs → ys ≡ bytes ++ drop n (take (length xs - a) (drop a xs)) → put_mid a (length xs - a) xs ys ≡ take a xs ++ bytes ++ drop (a + n) xs
put_front a n xs ys bytes fits is =
    let all : take (length xs - a) (drop a xs) ≡ drop a xs = take_all (length xs - a) (drop a xs) (omega (arith, length-drop a xs)) in
    let rest : drop (length xs - a) (drop a xs) ≡ [] = drop_of_length-le (drop a xs) (omega (arith, length-drop a xs)) in
    rw (is, all, rest, append-nil, drop-drop n a xs) (sym (append_assoc (take a xs) bytes (drop (a + n) xs)))
