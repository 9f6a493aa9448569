-- The words of the table's contracts: lists of processes with keys, one list for each queue, and what a change makes of them.
use Rattle.std.specs.Prelude.{ℕ, ◌+◌, ℤ, pos, ◌≤ℤ◌, ◌<ℤ◌, ◌+ℤ◌, ◌-ℤ◌, Bool, true, false, List, [], ◌∷◌, filter, map, not, nat_eq, int_le, Option, Some, None, cond, slice_index_or, slice_set}
use Rattle.xinu_base.specs.Insert.{insert}

-- a process with its key
abbrev pub Entry : Type 0
Entry = ℕ × ℤ

-- the list of queue q, which is empty if there is no such queue
abbrev pub list_at : List (List Entry) → ℕ → List Entry
list_at ls q = slice_index_or ls q []

-- the lists, with l in the place of queue q's
abbrev pub with_list : List (List Entry) → ℕ → List Entry → List (List Entry)
with_list ls q l = slice_set ls q l

-- whether process p is in the list
abbrev pub is_listed : ℕ → List Entry → Bool
is_listed p [] = false
is_listed p (e ∷ l) = cond (nat_eq p e.0) true (is_listed p l)

-- the first queue whose list has p, if the lists are those of queue `from` and the queues after it
abbrev pub place_from : ℕ → List (List Entry) → ℕ → Option ℕ
place_from from [] p = None
place_from from (l ∷ ls) p = cond (is_listed p l) (Some from) (place_from (from + 1) ls p)

-- the queue in which p is, and `None` if it is in none
unfoldable pub place : List (List Entry) → ℕ → Option ℕ
place ls p = place_from 0 ls p

-- the list in which p is, and the empty list if it is in none
abbrev pub list_of : List (List Entry) → ℕ → List Entry
list_of [] p = []
list_of (l ∷ ls) p = cond (is_listed p l) l (list_of ls p)

-- the first process of the list
abbrev pub first_process : List Entry → Option ℕ
first_process [] = None
first_process (e ∷ l) = Some e.0

-- the key of the first process of the list
abbrev pub first_key_of : List Entry → Option ℤ
first_key_of [] = None
first_key_of (e ∷ l) = Some e.1

-- the list without its first process
abbrev pub rest_of : List Entry → List Entry
rest_of [] = []
rest_of (e ∷ l) = l

-- the processes of the list, in its order
abbrev pub numbers : List Entry → List ℕ
numbers l = map (λ e. e.0) l

-- the list as it is compared with another one: with its keys, or without them
abbrev pub compared : Bool → List Entry → List Entry
compared with_keys l = map (λ e. (e.0, cond with_keys e.1 (pos 0))) l

-- the process right after p in the list
abbrev pub after_in : ℕ → List Entry → Option ℕ
after_in p [] = None
after_in p (e ∷ l) = cond (nat_eq p e.0) (first_process l) (after_in p l)

-- the key of p in the list
abbrev pub key_in : ℕ → List Entry → ℤ
key_in p [] = pos 0
key_in p (e ∷ l) = cond (nat_eq p e.0) e.1 (key_in p l)

-- the list with p taken out
abbrev pub without : ℕ → List Entry → List Entry
without p l = filter (λ e. not (nat_eq p e.0)) l

-- all lists with p taken out
unfoldable pub all_without : ℕ → List (List Entry) → List (List Entry)
all_without p ls = map (without p) ls

-- no key of the list is greater than k
abbrev pub KeysAtMost : ℤ → List Entry → Type 0
KeysAtMost k [] = Unit {0}
KeysAtMost k (e ∷ l) = (e.1 ≤ℤ k) × KeysAtMost k l

-- no key of the list is less than k
abbrev pub KeysAtLeast : ℤ → List Entry → Type 0
KeysAtLeast k [] = Unit {0}
KeysAtLeast k (e ∷ l) = (k ≤ℤ e.1) × KeysAtLeast k l

-- each key of the list is less than k
abbrev pub KeysBelow : ℤ → List Entry → Type 0
KeysBelow k [] = Unit {0}
KeysBelow k (e ∷ l) = (e.1 <ℤ k) × KeysBelow k l

-- each key of the list is greater than k
abbrev pub KeysAbove : ℤ → List Entry → Type 0
KeysAbove k [] = Unit {0}
KeysAbove k (e ∷ l) = (k <ℤ e.1) × KeysAbove k l

-- the list is kept by key: no process has a greater key than one ahead of it
abbrev pub IsByKey : List Entry → Type 0
IsByKey [] = Unit {0}
IsByKey (e ∷ l) = KeysAtMost e.1 l × IsByKey l

-- the sum of the keys
abbrev pub key_sum : List Entry → ℤ
key_sum [] = pos 0
key_sum (e ∷ l) = e.1 +ℤ key_sum l

-- the list is a delta list: each key is the difference of a delay to the delay ahead of it, and no delay is above 2147483647
pub record IsDelta (l : List Entry) : Type 0 where
  pub differences : KeysAtLeast (pos 0) l
  pub bounded : key_sum l ≤ℤ pos 2147483647

-- each process with its delay, if the delays of the delta list count from s
abbrev pub delays_from : ℤ → List Entry → List Entry
delays_from s [] = []
delays_from s (e ∷ l) = (e.0, s +ℤ e.1) ∷ delays_from (s +ℤ e.1) l

-- each process of a delta list with its delay, the sum of the keys up to it
unfoldable pub delays : List Entry → List Entry
delays l = delays_from (pos 0) l

-- each process with the difference of its delay to the one ahead of it, and to s at the first
abbrev pub differences_from : ℤ → List Entry → List Entry
differences_from s [] = []
differences_from s (e ∷ l) = (e.0, e.1 -ℤ s) ∷ differences_from e.1 l

-- the delta list of processes with these delays
unfoldable pub differences : List Entry → List Entry
differences l = differences_from (pos 0) l

-- p with delay d in a list of delays, after all that are not greater
abbrev pub delay_insert : ℕ → ℤ → List Entry → List Entry
delay_insert p d l = insert (λ x. int_le x.1 d) (p, d) l

-- each delay less by one
unfoldable pub sooner : List Entry → List Entry
sooner l = map (λ e. (e.0, e.1 -ℤ pos 1)) l

-- the delta list with p put in at delay d, and the other delays as they were
abbrev pub delta_insert : ℕ → ℤ → List Entry → List Entry
delta_insert p d l = differences (delay_insert p d (delays l))

-- the delta list with p taken out, and the other delays as they were
abbrev pub delta_without : ℕ → List Entry → List Entry
delta_without p l = differences (without p (delays l))

-- the delta list with each delay less by one
abbrev pub delta_sooner : List Entry → List Entry
delta_sooner l = differences (sooner (delays l))

-- all lists with p taken out as out of a delta list, which leaves a list without p as it is
unfoldable pub all_delta_without : ℕ → List (List Entry) → List (List Entry)
all_delta_without p ls = map (delta_without p) ls
