-- What the text of a rule says.
use Rattle.std.specs.Prelude.{ℕ, ◌==◌, nat_lt, Bool, if◌then◌else◌, List, length, Option, Some, None, option_map, bytes_eq, codes}
use Rattle.std.specs.List.{before_first, after_first, position_or_len}
use Rattle.program_logic.specs.Terms.{added, constant, taken}
use Rattle.program_logic.specs.declared.values.Term.{Term}
use Rattle.run_inputs.specs.Numbers.{number}

-- what stands before the first of a mark and after it, if there is one
abbrev pub parts_at : ℕ → List ℕ → Option (List ℕ × List ℕ)
parts_at mark text =
    if nat_lt (position_or_len (λ b. b == mark) text) (length text)
    then Some (before_first (λ b. b == mark) text, after_first (λ b. b == mark) text)
    else None

-- a text without a space in front of it, and without one behind it
abbrev pub without_first : Option (List ℕ × List ℕ) → List ℕ → List ℕ
without_first (Some p) text = if length p.0 == 0 then p.1 else text
without_first None text = text

abbrev pub without_last : Option (List ℕ × List ℕ) → List ℕ → List ℕ
without_last (Some p) text = if length p.1 == 0 then p.0 else text
without_last None text = text

abbrev pub after_space : List ℕ → List ℕ
after_space text = without_first (parts_at 32 text) text

abbrev pub bare : List ℕ → List ℕ
bare text = without_last (parts_at 32 (after_space text)) (after_space text)

-- the number that a text is: 0, or one to ten decimal digits, up to 999999999
abbrev pub number_in : List ℕ → Option ℕ
number_in text = if bytes_eq text (codes "0") then Some 0 else number text 999999999

-- whether a text is the name of the count
abbrev pub is_rounds : List ℕ → Bool
is_rounds text = bytes_eq text (codes "rounds")

-- so many times the count
abbrev pub times_rounds : ℕ → Term
times_rounds n = record { times = n; plus = 0 }

-- An item: a number times `rounds`, `rounds`, or a number.
abbrev pub item_by : Option (List ℕ × List ℕ) → List ℕ → Option Term
item_by (Some p) text = if is_rounds (bare p.1) then option_map times_rounds (number_in (bare p.0)) else None
item_by None text = if is_rounds (bare text) then Some (times_rounds 1) else option_map constant (number_in (bare text))

abbrev pub item_in : List ℕ → Option Term
item_in text = item_by (parts_at 42 text) text

-- both terms, put together
abbrev pub joined : (Term → Term → Term) → Option Term → Option Term → Option Term
joined join (Some a) (Some b) = Some (join a b)
joined join (Some a) None = None
joined join None b = None

-- A rule: an item, the sum of two, or the difference of two.
abbrev pub difference_by : Option (List ℕ × List ℕ) → List ℕ → Option Term
difference_by (Some p) text = joined taken (item_in p.0) (item_in p.1)
difference_by None text = item_in text

abbrev pub sum_by : Option (List ℕ × List ℕ) → List ℕ → Option Term
sum_by (Some p) text = joined added (item_in p.0) (item_in p.1)
sum_by None text = difference_by (parts_at 45 text) text

unfoldable pub rule_in : List ℕ → Option Term
rule_in text = sum_by (parts_at 43 text) text
