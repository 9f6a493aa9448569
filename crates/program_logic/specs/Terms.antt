-- Terms in a count, and what is known of the registers and of the guarded word by terms.
use Rattle.std.specs.Prelude.{ℕ, ◌+◌, ◌*◌, ◌%◌, ◌^◌, ◌==◌, not, ◌&&◌, if◌then◌else◌, Bool, true, false, List, [], ◌∷◌, replicate, get_or, slice_set, Option, None, Some, option_map}
use Rattle.program_logic.specs.declared.knowledge.Facts.{Facts}
use Rattle.program_logic.specs.declared.values.Slot.{Slot}
use Rattle.program_logic.specs.declared.values.Slot.TheVariants.{Known, Unknown}
use Rattle.program_logic.specs.declared.values.Term.{Term}
use Rattle.xinu_model.specs.Isa.Effects.{minus, shift_left, wrapped}

-- the value of a term at a count, modulo 2^32
abbrev pub value : Term → ℕ → ℕ
value t n = (t.times * n + t.plus) % 2 ^ 32

-- a number, the sum of two terms, and a term at a count that is greater by one
abbrev pub constant : ℕ → Term
constant c = record { times = 0; plus = c }

abbrev pub added : Term → Term → Term
added a b = record { times = wrapped (a.times + b.times); plus = wrapped (a.plus + b.plus) }

abbrev pub once_more : Term → Term
once_more t = record { times = t.times; plus = wrapped (t.plus + t.times) }

-- what is known of a sum
abbrev pub slots_added : Slot → Slot → Slot
slots_added (Known a) (Known b) = Known (added a b)
slots_added (Known a) Unknown = Unknown
slots_added Unknown b = Unknown

-- the difference of two terms, and what is known of a difference
abbrev pub taken : Term → Term → Term
taken a b = record { times = minus a.times (wrapped b.times); plus = minus a.plus (wrapped b.plus) }

abbrev pub slots_taken : Slot → Slot → Slot
slots_taken (Known a) (Known b) = Known (taken a b)
slots_taken (Known a) Unknown = Unknown
slots_taken Unknown b = Unknown

-- a term that is shifted left, and what is known of a value that is shifted by an amount, if that is known
abbrev pub shifted : Term → ℕ → Term
shifted a n = record { times = shift_left a.times n; plus = shift_left a.plus n }

abbrev pub slot_shifted : Slot → Option ℕ → Slot
slot_shifted (Known a) (Some n) = Known (shifted a n)
slot_shifted (Known a) None = Unknown
slot_shifted Unknown n = Unknown

-- the number that a value is known to be
abbrev pub number_in : Slot → Option ℕ
number_in Unknown = None
number_in (Known t) = if t.times == 0 then Some (wrapped t.plus) else None

-- whether a value is known to be this number
abbrev pub is_constant : Slot → ℕ → Bool
is_constant Unknown c = false
is_constant (Known t) c = (t.times == 0) && (t.plus == c)

-- whether two values are known to be the same, and to be two numbers that differ
abbrev pub are_same : Slot → Slot → Bool
are_same (Known a) (Known b) = (a.times == b.times) && (a.plus == b.plus)
are_same (Known a) Unknown = false
are_same Unknown b = false

abbrev pub differ : Slot → Slot → Bool
differ (Known a) (Known b) = ((a.times == 0) && (b.times == 0)) && not (wrapped a.plus == wrapped b.plus)
differ (Known a) Unknown = false
differ Unknown b = false

-- whether two values are equal, if that is known
abbrev pub are_equal : Slot → Slot → Option Bool
are_equal a b = if are_same a b then Some true else if differ a b then Some false else None

-- whether two numbers stand in a relation, if they are known
abbrev pub compared_of : (ℕ → ℕ → Bool) → Option ℕ → Option ℕ → Option Bool
compared_of test (Some a) (Some b) = Some (test a b)
compared_of test (Some a) None = None
compared_of test None b = None

abbrev pub compared : (ℕ → ℕ → Bool) → Slot → Slot → Option Bool
compared test a b = compared_of test (number_in a) (number_in b)

-- the contrary of what is known
abbrev pub negated : Option Bool → Option Bool
negated known = option_map not known

-- what stays known when the count isn't: numbers
abbrev pub fixed : Slot → Slot
fixed Unknown = Unknown
fixed (Known t) = if t.times == 0 then Known t else Unknown

abbrev pub all_fixed : List Slot → List Slot
all_fixed [] = []
all_fixed (s ∷ ss) = fixed s ∷ all_fixed ss

-- what is known of a register: x0 is 0
abbrev pub slot_of : Facts → ℕ → Slot
slot_of f i = if i == 0 then Known (constant 0) else get_or f.registers i Unknown

-- what is known once a register was given a value
abbrev pub given : Facts → ℕ → Slot → Facts
given f i s = if i == 0 then f else record { registers = slice_set f.registers i s; word = f.word }

-- whether what is known has all that is to be known
abbrev pub slot_entails : Slot → Slot → Bool
slot_entails have Unknown = true
slot_entails Unknown (Known b) = false
slot_entails (Known a) (Known b) = (a.times == b.times) && (a.plus == b.plus)

abbrev pub slots_entail : List Slot → List Slot → Bool
slots_entail have [] = true
slots_entail [] (w ∷ want) = slot_entails Unknown w && slots_entail [] want
slots_entail (h ∷ have) (w ∷ want) = slot_entails h w && slots_entail have want

abbrev pub facts_entail : Facts → Facts → Bool
facts_entail have want = slot_entails have.word want.word && slots_entail have.registers want.registers

-- nothing is known
abbrev pub nothing : Facts
nothing = record { registers = replicate 32 Unknown; word = Unknown }
