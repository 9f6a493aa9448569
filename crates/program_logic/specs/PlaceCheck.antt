-- The check of a place: what is known at it has all that is to be known at the places to which its word leads.
use Rattle.std.specs.Prelude.{ℕ, suc, ◌+◌, ◌-◌, ◌*◌, ◌/◌, ◌%◌, ◌^◌, ◌==◌, nat_le, nat_lt, not, ◌&&◌, ◌||◌, Bool, true, false, List, [], ◌∷◌, get_or, slice_set, Option, None, Some}
use Rattle.rv_isa.specs.Words.{instruction_of}
use Rattle.rv_isa.specs.declared.instr.Instr.{Instr}
use Rattle.xinu_model.specs.Isa.Effects.{wrapped}
use Rattle.xinu_model.specs.Memory.{may_access}
use Rattle.program_logic.specs.Acts.{act_of, bytes_in}
use Rattle.program_logic.specs.Claims.{no_place, side}
use Rattle.program_logic.specs.Terms.{all_fixed, constant, facts_entail, given, is_constant, number_in, once_more, slot_entails, slot_of}
use Rattle.program_logic.specs.declared.acts.Act.{Act}
use Rattle.program_logic.specs.declared.acts.Act.TheVariants as act
use Rattle.program_logic.specs.declared.acts.Width.{Width}
use Rattle.program_logic.specs.declared.acts.Width.TheVariants.{Byte, Half, Word}
use Rattle.program_logic.specs.declared.knowledge.Facts.{Facts}
use Rattle.program_logic.specs.declared.outline.Lock.{Lock}
use Rattle.program_logic.specs.declared.outline.Place.{Place}
use Rattle.program_logic.specs.declared.values.Slot.{Slot}
use Rattle.program_logic.specs.declared.values.Slot.TheVariants.{Known, Unknown}

-- whether all that is to be known at a place is known
abbrev pub arrives : Option Facts → Facts → Bool
arrives None have = false
arrives (Some want) have = facts_entail have want

abbrev pub follows : List Place → Bool → ℕ → Facts → Bool
follows places b k have = arrives (side b (get_or places k no_place)) have

-- the same of the place at an address
abbrev pub leads : ℕ → List Place → Bool → ℕ → Facts → Bool
leads first places b target have =
    (nat_le first target && ((target - first) % 4 == 0)) && follows places b ((target - first) / 4) have

-- what is known once a call was answered with 0 and others ran: the word is what the rule says if the token was granted
abbrev pub granted : Lock → Facts → Facts
granted l s = record { registers = slice_set (all_fixed s.registers) 10 (Known (constant 0)); word = Known l.rule }

abbrev pub let_go : Facts → Facts
let_go s = record { registers = slice_set (all_fixed s.registers) 10 (Known (constant 0)); word = Unknown }

-- `wait` is called without the token, which it grants; `signal` with it, and the word is what the rule says of one time more
abbrev pub wait_checks : Lock → List Place → ℕ → Bool → Facts → Bool
wait_checks l places k b s =
    (is_constant (slot_of s 17) 18 && is_constant (slot_of s 10) l.sem)
    && (not b && (follows places true (suc k) (granted l s) && follows places false (suc k) (given s 10 (Known (constant 4294967295)))))

abbrev pub signal_checks : Lock → List Place → ℕ → Bool → Facts → Bool
signal_checks l places k b s =
    (is_constant (slot_of s 17) 19 && is_constant (slot_of s 10) l.sem)
    && (b && (slot_entails s.word (Known (once_more l.rule)) && follows places false (suc k) (let_go s)))

-- `semcreate` with a count of one, `yield`, and `sleepms` for some ticks: from 1 to 2^31 - 1
abbrev pub create_checks : List Place → ℕ → Bool → Facts → Bool
create_checks places k b s =
    (is_constant (slot_of s 17) 14 && is_constant (slot_of s 10) 1) && (not b && follows places false (suc k) (given s 10 Unknown))

abbrev pub yield_checks : List Place → ℕ → Bool → Facts → Bool
yield_checks places k b s = is_constant (slot_of s 17) 6 && follows places b (suc k) (given s 10 (Known (constant 0)))

abbrev pub is_ticks : Slot → Bool
is_ticks Unknown = false
is_ticks (Known t) = (t.times == 0) && (nat_lt 0 t.plus && nat_lt t.plus (2 ^ 31))

abbrev pub sleep_checks : List Place → ℕ → Bool → Facts → Bool
sleep_checks places k b s =
    (is_constant (slot_of s 17) 26 && is_ticks (slot_of s 10)) && follows places b (suc k) (given s 10 (Known (constant 0)))

-- a call that only answers: the number of the caller, a priority, the count of a semaphore, or the time
abbrev pub only_answers : Slot → Bool
only_answers number = is_constant number 1 || (is_constant number 8 || (is_constant number 17 || is_constant number 27))

abbrev pub answer_checks : List Place → ℕ → Bool → Facts → Bool
answer_checks places k b s = only_answers (slot_of s 17) && follows places b (suc k) (given s 10 Unknown)

-- one of these calls
abbrev pub call_checks : Lock → List Place → ℕ → Bool → Facts → Bool
call_checks l places k b s =
    wait_checks l places k b s
    || (signal_checks l places k b s || (create_checks places k b s || (yield_checks places k b s || (sleep_checks places k b s || answer_checks places k b s))))

-- a branch goes on at its target if its condition holds, and else at the next place: at either if that isn't known
abbrev pub branch_checks : ℕ → List Place → ℕ → Bool → ℕ → Option Bool → Facts → Bool
branch_checks first places k b offset (Some true) s = leads first places b (wrapped (first + 4 * k + offset)) s
branch_checks first places k b offset (Some false) s = follows places b (suc k) s
branch_checks first places k b offset None s = leads first places b (wrapped (first + 4 * k + offset)) s && follows places b (suc k) s

-- a jump to a known target, after which a register has the address that follows
abbrev pub jump_checks : ℕ → List Place → ℕ → Bool → ℕ → Option ℕ → Facts → Bool
jump_checks first places k b rd None s = false
jump_checks first places k b rd (Some target) s = leads first places b target (given s rd (Known (constant (wrapped (first + 4 * k + 4)))))

-- whether a whole word is moved, and whether bytes lie apart from the guarded word
abbrev pub is_word : Width → Bool
is_word Byte = false
is_word Half = false
is_word Word = true

abbrev pub lie_apart : Lock → ℕ → ℕ → Bool
lie_apart l address bytes = nat_le (address + bytes) l.word || nat_le (l.word + 4) address

-- a load at a known address: apart from the guarded word without the token
abbrev pub may_load : Lock → Bool → Option ℕ → Width → Bool
may_load l b None width = false
may_load l b (Some address) width = may_access address (bytes_in width) && (b || lie_apart l address (bytes_in width))

-- a store at a known address behind the guarded word, where no program lies
abbrev pub may_store : Lock → Option ℕ → Width → Bool
may_store l None width = false
may_store l (Some address) width = may_access address (bytes_in width) && nat_le (l.word + 4) address

-- what is loaded is known of the guarded word alone, which is loaded with the token
abbrev pub load_checks : Lock → List Place → ℕ → Bool → ℕ → Width → Slot → Facts → Bool
load_checks l places k b rd width address s =
    ((is_word width && is_constant address l.word) && (b && follows places b (suc k) (given s rd s.word)))
    || (may_load l b (number_in address) width && follows places b (suc k) (given s rd Unknown))

-- the guarded word is stored with the token
abbrev pub store_checks : Lock → List Place → ℕ → Bool → Width → Slot → Slot → Facts → Bool
store_checks l places k b width x address s =
    ((is_word width && is_constant address l.word) && (b && follows places b (suc k) (record { registers = s.registers; word = x })))
    || (may_store l (number_in address) width && follows places b (suc k) s)

-- What is known where an instruction leads is known there.
abbrev pub act_checks : Lock → ℕ → List Place → ℕ → Bool → Act → Facts → Bool
act_checks l first places k b (act.Sets rd x) s = follows places b (suc k) (given s rd x)
act_checks l first places k b (act.Branches offset holds) s = branch_checks first places k b offset holds s
act_checks l first places k b (act.Jumps rd target) s = jump_checks first places k b rd target s
act_checks l first places k b (act.Loads rd width address) s = load_checks l places k b rd width address s
act_checks l first places k b (act.Stores width x address) s = store_checks l places k b width x address s
act_checks l first places k b act.Passes s = follows places b (suc k) s
act_checks l first places k b act.Calls s = call_checks l places k b s
act_checks l first places k b act.Stops s = false

-- the same of the instruction of a word
abbrev pub checks_instr : Lock → ℕ → List Place → ℕ → Bool → Option Instr → Facts → Bool
checks_instr l first places k b None s = false
checks_instr l first places k b (Some i) s = act_checks l first places k b (act_of i (first + 4 * k) s) s

abbrev pub side_checks : Lock → ℕ → List Place → ℕ → Bool → ℕ → Option Facts → Bool
side_checks l first places k b word None = true
side_checks l first places k b word (Some s) = checks_instr l first places k b (instruction_of word) s

abbrev pub place_checks : Lock → ℕ → List Place → ℕ → Place → Bool
place_checks l first places k q = side_checks l first places k false q.word q.free && side_checks l first places k true q.word q.held

-- each place from k on
abbrev pub places_check : Lock → ℕ → List Place → ℕ → List Place → Bool
places_check l first places k [] = true
places_check l first places k (q ∷ rest) = place_checks l first places k q && places_check l first places (suc k) rest
