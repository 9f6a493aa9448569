-- Programs with what is known at each of their places, and the outlines that this says.
use Rattle.std.specs.Prelude.{◌-◌, ℕ, suc, Bool, true, false, List, [], ◌∷◌, length, get_or, Option, None, Some}
use Rattle.program_logic.specs.Outlines.{Anything, Never, Holds, Word, Both, Claim, Row, System}
use Rattle.program_logic.specs.Terms.{value}
use Rattle.program_logic.specs.declared.knowledge.Facts.{Facts}
use Rattle.program_logic.specs.declared.outline.Lock.{Lock}
use Rattle.program_logic.specs.declared.outline.Place.{Place}
use Rattle.program_logic.specs.declared.values.Slot.{Slot}
use Rattle.program_logic.specs.declared.values.Slot.TheVariants.{Known, Unknown}

-- no process comes to a place that isn't in the program
abbrev pub no_place : Place
no_place = record { word = 0; free = None; held = None }

-- what is known at a place without the token, and with it
abbrev pub side : Bool → Place → Option Facts
side false q = q.free
side true q = q.held

-- the claims of what is known
abbrev pub slot_claim : ℕ → Slot → Claim
slot_claim i Unknown = Anything
slot_claim i (Known t) = Holds i (λ n v. value t n)

abbrev pub registers_claim : ℕ → List Slot → Claim
registers_claim i [] = Anything
registers_claim i (s ∷ ss) = Both (slot_claim i s) (registers_claim (suc i) ss)

abbrev pub word_claim : Slot → Claim
word_claim Unknown = Anything
word_claim (Known t) = Word (λ n. value t n)

abbrev pub side_claim : Option Facts → Claim
side_claim None = Never
side_claim (Some f) = Both (word_claim f.word) (registers_claim 0 f.registers)

-- the outlines of programs that a lock guards
abbrev pub row_at : Place → Row
row_at q = record { word = q.word; free = side_claim q.free; held = side_claim q.held }

abbrev pub rows_at : List Place → List Row
rows_at [] = []
rows_at (q ∷ places) = row_at q ∷ rows_at places

abbrev pub system_of : ℕ → (ℕ → ℕ) → (ℕ → List Place) → Lock → System
system_of many first places lock =
    record { many = many; first = first; code = λ p. rows_at (places p); sem = lock.sem; word = lock.word; rule = Word (λ n. value lock.rule n) }

-- a program: where its first word lies, and its places
pub record Program : Type 0 where
  pub first : ℕ
  pub places : List Place

abbrev pub no_program : Program
no_program = record { first = 0; places = [] }

-- the program of process 1, 2 ..
abbrev pub program_in : List Program → ℕ → Program
program_in programs p = get_or programs (p - 1) no_program

abbrev pub outlines_of : Lock → List Program → System
outlines_of l programs = system_of (length programs) (λ p. (program_in programs p).first) (λ p. (program_in programs p).places) l
