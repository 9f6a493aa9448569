-- Proof outlines: programs with what is said of each of their places.
--
-- One semaphore guards one word of RAM. Who has its token may read and write the word, and nobody else does; while nobody has it the word
-- obeys a rule. What is said of a process without the token takes no other process into account, since none can change it.
use Rattle.std.specs.Prelude.{◌≡◌, ◌≤◌, ◌==◌, ℕ, Bool, true, false, List, slice_index, get_or, [], ◌∷◌, Option, Some, None}

-- What may be said of a place: of how often the token was given back, of the guarded word, and of the registers. Nothing; what never holds; the
-- value of a register; the guarded word; or two of these.
pub data Claim : Type 0 where
  Anything : Claim
  Never : Claim
  Holds : (register : ℕ) → (value : ℕ → ℕ → ℕ) → Claim
  Word : (value : ℕ → ℕ) → Claim
  Both : (a : Claim) → (b : Claim) → Claim

abbrev pub Says : Claim → ℕ → ℕ → List ℕ → Type 0
Says Anything n v regs = Unit {0}
Says Never n v regs = ⊥
Says (Holds i f) n v regs = slice_index regs i ≡ f n v
Says (Word f) n v regs = v ≡ f n
Says (Both a b) n v regs = Says a n v regs × Says b n v regs

-- A place of a program: the word that lies there, what is said of the registers before it if its process hasn't the token, and what is said if it
-- has.
pub record Row : Type 0 where
  pub word : ℕ
  pub free : Claim
  pub held : Claim

-- no process comes to a place that isn't in the program
abbrev pub no_row : Row
no_row = record { word = 0; free = Never; held = Never }

-- What is said of a place, by whether its process has the token: who hasn't knows neither the count nor the guarded word
abbrev pub says : Bool → Row → ℕ → ℕ → List ℕ → Type 0
says false r n v regs = Says r.free 0 0 regs
says true r n v regs = Says r.held n v regs

abbrev pub words_of : List Row → List ℕ
words_of [] = []
words_of (r ∷ rows) = r.word ∷ words_of rows

-- Programs of processes 1, 2 .. with their outlines: how many there are, where the first word of each lies, its places, the semaphore, the
-- address of the guarded word, and the rule between how often the token was given back and the word.
pub record System : Type 0 where
  pub many : ℕ
  pub first : ℕ → ℕ
  pub code : ℕ → List Row
  pub sem : ℕ
  pub word : ℕ
  pub rule : Claim

-- the rule of a count and a word
abbrev pub Rule : System → ℕ → ℕ → Type 0
Rule y n v = Says y.rule n v []

-- what is said of place k of process p
abbrev pub At : System → ℕ → Bool → ℕ → ℕ → ℕ → List ℕ → Type 0
At y p b k n v regs = says b (get_or (y.code p) k no_row) n v regs

-- each of its processes
abbrev pub EachOf : ℕ → (ℕ → Type 0) → Type 0
EachOf many P = (p : ℕ) → 1 ≤ p → p ≤ many → P p

-- whether p is who has the token, and how many tokens are left
abbrev pub has : Option ℕ → ℕ → Bool
has None p = false
has (Some q) p = q == p

abbrev pub tokens_for : Option ℕ → ℕ
tokens_for None = 1
tokens_for (Some q) = 0
