-- What is told of the processes that are left. Read `AreTold`, at the end, first.
use Rattle.std.specs.Prelude.{◌≡◌, ℕ, zero, suc, true, false, if◌then◌else◌, List, [], ◌++◌, drop, codes}
use Rattle.std.specs.List.{list_all}
use Rattle.process_lives.specs.Lives.{life_in}
use Rattle.process_lives.specs.declared.lives.Life.{Life}
use Rattle.told_left.specs.Awaited.{awaited_of}
use Rattle.told_left.specs.Lines.{left_line}
use Rattle.told_left.specs.More.{more_text}
use Rattle.told_left.specs.Names.{name_of}
use Rattle.told_left.specs.Whereabouts.{whereabouts_text}
use Rattle.xinu_model.specs.Machine.{Xinu}
use Rattle.xinu_model.specs.Tables.{Tables, is_free, state_at}

-- The text tells of a process that is left: a line with its number, its name, what its state says that it does, since which event, and what else is
-- told, and then where it is. These are the lives of the processes; only how a semaphore was used on which it waits isn't said here.
pub record IsLeft (files : List (List ℕ)) (s : Xinu) (lives : List Life) (p : ℕ) (text : List ℕ) : Type 0 where
  pub usage : List ℕ
  pub is : text ≡ left_line p (state_at s.tables p) (name_of s.tables p) (awaited_of s.tables p) (life_in lives p).since
      (more_text (state_at s.tables p) s.tables p (life_in lives p) usage) ++ whereabouts_text files s p

-- The text tells of a process, if its number isn't free; else it is empty.
pub record IsTold (files : List (List ℕ)) (s : Xinu) (lives : List Life) (p : ℕ) (text : List ℕ) : Type 0 where
  pub free : is_free (state_at s.tables p) ≡ true → text ≡ []
  pub left : is_free (state_at s.tables p) ≡ false → IsLeft files s lives p text

-- One process more is told, after others.
pub record ToldAfter (Before : List ℕ → Type 0) (files : List (List ℕ)) (s : Xinu) (lives : List Life) (p : ℕ) (text : List ℕ) : Type 0 where
  pub before : List ℕ
  pub first : Before before
  pub more : List ℕ
  pub one : IsTold files s lives p more
  pub is : text ≡ before ++ more

-- The text tells of the processes from 1 to n that are left, each once, in the order of their numbers.
unfoldable pub AreTold : List (List ℕ) → Xinu → List Life → ℕ → List ℕ → Type 0
AreTold files s lives zero text = text ≡ []
AreTold files s lives (suc n) text = ToldAfter (AreTold files s lives n) files s lives (suc n) text

-- the head of these texts, if somebody is left
abbrev pub left_head : Tables → List ℕ
left_head t = if list_all (λ p. is_free p.state) (drop 1 t.processes) then [] else codes "Left:\n"
