-- What one sees of a run.
use Rattle.std.specs.Prelude.{ℕ, Bool, true, false, not, ◌&&◌, List, [], ◌∷◌, ◌++◌, codes, bytes_eq}
use Rattle.std.specs.List.{filter, flat_map}
use Rattle.text_lines.specs.Lines.{lines_of, tokens_of}
use Rattle.xinu_base.specs.declared.events.End.{End}
use Rattle.xinu_base.specs.declared.events.End.TheVariants.{Schedule, Done, Panic}

-- whether these tokens begin with a word
abbrev pub begin_with : List ℕ → List (List ℕ) → Bool
begin_with word [] = false
begin_with word (token ∷ tokens) = bytes_eq token word

-- a line with its line feed
abbrev pub fed : List ℕ → List ℕ
fed line = line ++ 10 ∷ []

-- whether a line of the tables is that of the null process
abbrev pub is_null_line : List (List ℕ) → Bool
is_null_line (word ∷ number ∷ rest) = bytes_eq word (codes "proc") && bytes_eq number (codes "0")
is_null_line tokens = false

-- the lines of a text that begin with a word, but that of the null process, which is always left
unfoldable pub kept : List ℕ → List ℕ → List ℕ
kept word text = flat_map fed (filter (λ line. begin_with word (tokens_of line) && not (is_null_line (tokens_of line))) (lines_of text))

-- an outcome: the lines of the bytes that the console sent, those of the traps, those of the processes that are left, the null process apart, and
-- of what they wait for, and how the run ended
pub record Outcome : Type 0 where
  pub console : List ℕ
  pub traps : List ℕ
  pub left : List ℕ
  pub end : End

-- whether two runs ended alike
abbrev pub ended_alike : End → End → Bool
ended_alike Schedule Schedule = true
ended_alike Done Done = true
ended_alike Panic Panic = true
ended_alike one other = false

-- whether two outcomes are equal
unfoldable pub are_equal : Outcome → Outcome → Bool
are_equal one other =
    bytes_eq one.console other.console && (bytes_eq one.traps other.traps && (bytes_eq one.left other.left && ended_alike one.end other.end))

-- the outcome of a run that printed this text, left these tables and ended so
abbrev pub outcome_in : List ℕ → List ℕ → End → Outcome
outcome_in printed tables end = record {
  console = kept (codes "con") printed;
  traps = kept (codes "trap") printed;
  left = kept (codes "proc") tables ++ kept (codes "wait") tables;
  end = end;
}
