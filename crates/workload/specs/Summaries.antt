-- What is counted of the text of a run, and the line that says it.
use Rattle.std.specs.Prelude.{ℕ, ◌+◌, Bool, false, List, [], ◌∷◌, ◌++◌, codes, bytes_eq, count_by}
use Rattle.std.specs.Fmt.{decimal}
use Rattle.text_lines.specs.Lines.{lines_of, tokens_of}
use Rattle.xinu_base.specs.Names.{end_name}
use Rattle.xinu_base.specs.declared.events.End.{End}

-- whether these tokens begin with a word
abbrev pub begin_with : List ℕ → List (List ℕ) → Bool
begin_with word [] = false
begin_with word (token ∷ tokens) = bytes_eq token word

-- how many lines of a text have this first word
unfoldable pub lines_with : List ℕ → List ℕ → ℕ
lines_with word text = count_by (λ line. begin_with word (tokens_of line)) (lines_of text)

-- what is counted: calls, replies, lines of the process that runs, and bytes that the console sent
pub record Counts : Type 0 where
  pub calls : ℕ
  pub replies : ℕ
  pub switches : ℕ
  pub sent : ℕ

-- the counts of a text
abbrev pub counts_of : List ℕ → Counts
counts_of text = record {
  calls = lines_with (codes "call") text;
  replies = lines_with (codes "ret") text;
  switches = lines_with (codes "run") text;
  sent = lines_with (codes "con") text;
}

-- counts added to others
abbrev pub added : Counts → Counts → Counts
added before more = record {
  calls = before.calls + more.calls;
  replies = before.replies + more.replies;
  switches = before.switches + more.switches;
  sent = before.sent + more.sent;
}

-- the summary of a run that a number gave: how many events it took, the counts of its text, and how it ended
abbrev pub summary : ℕ → ℕ → Counts → End → List ℕ
summary seed events counts end =
    codes "soak " ++ (decimal seed ++ (codes " events " ++ (decimal events ++ (codes " calls " ++ (decimal counts.calls
    ++ (codes " rets " ++ (decimal counts.replies ++ (codes " switches " ++ (decimal counts.switches ++ (codes " con " ++ (decimal counts.sent
    ++ (codes " end " ++ (end_name end ++ codes "\n")))))))))))))
