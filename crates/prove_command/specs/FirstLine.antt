-- How what is sent begins: with status 0 by a whole line.
use Rattle.std.specs.Prelude.{ℕ, ◌-◌, ◌^◌, ◌==◌, ◌&&◌, nat_lt, if◌then◌else◌, List, [], ◌++◌, codes}
use Rattle.std.specs.Fmt.{decimal}
use Rattle.std.specs.List.{flat_map}
use Rattle.program_logic.specs.declared.values.Term.{Term}
use Rattle.proof_words.specs.Words.{Asked}

-- a word as a signed number
unfoldable pub signed_text : ℕ → List ℕ
signed_text n = if nat_lt n (2 ^ 31) then decimal n else codes "-" ++ decimal (2 ^ 32 - n)

-- what is more than the rounds, or less
unfoldable pub more_text : ℕ → List ℕ
more_text n = if n == 0 then [] else if nat_lt n (2 ^ 31) then codes " + " ++ decimal n else codes " - " ++ decimal (2 ^ 32 - n)

-- so many times the rounds
unfoldable pub times_text : ℕ → List ℕ
times_text n = if n == 1 then codes "rounds" else signed_text n ++ codes " * rounds"

-- a term, as `3 * rounds + 1` or `100 - rounds`
unfoldable pub term_text : Term → List ℕ
term_text t =
    if t.times == 0 then signed_text t.plus
    else if (t.times == 4294967295) && (nat_lt 0 t.plus && nat_lt t.plus (2 ^ 31)) then decimal t.plus ++ codes " - rounds"
    else times_text t.times ++ more_text t.plus

-- the names of images
abbrev pub name_text : List ℕ → List ℕ
name_text name = codes " " ++ name

unfoldable pub names_text : List (List ℕ) → List ℕ
names_text names = flat_map name_text names

-- what the word is, and when
unfoldable pub rule_text : ℕ → Term → List ℕ
rule_text word rule = codes "the word at " ++ decimal word ++ codes " = " ++ term_text rule

unfoldable pub always_text : List ℕ
always_text = codes " is free, on every schedule, from boot of"

unfoldable pub lock_text : ℕ → List ℕ
lock_text sem = codes " whenever lock " ++ decimal sem ++ always_text

-- what is proved
unfoldable pub proof_line : Asked → List ℕ
proof_line a = codes "proved: " ++ rule_text a.lock.word a.lock.rule ++ lock_text a.lock.sem ++ names_text a.images ++ codes "\n"

-- how the text begins that is sent with a status
abbrev pub head_of : Asked → ℕ → List ℕ
head_of a status = if status == 0 then proof_line a else if status == 10 then codes "not proved: " else codes "cannot follow: "
