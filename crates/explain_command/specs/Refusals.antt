-- What is told of refused calls. Read `AreRefusals`, at the end, first.
use Rattle.std.specs.Prelude.{◌≡◌, ◌+◌, ℕ, nat_le, Bool, if◌then◌else◌, List, [], ◌∷◌, ◌++◌, codes}
use Rattle.std.specs.Fmt.{decimal}
use Rattle.explain_command.specs.Sights.{place_line}
use Rattle.refused_calls.specs.Kinds.{each_of, kinds_of}
use Rattle.refused_calls.specs.declared.kinds.Kind.{Kind}
use Rattle.refused_calls.specs.declared.refused.Refused.{Refused}

-- the kinds of refused calls, or each call by itself
abbrev pub kinds_told : Bool → List Refused → List Kind
kinds_told each calls = if each then each_of calls else kinds_of calls

-- a number between two texts
unfoldable pub numbered_text : List ℕ → ℕ → List ℕ → List ℕ
numbered_text before n after = before ++ decimal n ++ after

-- a text between two others
unfoldable pub between_text : List ℕ → List ℕ → List ℕ → List ℕ
between_text before text after = before ++ text ++ after

-- that a call is refused
unfoldable pub refused_text : List ℕ → List ℕ
refused_text call = between_text (codes " is refused ") call (codes ": ")

-- who made a call, and the call
unfoldable pub made_text : List ℕ → List ℕ → List ℕ
made_text who call = who ++ refused_text call

-- the number of the event, and after it these
unfoldable pub first_text : ℕ → List ℕ → List ℕ → List ℕ
first_text taken who call = numbered_text (codes "Event ") (taken + 1) (codes ": ") ++ made_text who call

-- how many calls were refused so, if there are several
unfoldable pub count_text : ℕ → List ℕ
count_text n = if nat_le n 1 then [] else numbered_text (codes "; it was refused so ") n (codes " times")

-- the address of a call
unfoldable pub pc_text : ℕ → List ℕ
pc_text pc = codes "; " ++ place_line pc

-- where the call was made: its address, and the function
unfoldable pub place_text : ℕ → List ℕ → List ℕ
place_text pc place = pc_text pc ++ (place ++ codes "\n")

-- the line of a kind: the event of its first call, who made that, the call, why it is refused, how many there are, and where it was made
unfoldable pub refusal_line : Kind → List ℕ → List ℕ → List ℕ → List ℕ → List ℕ
refusal_line k who call reason place =
    first_text k.first.taken who call ++ reason ++ count_text k.count ++ place_text k.first.pc place

-- The text is the line of a kind.
pub record IsRefusal (k : Kind) (text : List ℕ) : Type 0 where
  pub who : List ℕ
  pub call : List ℕ
  pub reason : List ℕ
  pub place : List ℕ
  pub is : text ≡ refusal_line k who call reason place

-- A kind is told, and then others.
pub record ToldFirst (k : Kind) (Rest : List ℕ → Type 0) (text : List ℕ) : Type 0 where
  pub line : List ℕ
  pub first : IsRefusal k line
  pub more : List ℕ
  pub rest : Rest more
  pub is : text ≡ line ++ more

-- The text tells of these kinds, each in a line, in their order.
unfoldable pub AreRefusals : List Kind → List ℕ → Type 0
AreRefusals [] text = text ≡ []
AreRefusals (k ∷ kinds) text = ToldFirst k (AreRefusals kinds) text
