-- The modes in which a file is opened (book, chapter 19, `lfgetmode.c`).
use Rattle.std.specs.Prelude.{ℕ, ◌==◌, Bool, true, not, ◌&&◌, ◌||◌, if◌then◌else◌, List, [], ◌∷◌, Option, Some, None}
use Rattle.std.specs.List.{list_any, list_all}
use Rattle.xinu_base.specs.declared.files.OpenMode.{OpenMode}

-- the letters of a mode: read, write, only an old file, only a new one
abbrev pub LF_MODE_R : ℕ
LF_MODE_R = 114

abbrev pub LF_MODE_W : ℕ
LF_MODE_W = 119

abbrev pub LF_MODE_O : ℕ
LF_MODE_O = 111

abbrev pub LF_MODE_N : ℕ
LF_MODE_N = 110

abbrev pub is_mode_letter : ℕ → Bool
is_mode_letter b = (b == LF_MODE_R || b == LF_MODE_W) || (b == LF_MODE_O || b == LF_MODE_N)

-- whether a text has a letter
abbrev pub has_letter : ℕ → List ℕ → Bool
has_letter b text = list_any (λ c. c == b) text

-- whether a text has no letter twice
abbrev pub are_apart : List ℕ → Bool
are_apart [] = true
are_apart (b ∷ text) = not (has_letter b text) && are_apart text

-- whether a text is a mode: each of these letters at most once, and not both old and new
abbrev pub is_mode : List ℕ → Bool
is_mode text = (list_all is_mode_letter text && are_apart text) && not (has_letter LF_MODE_O text && has_letter LF_MODE_N text)

-- The mode that a text says.
abbrev pub mode_of : List ℕ → Option OpenMode
mode_of text =
    if is_mode text then Some (record {
      read = has_letter LF_MODE_R text;
      write = has_letter LF_MODE_W text;
      only_old = has_letter LF_MODE_O text;
      only_new = has_letter LF_MODE_N text;
    })
    else None

-- a mode with neither reading nor writing has both
abbrev pub reads : OpenMode → Bool
reads mode = mode.read || not mode.write

abbrev pub writes : OpenMode → Bool
writes mode = mode.write || not mode.read
