-- The console's constants, by the names that the book gives them (chapter 15, `tty.h`).
use Rattle.std.specs.Prelude.{ℕ}

-- the most items of input, committed or in the line
abbrev pub TY_IBUFLEN : ℕ
TY_IBUFLEN = 128

-- the most bytes of output
abbrev pub TY_OBUFLEN : ℕ
TY_OBUFLEN = 64

-- the most bytes of echo
abbrev pub TY_EBUFLEN : ℕ
TY_EBUFLEN = 20

-- control-D on an empty line: the end mark
abbrev pub TY_EOFCH : ℕ
TY_EOFCH = 0x04

-- the bell, which says that there is no room
abbrev pub TY_BELL : ℕ
TY_BELL = 0x07

-- backspace: erases the last character of the line, and steps back on the screen
abbrev pub TY_BACKSP : ℕ
TY_BACKSP = 0x08

-- a line feed, which ends the line
abbrev pub TY_NEWLINE : ℕ
TY_NEWLINE = 0x0A

-- a carriage return
abbrev pub TY_RETURN : ℕ
TY_RETURN = 0x0D

-- control-Q: output goes on
abbrev pub TY_STRTCH : ℕ
TY_STRTCH = 0x11

-- control-S: output stops
abbrev pub TY_STOPCH : ℕ
TY_STOPCH = 0x13

-- control-U: kills the line
abbrev pub TY_KILLCH : ℕ
TY_KILLCH = 0x15

-- a blank, the first character that isn't a control character
abbrev pub TY_BLANK : ℕ
TY_BLANK = 0x20

-- the first column of a control character's echo
abbrev pub TY_UPARROW : ℕ
TY_UPARROW = 0x5E

-- the last control character, delete
abbrev pub DEL : ℕ
DEL = 0x7F
