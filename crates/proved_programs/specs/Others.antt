-- Other outlines: of programs that keep a rule, and some that don't check.
use Rattle.std.specs.Prelude.{ℕ, List, [], ◌∷◌}
use Rattle.program_logic.specs.Claims.{Program}
use Rattle.program_logic.specs.declared.outline.Lock.{Lock}
use Rattle.program_logic.specs.declared.outline.Place.{Place}
use Rattle.proved_programs.specs.Counting.{creating, guarded}
use Rattle.proved_programs.specs.Outlining.{a0, a7, either, inside, outside, rounds_by, t0, t1}

-- a first process with a loop, and a second one
abbrev pub two_of : ℕ → List Place → List Program
two_of second loop = (record { first = 0; places = creating loop }) ∷ (record { first = second; places = loop }) ∷ []

-- the lock of a word, with the rule that it is the number of rounds
abbrev pub count_at : ℕ → Lock
count_at word = record { sem = 4; word = word; rule = rounds_by 1 0 }

-- Two ways join with the token: lw t0, 156(zero) · addi t1, t0, -7 · bne t1, zero, 12 · addi t0, t0, 1 · j 8 · addi t0, t0, 1 ·
-- sw t0, 156(zero), between `wait` and `signal`.
abbrev pub joining_loop : List Place
joining_loop =
    outside 0x00400513 [] ∷
    outside 0x01200893 (a0 4 ∷ []) ∷
    outside 0x00000073 (a0 4 ∷ a7 18 ∷ []) ∷
    either 0xfe051ae3 (a0 4294967295 ∷ []) (rounds_by 1 0) (a0 0 ∷ []) ∷
    inside 0x09c02283 (rounds_by 1 0) [] ∷
    inside 0xff928313 (rounds_by 1 0) (t0 (rounds_by 1 0) ∷ []) ∷
    inside 0x00031663 (rounds_by 1 0) (t0 (rounds_by 1 0) ∷ t1 (rounds_by 1 4294967289) ∷ []) ∷
    inside 0x00128293 (rounds_by 1 0) (t0 (rounds_by 1 0) ∷ []) ∷
    inside 0x0080006f (rounds_by 1 0) (t0 (rounds_by 1 1) ∷ []) ∷
    inside 0x00128293 (rounds_by 1 0) (t0 (rounds_by 1 0) ∷ []) ∷
    inside 0x08502e23 (rounds_by 1 0) (t0 (rounds_by 1 1) ∷ []) ∷
    inside 0x00400513 (rounds_by 1 1) [] ∷
    inside 0x01300893 (rounds_by 1 1) (a0 4 ∷ []) ∷
    inside 0x00000073 (rounds_by 1 1) (a0 4 ∷ a7 19 ∷ []) ∷
    outside 0xfc9ff06f [] ∷
    []

-- Two processes count down from 100, and others run between the load and the store: lw t0, 156(zero) · sys yield · addi t0, t0, -1 ·
-- sw t0, 156(zero), between `wait` and `signal`.
abbrev pub down_loop : List Place
down_loop =
    outside 0x00400513 [] ∷
    outside 0x01200893 (a0 4 ∷ []) ∷
    outside 0x00000073 (a0 4 ∷ a7 18 ∷ []) ∷
    either 0xfe051ae3 (a0 4294967295 ∷ []) (rounds_by 4294967295 100) (a0 0 ∷ []) ∷
    inside 0x09c02283 (rounds_by 4294967295 100) [] ∷
    inside 0x00600893 (rounds_by 4294967295 100) (t0 (rounds_by 4294967295 100) ∷ []) ∷
    inside 0x00000073 (rounds_by 4294967295 100) (t0 (rounds_by 4294967295 100) ∷ a7 6 ∷ []) ∷
    inside 0xfff28293 (rounds_by 4294967295 100) (t0 (rounds_by 4294967295 100) ∷ []) ∷
    inside 0x08502e23 (rounds_by 4294967295 100) (t0 (rounds_by 4294967295 99) ∷ []) ∷
    inside 0x00400513 (rounds_by 4294967295 99) [] ∷
    inside 0x01300893 (rounds_by 4294967295 99) (a0 4 ∷ []) ∷
    inside 0x00000073 (rounds_by 4294967295 99) (a0 4 ∷ a7 19 ∷ []) ∷
    outside 0xfd1ff06f [] ∷
    []

abbrev pub down_lock : Lock
down_lock = record { sem = 4; word = 156; rule = rounds_by 4294967295 100 }

-- a loop that adds 2, by the rule that the word is the number of rounds
abbrev pub twos_loop : List Place
twos_loop = guarded 0x06c02283 0x00228293 0x06502623 (rounds_by 1 0) (rounds_by 1 1)

-- the loop without its `wait`: lw t0, 108(zero) · addi t0, t0, 1 · sw t0, 108(zero) · j again
abbrev pub rash_loop : List Place
rash_loop =
    outside 0x06c02283 [] ∷
    outside 0x00128293 (t0 (rounds_by 1 0) ∷ []) ∷
    outside 0x06502623 (t0 (rounds_by 1 1) ∷ []) ∷
    outside 0xff5ff06f [] ∷
    []

-- the loop that gives the token back twice
abbrev pub twice_loop : List Place
twice_loop =
    outside 0x00400513 [] ∷
    outside 0x01200893 (a0 4 ∷ []) ∷
    outside 0x00000073 (a0 4 ∷ a7 18 ∷ []) ∷
    either 0xfe051ae3 (a0 4294967295 ∷ []) (rounds_by 1 0) (a0 0 ∷ []) ∷
    inside 0x09c02283 (rounds_by 1 0) [] ∷
    inside 0x00128293 (rounds_by 1 0) (t0 (rounds_by 1 0) ∷ []) ∷
    inside 0x08502e23 (rounds_by 1 0) (t0 (rounds_by 1 1) ∷ []) ∷
    inside 0x00400513 (rounds_by 1 1) [] ∷
    inside 0x01300893 (rounds_by 1 1) (a0 4 ∷ []) ∷
    inside 0x00000073 (rounds_by 1 1) (a0 4 ∷ a7 19 ∷ []) ∷
    outside 0x00400513 [] ∷
    outside 0x01300893 (a0 4 ∷ []) ∷
    outside 0x00000073 (a0 4 ∷ a7 19 ∷ []) ∷
    outside 0xfcdff06f [] ∷
    []

-- a loop in which t0 is still taken for known once the token was given back
abbrev pub late_loop : List Place
late_loop =
    outside 0x00400513 [] ∷
    outside 0x01200893 (a0 4 ∷ []) ∷
    outside 0x00000073 (a0 4 ∷ a7 18 ∷ []) ∷
    either 0xfe051ae3 (a0 4294967295 ∷ []) (rounds_by 1 0) (a0 0 ∷ []) ∷
    inside 0x06c02283 (rounds_by 1 0) [] ∷
    inside 0x00128293 (rounds_by 1 0) (t0 (rounds_by 1 0) ∷ []) ∷
    inside 0x06502623 (rounds_by 1 0) (t0 (rounds_by 1 1) ∷ []) ∷
    inside 0x00400513 (rounds_by 1 1) (t0 (rounds_by 1 1) ∷ []) ∷
    inside 0x01300893 (rounds_by 1 1) (a0 4 ∷ t0 (rounds_by 1 1) ∷ []) ∷
    inside 0x00000073 (rounds_by 1 1) (a0 4 ∷ a7 19 ∷ t0 (rounds_by 1 1) ∷ []) ∷
    outside 0xfd9ff06f (t0 (rounds_by 1 0) ∷ []) ∷
    []
