-- Calls by their names, as the examples write them; an argument is a word.
use Rattle.std.specs.Prelude.{ℕ, List, [], ◌∷◌}
use Rattle.xinu_base.specs.declared.syscalls.Call.{Call}

-- a call by its number
abbrev pub numbered : ℕ → List ℕ → Call
numbered number args = record { number = number; args = args }

-- the words of negative numbers
abbrev pub minus_one : ℕ
minus_one = 4294967295

abbrev pub minus_five : ℕ
minus_five = 4294967291

abbrev pub sys_getpid : Call
sys_getpid = numbered 1 []

abbrev pub sys_create : ℕ → ℕ → ℕ → ℕ → ℕ → ℕ → Call
sys_create entry size priority name x y = numbered 2 (entry ∷ size ∷ priority ∷ name ∷ x ∷ y ∷ [])

abbrev pub sys_resume : ℕ → Call
sys_resume p = numbered 3 (p ∷ [])

abbrev pub sys_suspend : ℕ → Call
sys_suspend p = numbered 4 (p ∷ [])

abbrev pub sys_kill : ℕ → Call
sys_kill p = numbered 5 (p ∷ [])

abbrev pub give_way : Call
give_way = numbered 6 []

abbrev pub sys_chprio : ℕ → ℕ → Call
sys_chprio p priority = numbered 7 (p ∷ priority ∷ [])

abbrev pub sys_getprio : ℕ → Call
sys_getprio p = numbered 8 (p ∷ [])

abbrev pub sys_exit : Call
sys_exit = numbered 9 []

abbrev pub sys_getmem : ℕ → Call
sys_getmem n = numbered 10 (n ∷ [])

abbrev pub sys_freemem : ℕ → ℕ → Call
sys_freemem a n = numbered 11 (a ∷ n ∷ [])

abbrev pub sys_getstk : ℕ → Call
sys_getstk n = numbered 12 (n ∷ [])

abbrev pub sys_freestk : ℕ → ℕ → Call
sys_freestk a n = numbered 13 (a ∷ n ∷ [])

abbrev pub sys_semcreate : ℕ → Call
sys_semcreate n = numbered 14 (n ∷ [])

abbrev pub sys_semdelete : ℕ → Call
sys_semdelete s = numbered 15 (s ∷ [])

abbrev pub sys_semreset : ℕ → ℕ → Call
sys_semreset s n = numbered 16 (s ∷ n ∷ [])

abbrev pub sys_semcount : ℕ → Call
sys_semcount s = numbered 17 (s ∷ [])

abbrev pub sys_wait : ℕ → Call
sys_wait s = numbered 18 (s ∷ [])

abbrev pub sys_signal : ℕ → Call
sys_signal s = numbered 19 (s ∷ [])

abbrev pub sys_signaln : ℕ → ℕ → Call
sys_signaln s n = numbered 20 (s ∷ n ∷ [])

abbrev pub sys_send : ℕ → ℕ → Call
sys_send p m = numbered 21 (p ∷ m ∷ [])

abbrev pub sys_receive : Call
sys_receive = numbered 22 []

abbrev pub sys_recvclr : Call
sys_recvclr = numbered 23 []

abbrev pub sys_recvtime : ℕ → Call
sys_recvtime t = numbered 24 (t ∷ [])

abbrev pub sys_sleep : ℕ → Call
sys_sleep t = numbered 25 (t ∷ [])

abbrev pub sys_sleepms : ℕ → Call
sys_sleepms t = numbered 26 (t ∷ [])

abbrev pub sys_clktime : Call
sys_clktime = numbered 27 []

abbrev pub sys_mkbufpool : ℕ → ℕ → Call
sys_mkbufpool size n = numbered 28 (size ∷ n ∷ [])

abbrev pub sys_getbuf : ℕ → Call
sys_getbuf i = numbered 29 (i ∷ [])

abbrev pub sys_freebuf : ℕ → Call
sys_freebuf a = numbered 30 (a ∷ [])

abbrev pub sys_ptcreate : ℕ → Call
sys_ptcreate n = numbered 31 (n ∷ [])

abbrev pub sys_ptdelete : ℕ → ℕ → Call
sys_ptdelete q how = numbered 32 (q ∷ how ∷ [])

abbrev pub sys_ptreset : ℕ → ℕ → Call
sys_ptreset q how = numbered 33 (q ∷ how ∷ [])

abbrev pub sys_ptsend : ℕ → ℕ → Call
sys_ptsend q m = numbered 34 (q ∷ m ∷ [])

abbrev pub sys_ptrecv : ℕ → Call
sys_ptrecv q = numbered 35 (q ∷ [])

abbrev pub sys_open : ℕ → ℕ → ℕ → Call
sys_open dev name mode = numbered 36 (dev ∷ name ∷ mode ∷ [])

abbrev pub sys_close : ℕ → Call
sys_close dev = numbered 37 (dev ∷ [])

abbrev pub sys_read : ℕ → ℕ → ℕ → Call
sys_read dev a n = numbered 38 (dev ∷ a ∷ n ∷ [])

abbrev pub sys_write : ℕ → ℕ → ℕ → Call
sys_write dev a n = numbered 39 (dev ∷ a ∷ n ∷ [])

abbrev pub sys_getc : ℕ → Call
sys_getc dev = numbered 40 (dev ∷ [])

abbrev pub sys_putc : ℕ → ℕ → Call
sys_putc dev c = numbered 41 (dev ∷ c ∷ [])

abbrev pub sys_seek : ℕ → ℕ → Call
sys_seek dev n = numbered 42 (dev ∷ n ∷ [])

abbrev pub sys_control : ℕ → ℕ → ℕ → Call
sys_control dev f x = numbered 43 (dev ∷ f ∷ x ∷ [])

abbrev pub sys_mount : ℕ → ℕ → ℕ → Call
sys_mount prefix replacement dev = numbered 44 (prefix ∷ replacement ∷ dev ∷ [])
