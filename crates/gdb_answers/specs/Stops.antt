-- Why the run stands.
use Rattle.std.specs.Prelude.{ℕ, List, ◌++◌, codes}
use Rattle.std.specs.Int.{to_be_bytes, w32}
use Rattle.gdb_answers.specs.Threads.{thread_text}
use Rattle.gdb_answers.specs.declared.stops.Stop.{Stop}
use Rattle.gdb_answers.specs.declared.stops.Stop.TheVariants.{Here, Trapped, Changed, Beginning, End}
use Rattle.xinu_base.specs.Hexadecimal.{hex_of}
use Rattle.xinu_base.specs.declared.registers.Cause.{Cause}
use Rattle.xinu_base.specs.declared.registers.Cause.TheVariants as cause

-- the signal of a trap: SIGILL for a word that is no instruction, SIGTRAP for `EBREAK`, SIGBUS for a bad target, SIGSEGV for bad memory
abbrev pub signal_of : Cause → List ℕ
signal_of cause.Fetch = codes "T0b"
signal_of cause.Illegal = codes "T04"
signal_of cause.Break = codes "T05"
signal_of cause.Target = codes "T0a"
signal_of cause.Load = codes "T0b"
signal_of cause.Store = codes "T0b"

-- an address as eight digits, its highest byte first
abbrev pub address_text : ℕ → List ℕ
address_text address = hex_of (to_be_bytes w32 address)

-- the signal of a stop; after it the address of the bytes that changed, or that the run is at its beginning or its end
abbrev pub reason_text : Stop → List ℕ
reason_text Here = codes "T05"
reason_text (Trapped cause) = signal_of cause
reason_text (Changed address) = codes "T05watch:" ++ address_text address ++ codes ";"
reason_text Beginning = codes "T05replaylog:begin;"
reason_text End = codes "T05replaylog:end;"

-- the stop of process p
abbrev pub stop_text : Stop → ℕ → List ℕ
stop_text stop p = reason_text stop ++ codes "thread:" ++ thread_text p ++ codes ";"
