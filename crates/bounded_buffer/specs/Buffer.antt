-- A producer and a consumer over a buffer of two slots, with semaphores 4 and 5: `room`, the slots that are free, and `items`, those that are full.
use Rattle.std.specs.Prelude.{◌+◌, ◌*◌, ◌%◌, ℕ, suc, zero, List, [], ◌∷◌, ◌++◌, get_or}
use Rattle.program_logic.specs.Images.{image_of}
use Rattle.xinu_model.specs.Boot.{Loaded}
use Rattle.bounded_buffer.specs.Places.{Counts, Known, Number, Phase, Row, bare, done, either, holding, no_row, outside, says, single, words_in}

abbrev pub a0 : ℕ → Known
a0 x = Number 10 x

abbrev pub a7 : ℕ → Known
a7 x = Number 17 x

-- the next item, and once s0 is greater by one
abbrev pub s0 : ℕ → Known
s0 more = Counts 8 more

-- the item that was taken
abbrev pub t0 : Known
t0 = Counts 5 0

-- A round of the producer on a slot: addi a0, zero, 4 · sys wait · a store of s0 in the slot · addi s0, s0, 1 · addi a0, zero, 5 · sys signal.
abbrev pub putting : ℕ → ℕ → List Row → List Row
putting slot store rows =
    outside 0x00400513 slot (s0 0 ∷ []) ∷
    outside 0x01200893 slot (a0 4 ∷ s0 0 ∷ []) ∷
    outside 0x00000073 slot (a0 4 ∷ a7 18 ∷ s0 0 ∷ []) ∷
    holding store slot (s0 0 ∷ []) ∷
    done 0x00140413 slot (s0 0 ∷ []) ∷
    done 0x00500513 slot (s0 1 ∷ []) ∷
    done 0x01300893 slot (a0 5 ∷ s0 1 ∷ []) ∷
    done 0x00000073 slot (a0 5 ∷ a7 19 ∷ s0 1 ∷ []) ∷
    rows

-- The producer: addi a0, zero, 2 · sys semcreate · addi a0, zero, 0 · sys semcreate · rounds on both slots, with sw s0, 164(zero) and
-- sw s0, 168(zero), over and over. Item k is k.
abbrev pub producer : List Row
producer =
    bare 0x00200513 (s0 0 ∷ []) ∷
    bare 0x00e00893 (a0 2 ∷ s0 0 ∷ []) ∷
    bare 0x00000073 (a0 2 ∷ a7 14 ∷ s0 0 ∷ []) ∷
    single 0x00000513 (s0 0 ∷ []) ∷
    single 0x00e00893 (a0 0 ∷ s0 0 ∷ []) ∷
    single 0x00000073 (a0 0 ∷ a7 14 ∷ s0 0 ∷ []) ∷
    putting 0 0x0a802223 (putting 1 0x0a802423 (outside 0xfc1ff06f 0 (s0 0 ∷ []) ∷ []))

-- A round of the consumer on a slot: addi a0, zero, 5 · sys wait · bne a0, zero back to the round's begin · a load of the slot into t0 ·
-- addi a0, zero, 4 · sys signal.
abbrev pub taking : ℕ → ℕ → List Row → List Row
taking slot load rows =
    outside 0x00500513 slot [] ∷
    outside 0x01200893 slot (a0 5 ∷ []) ∷
    outside 0x00000073 slot (a0 5 ∷ a7 18 ∷ []) ∷
    either 0xfe051ae3 slot (a0 4294967295 ∷ []) (a0 0 ∷ []) ∷
    holding load slot [] ∷
    done 0x00400513 slot (t0 ∷ []) ∷
    done 0x01300893 slot (a0 4 ∷ t0 ∷ []) ∷
    done 0x00000073 slot (a0 4 ∷ a7 19 ∷ t0 ∷ []) ∷
    rows

-- The consumer: rounds on both slots, with lw t0, 164(zero) and lw t0, 168(zero), over and over.
abbrev pub consumer : List Row
consumer = taking 0 0x0a402283 (taking 1 0x0a802283 (outside 0xfc1ff06f 0 [] ∷ []))

-- The producer is process 1 and begins at 0, the consumer is process 2 and begins at 96.
abbrev pub code : ℕ → List Row
code (suc zero) = producer
code _ = consumer

abbrev pub first : ℕ → ℕ
first (suc zero) = 0
first _ = 96

-- what is known at place k of process p in a phase, after c rounds
abbrev pub At : ℕ → Phase → ℕ → ℕ → List ℕ → Type 0
At p f k c regs = says f (get_or (code p) k no_row) c regs

-- where item k lies in the buffer
abbrev pub slot_of : ℕ → ℕ
slot_of k = 164 + 4 * (k % 2)

-- the images: the slots lie behind the consumer
abbrev pub buffer_images : List Loaded
buffer_images = image_of 0 (words_in producer) ∷ image_of 96 (words_in consumer ++ 0 ∷ 0 ∷ []) ∷ []
