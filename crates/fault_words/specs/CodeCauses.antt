-- The causes and the slots of the code.
use Rattle.std.specs.Prelude.{◌≡◌, ◌-ℤ◌, pos, Option, Some, None}
use Rattle.asm_syntax.specs.CodeMeanings.{seen_meaning}
use Rattle.asm_syntax.specs.Meanings as meanings
use Rattle.fault_words.specs.Causes as spec
use Rattle.fault_words.specs.declared.causes.Cause.{Cause}
use Rattle.fault_words.specs.declared.causes.Cause.TheVariants.{NoContent, NoForm, Takes, Repeated, Late, LabelTwice, NoWord, NoRegister, NoCall}
use Rattle.fault_words.specs.declared.causes.Cause.TheVariants.{NoLabel, NameForNumber, NameForOffset, Exceeds, NoPlace, Misaligned}
use Rattle.fault_words.specs.declared.causes.Cause.TheVariants.{BeyondRam, Far, NoEntry}
use Rattle.fault_words.specs.declared.slots.Slot.{Slot}
use Rattle.fault_words.specs.declared.slots.Slot.TheVariants.{Register, Number, Offset, Label, Call, Text, Word}

-- the cause that the code has
abbrev pub seen_cause : Cause → spec.Cause
seen_cause NoContent = spec.NoContent
seen_cause NoForm = spec.NoForm
seen_cause (Takes w meaning) = spec.Takes w.now (seen_meaning meaning)
seen_cause (Repeated w) = spec.Repeated w.now
seen_cause Late = spec.Late
seen_cause (LabelTwice l k) = spec.LabelTwice l.now k
seen_cause (NoWord w) = spec.NoWord w.now
seen_cause (NoRegister w) = spec.NoRegister w.now
seen_cause (NoCall w) = spec.NoCall w.now
seen_cause (NoLabel w) = spec.NoLabel w.now
seen_cause (NameForNumber w) = spec.NameForNumber w.now
seen_cause NameForOffset = spec.NameForOffset
seen_cause (Exceeds n low high) = spec.Exceeds n low high
seen_cause (NoPlace n) = spec.NoPlace n
seen_cause (Misaligned at) = spec.Misaligned at
seen_cause (BeyondRam at n) = spec.BeyondRam at n
seen_cause (Far l from to reach) = spec.Far l.now (pos to -ℤ pos from) reach
seen_cause (NoEntry l) = spec.NoEntry l.now

-- the slot that the code has
abbrev pub seen_slot : Slot → meanings.Slot
seen_slot Register = meanings.RegisterSlot
seen_slot Number = meanings.NumberSlot
seen_slot Offset = meanings.OffsetSlot
seen_slot Label = meanings.LabelSlot
seen_slot Call = meanings.CallSlot
seen_slot Text = meanings.TextSlot
seen_slot Word = meanings.WordSlot

-- a cause that the code may have found
abbrev pub seen_option : Option Cause → Option spec.Cause
seen_option None = None
seen_option (Some cause) = Some (seen_cause cause)
