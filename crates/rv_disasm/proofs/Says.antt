-- What each statement says of the word that it was made from.
use Rattle.std.proofs.Common.{◌≡◌, ℕ, ◌+◌, ◌%◌, ◌^◌, ◌<◌, ◌≤◌, Bool, true, false, not, ◌&&◌, ◌||◌, ◌⊎◌, List, [], ◌∷◌, ℤ, pos, ◌-ℤ◌, Some, None, refl, sym, ap, ◌∙◌, subst, nat_lt, unwrap_or, is_none}
use Rattle.std.specs.Prelude.{◌==◌}
use Rattle.xinu_model.specs.Isa.Instructions.{FormJ, FormB}
use Rattle.xinu_model.specs.Words.{signed}
use Rattle.rv_isa.specs.Encoding.{placed}
use Rattle.asm_syntax.specs.Statements.{Statement, Code, Branch, JumpTo, Bytes, Line, word_of, word_bytes}
use Rattle.rv_asm.specs.Faults.{fault_by, is_double, is_far, offset_to}
use Rattle.rv_asm.specs.Layouts.{Labels}
use Rattle.rv_disasm.specs.Disassembly.{moved}
use Rattle.rv_disasm.specs.OperandTexts.{label_of}
use Rattle.rv_disasm.specs.Readings.{SaysWord, is_instruction, offset_of, LeadsTo, LandsBy, Leads, Lands}
use Rattle.rv_disasm.proofs.Ways.{way_back, way_signed, placed_well, data_placed}

-- a line without labels
abbrev pub bare : Statement → Line
bare statement = record { labels = []; statement = statement }

pub code_says : (word at : ℕ) → is_instruction word ≡ true → SaysWord word at (bare (Code (word ∷ [])))
code_says word at is = record {
  unlabelled = refl;
  instruction = sym is;
  bytes = λ labels leads. refl;
  size = refl;
  sound = λ labels names k s leads new here aligned fits. placed_well (is_double names s.at s.labels) s.at at k new here aligned fits;
  near = λ labels place end leads lands. refl;
}

pub data_says : (word at : ℕ) → is_instruction word ≡ false → SaysWord word at (bare (Bytes (word_bytes word)))
data_says word at is = record {
  unlabelled = refl;
  instruction = sym is;
  bytes = λ labels leads. refl;
  size = refl;
  sound = λ labels names k s leads new here aligned fits. data_placed (is_double names s.at s.labels) s.at at k new here fits;
  near = λ labels place end leads lands. refl;
}

-- where labels lead, if a word goes so far
leads_to : (word at offset : ℕ) (labels : Labels) → offset_of word ≡ Some offset → Leads word at labels
    → labels (label_of (moved at offset)) ≡ Some (moved at offset)
leads_to word at offset labels is leads = subst (λ o. LeadsTo o at labels) is leads

lands_at : (word at offset : ℕ) → offset_of word ≡ Some offset → Lands word at → (at < 1048576) × (moved at offset ≤ 1048576)
lands_at word at offset is lands = subst (λ o. LandsBy o at) is lands

-- the way to a label that has an address
way_to : (labels : Labels) (at target : ℕ) (name : List ℕ) → labels name ≡ Some target → offset_to labels at name ≡ pos target -ℤ pos at
way_to labels at target name is = ap (λ o. pos (unwrap_or o 0) -ℤ pos at) is

-- an instruction with a label that is there is well placed
known_placed : (labels : Labels) (name : List ℕ) (target : ℕ) (double : Bool) (a at k : ℕ) → labels name ≡ Some target → double ≡ false → a ≡ at
    → at % 4 ≡ 0 → at + 4 ≤ 1048576
    → fault_by false double (is_none (labels name)) ((true && not (a % 4 == 0)) || (true && nat_lt 1048576 (a + 4))) k ≡ None
known_placed labels name target double a at k is new here aligned fits = rw is (placed_well double a at k new here aligned fits)

-- what an offset is like
pub record IsOffset (offset reach : ℕ) : Type 0 where
  pub fits : offset < 2 ^ 32
  pub ways : (offset < 1048576) ⊎ ((4293918720 ≤ offset) × (offset < 2 ^ 32))
  pub reached : is_far (signed offset) reach ≡ false

not_astray : (labels : Labels) (at offset reach : ℕ) (name : List ℕ) → IsOffset offset reach → labels name ≡ Some (moved at offset) → at < 1048576
    → moved at offset ≤ 1048576 → is_far (offset_to labels at name) reach ≡ false
not_astray labels at offset reach name o is low high =
    ap (λ (z : ℤ). is_far z reach) (way_to labels at (moved at offset) name is ∙ way_signed at offset low high o.ways) ∙ o.reached

way_word : (labels : Labels) (at offset reach : ℕ) (name : List ℕ) → at < 2 ^ 32 → IsOffset offset reach → labels name ≡ Some (moved at offset)
    → word_of (offset_to labels at name) ≡ offset
way_word labels at offset reach name fits o is =
    ap word_of (way_to labels at (moved at offset) name is) ∙ way_back at offset fits o.fits

pub branch_says : (word at bits rs1 rs2 offset : ℕ) → at < 2 ^ 32 → is_instruction word ≡ true → offset_of word ≡ Some offset → IsOffset offset 4096
    → bits + placed FormB 0 rs1 rs2 offset ≡ word → SaysWord word at (bare (Branch bits rs1 rs2 (label_of (moved at offset))))
branch_says word at bits rs1 rs2 offset fits is goes o again =
    let name = label_of (moved at offset) in record {
      unlabelled = refl;
      instruction = sym is;
      bytes = λ labels leads.
          ap (λ (n : ℕ). word_bytes (bits + placed FormB 0 rs1 rs2 n))
          (way_word labels at offset 4096 name fits o (leads_to word at offset labels goes leads))
          ∙ ap word_bytes again;
      size = refl;
      sound = λ labels names k s leads new here aligned room.
          known_placed labels name (moved at offset) (is_double names s.at s.labels) s.at at k (leads_to word at offset labels goes leads) new here aligned room;
      near = λ labels place end leads lands.
          not_astray labels at offset 4096 name o (leads_to word at offset labels goes leads) (lands_at word at offset goes lands).0
          (lands_at word at offset goes lands).1;
    }

pub jump_says : (word at rd offset : ℕ) → at < 2 ^ 32 → is_instruction word ≡ true → offset_of word ≡ Some offset → IsOffset offset 1048576
    → 0x6f + placed FormJ rd 0 0 offset ≡ word → SaysWord word at (bare (JumpTo rd (label_of (moved at offset))))
jump_says word at rd offset fits is goes o again =
    let name = label_of (moved at offset) in record {
      unlabelled = refl;
      instruction = sym is;
      bytes = λ labels leads.
          ap (λ (n : ℕ). word_bytes (0x6f + placed FormJ rd 0 0 n))
          (way_word labels at offset 1048576 name fits o (leads_to word at offset labels goes leads))
          ∙ ap word_bytes again;
      size = refl;
      sound = λ labels names k s leads new here aligned room.
          known_placed labels name (moved at offset) (is_double names s.at s.labels) s.at at k (leads_to word at offset labels goes leads) new here aligned room;
      near = λ labels place end leads lands.
          not_astray labels at offset 1048576 name o (leads_to word at offset labels goes leads) (lands_at word at offset goes lands).0
          (lands_at word at offset goes lands).1;
    }
