-- The command that a name or the first argument chooses, and the action that a name chooses.
use Rattle.std.proofs.Common.{◌≡◌, ◌∙◌, ◌≤◌, ◌-◌, true, false, if◌then◌else◌, codes, List, [], ◌∷◌, Option, ap, ap₂, arith, bytes_eq, drop, get_or, length, map, option_map, sym, take, take_all}
use Rattle.clap.specs.Walk.{Row}
use Rattle.command_line.specs.Reading.{Text}
use Rattle.command_line.specs.DiskArgs.{action_named, action_of}
use Rattle.command_line.specs.Commands.{Command, Asm, Check, Disk, Run, Soak, command_of, simple_command_of}
use Rattle.command_line.specs.Parser.{asm_in, check_in, command_in, run_in, soak_in}

module _ (name : Text) (rows : List Row) (command : Option Command) where
  pub run_chosen : name ≡ codes "run" → option_map Run (run_in rows) ≡ command → command_in name rows ≡ command
  run_chosen is e = ap (λ n. command_in n rows) is ∙ e

  pub asm_chosen : name ≡ codes "asm" → option_map Asm (asm_in rows) ≡ command → command_in name rows ≡ command
  asm_chosen is e = ap (λ n. command_in n rows) is ∙ e

  pub soak_chosen : name ≡ codes "soak" → option_map Soak (soak_in rows) ≡ command → command_in name rows ≡ command
  soak_chosen is e = ap (λ n. command_in n rows) is ∙ e

  pub check_chosen : name ≡ codes "check" → option_map Check (check_in rows) ≡ command → command_in name rows ≡ command
  check_chosen is e = ap (λ n. command_in n rows) is ∙ e

module _ (args rest : List Text) (first : Text) (command : Option Command) (are : args ≡ first ∷ rest) where
  pub disk_chosen : bytes_eq (codes "disk") first ≡ true → option_map Disk (action_of rest) ≡ command → command_of args ≡ command
  disk_chosen is e =
      ap command_of are ∙ ap (λ b. if b then option_map Disk (action_of rest) else simple_command_of (first ∷ rest)) is ∙ e

  pub simple_chosen : bytes_eq (codes "disk") first ≡ false → simple_command_of args ≡ command → command_of args ≡ command
  simple_chosen is e =
      ap command_of are ∙ ap (λ b. if b then option_map Disk (action_of rest) else simple_command_of (first ∷ rest)) is
      ∙ ap simple_command_of (sym are) ∙ e

-- the texts of a list, the first of which was taken off
pub opened : {X : Type 0} (text : X → Text) (xs : List X) (x : X) (first : Text) → 1 ≤ length xs → x ≡ get_or xs 0 x → first ≡ text x
    → map text xs ≡ first ∷ map text (take (length xs - 1) (drop 1 xs))
opened text [] x first some is e = absurd (omega arith)
opened text (y ∷ ys) x first some is e =
    ap₂ (λ z (zs : List _). z ∷ map text zs) (ap text (sym is) ∙ sym e) (sym (take_all (length (y ∷ ys) - 1) ys (omega arith)))

pub action_chosen : (name chosen : Text) (out : Option Text) (args : List Text) → name ≡ chosen → action_named chosen out args ≡ action_named name out args
action_chosen name chosen out args is = ap (λ n. action_named n out args) (sym is)
