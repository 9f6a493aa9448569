-- The law at the program's own commands and actions: what the parser's matches and its refusals say.
use Rattle.std.proofs.Common.{◌≡◌, ◌∙◌, ℕ, Bool, true, false, cond, if◌then◌else◌, codes, List, [], Option, Some, None, refl, sym, ap, subst, fold, bytes_eq, option_and_then, option_map}
use Rattle.clap.specs.Walk.{Row, first_of, with_default}
use Rattle.clap.specs.Simple.{subcommand_of}
use Rattle.clap.specs.Kinds.{Kinds}
use Rattle.clap.specs.Faults.{fault_of}
use Rattle.command_line.specs.Reading.{CommandRow, Request, Taken, Text, option_value, request_of}
use Rattle.command_line.specs.RunArgs.{RunFiles, run_from, run_options}
use Rattle.command_line.specs.AsmArgs.{AsmFiles, asm_from, asm_options}
use Rattle.command_line.specs.DiskArgs.{DiskAction, action_from, action_of, actions, check_of, get_of, ls_of, mkfs_of, out_options, printing, put_of, repair_of, writing}
use Rattle.command_line.specs.CheckArgs.{CheckFiles, check_from, check_options}
use Rattle.command_line.specs.Commands.{Command, Run, Asm, Soak, Check, asm_row, check_row, command_from, commands, run_row, simple_command_of, soak_row}
use Rattle.command_line.specs.Parser.{action_command_in, args_in, asm_in, check_in, disk_app, run_in, simple_app, simple_command_in, soak_in}
use Rattle.command_line.specs.SoakArgs.{soak_from, soak_options}
use Rattle.command_line.proofs.Table.{rules}
use Rattle.command_line.proofs.Rows.{Holds}
use Rattle.command_line.proofs.Law.{AllUtf8}
use Rattle.command_line.proofs.Values.{value_read, flag_read, args_read}
use Rattle.command_line.proofs.Program.{Enters, ProgramVerdict, program_law}

-- ---- what matches and refusals say, for every table of commands

module _ {C : Type 0} (table : List CommandRow) (from : Request → Option C) (into : Option (Text × List Row) → Option C) where
  matched : (kinds : Kinds) (sub : Option (Text × List Row)) (x : Option Request) → ((r : Request) → Enters table r sub → from r ≡ into sub) → kinds ≡ []
      → ProgramVerdict table kinds sub x → option_and_then from x ≡ into sub
  matched kinds sub None taken none bad = absurd (bad none)
  matched kinds sub (Some r) taken none v = taken r v.1

  unmatched : (kinds : Kinds) (sub : Option (Text × List Row)) (x : Option Request) → (kinds ≡ [] → ⊥) → ProgramVerdict table kinds sub x → option_and_then from x ≡ None
  unmatched kinds sub None bad v = refl
  unmatched kinds sub (Some r) bad v = absurd (bad v.0)

-- what holds of the row that was found
at_row : (rows : List Row) (t : Taken) (c row : CommandRow) → Some c ≡ Some row → (P : CommandRow → Type 0) → (Holds c.options rows t → P c)
    → Holds row.options rows t → P row
at_row rows t c row is P read h =
    let same : c ≡ row = cc in
    subst (λ (r : CommandRow). Holds r.options rows t → P r) same read h

-- ---- the commands without actions

run_read : (rows : List Row) (t : Taken) → Holds run_options rows t → run_from t ≡ run_in (fold with_default rows (rules run_options))
run_read rows t h =
    rw (
      value_read run_options rows t h (codes "schedule") _ refl refl refl refl,
      value_read run_options rows t h (codes "disk0") _ refl refl refl refl,
      value_read run_options rows t h (codes "disk1") _ refl refl refl refl,
      value_read run_options rows t h (codes "out0") _ refl refl refl refl,
      value_read run_options rows t h (codes "out1") _ refl refl refl refl,
      flag_read run_options rows t h
          (codes "plain") _ refl refl refl,
      args_read run_options rows t h refl,
    ) refl

asm_read : (rows : List Row) (t : Taken) → Holds asm_options rows t → asm_from t ≡ asm_in (fold with_default rows (rules asm_options))
asm_read rows t h =
    rw (
      value_read asm_options rows t h (codes "out") _ refl refl refl refl,
      flag_read asm_options rows t h
          (codes "elf") _ refl refl refl,
      args_read asm_options rows t h refl,
    ) refl

soak_read : (rows : List Row) (t : Taken) → Holds soak_options rows t → soak_from t ≡ soak_in (fold with_default rows (rules soak_options))
soak_read rows t h = rw (args_read soak_options rows t h refl) refl

check_read : (rows : List Row) (t : Taken) → Holds check_options rows t → check_from t ≡ check_in (fold with_default rows (rules check_options))
check_read rows t h =
    rw (
      value_read check_options rows t h (codes "schedule") _ refl refl refl refl,
      value_read check_options rows t h (codes "trace") _ refl refl refl refl,
      value_read check_options rows t h (codes "disk0") _ refl refl refl refl,
      value_read check_options rows t h (codes "disk1") _ refl refl refl refl,
      args_read check_options rows t h refl,
    ) refl

-- the command that tests on its name choose
abbrev chosen_command : Bool → Bool → Bool → Bool → Option RunFiles → Option AsmFiles → Option ℕ → Option CheckFiles → Option Command
chosen_command a b c d run asm soak check =
    if a then option_map Run run
    else (if b then option_map Asm asm
    else (if c then option_map Soak soak
    else (if d then option_map Check check else None)))

module _ (rows : List Row) (t : Taken) where
  -- the rows that the matches hold by the options of a command
  abbrev rows_at : CommandRow → List Row
  rows_at c = fold with_default rows (rules c.options)

  -- the command by the tests on its name, in the order of the table
  command_by_tests : (a b c d : Bool) (row : CommandRow)
      → cond a (Some run_row) (cond b (Some asm_row) (cond c (Some soak_row) (cond d (Some check_row) None))) ≡ Some row
      → Holds row.options rows t
      → chosen_command a b c d (run_from t) (asm_from t) (soak_from t) (check_from t)
      ≡ chosen_command a b c d (run_in (rows_at row)) (asm_in (rows_at row)) (soak_in (rows_at row)) (check_in (rows_at row))
  command_by_tests true b c d row is h =
      at_row rows t run_row row is (λ r. option_map Run (run_from t) ≡ option_map Run (run_in (rows_at r)))
      (λ k. ap (λ (r : Option RunFiles). option_map Run r) (run_read rows t k)) h
  command_by_tests false true c d row is h =
      at_row rows t asm_row row is (λ r. option_map Asm (asm_from t) ≡ option_map Asm (asm_in (rows_at r)))
      (λ k. ap (λ (a : Option AsmFiles). option_map Asm a) (asm_read rows t k)) h
  command_by_tests false false true d row is h =
      at_row rows t soak_row row is (λ r. option_map Soak (soak_from t) ≡ option_map Soak (soak_in (rows_at r)))
      (λ k. ap (λ (n : Option ℕ). option_map Soak n) (soak_read rows t k)) h
  command_by_tests false false false true row is h =
      at_row rows t check_row row is (λ r. option_map Check (check_from t) ≡ option_map Check (check_in (rows_at r)))
      (λ k. ap (λ (c : Option CheckFiles). option_map Check c) (check_read rows t k)) h
  command_by_tests false false false false row is h = absurd (cc)

command_taken : (sub : Option (Text × List Row)) (r : Request) → Enters commands r sub → command_from r ≡ simple_command_in sub
command_taken sub r h =
    command_by_tests h.rows r.taken (bytes_eq (codes "run") r.command) (bytes_eq (codes "asm") r.command) (bytes_eq (codes "soak") r.command)
    (bytes_eq (codes "check") r.command) h.row h.named h.holds
    ∙ ap simple_command_in (sym h.entered)

-- matches give the command
pub command_matched : (args : List Text) → AllUtf8 args → fault_of simple_app args ≡ [] → (sub : Option (Text × List Row))
    → sub ≡ subcommand_of simple_app args
    → simple_command_of args ≡ simple_command_in sub
command_matched args u none sub is =
    matched commands command_from simple_command_in (fault_of simple_app args) (subcommand_of simple_app args) (request_of commands args)
    (command_taken (subcommand_of simple_app args)) none
    (program_law (codes "xinu_run") commands refl args u) ∙ ap simple_command_in (sym is)

-- if a kind of error comes, there is no such command
pub command_unmatched : (args : List Text) → AllUtf8 args → (fault_of simple_app args ≡ [] → ⊥) → simple_command_of args ≡ None
command_unmatched args u bad =
    unmatched commands command_from simple_command_in (fault_of simple_app args) (subcommand_of simple_app args)
    (request_of commands args) bad (program_law (codes "xinu_run") commands refl args u)

-- ---- the actions of a disk

-- the action that tests on its name choose
abbrev chosen : Bool → Bool → Bool → Bool → Bool → Bool → Option Text → List Text → Option DiskAction
chosen a b c d e f out args =
    if a then mkfs_of out args else (if b then ls_of args else (if c then get_of out args else (if d then put_of out args else (if e then check_of args else (if f then repair_of out args else None)))))

module _ (rows : List Row) (t : Taken) where
  -- what the matches hold by the options of a row
  abbrev out_in : CommandRow → Option Text
  out_in c = first_of (codes "out") (fold with_default rows (rules c.options))

  abbrev args_at : CommandRow → List Text
  args_at c = args_in (fold with_default rows (rules c.options))

  writing_read : (of : Option Text → List Text → Option DiskAction) → Holds out_options rows t
      → of (option_value (codes "out") t) t.positional ≡ of (first_of (codes "out") (fold with_default rows (rules out_options))) (args_in (fold with_default rows (rules out_options)))
  writing_read of h = rw (value_read out_options rows t h (codes "out") _ refl refl refl refl, args_read out_options rows t h refl) refl

  printing_read : (of : List Text → Option DiskAction) → Holds [] rows t → of t.positional ≡ of (args_in (fold with_default rows (rules [])))
  printing_read of h = rw (args_read [] rows t h refl) refl

  -- the action by the tests on its name, in the order of the table
  by_tests : (a b c d e f : Bool) (row : CommandRow)
      → cond a (Some (writing (codes "mkfs"))) (cond b (Some (printing (codes "ls"))) (cond c (Some (writing (codes "get"))) (cond d (Some (writing (codes "put")))
      (cond e (Some (printing (codes "check"))) (cond f (Some (writing (codes "repair"))) None))))) ≡ Some row
      → Holds row.options rows t
      → chosen a b c d e f (option_value (codes "out") t) t.positional
      ≡ chosen a b c d e f (first_of (codes "out") (fold with_default rows (rules row.options))) (args_in (fold with_default rows (rules row.options)))
  by_tests true b c d e f row is h =
      at_row rows t (writing (codes "mkfs")) row is (λ r. mkfs_of (option_value (codes "out") t) t.positional ≡ mkfs_of (out_in r)
      (args_at r)) (writing_read mkfs_of) h
  by_tests false true c d e f row is h =
      at_row rows t (printing (codes "ls")) row is (λ r. ls_of t.positional ≡ ls_of (args_at r)) (printing_read ls_of) h
  by_tests false false true d e f row is h =
      at_row rows t (writing (codes "get")) row is (λ r. get_of (option_value (codes "out") t) t.positional ≡ get_of (out_in r) (args_at r))
      (writing_read get_of) h
  by_tests false false false true e f row is h =
      at_row rows t (writing (codes "put")) row is (λ r. put_of (option_value (codes "out") t) t.positional ≡ put_of (out_in r) (args_at r))
      (writing_read put_of) h
  by_tests false false false false true f row is h =
      at_row rows t (printing (codes "check")) row is (λ r. check_of t.positional ≡ check_of (args_at r)) (printing_read check_of) h
  by_tests false false false false false true row is h =
      at_row rows t (writing (codes "repair")) row is (λ r. repair_of (option_value (codes "out") t) t.positional ≡ repair_of (out_in r)
      (args_at r)) (writing_read repair_of) h
  by_tests false false false false false false row is h = absurd (cc)

action_taken : (sub : Option (Text × List Row)) (r : Request) → Enters actions r sub → action_from r ≡ action_command_in sub
action_taken sub r h =
    by_tests h.rows r.taken (bytes_eq (codes "mkfs") r.command) (bytes_eq (codes "ls") r.command) (bytes_eq (codes "get") r.command) (bytes_eq (codes "put") r.command)
    (bytes_eq (codes "check") r.command) (bytes_eq (codes "repair") r.command) h.row h.named h.holds
    ∙ ap action_command_in (sym h.entered)

-- matches give the action
pub action_matched : (args : List Text) → AllUtf8 args → fault_of disk_app args ≡ [] → (sub : Option (Text × List Row)) → sub ≡ subcommand_of disk_app args
    → action_of args ≡ action_command_in sub
action_matched args u none sub is =
    matched actions action_from action_command_in (fault_of disk_app args) (subcommand_of disk_app args) (request_of actions args) (action_taken (subcommand_of disk_app args)) none
    (program_law (codes "disk") actions refl args u) ∙ ap action_command_in (sym is)

-- if a kind of error comes, there is no action
pub action_unmatched : (args : List Text) → AllUtf8 args → (fault_of disk_app args ≡ [] → ⊥) → action_of args ≡ None
action_unmatched args u bad =
    unmatched actions action_from action_command_in (fault_of disk_app args) (subcommand_of disk_app args) (request_of actions args) bad (program_law (codes "disk") actions refl args u)
