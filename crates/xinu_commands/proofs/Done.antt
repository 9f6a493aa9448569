-- The status of a command that was done.
use Rattle.std.proofs.Common.{◌≡◌, ℕ, Bool, true, false, nat_le, if◌then◌else◌, List, [], length, Option, Some, None, refl, sym, ap, subst}
use Rattle.std.specs.Prelude.{Ok, option_map}
use Rattle.command_line.specs.Commands.{Command, Asm, Disk}
use Rattle.command_line.specs.AsmArgs.{AsmFiles}
use Rattle.command_line.specs.DiskArgs.{DiskAction, Mkfs, Ls, Get, Put, Repair}
use Rattle.command_line.specs.DiskArgs as disk
use Rattle.command_line.specs.Reading.{Text}
use Rattle.host_port.specs.Outside.{Outside}
use Rattle.lfs_check.specs.Faults.{report}
use Rattle.lfs_layout.specs.Images.{opened, repaired}
use Rattle.machine.specs.Printed.{Booted}
use Rattle.rv_asm.specs.Assembly.{Assembly, Makes, Fails, assembly}
use Rattle.xinu_commands.specs.AsmVerdict.{asm_verdict, assembly_verdict, longest_source}
use Rattle.run_inputs.specs.InputDisks.{disk_fault, rule_broken}
use Rattle.xinu_commands.specs.DiskVerdict.{check_verdict, disk_with, file_lines, file_on, get_verdict, ls_verdict, mkfs_verdict, put_verdict, repair_line, repair_verdict, report_line, set_verdict, size_fault, with_disk}
use Rattle.xinu_commands.specs.Endings.{CarriesOut}
use Rattle.xinu_commands.specs.Stages.{Performs, left_by}
use Rattle.xinu_commands.specs.Statuses.{status_due}
use Rattle.xinu_commands.specs.Theorem.{Carries}
use Rattle.xinu_commands.specs.Verdict.{Input, DiskInput, SourceInput, action_verdict, verdict}
use Rattle.xinu_commands.specs.Work.{Does, Judges, Left, Output, Outputs, Refuses, Runs, Soaking, Verdict, if_some, judgement}
use Rattle.xinu_commands.specs.declared.commands.Done.{Done}
use Rattle.run_inputs.specs.declared.refusals.Refusal.{Refusal}
use Rattle.run_inputs.specs.declared.refusals.Refusal.TheVariants as refusal
use Rattle.xinu_commands.proofs.Fetches.{unless_fault_is}

-- It is that of the verdict.
pub done_status : (v : Verdict) (left : Option Left) (h k : Outside) (c : Carries v None left h k) → status_due v ≡ c.output.status
done_status (Refuses cause) left h k c = (let work = c.deserved.1 in cc)
done_status (Does (Runs wanted start events)) left h k c = sym (ap (λ o. o.status) c.sends.begins.output.written)
done_status (Does (Soaking seed start)) left h k c = sym (ap (λ o. o.status) c.sends.begins.output.written)
done_status (Does (Judges true)) left h k c = sym (ap (λ o. o.status) c.sends.begins)
done_status (Does (Judges false)) left h k c = sym (ap (λ o. o.status) c.sends.begins)
done_status (Does (Outputs out disk1 file)) left h k c = sym (ap (λ o. o.status) c.sends.begins)

-- ---- status 0

-- A run or a soak test that was done leaves a machine, and has the status 0.
pub left_status : (v : Verdict) (last : Left) (h k : Outside) (c : Carries v None (Some last) h k) → 0 ≡ c.output.status
left_status (Refuses cause) last h k c = (let work = c.deserved.1 in cc)
left_status (Does (Runs wanted start events)) last h k c = done_status (Does (Runs wanted start events)) (Some last) h k c
left_status (Does (Soaking seed start)) last h k c = done_status (Does (Soaking seed start)) (Some last) h k c
left_status (Does (Judges is_transcript)) last h k c = (let writes = c.sends.writes refl in let none = writes.leaves in absurd (cc))
left_status (Does (Outputs out disk1 file)) last h k c = (let writes = c.sends.writes refl in let none = writes.leaves in absurd (cc))

-- A verdict judges no trace.
abbrev IsUnjudged : Verdict → Type 0
IsUnjudged (Does (Judges is_transcript)) = ⊥
IsUnjudged _ = Unit {0}

unjudged_status : (v : Verdict) (left : Option Left) (h k : Outside) (c : Carries v None left h k) → IsUnjudged v → 0 ≡ c.output.status
unjudged_status (Refuses cause) left h k c other = (let work = c.deserved.1 in cc)
unjudged_status (Does (Judges is_transcript)) left h k c other = absurd other
unjudged_status (Does (Runs wanted start events)) left h k c other = done_status (Does (Runs wanted start events)) left h k c
unjudged_status (Does (Soaking seed start)) left h k c other = done_status (Does (Soaking seed start)) left h k c
unjudged_status (Does (Outputs out disk1 file)) left h k c other = done_status (Does (Outputs out disk1 file)) left h k c

-- `asm` doesn't
asm_unjudged_by : (fits elf : Bool) (a : Assembly) → IsUnjudged (if fits then assembly_verdict elf a else Refuses (refusal.Asm 0 3))
asm_unjudged_by true elf (Makes file) = tt
asm_unjudged_by true elf (Fails fault) = tt
asm_unjudged_by false elf a = tt

asm_unjudged : (elf : Bool) (source : List ℕ) → IsUnjudged (asm_verdict elf source)
unfolding asm_verdict
asm_unjudged elf source = asm_unjudged_by (nat_le (length source) longest_source) elf (assembly source)

pub asm_status : (a : AsmFiles) (h k : Outside) (p : Performs (Some (Asm a)) None None h k) → 0 ≡ p.obeys.carries.output.status
asm_status a h k p = unjudged_status _ None h k p.obeys.carries (asm_unjudged a.elf _)

-- nor does an action on a disk
if_some_unjudged : {T : Type 0} (cause : Refusal) (o : Option T) (next : T → Verdict) → ((x : T) → IsUnjudged (next x)) → IsUnjudged (if_some cause o next)
if_some_unjudged cause None next rest = tt
if_some_unjudged cause (Some x) next rest = rest x

with_disk_unjudged : (bytes : List ℕ) (next : List ℕ → Verdict) → ((d : List ℕ) → IsUnjudged (next d)) → IsUnjudged (with_disk bytes next)
with_disk_unjudged bytes next rest = unless_fault_is IsUnjudged (option_map rule_broken (disk_fault bytes)) (Some (opened bytes)) next (λ r is. tt) tt rest

set_unjudged : (name source d : List ℕ) → IsUnjudged (set_verdict name source d)
unfolding set_verdict
set_unjudged name source d = if_some_unjudged refusal.DoesNotFit (disk_with name source d) (λ made. Does (Outputs [] (Some made) None)) (λ made. tt)

action_unjudged : (action : DiskAction) (held : Input → Text → List ℕ) → IsUnjudged (action_verdict action held)
unfolding mkfs_verdict ls_verdict get_verdict put_verdict check_verdict repair_verdict
action_unjudged (Mkfs blocks out) held = tt
action_unjudged (Ls image) held = with_disk_unjudged (held DiskInput image) (λ d. Does (Outputs (file_lines d) None None)) (λ d. tt)
action_unjudged (Get image name out) held =
    with_disk_unjudged (held DiskInput image) (λ d. if_some refusal.NoSuchFile (file_on name d) (λ bytes. Does (Outputs [] None (Some bytes))))
    (λ d. if_some_unjudged refusal.NoSuchFile (file_on name d) (λ bytes. Does (Outputs [] None (Some bytes))) (λ bytes. tt))
action_unjudged (Put image name source out) held =
    with_disk_unjudged (held DiskInput image) (set_verdict name (held SourceInput source)) (λ d. set_unjudged name (held SourceInput source) d)
action_unjudged (disk.Check image) held =
    with_disk_unjudged (held DiskInput image) (λ d. Does (Outputs (report_line (report (held DiskInput image))) None None)) (λ d. tt)
action_unjudged (Repair image out) held =
    unless_fault_is IsUnjudged (option_map rule_broken (size_fault (held DiskInput image))) (Some (held DiskInput image)) (λ d. Does (Outputs (repair_line d) (Some (repaired d)) None)) (λ r is. tt) tt (λ d. tt)

pub action_status : (action : DiskAction) (h k : Outside) (p : Performs (Some (Disk action)) None None h k) → 0 ≡ p.obeys.carries.output.status
action_status action h k p = unjudged_status _ None h k p.obeys.carries (action_unjudged action _)

-- ---- a trace that was judged

-- the output is the judgement
pub judged_output : (v : Verdict) (is_transcript : Bool) (left : Option Left) (h k : Outside) (c : Carries v None left h k) → v ≡ Does (Judges is_transcript) → c.output ≡ judgement is_transcript
judged_output v is_transcript left h k c is =
    let P : Verdict → Type 0 = λ x. (d : Carries x None left h k) → d.output ≡ judgement is_transcript in
    subst P (sym is) (λ d. d.sends.begins) c

-- the status of a judgement
pub judgement_status : (is_transcript : Bool) (output : Output) → output ≡ judgement is_transcript → (if is_transcript then 0 else 10) ≡ output.status
judgement_status true output is = sym (ap (λ o. o.status) is)
judgement_status false output is = sym (ap (λ o. o.status) is)

-- ---- what is left for the top call

-- a run or a soak test, which left a machine
pub carries_left : (command : Option Command) (c : Command) (d : Done) (m : Booted) (h k : Outside) → command ≡ Some c → d ≡ record { status = 0; machine = Some m }
    → Performs (Some c) None (Some (left_by m)) h k → CarriesOut command (Ok d) h k
carries_left command c d m h k is same p =
    let P : Option Command → Type 0 = λ x. CarriesOut x (Ok d) h k in
    let Q : Done → Type 0 = λ e. CarriesOut (Some c) (Ok e) h k in
    subst P (sym is) (subst Q (sym same) (record { performs = p; status = left_status (verdict (Some c) h.file p.obeys.unseen) (left_by m) h k p.obeys.carries }))

-- another command, with its status
pub carries_done : (command : Option Command) (c : Command) (d : Done) (status : ℕ) (h k : Outside) → command ≡ Some c → d ≡ record { status = status; machine = None }
    → (p : Performs (Some c) None None h k) → status ≡ p.obeys.carries.output.status → CarriesOut command (Ok d) h k
carries_done command c d status h k is same p ends =
    let P : Option Command → Type 0 = λ x. CarriesOut x (Ok d) h k in
    let Q : Done → Type 0 = λ e. CarriesOut (Some c) (Ok e) h k in
    subst P (sym is) (subst Q (sym same) (record { performs = p; status = ends }))
