-- Why the exit statuses of an action say what they do of its files.
use Rattle.std.proofs.Common.{◌≡◌, ◌≢◌, ◌∙◌, ℕ, List, Option, Some, None, refl, ap}
use Rattle.command_line.specs.Commands.{Disk}
use Rattle.command_line.specs.DiskArgs.{DiskAction, Mkfs, Ls, Get, Put, Check, Repair}
use Rattle.command_line.specs.Reading.{Text}
use Rattle.host_port.specs.Outside.{Outside}
use Rattle.lfs_check.specs.declared.faults.DiskFault.{DiskFault}
use Rattle.lfs_layout.specs.Images.{opened}
use Rattle.run_inputs.specs.InputDisks.{disk_fault}
use Rattle.xinu_commands.specs.DiskVerdict.{disk_with, file_on, size_fault}
use Rattle.xinu_commands.specs.Statuses.{LacksFile, LacksRoom, SaysOfDisk, action_fault, status_due}
use Rattle.xinu_commands.specs.Theorem.{Answers}
use Rattle.run_inputs.specs.InputFiles.{file_bytes}
use Rattle.xinu_commands.specs.Verdict.{Input, DiskInput, SourceInput, action_verdict}
use Rattle.xinu_commands.specs.Work.{Left}
use Rattle.xinu_commands.proofs.DiskVerdicts.{check_broken, check_does, get_broken, get_does, get_missing, ls_broken, ls_does, mkfs_does, put_broken, put_sets, repair_broken, repair_does, set_done, set_full}
use Rattle.xinu_commands.proofs.Printed.{some_is_none}
use Rattle.xinu_commands.proofs.Statuses.{due}

module _ (exit : ℕ) (action : DiskAction) (held : Input → Text → List ℕ) where
  bad : (f : DiskFault) → action_fault action held ≡ Some f → exit ≡ 6 → SaysOfDisk exit action held
  bad f fault is = record {
    done = (λ e. absurd (cc), λ p. (let none = p.0 in absurd (cc)));
    bad_disk = (λ e. rw fault refl, λ some. is);
    no_file = (λ e. absurd (cc), λ p. (let none = p.0 in absurd (cc)));
    no_room = (λ e. absurd (cc), λ p. (let none = p.0 in absurd (cc)));
  }

  lacking : action_fault action held ≡ None → LacksFile action held → (LacksRoom action held → ⊥) → exit ≡ 12 → SaysOfDisk exit action held
  lacking none file room is = record {
    done = (λ e. absurd (cc), λ p. absurd (p.1 file));
    bad_disk = (λ e. absurd (cc), λ some. absurd (some_is_none (action_fault action held) some none));
    no_file = (λ e. (none, file), λ p. is);
    no_room = (λ e. absurd (cc), λ p. absurd (room p.1));
  }

  full : action_fault action held ≡ None → (LacksFile action held → ⊥) → LacksRoom action held → exit ≡ 13 → SaysOfDisk exit action held
  full none file room is = record {
    done = (λ e. absurd (cc), λ p. absurd (p.2 room));
    bad_disk = (λ e. absurd (cc), λ some. absurd (some_is_none (action_fault action held) some none));
    no_file = (λ e. absurd (cc), λ p. absurd (file p.1));
    no_room = (λ e. (none, room), λ p. is);
  }

  fine : action_fault action held ≡ None → (LacksFile action held → ⊥) → (LacksRoom action held → ⊥) → exit ≡ 0 → SaysOfDisk exit action held
  fine none file room is = record {
    done = (λ e. (none, file, room), λ p. is);
    bad_disk = (λ e. absurd (cc), λ some. absurd (some_is_none (action_fault action held) some none));
    no_file = (λ e. absurd (cc), λ p. absurd (file p.1));
    no_room = (λ e. absurd (cc), λ p. absurd (room p.1));
  }

-- ---- action by action

module _ (exit : ℕ) (held : Input → Text → List ℕ) where
  ls_says : (image : Text) (f : Option DiskFault) → disk_fault (held DiskInput image) ≡ f → exit ≡ status_due (action_verdict (Ls image) held) → SaysOfDisk exit (Ls image) held
  ls_says image (Some f) fault is = bad exit (Ls image) held f fault (is ∙ ap status_due (ls_broken (held DiskInput image) f fault))
  ls_says image None fault is = fine exit (Ls image) held fault (λ x. x) (λ x. x) (is ∙ ap status_due (ls_does (held DiskInput image) fault))

  get_found : (image name out : Text) (file : Option (List ℕ)) → disk_fault (held DiskInput image) ≡ None → file_on name (opened (held DiskInput image)) ≡ file
      → exit ≡ status_due (action_verdict (Get image name out) held) → SaysOfDisk exit (Get image name out) held
  get_found image name out (Some bytes) fault file is =
      fine exit (Get image name out) held fault (λ none. cc) (λ x. x) (is ∙ ap status_due (get_does name (held DiskInput image) bytes fault file))
  get_found image name out None fault file is =
      lacking exit (Get image name out) held fault file (λ x. x) (is ∙ ap status_due (get_missing name (held DiskInput image) fault file))

  get_says : (image name out : Text) (f : Option DiskFault) → disk_fault (held DiskInput image) ≡ f → exit ≡ status_due (action_verdict (Get image name out) held)
      → SaysOfDisk exit (Get image name out) held
  get_says image name out (Some f) fault is = bad exit (Get image name out) held f fault (is ∙ ap status_due (get_broken name (held DiskInput image) f fault))
  get_says image name out None fault is = get_found image name out (file_on name (opened (held DiskInput image))) fault refl is

  put_fits : (image name source out : Text) (made : Option (List ℕ)) → disk_fault (held DiskInput image) ≡ None
      → disk_with name (held SourceInput source) (opened (held DiskInput image)) ≡ made → exit ≡ status_due (action_verdict (Put image name source out) held)
      → SaysOfDisk exit (Put image name source out) held
  put_fits image name source out (Some made) fault made_is is =
      fine exit (Put image name source out) held fault (λ x. x) (λ none. cc)
      (is ∙ ap status_due (put_sets name (held SourceInput source) (held DiskInput image) fault ∙ set_done name (held SourceInput source) (opened (held DiskInput image)) made made_is))
  put_fits image name source out None fault made_is is =
      full exit (Put image name source out) held fault (λ x. x) made_is
      (is ∙ ap status_due (put_sets name (held SourceInput source) (held DiskInput image) fault ∙ set_full name (held SourceInput source) (opened (held DiskInput image)) made_is))

  put_says : (image name source out : Text) (f : Option DiskFault) → disk_fault (held DiskInput image) ≡ f → exit ≡ status_due (action_verdict (Put image name source out) held)
      → SaysOfDisk exit (Put image name source out) held
  put_says image name source out (Some f) fault is =
      bad exit (Put image name source out) held f fault (is ∙ ap status_due (put_broken name (held SourceInput source) (held DiskInput image) f fault))
  put_says image name source out None fault is = put_fits image name source out (disk_with name (held SourceInput source) (opened (held DiskInput image))) fault refl is

  check_says : (image : Text) (f : Option DiskFault) → disk_fault (held DiskInput image) ≡ f → exit ≡ status_due (action_verdict (Check image) held) → SaysOfDisk exit (Check image) held
  check_says image (Some f) fault is = bad exit (Check image) held f fault (is ∙ ap status_due (check_broken (held DiskInput image) f fault))
  check_says image None fault is = fine exit (Check image) held fault (λ x. x) (λ x. x) (is ∙ ap status_due (check_does (held DiskInput image) fault))

  repair_says : (image out : Text) (f : Option DiskFault) → size_fault (held DiskInput image) ≡ f → exit ≡ status_due (action_verdict (Repair image out) held)
      → SaysOfDisk exit (Repair image out) held
  repair_says image out (Some f) fault is = bad exit (Repair image out) held f fault (is ∙ ap status_due (repair_broken (held DiskInput image) f fault))
  repair_says image out None fault is = fine exit (Repair image out) held fault (λ x. x) (λ x. x) (is ∙ ap status_due (repair_does (held DiskInput image) fault))

  action_says : (action : DiskAction) → exit ≡ status_due (action_verdict action held) → SaysOfDisk exit action held
  action_says (Mkfs blocks out) is = fine exit (Mkfs blocks out) held refl (λ x. x) (λ x. x) (is ∙ ap status_due (mkfs_does blocks))
  action_says (Ls image) is = ls_says image (disk_fault (held DiskInput image)) refl is
  action_says (Get image name out) is = get_says image name out (disk_fault (held DiskInput image)) refl is
  action_says (Put image name source out) is = put_says image name source out (disk_fault (held DiskInput image)) refl is
  action_says (Check image) is = check_says image (disk_fault (held DiskInput image)) refl is
  action_says (Repair image out) is = repair_says image out (size_fault (held DiskInput image)) refl is

pub says_of_disk : (exit : ℕ) (action : DiskAction) (old new : Outside) (left : Option Left) (a : Answers exit (Some (Disk action)) old new left) → exit ≢ 7 → exit ≢ 3
    → SaysOfDisk exit action (λ input name. file_bytes (old.file name) (a.obeys.unseen input))
says_of_disk exit action old new left a memory fault =
    action_says exit (λ input name. file_bytes (old.file name) (a.obeys.unseen input)) action (due exit (Some (Disk action)) old new left a memory fault)
