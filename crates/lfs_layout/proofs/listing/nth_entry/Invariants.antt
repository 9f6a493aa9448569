use Rattle.std.proofs.Common.{◌≡◌, ◌&&◌, drop, nat_eq}
use Rattle.std.specs.List.{find}
use Rattle.lfs_format.specs.declared.Entry.{Entry}
use Rattle.lfs_check.specs.Rules.{entry_is_used}
use Rattle.lfs_layout.specs.Files.{names_before}
use Rattle.lfs_layout.proofs.listing.nth_entry.Given as goal

abbrev pub invariant-loop-entry : goal.invariant-loop-entry
invariant-loop-entry l =
    find (λ (e : Entry). entry_is_used e && nat_eq (names_before l.entries e.name) l.k) (drop l.entry-index l.entries)
    ≡ find (λ (e : Entry). entry_is_used e && nat_eq (names_before l.entries e.name) l.k) l.entries
