use Rattle.std.proofs.Common.{ap, ◌∙◌, ◌+◌, ◌/◌, ◌%◌}
use Rattle.lfs_format.specs.Words.{word_of}
use Rattle.lfs_format.specs.Indexes.{index_at}
use Rattle.local_files.specs.declared.Phase.TheVariants.{Wants}
use Rattle.local_files.specs.Standing.{wanted_in}
use Rattle.local_files.proofs.Serving.{read_completes, write_completes, read_is}
use Rattle.local_files.proofs.Closings.{put_entry_goes, entry_written_goes, put_header_goes}
use Rattle.local_files.proofs.Ends.{header_written_goes}
use Rattle.local_files.proofs.CutWrites.{cut_read_goes, cut_written_goes, free_written_goes}
use Rattle.local_files.proofs.Taking.{walked_goes}
use Rattle.local_files.proofs.Fetched.{fetched_goes}
use Rattle.local_files.proofs.Pieces.{reached_goes, patch_read_goes, patch_written_goes}
use Rattle.local_files.proofs.Grows.{take_read_goes, take_written_goes, add_read_goes}
use Rattle.local_files.proofs.Adds.{add_written_goes}
use Rattle.local_files.proofs.NewBlocks.{new_read_goes, new_written_goes}
use Rattle.local_files.proofs.Links.{link_read_goes, link_written_goes}
use Rattle.local_files.proofs.Counting.{counts_read_goes}
use Rattle.local_files.proofs.Completions.{add_read_falls, add_written_falls, counts_read_falls, cut_read_falls, cut_written_falls, entry_written_falls, fetched_falls, free_written_falls, header_written_falls, link_read_falls, link_written_falls, new_read_falls, new_written_falls, patch_read_falls, patch_written_falls, put_entry_falls, put_header_falls, reached_falls, take_read_falls, take_written_falls, walked_falls}
use Rattle.local_files.proofs.Files.serve.Goals as goal

pub returns-in-Search-clause-goes : goal.returns-in-Search-clause-goes
returns-in-Search-clause-goes c = λ base disk s h.
    read_completes c.args.self.now c.search.new.self (c.in-Search.block) base disk c.args.read.now (ap (λ p.
    wanted_in p c.args.self.now) (c.requires.phase ∙ ap Wants c.in-Search.is)) h
    (λ q. c.search.ensures.goes base disk s q)

pub returns-in-Search-clause-less : goal.returns-in-Search-clause-less
returns-in-Search-clause-less c = λ base disk s h. c.search.ensures.less base disk s (read_is c.args.self.now (c.in-Search.block) disk c.args.read.now (ap (λ p. wanted_in p c.args.self.now) (c.requires.phase ∙ ap Wants c.in-Search.is)) h)

pub returns-in-Walk-clause-goes : goal.returns-in-Walk-clause-goes
returns-in-Walk-clause-goes c = λ base disk s h.
    read_completes c.args.self.now c.walked.new.self (6 + c.in-Walk.index / 7) base disk c.args.read.now (ap (λ p.
    wanted_in p c.args.self.now) (c.requires.phase ∙ ap Wants c.in-Walk.is)) h
    (λ q. walked_goes c.args.self.now c.walked.new.self c.in-Walk.rest c.in-Walk.index base disk c.args.read.now (c.requires.phase ∙ ap Wants c.in-Walk.is) c.walked.ensures.new s q)

pub returns-in-Walk-clause-less : goal.returns-in-Walk-clause-less
returns-in-Walk-clause-less c = λ base disk s h. walked_falls c.args.self.now c.walked.new.self c.in-Walk.rest c.in-Walk.index base c.args.read.now (c.requires.phase ∙ ap Wants c.in-Walk.is) c.walked.ensures.new

pub returns-in-Fetch-clause-goes : goal.returns-in-Fetch-clause-goes
returns-in-Fetch-clause-goes c = λ base disk s h.
    read_completes c.args.self.now c.fetched.new.self (c.in-Fetch.block) base disk c.args.read.now (ap (λ p.
    wanted_in p c.args.self.now) (c.requires.phase ∙ ap Wants c.in-Fetch.is)) h
    (λ q. fetched_goes c.args.self.now c.fetched.new.self c.in-Fetch.block base disk c.args.read.now (c.requires.phase ∙ ap Wants c.in-Fetch.is) c.fetched.ensures.len c.fetched.ensures.new s q)

pub returns-in-Fetch-clause-less : goal.returns-in-Fetch-clause-less
returns-in-Fetch-clause-less c = λ base disk s h. fetched_falls c.args.self.now c.fetched.new.self c.in-Fetch.block base disk c.args.read.now (c.requires.phase ∙ ap Wants c.in-Fetch.is) c.fetched.ensures.new s

pub returns-in-Counts-clause-goes : goal.returns-in-Counts-clause-goes
returns-in-Counts-clause-goes c = λ base disk s h.
    read_completes c.args.self.now c.counts_read.new.self (0) base disk c.args.read.now (ap (λ p.
    wanted_in p c.args.self.now) (c.requires.phase ∙ ap Wants c.in-Counts.is)) h
    (λ q. counts_read_goes c.args.self.now c.counts_read.new.self base disk c.args.read.now (c.requires.phase ∙ ap Wants c.in-Counts.is) c.counts_read.ensures.new s q)

pub returns-in-Counts-clause-less : goal.returns-in-Counts-clause-less
returns-in-Counts-clause-less c = λ base disk s h. counts_read_falls c.args.self.now c.counts_read.new.self base disk c.args.read.now (c.requires.phase ∙ ap Wants c.in-Counts.is) c.counts_read.ensures.new s

pub returns-in-Reach-clause-goes : goal.returns-in-Reach-clause-goes
returns-in-Reach-clause-goes c = λ base disk s h.
    read_completes c.args.self.now c.reached.new.self (6 + c.in-Reach.index / 7) base disk c.args.read.now (ap (λ p.
    wanted_in p c.args.self.now) (c.requires.phase ∙ ap Wants c.in-Reach.is)) h
    (λ q. reached_goes c.args.self.now c.reached.new.self c.in-Reach.rest c.in-Reach.index base disk c.args.read.now (c.requires.phase ∙ ap Wants c.in-Reach.is) c.reached.ensures.new s q)

pub returns-in-Reach-clause-less : goal.returns-in-Reach-clause-less
returns-in-Reach-clause-less c = λ base disk s h. reached_falls c.args.self.now c.reached.new.self c.in-Reach.rest c.in-Reach.index base disk c.args.read.now (c.requires.phase ∙ ap Wants c.in-Reach.is) c.reached.ensures.new

pub returns-in-PatchRead-clause-goes : goal.returns-in-PatchRead-clause-goes
returns-in-PatchRead-clause-goes c = λ base disk s h.
    read_completes c.args.self.now c.patch_read.new.self (c.in-PatchRead.block) base disk c.args.read.now (ap (λ p.
    wanted_in p c.args.self.now) (c.requires.phase ∙ ap Wants c.in-PatchRead.is)) h
    (λ q. patch_read_goes c.args.self.now c.patch_read.new.self c.in-PatchRead.block base disk c.args.read.now (c.requires.phase ∙ ap Wants c.in-PatchRead.is) c.patch_read.ensures.new c.patch_read.ensures.len c.patch_read.ensures.block s q)

pub returns-in-PatchRead-clause-less : goal.returns-in-PatchRead-clause-less
returns-in-PatchRead-clause-less c = λ base disk s h. patch_read_falls c.args.self.now c.patch_read.new.self c.in-PatchRead.block base c.args.read.now (c.requires.phase ∙ ap Wants c.in-PatchRead.is) c.patch_read.ensures.new

pub returns-in-PatchWrite-clause-goes : goal.returns-in-PatchWrite-clause-goes
returns-in-PatchWrite-clause-goes c = λ base disk s h.
    write_completes c.args.self.now c.piece_written.new.self (c.in-PatchWrite.block) base disk (ap (λ p.
    wanted_in p c.args.self.now) (c.requires.phase ∙ ap Wants c.in-PatchWrite.is))
    (patch_written_goes c.args.self.now c.piece_written.new.self c.in-PatchWrite.block base disk (c.requires.phase ∙ ap Wants c.in-PatchWrite.is) c.piece_written.ensures.new s)

pub returns-in-PatchWrite-clause-less : goal.returns-in-PatchWrite-clause-less
returns-in-PatchWrite-clause-less c = λ base disk s h. patch_written_falls c.args.self.now c.piece_written.new.self c.in-PatchWrite.block base disk (c.requires.phase ∙ ap Wants c.in-PatchWrite.is) c.piece_written.ensures.new s

pub returns-in-TakeRead-clause-goes : goal.returns-in-TakeRead-clause-goes
returns-in-TakeRead-clause-goes c = λ base disk s h.
    read_completes c.args.self.now c.take_read.new.self (c.in-TakeRead.block) base disk c.args.read.now (ap (λ p.
    wanted_in p c.args.self.now) (c.requires.phase ∙ ap Wants c.in-TakeRead.is)) h
    (λ q. take_read_goes c.args.self.now c.take_read.new.self c.in-TakeRead.block base disk c.args.read.now (c.requires.phase ∙ ap Wants c.in-TakeRead.is) c.take_read.ensures.new c.take_read.ensures.block s q)

pub returns-in-TakeRead-clause-less : goal.returns-in-TakeRead-clause-less
returns-in-TakeRead-clause-less c = λ base disk s h. take_read_falls c.args.self.now c.take_read.new.self c.in-TakeRead.block (word_of c.args.read.now) base (c.requires.phase ∙ ap Wants c.in-TakeRead.is) c.take_read.ensures.new

pub returns-in-TakeWrite-clause-goes : goal.returns-in-TakeWrite-clause-goes
returns-in-TakeWrite-clause-goes c = λ base disk s h.
    write_completes c.args.self.now c.take_written.new.self (c.in-TakeWrite.block) base disk (ap (λ p.
    wanted_in p c.args.self.now) (c.requires.phase ∙ ap Wants c.in-TakeWrite.is))
    (take_written_goes c.args.self.now c.take_written.new.self c.in-TakeWrite.block base disk (c.requires.phase ∙ ap Wants c.in-TakeWrite.is) c.take_written.ensures.new s)

pub returns-in-TakeWrite-clause-less : goal.returns-in-TakeWrite-clause-less
returns-in-TakeWrite-clause-less c = λ base disk s h. take_written_falls c.args.self.now c.take_written.new.self c.in-TakeWrite.block base (c.requires.phase ∙ ap Wants c.in-TakeWrite.is) c.take_written.ensures.new

pub returns-in-AddRead-clause-goes : goal.returns-in-AddRead-clause-goes
returns-in-AddRead-clause-goes c = λ base disk s h.
    read_completes c.args.self.now c.add_read.new.self (6 + c.args.self.now.at / 7) base disk c.args.read.now (ap (λ p.
    wanted_in p c.args.self.now) (c.requires.phase ∙ ap Wants c.in-AddRead.is)) h
    (λ q. add_read_goes c.args.self.now c.add_read.new.self c.in-AddRead.block base disk c.args.read.now (c.requires.phase ∙ ap Wants c.in-AddRead.is) c.add_read.ensures.new c.add_read.ensures.block s q)

pub returns-in-AddRead-clause-less : goal.returns-in-AddRead-clause-less
returns-in-AddRead-clause-less c = λ base disk s h. add_read_falls c.args.self.now c.add_read.new.self c.in-AddRead.block c.add_read.new.self.block base (c.requires.phase ∙ ap Wants c.in-AddRead.is) c.add_read.ensures.new

pub returns-in-AddWrite-clause-goes : goal.returns-in-AddWrite-clause-goes
returns-in-AddWrite-clause-goes c = λ base disk s h.
    write_completes c.args.self.now c.add_written.new.self (6 + c.args.self.now.at / 7) base disk (ap (λ p.
    wanted_in p c.args.self.now) (c.requires.phase ∙ ap Wants c.in-AddWrite.is))
    (add_written_goes c.args.self.now c.add_written.new.self c.in-AddWrite.block base disk (c.requires.phase ∙ ap Wants c.in-AddWrite.is) c.add_written.ensures.new s)

pub returns-in-AddWrite-clause-less : goal.returns-in-AddWrite-clause-less
returns-in-AddWrite-clause-less c = λ base disk s h. add_written_falls c.args.self.now c.add_written.new.self c.in-AddWrite.block base disk (c.requires.phase ∙ ap Wants c.in-AddWrite.is) c.add_written.ensures.new s

pub returns-in-NewRead-clause-goes : goal.returns-in-NewRead-clause-goes
returns-in-NewRead-clause-goes c = λ base disk s h.
    read_completes c.args.self.now c.new_read.new.self (6 + c.in-NewRead.index / 7) base disk c.args.read.now (ap (λ p.
    wanted_in p c.args.self.now) (c.requires.phase ∙ ap Wants c.in-NewRead.is)) h
    (λ q. new_read_goes c.args.self.now c.new_read.new.self c.in-NewRead.block c.in-NewRead.index base disk c.args.read.now (c.requires.phase ∙ ap Wants c.in-NewRead.is) c.new_read.ensures.new c.new_read.ensures.block s q)

pub returns-in-NewRead-clause-less : goal.returns-in-NewRead-clause-less
returns-in-NewRead-clause-less c = λ base disk s h. new_read_falls c.args.self.now c.new_read.new.self c.in-NewRead.block c.in-NewRead.index (index_at (c.in-NewRead.index % 7) c.args.read.now) c.new_read.new.self.block base (c.requires.phase ∙ ap Wants c.in-NewRead.is) c.new_read.ensures.new

pub returns-in-NewWrite-clause-goes : goal.returns-in-NewWrite-clause-goes
returns-in-NewWrite-clause-goes c = λ base disk s h.
    write_completes c.args.self.now c.new_written.new.self (6 + c.in-NewWrite.index / 7) base disk (ap (λ p.
    wanted_in p c.args.self.now) (c.requires.phase ∙ ap Wants c.in-NewWrite.is))
    (new_written_goes c.args.self.now c.new_written.new.self c.in-NewWrite.block c.in-NewWrite.index base disk (c.requires.phase ∙ ap Wants c.in-NewWrite.is) c.new_written.ensures.new s)

pub returns-in-NewWrite-clause-less : goal.returns-in-NewWrite-clause-less
returns-in-NewWrite-clause-less c = λ base disk s h. new_written_falls c.args.self.now c.new_written.new.self c.in-NewWrite.block c.in-NewWrite.index base disk (c.requires.phase ∙ ap Wants c.in-NewWrite.is) c.new_written.ensures.new s

pub returns-in-LinkRead-clause-goes : goal.returns-in-LinkRead-clause-goes
returns-in-LinkRead-clause-goes c = λ base disk s h.
    read_completes c.args.self.now c.link_read.new.self (6 + c.args.self.now.at / 7) base disk c.args.read.now (ap (λ p.
    wanted_in p c.args.self.now) (c.requires.phase ∙ ap Wants c.in-LinkRead.is)) h
    (λ q. link_read_goes c.args.self.now c.link_read.new.self c.in-LinkRead.block c.in-LinkRead.index base disk c.args.read.now (c.requires.phase ∙ ap Wants c.in-LinkRead.is) c.link_read.ensures.new c.link_read.ensures.block s q)

pub returns-in-LinkRead-clause-less : goal.returns-in-LinkRead-clause-less
returns-in-LinkRead-clause-less c = λ base disk s h. link_read_falls c.args.self.now c.link_read.new.self c.in-LinkRead.block c.in-LinkRead.index c.link_read.new.self.block base (c.requires.phase ∙ ap Wants c.in-LinkRead.is) c.link_read.ensures.new

pub returns-in-LinkWrite-clause-goes : goal.returns-in-LinkWrite-clause-goes
returns-in-LinkWrite-clause-goes c = λ base disk s h.
    write_completes c.args.self.now c.follow.new.self (6 + c.args.self.now.at / 7) base disk (ap (λ p.
    wanted_in p c.args.self.now) (c.requires.phase ∙ ap Wants c.in-LinkWrite.is))
    (link_written_goes c.args.self.now c.follow.new.self c.in-LinkWrite.block c.in-LinkWrite.index base disk (c.requires.phase ∙ ap Wants c.in-LinkWrite.is) c.follow.ensures.new s)

pub returns-in-LinkWrite-clause-less : goal.returns-in-LinkWrite-clause-less
returns-in-LinkWrite-clause-less c = λ base disk s h. link_written_falls c.args.self.now c.follow.new.self c.in-LinkWrite.block c.in-LinkWrite.index base disk (c.requires.phase ∙ ap Wants c.in-LinkWrite.is) c.follow.ensures.new s

pub returns-in-CutRead-clause-goes : goal.returns-in-CutRead-clause-goes
returns-in-CutRead-clause-goes c = λ base disk s h.
    read_completes c.args.self.now c.cut_read.new.self (6 + c.args.self.now.at / 7) base disk c.args.read.now (ap (λ p.
    wanted_in p c.args.self.now) (c.requires.phase ∙ ap Wants c.in-CutRead.is)) h
    (λ q. cut_read_goes c.args.self.now c.cut_read.new.self base disk c.args.read.now (c.requires.phase ∙ ap Wants c.in-CutRead.is) c.cut_read.ensures.new c.cut_read.ensures.block s q)

pub returns-in-CutRead-clause-less : goal.returns-in-CutRead-clause-less
returns-in-CutRead-clause-less c = λ base disk s h. cut_read_falls c.args.self.now c.cut_read.new.self (index_at (c.args.self.now.at % 7) c.args.read.now) c.cut_read.new.self.block base disk (c.requires.phase ∙ ap Wants c.in-CutRead.is) c.cut_read.ensures.new s

pub returns-in-CutWrite-clause-goes : goal.returns-in-CutWrite-clause-goes
returns-in-CutWrite-clause-goes c = λ base disk s h.
    write_completes c.args.self.now c.cut_written.new.self (6 + c.args.self.now.at / 7) base disk (ap (λ p.
    wanted_in p c.args.self.now) (c.requires.phase ∙ ap Wants c.in-CutWrite.is))
    (cut_written_goes c.args.self.now c.cut_written.new.self base disk (c.requires.phase ∙ ap Wants c.in-CutWrite.is) c.cut_written.ensures.new s)

pub returns-in-CutWrite-clause-less : goal.returns-in-CutWrite-clause-less
returns-in-CutWrite-clause-less c = λ base disk s h. cut_written_falls c.args.self.now c.cut_written.new.self base disk (c.requires.phase ∙ ap Wants c.in-CutWrite.is) c.cut_written.ensures.new s

pub returns-in-FreeWrite-clause-goes : goal.returns-in-FreeWrite-clause-goes
returns-in-FreeWrite-clause-goes c = λ base disk s h.
    write_completes c.args.self.now c.free_written.new.self (c.in-FreeWrite.block) base disk (ap (λ p.
    wanted_in p c.args.self.now) (c.requires.phase ∙ ap Wants c.in-FreeWrite.is))
    (free_written_goes c.args.self.now c.free_written.new.self c.in-FreeWrite.block base disk (c.requires.phase ∙ ap Wants c.in-FreeWrite.is) c.free_written.ensures.new s)

pub returns-in-FreeWrite-clause-less : goal.returns-in-FreeWrite-clause-less
returns-in-FreeWrite-clause-less c = λ base disk s h. free_written_falls c.args.self.now c.free_written.new.self c.in-FreeWrite.block base disk (c.requires.phase ∙ ap Wants c.in-FreeWrite.is) c.free_written.ensures.new s

pub returns-in-EntryRead-clause-goes : goal.returns-in-EntryRead-clause-goes
returns-in-EntryRead-clause-goes c = λ base disk s h.
    read_completes c.args.self.now c.put_entry.new.self (c.args.self.now.slot / 13) base disk c.args.read.now (ap (λ p.
    wanted_in p c.args.self.now) (c.requires.phase ∙ ap Wants c.in-EntryRead.is)) h
    (λ q. put_entry_goes c.args.self.now c.put_entry.new.self base disk c.args.read.now (c.requires.phase ∙ ap Wants c.in-EntryRead.is) c.put_entry.ensures.new c.put_entry.ensures.block s q)

pub returns-in-EntryRead-clause-less : goal.returns-in-EntryRead-clause-less
returns-in-EntryRead-clause-less c = λ base disk s h. put_entry_falls c.args.self.now c.put_entry.new.self c.put_entry.new.self.block base (c.requires.phase ∙ ap Wants c.in-EntryRead.is) c.put_entry.ensures.new

pub returns-in-EntryWrite-clause-goes : goal.returns-in-EntryWrite-clause-goes
returns-in-EntryWrite-clause-goes c = λ base disk s h.
    write_completes c.args.self.now c.entry_written.new.self (c.args.self.now.slot / 13) base disk (ap (λ p.
    wanted_in p c.args.self.now) (c.requires.phase ∙ ap Wants c.in-EntryWrite.is))
    (entry_written_goes c.args.self.now c.entry_written.new.self base disk (c.requires.phase ∙ ap Wants c.in-EntryWrite.is) c.entry_written.ensures.new s)

pub returns-in-EntryWrite-clause-less : goal.returns-in-EntryWrite-clause-less
returns-in-EntryWrite-clause-less c = λ base disk s h. entry_written_falls c.args.self.now c.entry_written.new.self base (c.requires.phase ∙ ap Wants c.in-EntryWrite.is) c.entry_written.ensures.new

pub returns-in-HeaderRead-clause-goes : goal.returns-in-HeaderRead-clause-goes
returns-in-HeaderRead-clause-goes c = λ base disk s h.
    read_completes c.args.self.now c.put_header.new.self (0) base disk c.args.read.now (ap (λ p.
    wanted_in p c.args.self.now) (c.requires.phase ∙ ap Wants c.in-HeaderRead.is)) h
    (λ q. put_header_goes c.args.self.now c.put_header.new.self base disk c.args.read.now (c.requires.phase ∙ ap Wants c.in-HeaderRead.is) c.put_header.ensures.new c.put_header.ensures.block s q)

pub returns-in-HeaderRead-clause-less : goal.returns-in-HeaderRead-clause-less
returns-in-HeaderRead-clause-less c = λ base disk s h. put_header_falls c.args.self.now c.put_header.new.self c.put_header.new.self.block base (c.requires.phase ∙ ap Wants c.in-HeaderRead.is) c.put_header.ensures.new

pub returns-in-HeaderWrite-clause-goes : goal.returns-in-HeaderWrite-clause-goes
returns-in-HeaderWrite-clause-goes c = λ base disk s h.
    write_completes c.args.self.now c.header_written.new.self (0) base disk (ap (λ p. wanted_in p c.args.self.now) (c.requires.phase ∙ ap Wants c.in-HeaderWrite.is))
    (header_written_goes c.args.self.now c.header_written.new.self base disk (c.requires.phase ∙ ap Wants c.in-HeaderWrite.is) c.header_written.ensures.new s)

pub returns-in-HeaderWrite-clause-less : goal.returns-in-HeaderWrite-clause-less
returns-in-HeaderWrite-clause-less c = λ base disk s h. header_written_falls c.args.self.now c.header_written.new.self base (c.requires.phase ∙ ap Wants c.in-HeaderWrite.is) c.header_written.ensures.new
