-- What a refusal means, in words.
use Rattle.std.specs.Prelude.{◌==◌, ℕ, if◌then◌else◌, List, [], ◌++◌, codes}
use Rattle.std.specs.Fmt.{decimal}
use Rattle.command_words.specs.ToolNames.{cause_of}
use Rattle.refusal_words.specs.WordsFaults.{joined, words_text}
use Rattle.run_inputs.specs.declared.causes.Cause.{Cause}
use Rattle.run_inputs.specs.declared.causes.Cause.TheVariants as cause
use Rattle.run_inputs.specs.declared.refusals.Refusal.{Refusal}
use Rattle.run_inputs.specs.declared.refusals.Refusal.TheVariants as refusal

-- what is wrong with an ELF file, by the number of its fault
unfoldable pub elf_fault : ℕ → List ℕ
elf_fault n =
    if n == 11 then codes "the ELF file is shorter than a header"
    else if n == 12 then codes "the ELF file isn't one of 32 bits: is it a program for the host?"
    else if n == 13 then codes "the ELF file isn't a program, or not one for RISC-V"
    else if n == 14 then codes "the headers of segments aren't in the ELF file"
    else if n == 15 then codes "the ELF file names a program that loads it: link it statically"
    else if n == 16 then codes "a segment of the ELF file isn't in RAM, or isn't in the file"
    else if n == 17 then codes "the ELF file has over eight segments"
    else if n == 18 then codes "two segments of the ELF file share an address"
    else if n == 19 then codes "the entry isn't in a segment of the ELF file"
    else if n == 20 then codes "the priority in the ELF file isn't 1 to 32767"
    else codes "the file has a fault"

-- what is wrong with an image file, by the number of its fault
unfoldable pub image_fault : ℕ → List ℕ
image_fault n =
    if n == 0 then codes "the file has over 1048576 bytes"
    else if n == 1 then codes "the file is shorter than a header"
    else if n == 2 then codes "the file is neither an image nor an ELF file"
    else if n == 3 then codes "the image has another version"
    else if n == 4 then codes "header and content aren't the whole file"
    else if n == 5 then codes "the image's place isn't a multiple of 4, or its content doesn't end in RAM"
    else if n == 6 then codes "the image's entry isn't a word of its content"
    else if n == 7 then codes "the image's priority isn't 1 to 32767"
    else elf_fault n

-- the rule that a disk with files breaks, by its number
unfoldable pub disk_rule : ℕ → List ℕ
disk_rule n =
    if n == 0 then codes "the file isn't whole blocks of 512 bytes, or not as many as its version allows"
    else if n == 1 then codes "a name is empty or too long, or two files have one name"
    else if n == 2 then codes "the number of files is wrong, or a byte outside the entries isn't zero"
    else if n == 3 then codes "a file is longer than all data blocks"
    else if n == 4 then codes "a number names no block, or one that its file doesn't need"
    else if n == 5 then codes "an index block has the offset of another place"
    else if n == 6 then codes "a block belongs to two places"
    else if n == 7 then codes "a block belongs to no file and isn't free"
    else codes "a rule is broken"

-- a line with a number in it, and a reason after it
abbrev pub numbered : List ℕ → ℕ → List ℕ → List ℕ → List ℕ
numbered before n after reason = before ++ decimal n ++ after ++ reason ++ codes "\n"

-- what the schedule's line is refused for: no line is named if the whole file is too long
abbrev pub schedule_fault : ℕ → List ℕ
schedule_fault line =
    if line == 0 then codes "the schedule has over 4194304 bytes\n"
    else numbered (codes "line ") line (codes " of the schedule isn't one of its forms, or asks for too many events") (codes "; a comment has a line of its own")

-- what a disk is refused for: of the raw disk its size, of the disk with files the rule that it breaks
abbrev pub disk_fault : ℕ → ℕ → ℕ → List ℕ
disk_fault disk block rule =
    if disk == 0 then codes "disk 0 isn't 8 to 65536 blocks of 512 bytes\n"
    else numbered (codes "disk 1, block ") block (codes ": ") (disk_rule rule)

-- what a refusal means, in a line; the words of the command, if the arguments are wrong; nothing if the refusal's own text says it
unfoldable pub meaning : List ℕ → Refusal → List ℕ
meaning usage refusal.Usage = joined (codes "the words are ") usage (codes "\n")
meaning usage refusal.HostFault = codes "the input or the output failed\n"
meaning usage (refusal.Image i f) = numbered (codes "image ") i (codes ": ") (image_fault f)
meaning usage (refusal.Schedule l) = schedule_fault l
meaning usage (refusal.Disk d b r) = disk_fault d b r
meaning usage refusal.NoMemory = []
meaning usage (refusal.Overlap i) = numbered (codes "image ") i (codes " lies where an earlier one does") (codes ": link it to another place")
meaning usage (refusal.NoRoom i) = numbered (codes "the heap after the images has no room for the stack of image ") i [] []
meaning usage (refusal.Asm l f) = []
meaning usage refusal.TraceTooLong = []
meaning usage refusal.NoSuchFile = []
meaning usage refusal.DoesNotFit = []

-- what a cause means: what is wrong with the words of the command, and what they are; which file can't be read or written; or what the refusal means
unfoldable pub cause_meaning : List ℕ → Cause → List ℕ
cause_meaning usage (cause.Words fault) = words_text (cause_of fault) ++ meaning usage refusal.Usage
cause_meaning usage (cause.Unread name) = joined (codes "the file ") name.now (codes " can't be read: is its name right?\n")
cause_meaning usage (cause.Unwritten name) = joined (codes "the file ") name.now (codes " can't be written: is its name right?\n")
cause_meaning usage (cause.Refused r) = meaning usage r
