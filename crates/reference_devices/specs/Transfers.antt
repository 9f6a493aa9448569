-- What a good completion of the raw disk does to blocks and RAM.
use Rattle.xinu_model.specs.Files.Work.{copied}
use Rattle.xinu_model.specs.Machine.{Xinu}
use Rattle.xinu_model.specs.RawDisk.Calls.{disk_of, with_disk}
use Rattle.xinu_model.specs.RawDisk.Completions.{transferred}
use Rattle.xinu_model.specs.RawDisk.Requests.{Request}

-- a block is read to the address of a request, or its bytes are written
abbrev pub transferring : Request → Xinu → Xinu
transferring r s =
    let x = transferred r.written r (disk_of s) in
    record (with_disk x.disk s) { memory = copied r.caller r.at x.bytes s.memory }
