use Rattle.std.proofs.Common.{rules, w32, to_z, of_z, ap}
use Rattle.std.proofs.lemmas.Int.{to_z-of_z}
use mir.Val.{SFits}
use Rattle.local_files.specs.Steps.{is_write, is_this_open}
use Rattle.local_files.specs.Standing.{given_bytes}
use Rattle.local_files.proofs.Beginning.{begin_open_goes, begin_delete_goes, begin_close_goes, begin_seek_goes, begin_size_goes}
use Rattle.local_files.proofs.ReadCalls.{read_goes, getc_goes}
use Rattle.local_files.proofs.Starts.{begin_write_goes, begin_putc_goes, begin_truncate_goes}
use Rattle.local_files.proofs.Serving.{given_goes, other_goes}
use Rattle.local_files.proofs.Bounds.{close_within, delete_within, getc_within, open_within, putc_within, read_within, seek_within, size_within, truncate_within, write_within}
use Rattle.local_files.proofs.Files.begin.Goals as goal

pub returns-in-Open : goal.returns-in-Open
returns-in-Open c = record {
  goes = λ disk s.
      given_goes c.args.self.now c.begin_open.new.self c.args.call c.args.bytes.now disk disk (ap is_write c.in-Open.is)
      (begin_open_goes c.args.self.now c.begin_open.new.self c.args.call c.in-Open.name c.in-Open.field-1 disk c.in-Open.is c.requires.call c.begin_open.ensures.new s);
  bound = λ disk s. open_within c.args.self.now c.begin_open.new.self c.args.call c.in-Open.name c.in-Open.field-1 (is_this_open c.in-Open.name c.args.self.now.devices) c.args.bytes.now disk c.in-Open.is c.begin_open.ensures.new;
}

pub returns-in-Delete : goal.returns-in-Delete
returns-in-Delete c = record {
  goes = λ disk s.
      given_goes c.args.self.now c.begin_delete.new.self c.args.call c.args.bytes.now disk disk (ap is_write c.in-Delete.is)
      (begin_delete_goes c.args.self.now c.begin_delete.new.self c.args.call c.in-Delete.name disk c.in-Delete.is c.requires.call c.begin_delete.ensures.new s);
  bound = λ disk s. delete_within c.args.self.now c.begin_delete.new.self c.args.call c.in-Delete.name (is_this_open c.in-Delete.name c.args.self.now.devices) c.args.bytes.now disk c.in-Delete.is c.begin_delete.ensures.new;
}

pub returns-in-Close : goal.returns-in-Close
returns-in-Close c = record {
  goes = λ disk s.
      given_goes c.args.self.now c.close.new.self c.args.call c.args.bytes.now disk disk (ap is_write c.in-Close.is)
      (begin_close_goes c.args.self.now c.close.new.self c.args.call c.in-Close.d disk c.in-Close.is c.close.ensures.new s);
  bound = λ disk s. close_within c.args.self.now c.close.new.self c.args.call c.in-Close.d (given_bytes c.args.call c.args.bytes.now) disk c.close.ensures.new;
}

pub returns-in-Read : goal.returns-in-Read
returns-in-Read c = record {
  goes = λ disk s.
      other_goes c.args.self.now c.begin_read.new.self c.args.call c.args.bytes.now disk disk (ap is_write c.in-Read.is)
      (read_goes c.args.self.now c.begin_read.new.self c.args.call c.in-Read.d c.in-Read.n disk c.in-Read.is c.requires.call c.begin_read.ensures.new s);
  bound = λ disk s. read_within c.args.self.now c.begin_read.new.self c.args.call c.in-Read.d c.in-Read.n c.args.bytes.now disk c.in-Read.is c.begin_read.ensures.new s;
}

pub returns-in-Write : goal.returns-in-Write
returns-in-Write c = record {
  goes = λ disk s.
      begin_write_goes c.args.self.now c.begin_write.new.self c.args.call c.in-Write.d c.args.bytes.now disk c.in-Write.is c.requires.bytes c.begin_write.ensures.new s;
  bound = λ disk s. write_within c.args.self.now c.begin_write.new.self c.args.call c.in-Write.d c.args.bytes.now disk c.in-Write.is c.begin_write.ensures.new s;
}

pub returns-in-Getc : goal.returns-in-Getc
returns-in-Getc c = record {
  goes = λ disk s.
      other_goes c.args.self.now c.begin_read-in-Getc.new.self c.args.call c.args.bytes.now disk disk (ap is_write c.in-Getc.is)
      (getc_goes c.args.self.now c.begin_read-in-Getc.new.self c.args.call c.in-Getc.d disk c.in-Getc.is c.begin_read-in-Getc.ensures.new s);
  bound = λ disk s. getc_within c.args.self.now c.begin_read-in-Getc.new.self c.args.call c.in-Getc.d c.args.bytes.now disk c.in-Getc.is c.begin_read-in-Getc.ensures.new s;
}

pub returns-in-Putc : goal.returns-in-Putc
returns-in-Putc c = record {
  goes = λ disk s.
      given_goes c.args.self.now c.begin_write-in-Putc.new.self c.args.call c.args.bytes.now disk disk (ap is_write c.in-Putc.is)
      (begin_putc_goes c.args.self.now c.begin_write-in-Putc.new.self c.args.call c.in-Putc.d c.in-Putc.b disk c.in-Putc.is c.begin_write-in-Putc.ensures.new s);
  bound = λ disk s. putc_within c.args.self.now c.begin_write-in-Putc.new.self c.args.call c.in-Putc.d c.in-Putc.b c.args.bytes.now disk c.in-Putc.is c.begin_write-in-Putc.ensures.new s;
}

pub returns-in-Seek : goal.returns-in-Seek
returns-in-Seek c = record {
  goes = λ disk s.
      given_goes c.args.self.now c.seek.new.self c.args.call c.args.bytes.now disk disk (ap is_write c.in-Seek.is)
      (let f : SFits w32 c.in-Seek.n = search rules in
      begin_seek_goes c.args.self.now c.seek.new.self c.args.call c.in-Seek.d c.in-Seek.n (to_z w32 (of_z w32 c.in-Seek.n)) disk c.in-Seek.is
      (to_z-of_z w32 c.in-Seek.n f) c.seek.ensures.new s);
  bound = λ disk s. seek_within c.args.self.now c.seek.new.self c.args.call c.in-Seek.d (to_z w32 (of_z w32 c.in-Seek.n)) (given_bytes c.args.call c.args.bytes.now) disk c.seek.ensures.new;
}

pub returns-in-Truncate : goal.returns-in-Truncate
returns-in-Truncate c = record {
  goes = λ disk s.
      given_goes c.args.self.now c.begin_truncate.new.self c.args.call c.args.bytes.now disk disk (ap is_write c.in-Truncate.is)
      (begin_truncate_goes c.args.self.now c.begin_truncate.new.self c.args.call c.in-Truncate.d disk c.in-Truncate.is c.begin_truncate.ensures.new s);
  bound = λ disk s. truncate_within c.args.self.now c.begin_truncate.new.self c.args.call c.in-Truncate.d c.args.bytes.now disk c.in-Truncate.is c.begin_truncate.ensures.new s;
}

pub returns-in-Size : goal.returns-in-Size
returns-in-Size c = record {
  goes = λ disk s.
      given_goes c.args.self.now c.size.new.self c.args.call c.args.bytes.now disk disk (ap is_write c.in-Size.is)
      (begin_size_goes c.args.self.now c.size.new.self c.args.call c.in-Size.d disk c.in-Size.is c.size.ensures.new s);
  bound = λ disk s. size_within c.args.self.now c.size.new.self c.args.call c.in-Size.d (given_bytes c.args.call c.args.bytes.now) disk c.size.ensures.new;
}
