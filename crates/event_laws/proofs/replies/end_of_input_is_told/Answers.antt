use Rattle.part_laws.proofs.Consoles.Ended.{getc_ends, getc_goes_on_ends, console_read_ends, read_goes_on_ends, getc_told, getc_goes_on_told, read_told, read_goes_on_told}
use Rattle.event_laws.proofs.replies.end_of_input_is_told.Goals as goal

pub returns : goal.returns
returns c = record {
  getc = getc_ends;
  getc_waited = getc_goes_on_ends;
  read = console_read_ends;
  read_waited = read_goes_on_ends;
  getc_at_end = getc_told;
  getc_waited_at_end = getc_goes_on_told;
  read_at_end = read_told;
  read_waited_at_end = read_goes_on_told;
}
