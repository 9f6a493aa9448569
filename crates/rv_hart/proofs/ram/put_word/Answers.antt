use Rattle.rv_hart.proofs.Written.{put_front}
use Rattle.rv_hart.proofs.ram.put_word.Goals as goal

pub returns : goal.returns
returns c = put_front c.args.at 4 c.args.bytes.now c.write_u32.new.buf _ c.requires c.write_u32.ensures
