use Rattle.flowing.proofs.Laws.{byte_fits, gone_goes}
use Rattle.flowing.proofs.Flow.let_go.Goals as goal

pub put_byte-requires : goal.put_byte-requires
put_byte-requires c = byte_fits c.args.b c.args.self.now c.args.out.now c.requires.0 c.requires.1 c.put_text.ensures

pub returns : goal.returns
returns c = gone_goes c.args.b c.args.self.now c.args.out.now c.requires.0 c.requires.1 c.put_text.ensures c.put_byte.ensures
