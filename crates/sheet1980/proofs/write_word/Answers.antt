use Rattle.sheet1980.proofs.Laws as law
use Rattle.sheet1980.proofs.write_word.Goals as goal

pub loop-i-init : goal.loop-i-init
loop-i-init c = search law.write_start

pub returns : goal.returns
returns c = search law.write_end
