use Rattle.hyphenation.proofs.Calls.{levels_counted}
use Rattle.hyphenation.proofs.Rooms.{levels_done}
use Rattle.hyphenation.proofs.find_levels.Goals as goal

pub returns : goal.returns
returns c = levels_counted _ _ _ _ (levels_done _ _ _ c.args.word.now.bytes.now c.walk_word-looks.ensures) c.count_marks-marks.ensures
