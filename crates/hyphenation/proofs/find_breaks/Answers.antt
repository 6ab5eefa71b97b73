use Rattle.hyphenation.specs.Breaks.{break_sheet, break_looks}
use Rattle.hyphenation.proofs.Rooms.{Done, by_customer, by_house, by_levels, breaks_done, done_as}
use Rattle.hyphenation.proofs.Calls.{breaks_counted}
use Rattle.hyphenation.proofs.find_breaks.Goals as goal
use Rattle.hyphenation.proofs.find_breaks.Goals.{in-Customer, in-House, in-Nowhere}

-- The three ways to the breaks meet here: each leaves the sheet in the room and its count of looks.
ended : (c : goal.After-count_marks-marks)
    → Done (break_sheet c.args.setting.now.left c.args.setting.now.right c.args.setting.now.customer.now c.args.setting.now.house.now c.args.trie.now.cells.now c.args.trie.now.entries.now c.args.trie.now.root c.args.word.now.bytes.now)
    (break_looks c.args.setting.now.customer.now c.args.setting.now.house.now c.args.trie.now.cells.now c.args.trie.now.root c.args.word.now.bytes.now) c.match-find_either.looks c.match-find_either.room
ended c =
    elim c.match-find_either.branch [
      | in-Customer w ↦ done_as w.room-is w.looks-is (by_customer _ _ _ _ _ _ _ _ c.find_either.ensures w.in-Customer.is w.put_line_breaks.ensures)
      | in-House w ↦ done_as w.room-is w.looks-is (by_house _ _ _ _ _ _ _ _ c.find_either.ensures w.in-House.is w.put_line_breaks-in-House.ensures)
      | in-Nowhere w ↦ done_as w.room-is w.looks-is (by_levels _ _ _ _ _ _ _ _ c.find_either.ensures w.in-Nowhere.is (breaks_done _ _ _ _ w.walk_word-looks.ensures _ _ w.put_breaks.ensures))
    ]

pub returns : goal.returns
returns c = breaks_counted _ _ _ _ _ _ _ _ (ended c) c.count_marks-marks.ensures
