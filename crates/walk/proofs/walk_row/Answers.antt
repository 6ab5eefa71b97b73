use native.Mathlib.Omega.{arith}
use Rattle.walk.proofs.Laws as law
use Rattle.walk.proofs.walk_row.Goals as goal
use Rattle.walk.proofs.walk_row.Goals.{in_default, in-Some+then-link-eq0, in-Some+else-link-eq0+then-row-end, in-Some+else-link-eq0+else-row-end+then-m-ge-PATTERN_LIMIT}

pub loop-place-init : goal.loop-place-init
loop-place-init c = law.going_start _ _ _ _ _ _

pub walk-init : goal.walk-init
walk-init c = law.walking_start _ _ _ _ _ _ _ c.loop-place-test.true

pub walk-preserved : goal.walk-preserved
walk-preserved c = law.walking_on _ _ _ _ _ _ _ c.walk.invariant c.look_at.ensures c.in-Some.is c.apply_chain.ensures c.if-link-eq0.false c.if-row-end.false c.if-m-ge-PATTERN_LIMIT.false

-- The ways out of the inner loop meet here: each leaves the place's walk whole.
ended : (c : goal.After-row_known-1)
    → law.Ended c.args.trie.now.cells.now c.args.trie.now.entries.now c.args.trie.now.root c.args.n c.loop-place.place c.args.row.now c.loop-place.room c.match-look_at.walked c.match-look_at.room
ended c =
    elim c.match-look_at.branch [
      | in_default w ↦ law.ended_at w.walked-is w.room-is (law.walking_miss _ _ _ _ _ _ _ c.walk.invariant c.look_at.ensures w.in_default.is)
      | in-Some+then-link-eq0 w ↦ law.ended_at w.walked-is w.room-is (law.walking_leaf _ _ _ _ _ _ _ c.walk.invariant c.look_at.ensures w.in-Some.is w.apply_chain.ensures w.if-link-eq0.true)
      | in-Some+else-link-eq0+then-row-end w ↦ law.ended_at w.walked-is w.room-is (law.walking_out _ _ _ _ _ _ _ c.walk.invariant c.look_at.ensures w.in-Some.is w.apply_chain.ensures w.if-link-eq0.false w.if-row-end.true)
      | in-Some+else-link-eq0+else-row-end+then-m-ge-PATTERN_LIMIT w ↦ law.ended_at w.walked-is w.room-is (law.walking_full _ _ _ _ _ _ _ c.walk.invariant c.look_at.ensures w.in-Some.is w.apply_chain.ensures w.if-link-eq0.false w.if-m-ge-PATTERN_LIMIT.true)
    ]

pub overflow_add-looks : goal.overflow_add-looks
overflow_add-looks c = omega (arith, (ended c).few, c.loop-place.invariant.few, c.loop-place-test.true, c.requires.0)

pub loop-place-preserved : goal.loop-place-preserved
loop-place-preserved c = law.going_on _ _ _ _ _ _ c.loop-place.invariant c.loop-place-test.true (ended c)

pub returns : goal.returns
returns c = law.going_end _ _ _ _ _ _ c.loop-place.invariant c.loop-place-test.false
