use Rattle.checker.proofs.Laws.{sound_none, sound_stop, sound_low, sound_high, sound_far, sound_back, sound_on}
use Rattle.checker.proofs.+is_sound.Goals as goal

pub returns-then-k-eq0 : goal.returns-then-k-eq0
returns-then-k-eq0 t c = sound_none _ _ _ c.if-k-eq0.true

pub returns-in_default : goal.returns-in_default
returns-in_default t c = sound_stop _ _ _ c.if-k-eq0.false c.entry_at.ensures c.in_default.is

pub returns-then-level-lt1 : goal.returns-then-level-lt1
returns-then-level-lt1 t c = sound_low _ _ _ c.if-k-eq0.false c.entry_at.ensures c.in-Some.is c.if-level-lt1.true

pub returns-then-level-gt-LEVEL_LIMIT : goal.returns-then-level-gt-LEVEL_LIMIT
returns-then-level-gt-LEVEL_LIMIT t c = sound_high _ _ _ c.if-k-eq0.false c.entry_at.ensures c.in-Some.is c.if-level-lt1.false c.if-level-gt-LEVEL_LIMIT.true

pub returns-then-m-distance : goal.returns-then-m-distance
returns-then-m-distance t c = sound_far _ _ _ c.if-k-eq0.false c.entry_at.ensures c.in-Some.is c.if-level-lt1.false c.if-level-gt-LEVEL_LIMIT.false c.if-m-distance.true

pub returns-then-k-next : goal.returns-then-k-next
returns-then-k-next t c = sound_back _ _ _ c.if-k-eq0.false c.entry_at.ensures c.in-Some.is c.if-level-lt1.false c.if-level-gt-LEVEL_LIMIT.false c.if-m-distance.false c.if-k-next.true

pub returns : goal.returns
returns t c = sound_on _ _ _ c.if-k-eq0.false c.entry_at.ensures c.in-Some.is c.if-level-lt1.false c.if-level-gt-LEVEL_LIMIT.false c.if-m-distance.false c.if-k-next.false c.is_sound.ensures
