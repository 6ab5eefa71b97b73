-- The entries so far have no fault, so that those from k on decide; k falls.
use Rattle.checker.proofs.+is_sound.Given as goal

abbrev pub decreases-is_sound : goal.decreases-is_sound
decreases-is_sound l = l.k
