-- Each call raises what one entry sets and goes on with its next; the number of the entry falls.
use Rattle.walk.proofs.+apply_chain.Given as goal

abbrev pub decreases-apply_chain : goal.decreases-apply_chain
decreases-apply_chain l = l.k
