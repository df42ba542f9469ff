-- `push_number`: the last digit comes after those of the tenth; below ten it is the only one. The number falls, so it ends.
use Rattle.cards.proofs.writing.Text.+push_number.Given as goal

abbrev pub decreases-push_number : goal.decreases-push_number
decreases-push_number l = l.n
