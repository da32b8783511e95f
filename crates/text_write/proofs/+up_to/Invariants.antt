-- The measure of `text_write::up_to` is the number of digits.
use Rattle.text_write.proofs.+up_to.Given as goal

abbrev pub decreases-up_to : goal.decreases-up_to
decreases-up_to g l = l.k
