-- The measure of `text_write::fixed` is the number of digits.
use Rattle.text_write.proofs.+fixed.Given as goal

abbrev pub decreases-fixed : goal.decreases-fixed
decreases-fixed g l = l.w
