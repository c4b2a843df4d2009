-- The digits of a tenth come first, by the definition's own recursion; the measure is the number.
-- Assumes nothing.
use Rattle.text.proofs.texts.+decimal_digits.Given as goal

abbrev pub decreases-decimal_digits : goal.decreases-decimal_digits
decreases-decimal_digits l = l.n
