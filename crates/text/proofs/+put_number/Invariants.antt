-- `text::put_number` divides n by ten at each call of itself.
use Rattle.text.proofs.+put_number.Given as goal

-- the measure: the number to be written
abbrev pub decreases-put_number : goal.decreases-put_number
decreases-put_number l = l.n
