-- `mean_speed`: 2 tr divides the sum, and the sums fit.
use Rattle.ramp_stop.proofs.Word.{slope-less, mean-is}
use Rattle.ramp_stop.proofs.place.mean_speed.Goals as goal

pub overflow_sub-result : goal.overflow_sub-result
overflow_sub-result c = slope-less _ _ c.requires.0 c.requires.2

pub returns : goal.returns
returns c = mean-is _ _ c.requires.0 c.requires.2
