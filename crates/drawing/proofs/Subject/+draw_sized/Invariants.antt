-- `drawing::Subject::draw_sized`: it calls itself with more at most once. Assumes nothing.
use Rattle.std.proofs.Common.{◌-◌}
use Rattle.drawing.proofs.Subject.+draw_sized.Given as goal

abbrev pub decreases-draw_sized : goal.decreases-draw_sized
decreases-draw_sized l = 2048 - l.need
