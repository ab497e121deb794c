-- A path within the limits is drawn into room enough: every row fails. Assumes nothing.
use mathlib.Core.Path.{◌∙◌}
use Prim.Native.Nat.{◌*◌}
use lib.ListN.{length}
use Rattle.paths.specs.Paths.{path_of, edges_of}
use Rattle.replies.specs.Replies.{path_rows}
use Rattle.replies.proofs.Rows.{rows_append, empty_passes, room_enough}
use Rattle.replies.proofs.PathChecks.{within_fits}
use Rattle.drawing.specs.Drawing.{draw_reply, PathIsDrawn}

pub path_is_drawn : PathIsDrawn
unfolding draw_reply
path_is_drawn path g room h low w s l =
    let m = length (edges_of g (path_of path)) in
    rows_append (path_rows path g) _ _ ∙ (within_fits path h low w).passed _ ∙ empty_passes (length (path_of path)) m _ (0, m) s ∙ room_enough (4 * m) room m (0, m) l
