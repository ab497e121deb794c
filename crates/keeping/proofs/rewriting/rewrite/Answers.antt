-- `keeping::rewriting::rewrite` meets its contract: its two tests are the row of a path without edges and, since what is needed is the outline's length, the row of the room. Assumes nothing.
use mathlib.Core.Path.{sym, ◌∙◌}
use native.Mathlib.Omega.{arith}
use Rattle.keeping.proofs.Rewrites.{needed_is, rewrite_empty, rewrite_short, rewrite_done}
use Rattle.outline.proofs.FormLengths.{length_small}
use Rattle.outline.proofs.ReadBack.{few_edges}
use Rattle.keeping.proofs.rewriting.rewrite.Goals as goal

pub whole_length-needed-requires : goal.whole_length-needed-requires
whole_length-needed-requires g c = rw c.form.ensures (length_small (g.O.Outlined.form_of c.args.outlined.now) _ _ (omega (arith, c.vertices-n.ensures.0, c.vertices-n.ensures.1)) (omega (arith, c.edges-m.ensures, few_edges (g.O.Outlined.form_of c.args.outlined.now) (g.O.Outlined.grade_of c.args.outlined.now) (g.O.Outlined.vertices_of c.args.outlined.now) (omega (arith, c.vertices-n.ensures.0, c.vertices-n.ensures.1)))))

pub returns-then-empty : goal.returns-then-empty
returns-then-empty g c = rewrite_empty (g.O.Outlined.form_of c.args.outlined.now) (g.O.Outlined.grade_of c.args.outlined.now) (g.O.Outlined.posts_of c.args.outlined.now) (g.O.Outlined.vertices_of c.args.outlined.now) _ _ c.vertices-n.ensures.0 c.edges-m.ensures (sym c.without_edges-empty.ensures ∙ c.if-empty.true)

pub returns-then-s-needed : goal.returns-then-s-needed
returns-then-s-needed g c =
    let f = g.O.Outlined.form_of c.args.outlined.now in
    let grade = g.O.Outlined.grade_of c.args.outlined.now in
    let ps = g.O.Outlined.posts_of c.args.outlined.now in
    let vs = g.O.Outlined.vertices_of c.args.outlined.now in
    rewrite_short f grade ps vs _ _ c.vertices-n.ensures.0 c.edges-m.ensures (sym c.without_edges-empty.ensures ∙ c.if-empty.false) (needed_is f grade ps vs c.vertices-n.ensures.0 c.edges-m.ensures (rw c.form.ensures at c.whole_length-needed.ensures)) c.if-s-needed.true

pub write-requires : goal.write-requires
write-requires g c =
    let f = g.O.Outlined.form_of c.args.outlined.now in
    let grade = g.O.Outlined.grade_of c.args.outlined.now in
    let ps = g.O.Outlined.posts_of c.args.outlined.now in
    let vs = g.O.Outlined.vertices_of c.args.outlined.now in record { room = c.requires.1; edges = c.edges-m.ensures; fits = (omega (arith, c.if-s-needed.false, needed_is f grade ps vs c.vertices-n.ensures.0 c.edges-m.ensures (rw c.form.ensures at c.whole_length-needed.ensures)), c.requires.0) }

pub returns : goal.returns
returns g c =
    let f = g.O.Outlined.form_of c.args.outlined.now in
    let grade = g.O.Outlined.grade_of c.args.outlined.now in
    let ps = g.O.Outlined.posts_of c.args.outlined.now in
    let vs = g.O.Outlined.vertices_of c.args.outlined.now in
    rewrite_done f grade ps vs _ _ c.vertices-n.ensures.0 c.edges-m.ensures (sym c.without_edges-empty.ensures ∙ c.if-empty.false) (omega (arith, c.if-s-needed.false, needed_is f grade ps vs c.vertices-n.ensures.0 c.edges-m.ensures (rw c.form.ensures at c.whole_length-needed.ensures))) c.write.ensures
