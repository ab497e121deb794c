-- `keeping::filling::Plan::outline` meets its contract: the header, and from its end on the table and the bodies. Assumes nothing.
use mathlib.Core.Path.{refl}
use native.Mathlib.Omega.{arith}
use Rattle.paths.specs.Paths.{path_of}
use Rattle.outline.proofs.ReadBack.{few_edges}
use Rattle.outline.specs.declared.Form.TheVariants.{Stroke}
use Rattle.keeping.proofs.Whole.{outline_written}
use Rattle.keeping.proofs.filling.Plan.outline.Goals as goal

pub overflow_cast-m : goal.overflow_cast-m
overflow_cast-m c = omega (arith, c.requires.edges, few_edges (Stroke c.args.self.now.edition) c.args.self.now.grade (path_of c.args.self.now.path.now) c.args.self.now.within.count)

pub returns : goal.returns
returns c = outline_written _ _ _ _ c.args.self.now.counted c.requires.edges refl c.put_header.ensures c.fill.ensures
