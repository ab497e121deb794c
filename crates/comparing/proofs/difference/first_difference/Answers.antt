-- `comparing::difference::first_difference` meets its contract: header, table and bodies are compared in their order; the first of them that differs tells. Assumes nothing.
use native.Mathlib.Omega.{arith}
use Rattle.outline.proofs.ReadBack.{few_edges}
use Rattle.outline.specs.Stores.{posts_of}
use Rattle.comparing.specs.Compares.{lent_path}
use Rattle.comparing.proofs.FirstByte.{end_edges, first_head, first_table, first_bodies}
use Rattle.comparing.proofs.difference.first_difference.Goals as goal

pub overflow_cast-m : goal.overflow_cast-m
overflow_cast-m c = omega (arith, end_edges c.args.form c.args.grade (posts_of c.args.form c.args.n c.args.s.now) (lent_path c.args.form c.args.path.now) c.requires.agrees c.requires.vertices.0 c.front-base.ensures, few_edges c.args.form c.args.grade (lent_path c.args.form c.args.path.now) (omega (arith, c.requires.vertices.0, c.requires.vertices.1)))

pub returns-then-f-header_bytes : goal.returns-then-f-header_bytes
returns-then-f-header_bytes c = first_head _ c.args.form c.args.grade (posts_of c.args.form c.args.n c.args.s.now) (lent_path c.args.form c.args.path.now) c.requires.vertices.0 (end_edges c.args.form c.args.grade (posts_of c.args.form c.args.n c.args.s.now) (lent_path c.args.form c.args.path.now) c.requires.agrees c.requires.vertices.0 c.front-base.ensures) c.front-base.ensures c.same_header-f.ensures c.requires.agrees (omega (arith, c.header_bytes.ensures, c.if-f-header_bytes.true))

pub returns-then-c-base : goal.returns-then-c-base
returns-then-c-base c = first_table _ c.args.form c.args.grade (posts_of c.args.form c.args.n c.args.s.now) (lent_path c.args.form c.args.path.now) c.requires.vertices.0 (end_edges c.args.form c.args.grade (posts_of c.args.form c.args.n c.args.s.now) (lent_path c.args.form c.args.path.now) c.requires.agrees c.requires.vertices.0 c.front-base.ensures) c.front-base.ensures c.same_header-f.ensures c.requires.agrees (omega (arith, c.header_bytes.ensures, c.if-f-header_bytes.false)) c.if-c-base.true

pub returns : goal.returns
returns c = first_bodies _ c.args.form c.args.grade (posts_of c.args.form c.args.n c.args.s.now) (lent_path c.args.form c.args.path.now) c.requires.vertices.0 (end_edges c.args.form c.args.grade (posts_of c.args.form c.args.n c.args.s.now) (lent_path c.args.form c.args.path.now) c.requires.agrees c.requires.vertices.0 c.front-base.ensures) c.front-base.ensures c.same_header-f.ensures c.requires.agrees (omega (arith, c.header_bytes.ensures, c.if-f-header_bytes.false)) c.if-c-base.false
