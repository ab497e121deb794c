-- What a walk has yet to give of an outline: for the functions that fill one in or compare it.
use Rattle.std.specs.Prelude.{List, ℕ}
use Rattle.outline.specs.declared.Edition.{Edition}
use Rattle.plane.specs.declared.Vector.{Vector}
use Rattle.paths.specs.Paths.{bodies_from, joined}
use Rattle.contacts.specs.declared.Vertex.{Vertex}
use Rattle.variable_stroke.specs.declared.Walk.{Walk}
use Rattle.outline.specs.Outlines.{table_of, body_words}

-- the words of the table, and those of the bodies, that a walk has yet to give
unfoldable pub table_from : Edition → Vector → Walk → List ℕ → List Vertex → List ℕ
table_from e t w ps vs = table_of e ps vs (bodies_from t w vs)

unfoldable pub words_from : Vector → Walk → List Vertex → List ℕ
words_from t w vs = body_words (joined (bodies_from t w vs))
