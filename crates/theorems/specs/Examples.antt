-- Document 01, "Marked examples, grade 1", in edition 1: one table, a row for each thing that it says of a path, and one claim over it. Grade 1 is retired
-- (document 02, request 13), so what is asked is asked of the path's outline in a store; what draw replies is asked at grade 2.
use Rattle.std.specs.Prelude.{◌≡◌, List, [], ◌∷◌, ◌++◌, ℕ, ℤ, pos, neg_ℤ, length}
use Rattle.runs.specs.Runs.{spread}
use Rattle.turning.specs.Edges.{edge_numbers}
use Rattle.turning.specs.declared.Edge.{Edge}
use Rattle.paths.specs.Paths.{path_of, joined}
use Rattle.words.specs.Words.{words_in}
use Rattle.outline.specs.Outlines.{outline_bytes}
use Rattle.outline.specs.Stores.{bodies_in}
use Rattle.outline.specs.declared.Edition.TheVariants.{First, Second}
use Rattle.outline.specs.declared.Form.TheVariants.{Stroke}
use Rattle.drawing.specs.Drawing.{draw_reply}
use Rattle.reading.specs.Reading.{read_reply}

-- A row: what is asked of a path, the path, three numbers a vertex, and the answer.
pub record Example : Type 0 where
  pub asked : List ℤ → List ℤ
  pub path : List ℤ
  pub answer : List ℤ

unfoldable pub minus : ℕ → ℤ
minus n = neg_ℤ (pos n)

unfoldable pub plain : List ℕ → List ℤ
plain [] = []
plain (n ∷ ns) = pos n ∷ plain ns

-- The outline of a path, as it stands in a store.
unfoldable pub stored : ℕ → List ℤ → List ℕ
stored g l = outline_bytes (Stroke First) g [] (path_of l)

-- What may be asked of it: how many bytes it has, its words, the number of edges in each body and in the closing one, all edges in order, and the reply of
-- reading it into room for three vertices. Paths without edges, which draw and keep refuse (document 02, request 9), still read.
unfoldable pub bytes : ℕ → List ℤ → List ℤ
bytes g l = pos (length (stored g l)) ∷ []

unfoldable pub words : ℕ → List ℤ → List ℤ
words g l = plain (words_in (stored g l))

-- the same in edition 2, with posts
unfoldable pub numbered : List ℕ → ℕ → List ℤ → List ℤ
numbered ps g l = plain (words_in (outline_bytes (Stroke Second) g ps (path_of l)))

unfoldable pub lengths : List (List Edge) → List ℤ
lengths [] = []
lengths (b ∷ bs) = pos (length b) ∷ lengths bs

unfoldable pub counts : ℕ → List ℤ → List ℤ
counts g l = lengths (bodies_in (stored g l))

unfoldable pub edges : ℕ → List ℤ → List ℤ
edges g l = spread edge_numbers (joined (bodies_in (stored g l)))

unfoldable pub reading : ℕ → List ℤ → List ℤ
reading g l = pos (read_reply (stored g l) 9).0 ∷ pos (read_reply (stored g l) 9).1 ∷ []

-- And of the path: the reply of draw without room.
unfoldable pub reply : ℕ → List ℤ → List ℤ
reply g l = pos (draw_reply l g 0).0 ∷ pos (draw_reply l g 0).1 ∷ []

unfoldable pub examples : List Example
examples =
    record { asked = bytes 1; path = []; answer = pos 24 ∷ [] }  -- 1
    ∷ record { asked = edges 1; path = []; answer = [] }  -- 1
    ∷ record { asked = reading 1; path = []; answer = pos 0 ∷ pos 0 ∷ [] }  -- 1
    ∷ record { asked = reply 2; path = []; answer = pos 0 ∷ pos 0 ∷ [] }  -- 1
    ∷ record { asked = words 1; path = pos 0 ∷ pos 0 ∷ pos 10 ∷ []; answer = pos 1 ∷ pos 0 ∷ pos 1 ∷ pos 1 ∷ pos 8 ∷ pos 0 ∷ pos 0 ∷ pos 10 ∷ pos 0 ∷ pos 8 ∷ pos 10 ∷ pos 0 ∷ pos 6 ∷ pos 8 ∷ pos 6 ∷ pos 8 ∷ pos 4294967293 ∷ pos 10 ∷ pos 4294967293 ∷ pos 10 ∷ pos 4294967287 ∷ pos 4 ∷ pos 4294967287 ∷ pos 4 ∷ pos 4294967286 ∷ pos 0 ∷ pos 4294967286 ∷ pos 0 ∷ pos 4294967290 ∷ pos 4294967288 ∷ pos 4294967290 ∷ pos 4294967288 ∷ pos 3 ∷ pos 4294967286 ∷ pos 3 ∷ pos 4294967286 ∷ pos 9 ∷ pos 4294967292 ∷ pos 9 ∷ pos 4294967292 ∷ pos 10 ∷ pos 0 ∷ [] }  -- 2
    ∷ record { asked = edges 1; path = pos 0 ∷ pos 0 ∷ pos 10 ∷ []; answer = pos 10 ∷ pos 0 ∷ pos 6 ∷ pos 8 ∷ pos 6 ∷ pos 8 ∷ minus 3 ∷ pos 10 ∷ minus 3 ∷ pos 10 ∷ minus 9 ∷ pos 4 ∷ minus 9 ∷ pos 4 ∷ minus 10 ∷ pos 0 ∷ minus 10 ∷ pos 0 ∷ minus 6 ∷ minus 8 ∷ minus 6 ∷ minus 8 ∷ pos 3 ∷ minus 10 ∷ pos 3 ∷ minus 10 ∷ pos 9 ∷ minus 4 ∷ pos 9 ∷ minus 4 ∷ pos 10 ∷ pos 0 ∷ [] }  -- 2
    ∷ record { asked = bytes 1; path = pos 0 ∷ pos 0 ∷ pos 10 ∷ []; answer = pos 168 ∷ [] }  -- 2
    ∷ record { asked = counts 1; path = pos 0 ∷ pos 0 ∷ pos 1 ∷ []; answer = pos 0 ∷ pos 0 ∷ [] }  -- 3
    ∷ record { asked = reading 1; path = pos 0 ∷ pos 0 ∷ pos 1 ∷ []; answer = pos 0 ∷ pos 1 ∷ [] }  -- 3
    ∷ record { asked = reply 2; path = pos 0 ∷ pos 0 ∷ pos 1 ∷ []; answer = pos 18 ∷ pos 1 ∷ [] }  -- 3
    ∷ record { asked = counts 1; path = pos 0 ∷ pos 0 ∷ pos 2 ∷ []; answer = pos 0 ∷ pos 8 ∷ [] }  -- 4
    ∷ record { asked = counts 1; path = pos 0 ∷ pos 0 ∷ pos 5 ∷ pos 20 ∷ pos 0 ∷ pos 5 ∷ []; answer = pos 0 ∷ pos 6 ∷ pos 4 ∷ [] }  -- 5
    ∷ record { asked = edges 1; path = pos 0 ∷ pos 0 ∷ pos 5 ∷ pos 20 ∷ pos 0 ∷ pos 5 ∷ []; answer = pos 20 ∷ pos 5 ∷ pos 0 ∷ pos 5 ∷ pos 0 ∷ minus 5 ∷ pos 20 ∷ minus 5 ∷ pos 0 ∷ pos 5 ∷ minus 4 ∷ pos 3 ∷ minus 4 ∷ pos 3 ∷ minus 5 ∷ minus 1 ∷ minus 5 ∷ minus 1 ∷ minus 2 ∷ minus 5 ∷ minus 2 ∷ minus 5 ∷ pos 0 ∷ minus 5 ∷ pos 20 ∷ minus 5 ∷ pos 24 ∷ minus 3 ∷ pos 24 ∷ minus 3 ∷ pos 25 ∷ pos 1 ∷ pos 25 ∷ pos 1 ∷ pos 22 ∷ pos 5 ∷ pos 22 ∷ pos 5 ∷ pos 20 ∷ pos 5 ∷ [] }  -- 5
    ∷ record { asked = counts 1; path = pos 0 ∷ pos 0 ∷ pos 5 ∷ pos 20 ∷ pos 0 ∷ pos 5 ∷ pos 40 ∷ pos 0 ∷ pos 5 ∷ []; answer = pos 0 ∷ pos 6 ∷ pos 10 ∷ pos 4 ∷ [] }  -- 6
    ∷ record { asked = counts 1; path = pos 0 ∷ pos 0 ∷ pos 10 ∷ pos 3 ∷ pos 0 ∷ pos 2 ∷ pos 6 ∷ pos 0 ∷ pos 10 ∷ []; answer = pos 0 ∷ pos 8 ∷ pos 0 ∷ pos 8 ∷ [] }  -- 7
    ∷ record { asked = counts 1; path = pos 0 ∷ pos 0 ∷ pos 10 ∷ pos 3 ∷ pos 0 ∷ pos 2 ∷ []; answer = pos 0 ∷ pos 8 ∷ pos 8 ∷ [] }  -- 8
    ∷ record { asked = counts 1; path = pos 0 ∷ pos 0 ∷ pos 5 ∷ pos 3 ∷ pos 4 ∷ pos 0 ∷ []; answer = pos 0 ∷ pos 8 ∷ pos 0 ∷ [] }  -- 9
    ∷ record { asked = counts 1; path = pos 0 ∷ pos 0 ∷ pos 1 ∷ pos 20 ∷ pos 0 ∷ pos 1 ∷ []; answer = pos 0 ∷ pos 0 ∷ pos 0 ∷ [] }  -- 10
    ∷ record { asked = reading 1; path = pos 0 ∷ pos 0 ∷ pos 1 ∷ pos 20 ∷ pos 0 ∷ pos 1 ∷ []; answer = pos 0 ∷ pos 2 ∷ [] }  -- 10
    ∷ record { asked = reply 2; path = pos 0 ∷ pos 0 ∷ pos 1 ∷ pos 20 ∷ pos 0 ∷ pos 1 ∷ []; answer = pos 18 ∷ pos 2 ∷ [] }  -- 10
    ∷ record { asked = reading 1; path = pos 268435456 ∷ pos 0 ∷ pos 1 ∷ []; answer = pos 0 ∷ pos 1 ∷ [] }  -- 11
    ∷ record { asked = reading 1; path = pos 268435457 ∷ pos 0 ∷ pos 1 ∷ []; answer = pos 4 ∷ pos 0 ∷ [] }  -- 11
    ∷ []

-- Further paths, from the places that are easy to get wrong: a full circle at a joint whose contacts are nearer than the radius; a step back that
-- does not cover, since the larger radius does not exceed; a contact at a half; two full circles in one join; equality that breaks a chain; a
-- thin step between drawn ones; a covered circle, and one after it; the smallest path whose inner points lie nearer than its radius (document
-- 02, request 6); a path with point numbers (request 11); and a circle that is drawn at grade 2, and at grade 1 no longer, but reads (request 13).
unfoldable pub further : List Example
further =
    record { asked = counts 1; path = pos 0 ∷ pos 0 ∷ pos 2 ∷ pos 10 ∷ pos 10 ∷ pos 2 ∷ pos 20 ∷ pos 20 ∷ pos 2 ∷ []; answer = pos 0 ∷ pos 5 ∷ pos 2 ∷ pos 3 ∷ [] }
    ∷ record { asked = counts 1; path = pos 0 ∷ pos 0 ∷ pos 5 ∷ pos 20 ∷ pos 0 ∷ pos 5 ∷ pos 10 ∷ pos 0 ∷ pos 5 ∷ []; answer = pos 0 ∷ pos 6 ∷ pos 7 ∷ pos 4 ∷ [] }
    ∷ record { asked = counts 1; path = pos 0 ∷ pos 0 ∷ pos 2 ∷ pos 2 ∷ pos 0 ∷ pos 1 ∷ []; answer = pos 0 ∷ pos 7 ∷ pos 2 ∷ [] }
    ∷ record { asked = counts 8; path = pos 0 ∷ minus 46 ∷ pos 267688968 ∷ pos 0 ∷ pos 0 ∷ pos 267688965 ∷ pos 0 ∷ pos 138 ∷ pos 267688956 ∷ []; answer = pos 0 ∷ pos 421 ∷ pos 1616 ∷ pos 386 ∷ [] }
    ∷ record { asked = counts 1; path = pos 0 ∷ pos 0 ∷ pos 5 ∷ pos 3 ∷ pos 4 ∷ pos 10 ∷ []; answer = pos 0 ∷ pos 8 ∷ pos 8 ∷ [] }
    ∷ record { asked = counts 1; path = pos 0 ∷ pos 0 ∷ pos 5 ∷ pos 20 ∷ pos 0 ∷ pos 1 ∷ pos 40 ∷ pos 0 ∷ pos 1 ∷ pos 60 ∷ pos 0 ∷ pos 5 ∷ []; answer = pos 0 ∷ pos 6 ∷ pos 0 ∷ pos 4 ∷ pos 4 ∷ [] }
    ∷ record { asked = counts 1; path = pos 0 ∷ pos 0 ∷ pos 9 ∷ pos 20 ∷ pos 0 ∷ pos 9 ∷ pos 10 ∷ pos 0 ∷ pos 1 ∷ []; answer = pos 0 ∷ pos 6 ∷ pos 7 ∷ pos 1 ∷ [] }
    ∷ record { asked = counts 1; path = pos 0 ∷ pos 0 ∷ pos 9 ∷ pos 20 ∷ pos 0 ∷ pos 9 ∷ pos 10 ∷ pos 0 ∷ pos 1 ∷ pos 12 ∷ pos 0 ∷ pos 1 ∷ []; answer = pos 0 ∷ pos 6 ∷ pos 7 ∷ pos 2 ∷ pos 0 ∷ [] }
    ∷ record { asked = counts 1; path = pos 0 ∷ pos 0 ∷ pos 2 ∷ pos 0 ∷ minus 3 ∷ pos 0 ∷ []; answer = pos 0 ∷ pos 6 ∷ pos 0 ∷ [] }
    ∷ record { asked = numbered (7 ∷ 4294967295 ∷ []) 1; path = pos 0 ∷ pos 0 ∷ pos 1 ∷ pos 20 ∷ pos 0 ∷ pos 1 ∷ []; answer = pos 2 ∷ pos 0 ∷ pos 1 ∷ pos 2 ∷ pos 0 ∷ pos 0 ∷ pos 0 ∷ pos 1 ∷ pos 7 ∷ pos 0 ∷ pos 20 ∷ pos 0 ∷ pos 1 ∷ pos 4294967295 ∷ pos 0 ∷ pos 0 ∷ [] }
    ∷ record { asked = reply 2; path = pos 0 ∷ pos 0 ∷ pos 10 ∷ []; answer = pos 5 ∷ pos 14 ∷ [] }
    ∷ record { asked = reply 1; path = pos 0 ∷ pos 0 ∷ pos 10 ∷ []; answer = pos 3 ∷ pos 1 ∷ [] }
    ∷ record { asked = reading 1; path = pos 0 ∷ pos 0 ∷ pos 10 ∷ []; answer = pos 0 ∷ pos 1 ∷ [] }
    ∷ []

unfoldable pub answers_of : List Example → List (List ℤ)
answers_of [] = []
answers_of (e ∷ es) = e.asked e.path ∷ answers_of es

unfoldable pub answers_told : List Example → List (List ℤ)
answers_told [] = []
answers_told (e ∷ es) = e.answer ∷ answers_told es

-- the rules give each answer of the table, and of the further paths
abbrev pub ExamplesHold : Type 0
ExamplesHold = answers_of (examples ++ further) ≡ answers_told (examples ++ further)
