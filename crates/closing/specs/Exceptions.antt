-- Document 02, request 12: the exception's smallest paths. Thin steps lead away and back, so that the join's two sections are of one centre and of different
-- radii, one of them 0.
use Rattle.std.specs.Prelude.{◌≡◌, Bool, true, false, List, [], ◌∷◌, ℕ, ℤ, pos, neg_ℤ}
use Rattle.contacts.specs.declared.Vertex.{Vertex}
use Rattle.paths.specs.Paths.{path_of, edges_of}
use Rattle.closing.specs.Closing.{starts_at, ends_at, stray_of}

unfoldable pub below : ℕ → ℤ
below n = neg_ℤ (pos n)

-- on the left, on the right, and a path without it
unfoldable pub left_exception : List Vertex
left_exception = path_of (pos 0 ∷ pos 0 ∷ pos 2 ∷ pos 0 ∷ pos 2 ∷ pos 1 ∷ pos 0 ∷ pos 0 ∷ pos 0 ∷ pos 0 ∷ pos 2 ∷ pos 0 ∷ pos 1 ∷ pos 0 ∷ pos 2 ∷ [])

unfoldable pub right_exception : List Vertex
right_exception = path_of (pos 0 ∷ pos 0 ∷ pos 3 ∷ below 463 ∷ pos 487 ∷ pos 0 ∷ pos 0 ∷ pos 0 ∷ pos 0 ∷ below 463 ∷ pos 487 ∷ pos 1 ∷ pos 0 ∷ pos 0 ∷ pos 100 ∷ [])

unfoldable pub ordinary : List Vertex
ordinary = path_of (pos 0 ∷ pos 0 ∷ pos 5 ∷ pos 20 ∷ pos 0 ∷ pos 5 ∷ pos 40 ∷ pos 0 ∷ pos 5 ∷ [])

-- whether a join's arc has one end at the centre, and how many edges start and end at a point, at grade 2
unfoldable pub told_at : ℤ → ℤ → List Vertex → Bool × (ℕ × ℕ)
told_at x y vs = (stray_of vs, (starts_at (record { x = x; y = y }) (edges_of 2 vs), ends_at (record { x = x; y = y }) (edges_of 2 vs)))

abbrev pub ExceptionReached : Type 0
ExceptionReached =
    told_at (below 1) (pos 3) left_exception ∷ told_at (below 464) (pos 486) right_exception ∷ told_at (pos 20) (pos 5) ordinary ∷ []
    ≡ (true, (1, 0)) ∷ (true, (1, 0)) ∷ (false, (1, 1)) ∷ []
