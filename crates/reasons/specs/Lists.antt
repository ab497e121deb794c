-- Reasons in lent numbers, five an edge: the reason's number, the vertex, the place, and whether its start and its end are exact (1 or 0).
use Rattle.std.specs.Prelude.{Bool, true, false, List, [], ◌∷◌, ℕ, ◌-◌, eqb, ltb, length, get_or, set, Option, Some, None}
use Rattle.reasons.specs.Reasons.{reason_number, not_exact, exactness_of}
use Rattle.contacts.specs.declared.Section.{Section}
use Rattle.contacts.specs.declared.Exactness.{Exactness}
use Rattle.reasons.specs.declared.Reason.{Reason}
use Rattle.reasons.specs.declared.Reason.TheVariants.{LeftSide, RightSide, StartCap, EndCap, LeftJoin, RightJoin, Gap, Circle}
use Rattle.reasons.specs.declared.Why.{Why}

-- an exact end is 1, any other 0
unfoldable pub exact_number : Bool → ℕ
exact_number true = 1
exact_number false = 0

unfoldable pub why_numbers : Why → List ℕ
why_numbers w =
    let e = exactness_of w.reason in
    reason_number w.reason ∷ w.vertex ∷ w.place ∷ exact_number e.a ∷ exact_number e.b ∷ []

-- One number into lent room that begins with the number at `from`: what stands before that is passed over, and so is what stands past the room.
unfoldable pub put_past : ℕ → List ℕ → ℕ → ℕ → List ℕ
put_past from l i v = elim (ltb i from) [ true ↦ l | false ↦ set l (i - from) v ]

-- what a finish is named
unfoldable pub end_reason : Option Section → Reason
end_reason (Some s) = EndCap
end_reason None = Circle

-- ---- one edge of a list

-- the reason that has a number; a side has this exactness
unfoldable pub reason_of : ℕ → Exactness → Reason
reason_of n e = elim (eqb n 0) [
  | true ↦ LeftSide e
  | false ↦ elim (eqb n 1) [
    | true ↦ RightSide e
    | false ↦ elim (eqb n 2) [
      | true ↦ StartCap
      | false ↦ elim (eqb n 3) [
        | true ↦ EndCap
        | false ↦ elim (eqb n 4) [ true ↦ LeftJoin | false ↦ elim (eqb n 5) [ true ↦ RightJoin | false ↦ elim (eqb n 6) [ true ↦ Gap | false ↦ Circle ] ] ]
      ]
    ]
  ]
]

-- all 0, where no edge is named
abbrev pub unnamed : Why
unnamed = record { reason = LeftSide not_exact; vertex = 0; place = 0 }

-- why the edge k is there, if there is one
unfoldable pub explanation_of : List Why → ℕ → Option Why
explanation_of ws k = elim (ltb k (length ws)) [ true ↦ Some (get_or ws k unnamed) | false ↦ None ]
