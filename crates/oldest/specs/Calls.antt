-- Document 02, request 5: what import and export reply, and every lent number afterwards. Both pass over lent numbers, three a vertex, and answer
-- each by one rule for coordinates and one for widths; so both are one definition over the two rules.
use Rattle.std.specs.Prelude.{ℕ, ◌/◌, List, [], ◌∷◌, length, ℤ, nat_lt, Float}
use Rattle.std.proofs.Math.Option.{Option, none, some}
use Rattle.replies.specs.Replies.{Reply, Row, first_row, triples_row, count_row, room_row, written}
use Rattle.oldest.specs.Taken.{coordinate_of, width_of, whole_in}
use Rattle.oldest.specs.Written.{coordinate_back_of, width_back_of, float_in}

-- ---- numbers, three a vertex

-- two coordinates by one rule, and the width or radius by another
unfoldable pub in_threes : {A B : Type 0} → (A → B) → (A → B) → List A → List B
in_threes f g [] = []
in_threes f g (x ∷ []) = []
in_threes f g (x ∷ y ∷ []) = []
in_threes f g (x ∷ y ∷ w ∷ l) = f x ∷ f y ∷ g w ∷ in_threes f g l

-- what is taken before the first that is not
unfoldable pub taken_of : {B : Type 0} → List (Option B) → List B
taken_of [] = []
taken_of (o ∷ os) = elim o [ some b ↦ b ∷ taken_of os | none ↦ [] ]

-- 13, a number not taken: the place of the first.
unfoldable pub untaken_row : {B : Type 0} → List (Option B) → Row
untaken_row os = (nat_lt (length (taken_of os)) (length os), (13, length (taken_of os)))

-- ---- a pass over the numbers lent, by the rules f and g

unfoldable pub pass_reply : {A B : Type 0} → (A → Option B) → (A → Option B) → List A → ℕ → Reply
pass_reply f g l room =
    let n = length l / 3 in
    first_row (triples_row l ∷ count_row n ∷ untaken_row (in_threes f g l) ∷ room_row (length l) room n ∷ []) (0, n)

unfoldable pub pass_out : {A B : Type 0} → (A → Option B) → (A → Option B) → List A → List B → List B
pass_out f g l room = written (pass_reply f g l (length room)) (taken_of (in_threes f g l)) room

-- ---- import: a coordinate, and the radius of a width

unfoldable pub coordinate_in : Float → Option ℤ
coordinate_in x = whole_in (coordinate_of x)

unfoldable pub radius_in : Float → Option ℤ
radius_in x = whole_in (width_of x)

unfoldable pub import_reply : List Float → ℕ → Reply
import_reply floats room = pass_reply coordinate_in radius_in floats room

unfoldable pub import_out : List Float → List ℤ → List ℤ
import_out floats room = pass_out coordinate_in radius_in floats room

-- ---- export: a coordinate, and the width of a radius

unfoldable pub coordinate_out : ℤ → Option Float
coordinate_out n = float_in (coordinate_back_of n)

unfoldable pub width_out : ℤ → Option Float
width_out r = float_in (width_back_of r)

unfoldable pub export_reply : List ℤ → ℕ → Reply
export_reply numbers room = pass_reply coordinate_out width_out numbers room

unfoldable pub export_out : List ℤ → List Float → List Float
export_out numbers room = pass_out coordinate_out width_out numbers room
