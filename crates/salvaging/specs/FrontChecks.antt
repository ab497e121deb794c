-- What the check of a store's header and table says: a refusal is the first row that held; where none did, what is known of the store.
use Rattle.std.specs.Prelude.{◌≡◌, List, ℕ, ◌≤◌, Result, Ok, Err}
use Rattle.outline.specs.Stores.{form_in, grade_in}
use Rattle.outline.specs.declared.Form.TheVariants.{Stroke}
use Rattle.replies.specs.Replies.{Reply, Row, first_row}
use Rattle.replies.specs.Refusals.{refusal_of}
use Rattle.replies.specs.declared.Refusal.{Refusal}
use Rattle.differences.specs.Bodies.{Fronted}
use Rattle.differences.specs.declared.fronts.Front.{Front}

-- a refusal's reply, or what further rows say
unfoldable pub or_front : Result Front Refusal → Reply → Reply
or_front (Err r) more = refusal_of r
or_front (Ok f) more = more

-- a stroke's store whose header and table stand in its bytes
pub record FrontFits (s : List ℕ) (f : Front) : Type 0 where
  pub store : f.store.now ≡ s
  pub fronted : Fronted s f.edition f.n
  pub form : form_in s ≡ Stroke f.edition
  pub grade : f.grade ≡ grade_in s
  pub low : 1 ≤ f.grade
  pub high : f.grade ≤ 8

pub record RowsTell (s : List ℕ) (rows : List Row) (r : Result Front Refusal) : Type 0 where
  pub says : (more : Reply) → first_row rows more ≡ or_front r more
  pub fits : (f : Front) → r ≡ Ok f → FrontFits s f
