-- What the rows of a store say to whoever reads it on: a refusal is the reply, and of a store that passed the header is known. Assumes nothing.
use Rattle.std.specs.Prelude.{Result, Err}
use mathlib.Core.Path.{◌≡◌, sym, ap, ◌∙◌}
use mathlib.Core.List.{List, ◌++◌}
use Prim.Native.Nat.{ℕ, ◌-◌, ◌*◌, ◌≤◌}
use native.Mathlib.Nat.{sub-zero}
use native.Mathlib.Omega.{arith}
use lib.IntN.{ℤ}
use lib.ListN.{length, take, drop}
use Rattle.runs.specs.Runs.{spread, Runs, put}
use Rattle.paths.specs.Paths.{path_numbers}
use Rattle.turning.specs.Bounds.{Radius}
use Rattle.kerb.specs.declared.Style.{Style}
use Rattle.outline.specs.Layout.{header_words, front_bytes, length_of}
use Rattle.words.specs.Words.{words_in}
use Rattle.outline.specs.Stores.{length_in, path_in}
use Rattle.outline.specs.declared.Edition.{Edition}
use Rattle.outline.specs.declared.Form.{Form}
use Rattle.outline.specs.declared.Form.TheVariants.{Stroke, Kerb}
use Rattle.outline.proofs.ReadBack.{path_count_in}
use Rattle.replies.specs.Replies.{Reply, Row, first_row}
use Rattle.replies.specs.Refusals.{refusal_of}
use Rattle.replies.specs.declared.Refusal.{Refusal}
use Rattle.replies.proofs.Rows.{rows_append}
use Rattle.comparing.specs.Compares.{lent_path}
use Rattle.heading.specs.Heads.{or_store, Head}
use Rattle.heading.specs.Shows.{lent_numbers, lent_width, shown_in, shown_path}
use Rattle.heading.specs.StoreRows.{store_rows}
use Rattle.heading.specs.declared.Header.{Header}
use Rattle.heading.proofs.Shown.{path_back, points_back, path_front}
use Rattle.checking.specs.StoreChecks.{Sound, StoreSays}

-- ---- whatever further rows say

-- a refusal of the store's rows is the reply
pub store_refuses : {s : List ℕ} {p : List ℤ} {c : Result Header Refusal} {r : Refusal} (more : List Row) (last : Reply) → StoreSays s p c → c ≡ Err r → refusal_of r ≡ first_row (store_rows s ++ more) last
unfolding or_store
store_refuses {s} more last a e = sym (rows_append (store_rows s) more last ∙ a.says (first_row more last) ∙ ap (λ (x : Result Header Refusal). or_store x (first_row more last)) e)

-- where they are passed, the further rows reply
pub store_passes : {s : List ℕ} {h : Header} (more : List Row) (last : Reply) → Sound s h → first_row (store_rows s ++ more) last ≡ first_row more last
store_passes {s} more last a = rows_append (store_rows s) more last ∙ a.passed (first_row more last)

-- ---- what a header says of its store

width_few : (f : Form) (n : ℕ) → n ≤ 4096 → lent_width f * n ≤ 12288
width_few (Stroke e) n h = omega arith
width_few (Kerb y) n h = omega arith

lent_back : (f : Form) (n : ℕ) (ws : List ℕ) → lent_path f (spread (lent_numbers f) (shown_in f n ws)) ≡ shown_in f n ws
unfolding path_numbers
lent_back (Stroke e) n ws = path_back (shown_in (Stroke e) n ws)
lent_back (Kerb y) n ws = points_back y n ws

module _ {s : List ℕ} {h : Header} (H : Head s h) where
  pub header_count : h.n ≡ length (path_in s)
  header_count = H.vertices ∙ sym (path_count_in s)

  pub header_length : length_of h.form h.n h.m ≡ length_in s
  unfolding length_in
  header_length = λ i. length_of (H.form i) (H.vertices i) (H.edges i)

  pub header_long : front_bytes h.form h.n ≤ length s
  header_long = omega (arith, header_length, H.headed.long)

  pub header_few : {w : ℕ} → w ≡ lent_width h.form → w * h.n ≤ 12288
  header_few e = rw e (width_few h.form h.n (omega (arith, H.vertices, H.headed.count)))

  -- the numbers that a store's vertices are shown in: w is what the code has for how many a vertex takes
  module _ {p₀ p₁ : List ℤ} {w : ℕ} (room : lent_width h.form * h.n ≤ length p₀) (ew : w ≡ lent_width h.form)
      (q : Runs put (lent_numbers h.form) p₀ 0 (shown_in h.form h.n (drop (header_words h.form) (words_in s))) p₁ (lent_width h.form * h.n)) where
    shown_all : take (lent_width h.form * h.n) p₁ ≡ spread (lent_numbers h.form) (shown_in h.form h.n (drop (header_words h.form) (words_in s)))
    shown_all = path_front q room

    shown_is : shown_in h.form h.n (drop (header_words h.form) (words_in s)) ≡ shown_path s
    unfolding shown_path
    shown_is = λ i. shown_in (H.form i) (H.vertices i) (drop (header_words (H.form i)) (words_in s))

    pub shown_front : take (lent_width h.form * h.n) p₁ ≡ spread (lent_numbers h.form) (shown_path s)
    shown_front = shown_all ∙ ap (spread (lent_numbers h.form)) shown_is

    pub shown_lent : lent_path h.form (take (w * h.n - 0) p₁) ≡ shown_path s
    shown_lent =
        ap (λ (k : ℕ). lent_path h.form (take k p₁)) (sub-zero (w * h.n) ∙ ap (λ (k : ℕ). k * h.n) ew)
        ∙ ap (lent_path h.form) shown_all
        ∙ lent_back h.form h.n (drop (header_words h.form) (words_in s))
        ∙ shown_is

  -- by the form
  pub stroke_front : (e : Edition) → h.form ≡ Stroke e → front_bytes (Stroke e) h.n ≤ length s
  stroke_front e q = rw q at header_long

  pub kerb_radius : {y : Style} → h.form ≡ Kerb y → Radius y.radius
  kerb_radius e = rw e at H.within
