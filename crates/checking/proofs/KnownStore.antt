-- A store that passed its rows is known, and is sound. Assumes nothing.
use Rattle.std.specs.Prelude.{Result, Ok}
use mathlib.Core.Path.{◌≡◌, sym, ap, ◌∙◌}
use mathlib.Core.List.{List}
use Prim.Native.Nat.{ℕ, ◌*◌, ◌≤◌}
use native.Mathlib.Omega.{arith}
use lib.IntN.{ℤ}
use lib.ListN.{length, take, length-take}
use lib.Seq.{length-take-le}
use Rattle.paths.specs.Paths.{path_numbers, edges_of}
use Rattle.outline.specs.Layout.{length_of}
use Rattle.outline.specs.Outlines.{outline_bytes}
use Rattle.outline.specs.Stores.{grade_in, length_in, path_in, posts_in, due_in}
use Rattle.outline.specs.declared.Edition.{Edition}
use Rattle.outline.specs.declared.Form.{Form}
use Rattle.outline.specs.declared.Form.TheVariants.{Stroke}
use Rattle.outline.proofs.ReadBack.{path_count_in, numbers_count, outline_length}
use Rattle.replies.specs.Replies.{Reply}
use Rattle.replies.specs.declared.Refusal.{Refusal}
use Rattle.replies.proofs.Rows.{first-none}
use Rattle.heading.specs.StoreRows.{store_rows}
use Rattle.heading.specs.declared.Header.{Header}
use Rattle.checking.specs.Known.{Known, Passed}
use Rattle.checking.specs.StoreChecks.{StoreSays}
use Rattle.checking.proofs.OtherKinds.{stroke_passes}
use Rattle.checking.proofs.StorePassed.{store_coded, none-due}

pub passed : {s : List ℕ} {p : List ℤ} {c : Result Header Refusal} {h : Header} → c ≡ Ok h → StoreSays s p c → Passed s p h
passed {h = h} e a = record { sound = a.sound h e; path = a.path h e }

pub known : {s : List ℕ} {p : List ℤ} {h : Header} {d : Edition} → Passed s p h → h.form ≡ Stroke d → Known s p d h.grade h.n h.m
unfolding path_numbers
known a e = record {
  form = sym a.sound.head.form ∙ e;
  grade = a.sound.head.grade;
  vertices = a.sound.head.vertices;
  edges = a.sound.head.edges;
  long = a.sound.head.headed.long;
  within = a.sound.within;
  passed = a.sound.passed;
  other = λ rows last. stroke_passes a.sound.head rows last e;
  path = rw e at a.path;
}

module _ {s : List ℕ} {p : List ℤ} {d : Edition} {g n m : ℕ} (h : Known s p d g n m) where
  pub known_count : length (path_in s) ≡ n
  known_count = path_count_in s ∙ sym h.vertices

  pub known_long : length_of (Stroke d) n m ≡ length_in s
  unfolding length_in
  known_long = rw (h.vertices, h.edges, h.form)

  -- what the code's sums and parts need
  pub known_few : (n ≤ 4096) × (3 * n ≤ length p) × (length_of (Stroke d) n m ≤ length s)
  known_few = (omega (arith, known_count, h.within.count), omega (arith, ap length h.path, numbers_count (path_in s), known_count, length-take (3 * n) p), omega (arith, known_long, h.long))

-- a stroke that is sound has as many edges as it says
pub known_edges : {s : List ℕ} {p : List ℤ} {d : Edition} {g n m : ℕ} → Known s p d g n m → m ≡ length (edges_of (grade_in s) (path_in s))
unfolding due_in
known_edges {s} {d = d} {n = n} {m = m} h =
    let vs = path_in s in
    let due : take (length_in s) s ≡ due_in s = none-due s (first-none (store_rows s) (0, 0) (store_coded s) (ap (λ (r : Reply). r.0) (h.passed (0, 0)))) in
    let long : length_of (Stroke d) n m ≡ length (due_in s) = known_long h ∙ sym (length-take-le (length_in s) s h.long) ∙ ap length due in
    let is : length (due_in s) ≡ length_of (Stroke d) (length vs) (length (edges_of (grade_in s) vs)) = ap (λ (f : Form). length (outline_bytes f (grade_in s) (posts_in s) vs)) h.form ∙ outline_length (Stroke d) (grade_in s) (posts_in s) vs in
    lengths d n (long ∙ is ∙ ap (λ (k : ℕ). length_of (Stroke d) k (length (edges_of (grade_in s) vs))) (known_count h))
  where
    lengths : (e : Edition) (k : ℕ) {i j : ℕ} → length_of (Stroke e) k i ≡ length_of (Stroke e) k j → i ≡ j
    lengths e k f = omega (arith, f)
