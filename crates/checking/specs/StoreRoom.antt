-- Own numbers to test a store's rows with: for its vertices, for their posts, and for a step's edges. A small store asks for few: fewer are zeroed sooner.
use Rattle.std.specs.Prelude.{Bool, true, false, ◌&&◌, ◌||◌, List, ℕ, ltb, length}
use Rattle.outline.specs.Stores.{kind_in, grade_in, count_in}

-- Too short for a header, or of a stroke of up to 64 vertices at a grade up to 4.
unfoldable pub small_store : List ℕ → Bool
small_store s = ltb (length s) 24 || (ltb (kind_in s) 1 && (ltb (grade_in s) 5 && ltb (count_in s) 65))

-- Three for each vertex, one for each post, and those of a step at that grade; in a store that is not small as many as any may need.
unfoldable pub store_path : List ℕ → ℕ
store_path s = elim (small_store s) [ true ↦ 192 | false ↦ 12288 ]

unfoldable pub store_posts : List ℕ → ℕ
store_posts s = elim (small_store s) [ true ↦ 64 | false ↦ 4096 ]

unfoldable pub store_own : List ℕ → ℕ
store_own s = elim (small_store s) [ true ↦ 592 | false ↦ 8272 ]
