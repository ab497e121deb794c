-- `lines::page::text` meets its contract: what a turn writes stands behind what was written before. Assumes nothing.
use Rattle.std.proofs.Common.{◌≡◌, ℕ, ◌-◌, List, ◌++◌, length, take, drop, arith, ap, ◌∙◌, append_assoc, length-drop, take-append-drop}
use Rattle.std.proofs.KnownBytes.{Appends-trans}
use Rattle.std.proofs.Math.Seq.{take_all}
use Rattle.lines.proofs.Growing.{grows_then}
use Rattle.lines.proofs.page.text.Goals as goal

-- n bytes more are done, and the others are left
front_more : (bytes done rest : List ℕ) (n : ℕ) → done ++ rest ≡ bytes → (done ++ take n rest) ++ take (length rest - n) (drop n rest) ≡ bytes
front_more bytes done rest n e =
    append_assoc done (take n rest) _
    ∙ ap (λ l. done ++ (take n rest ++ l)) (take_all _ _ (omega (arith, length-drop n rest)))
    ∙ ap (λ l. done ++ l) (take-append-drop n rest)
    ∙ e

pub returns-in_err-count-clause-grows : goal.returns-in_err-count-clause-grows
returns-in_err-count-clause-grows g c =
    let i = c.loop-rest.invariant in grows_then (record { by = i.0; grown = i.2 }) c.write_some.ensures.grows

pub loop-rest-preserved : goal.loop-rest-preserved
loop-rest-preserved g c =
    let i = c.loop-rest.invariant in
    (i.0 ++ take c.in_ok-count.count _, front_more _ i.0 _ _ i.1, Appends-trans _ _ _ _ _ i.2 c.in_ok-count.ensures.ok)
