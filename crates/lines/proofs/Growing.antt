-- Pages that grow. Assumes nothing.
use Rattle.std.proofs.Common.{ℕ, List, ◌++◌}
use Rattle.std.specs.declared.option.Option.{Option}
use Rattle.std.proofs.KnownBytes.{Appends-trans}
use Rattle.lines.specs.Pages.{Grows}

-- one growth after another
pub grows_then : {a b c : Option (List ℕ)} → Grows a b → Grows b c → Grows a c
grows_then {a} {b} {c} p q = record { by = p.by ++ q.by; grown = Appends-trans a b c p.by q.by p.grown q.grown }
