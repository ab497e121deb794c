-- `keeping::filling::fill_end` meets its contract: the walk puts the closing edges into `own`, from where their count and their words are put. Assumes nothing.
use mathlib.Core.List.{[]}
use mathlib.Core.List.{◌∷◌}
use mathlib.Core.Path.{ap}
use Prim.Native.Nat.{ℕ}
use native.Mathlib.Omega.{arith}
use Rattle.runs.proofs.Laws.{room_as}
use Rattle.outline.proofs.OwnNumbers.{own_room, own_small, own_count, own_words, own_inside, close_most}
use Rattle.keeping.proofs.FilledSteps.{end_filled}
use Rattle.keeping.proofs.TwoRuns.{table_room, body_room}
use Rattle.keeping.proofs.filling.fill_end.Goals as goal

pub close-n-requires : goal.close-n-requires
close-n-requires c = record { unit_long = (c.requires.sound.0, c.requires.sound.1); room = own_room (close_most c.args.t c.args.f.walk) }

pub overflow_cast-n : goal.overflow_cast-n
overflow_cast-n c = omega (arith, own_small (close_most c.args.t c.args.f.walk) c.close-n.ensures)

pub put_word-requires : goal.put_word-requires
put_word-requires c = room_as (ap (λ (k : ℕ). k ∷ []) (own_count (close_most c.args.t c.args.f.walk) c.close-n.ensures)) (table_room c.requires.apart)

pub put_numbers-requires : goal.put_numbers-requires
put_numbers-requires c = record { n_in_bounds = own_inside (close_most c.args.t c.args.f.walk) c.close-n.ensures (c.requires.sound.2.end c.args.f.walk); room = room_as (own_words (close_most c.args.t c.args.f.walk) c.close-n.ensures (c.requires.sound.2.end c.args.f.walk)) (body_room c.requires.apart) }

pub returns : goal.returns
returns c = end_filled (close_most c.args.t c.args.f.walk) (c.requires.sound.2.end c.args.f.walk) c.close-n.ensures c.put_word.ensures c.put_numbers.ensures
