-- `checking::rests::check_shown` meets its contract: each return is the outcome of a row. Assumes nothing.
use native.Mathlib.Omega.{arith}
use Rattle.checking.proofs.StoreRows.{count_is, rest_outside, within_is, rest_unsound, rest_holds}
use Rattle.checking.proofs.rests.check_shown.Goals as goal

pub first_outside_of-outside-requires : goal.first_outside_of-outside-requires
first_outside_of-outside-requires c = count_is c.requires.head c.requires.path

pub returns-then-outside-h : goal.returns-then-outside-h
returns-then-outside-h c = rest_outside c.requires.head c.requires.path c.first_outside_of-outside.ensures c.if-outside-h.true

pub compare_path-compared-requires : goal.compare_path-compared-requires
compare_path-compared-requires c = record { head = c.requires.head; within = (count_is c.requires.head c.requires.path, within_is c.requires.head c.requires.path c.first_outside_of-outside.ensures c.if-outside-h.false); own = c.requires.own }

pub first_difference-differing-requires : goal.first_difference-differing-requires
first_difference-differing-requires c = record { vertices = (count_is c.requires.head c.requires.path, omega (arith, c.requires.head.vertices, c.requires.head.headed.count), c.requires.head.within); agrees = c.compare_path-compared.ensures }

pub returns-then-differing-compared : goal.returns-then-differing-compared
returns-then-differing-compared c = rest_unsound c.requires.head c.requires.path c.first_outside_of-outside.ensures c.if-outside-h.false c.compare_path-compared.ensures c.first_difference-differing.ensures c.if-differing-compared.true

pub returns : goal.returns
returns c = rest_holds c.requires.head c.requires.path c.first_outside_of-outside.ensures c.if-outside-h.false c.compare_path-compared.ensures c.first_difference-differing.ensures c.if-differing-compared.false
