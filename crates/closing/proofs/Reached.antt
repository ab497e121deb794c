-- The exception's smallest paths: both sides of the claim are computed. Assumes nothing.
use mathlib.Core.Path.{refl}
use lib.Count.{count_leading_zeros}
use Rattle.number.specs.Root.{corrected_of, root_in, root_of, root_up_of}
use Rattle.number.specs.MulDiv.{nearest_of, rounded_of, mul_div_of}
use Rattle.plane.specs.Vectors.{same_number, same_point, from_to, cross_of, dot_of, square_of}
use Rattle.plane.specs.Directions.{part_of, component_of, direction_of, step_of, rotated_of, scaled_of}
use Rattle.turning.specs.Edges.{edge_of}
use Rattle.turning.specs.Arcs.{sweep_of, is_major, empty_of, full_of, ring_of, near_of, stops_of, turns_of, swept_of, east_of, west_of, circle_of, arc_of}
use Rattle.contacts.specs.Contacts.{centre_of, line_of, delta_of, shift_of, tangent_of, numerator_of, contact_of, side_of, trend_of, section_of, larger_of, broken_of, kind_of}
use Rattle.contacts.specs.Covering.{turn_of, inward_of, inside_of, covers_of, covered_of}
use Rattle.joins.specs.Joins.{inner_of, arc_about, start_choice, start_cap, end_choice, end_cap, along_of, bend_of, left_turns, left_join, right_turns, right_join, same_centre, gap_of, join_of}
use Rattle.variable_stroke.specs.Chains.{fresh_of, both_butt, lone_of, finish_last, finish_of, meet_last, drawn_of, break_end, break_start, leave_edges, leave_chain, leave_closing, marked_of, emitted_of, next_chain, next_last, next_closing, next_of, start_of}
use Rattle.paths.specs.Paths.{path_of, bodies_from, bodies_at, bodies_of, joined, edges_of}
use Rattle.closing.specs.Closing.{here_of, starts_at, ends_at, one_at_centre, left_stray, right_stray, stray_join, stray_meet, stray_step, stray_from, stray_of}
use Rattle.closing.specs.Exceptions.{below, left_exception, right_exception, ordinary, told_at, ExceptionReached}

pub exception_reached : ExceptionReached
unfolding count_leading_zeros corrected_of root_in root_of root_up_of nearest_of rounded_of mul_div_of same_number same_point from_to cross_of dot_of square_of part_of component_of direction_of step_of rotated_of scaled_of edge_of sweep_of is_major empty_of full_of ring_of near_of stops_of turns_of swept_of east_of west_of circle_of arc_of centre_of line_of delta_of shift_of tangent_of numerator_of contact_of side_of trend_of section_of larger_of broken_of kind_of turn_of inward_of inside_of covers_of covered_of inner_of arc_about start_choice start_cap end_choice end_cap along_of bend_of left_turns left_join right_turns right_join same_centre gap_of join_of fresh_of both_butt lone_of finish_last finish_of meet_last drawn_of break_end break_start leave_edges leave_chain leave_closing marked_of emitted_of next_chain next_last next_closing next_of start_of path_of bodies_from bodies_at bodies_of joined edges_of here_of starts_at ends_at one_at_centre left_stray right_stray stray_join stray_meet stray_step stray_from stray_of below left_exception right_exception ordinary told_at
exception_reached = refl
