-- The marked examples: both sides of the claim are computed. Assumes nothing.
use mathlib.Core.Path.{refl}
use lib.Count.{count_leading_zeros}
use Rattle.runs.specs.Runs.{spread}
use Rattle.number.specs.Root.{corrected_of, root_in, root_of, root_up_of}
use Rattle.number.specs.MulDiv.{nearest_of, rounded_of, mul_div_of}
use Rattle.plane.specs.Vectors.{same_number, same_point, from_to, cross_of, dot_of, square_of}
use Rattle.plane.specs.Directions.{part_of, component_of, direction_of, step_of, rotated_of, scaled_of}
use Rattle.turning.specs.Edges.{edge_numbers, edge_of}
use Rattle.turning.specs.Arcs.{sweep_of, is_major, empty_of, full_of, ring_of, near_of, stops_of, turns_of, swept_of, east_of, west_of, circle_of, arc_of}
use Rattle.contacts.specs.Limits.{allowed_of, first_outside}
use Rattle.contacts.specs.Contacts.{centre_of, line_of, delta_of, shift_of, tangent_of, numerator_of, contact_of, side_of, trend_of, section_of, larger_of, broken_of, kind_of}
use Rattle.contacts.specs.Covering.{turn_of, inward_of, inside_of, covers_of, covered_of}
use Rattle.joins.specs.Joins.{inner_of, arc_about, start_choice, start_cap, end_choice, end_cap, along_of, bend_of, left_turns, left_join, right_turns, right_join, same_centre, gap_of, join_of}
use Rattle.variable_stroke.specs.Chains.{fresh_of, both_butt, lone_of, finish_last, finish_of, meet_last, drawn_of, break_end, break_start, leave_edges, leave_chain, leave_closing, marked_of, emitted_of, next_chain, next_last, next_closing, next_of, start_of}
use Rattle.paths.specs.Paths.{path_of, bodies_from, bodies_at, bodies_of, joined, edges_of}
use Rattle.words.specs.Words.{word_of, number_of, words_of, four_bytes, bytes_of, word_from, words_in, word_at}
use Rattle.outline.specs.Layout.{edition_number, count_place, stroke_words, stroke_bytes}
use Rattle.outline.specs.Outlines.{post_words, style_words, header_of, entry_of, table_of, body_words, parts_words, outline_words, outline_bytes}
use Rattle.outline.specs.Stores.{edition_of, post_in, posts_from, posts_in, edition_in, kind_in, form_in, grade_in, count_in, length_in, radius_in, entries_in, path_in, due_in, bodies_in, same_bytes, sound_of}
use Rattle.replies.specs.Replies.{first_row, triples_row, grade_row, draw_grade_row, count_row, outside_row, empty_row, room_row, path_rows}
use Rattle.heading.specs.StoreRows.{edition_row, kind_row, least_of, misplaced_of, unfit_row, style_row_in, length_row, sound_row, store_rows}
use Rattle.replies.specs.StyleRows.{style_fault, style_row}
use Rattle.drawing.specs.Drawing.{draw_reply}
use Rattle.reading.specs.Reading.{read_reply}
use Rattle.theorems.specs.Examples.{ExamplesHold, minus, plain, stored, bytes, words, numbered, lengths, counts, edges, reading, reply, examples, further, answers_of, answers_told}

pub examples_hold : ExamplesHold
unfolding count_leading_zeros spread corrected_of root_in root_of root_up_of nearest_of rounded_of mul_div_of same_number same_point from_to cross_of dot_of square_of part_of component_of direction_of step_of rotated_of scaled_of edge_numbers edge_of sweep_of is_major empty_of full_of ring_of near_of stops_of turns_of swept_of east_of west_of circle_of arc_of allowed_of first_outside centre_of line_of delta_of shift_of tangent_of numerator_of contact_of side_of trend_of section_of larger_of broken_of kind_of turn_of inward_of inside_of covers_of covered_of inner_of arc_about start_choice start_cap end_choice end_cap along_of bend_of left_turns left_join right_turns right_join same_centre gap_of join_of fresh_of both_butt lone_of finish_last finish_of meet_last drawn_of break_end break_start leave_edges leave_chain leave_closing marked_of emitted_of next_chain next_last next_closing next_of start_of bodies_from bodies_at bodies_of joined edges_of word_of words_of four_bytes bytes_of header_of style_words entry_of table_of body_words parts_words outline_words outline_bytes path_of first_row triples_row grade_row draw_grade_row count_row outside_row empty_row room_row path_rows draw_reply number_of word_from words_in word_at edition_in kind_in form_in grade_in count_in length_in radius_in entries_in path_in due_in bodies_in same_bytes sound_of edition_row kind_row least_of unfit_row style_fault style_row style_row_in length_row sound_row store_rows read_reply minus plain stored bytes words lengths counts edges reply reading examples further answers_of answers_told edition_number count_place stroke_words stroke_bytes post_words edition_of post_in posts_from posts_in misplaced_of numbered
examples_hold = refl
