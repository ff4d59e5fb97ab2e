-- Opens every definition of the meaning at once, for the theorems that compute a run: `unfolding everything`.
use lib.Ieee.{of_bits, to_bits, to_signed, of_int, add, sub, mul, div, neg, lt}
use Rattle.laws.specs.Floats.{finite, smaller}
use Rattle.laws.specs.Columns.{column}
use Rattle.rules.specs.Number.{step, ◌>>=◌ as bindStep, number_at, times_if, power_from, power, weight, hundredths_of}
use Rattle.rules.specs.Operate.{simplified, greatest, least, assigned, added, multiplied, place, sorted, weighed, factored, applied}
use Rattle.rules.specs.Sheet.{book_of, fit_of}
use Rattle.rules.specs.Shape.{header_good, attributes_good, effects_good, type_effects_good, buff_collections_good, follows, stand_after, stand, object_good, objects_good, bases_good, buffs_good, asks_good, book_bad, fit_bad, bad_shape}
use Rattle.rules.specs.Info.{get_dogma_attribute, get_dogma_effect, get_dogma_effects, get_dbuff_collection, get_base}
use Rattle.rules.specs.Item.{effects_of}
use Rattle.rules.specs.States.{collected_states, states_of}
use Rattle.rules.specs.Collect.{test_func, test_operation, test_domain, test_projected_domain, modifier_moves, found_moves, effect_moves, own_moves, projected_modifier_moves, projected_moves, buff_modifier_moves, buff_moves, fitted_moves, moves}
use Rattle.rules.specs.Dispatch.{requires, in_location, hit, entry, hits_on, ids_of, row_of, rows, base_keys, hit_keys, full_at}
use Rattle.rules.specs.Value.{note, copies, penalised, unpenalised, contribute, resisted, gather_from, gather, marked, operate, clamped, calculate, find_row, calculated_value, value_of}
use Rattle.rules.specs.Outcome.{collected, walk_order, valued, collected_in, rows_in, world_of, run, outcome}
use Rattle.rules.specs.Columns.{collected_column, collected_value_column, row_column, base_column, value_column, entry_column, entry_value_column, plain_column, source_column, source_float_column, state_column}
use Rattle.rules.specs.Listing.{digits, natural, integer, decimals, line, lines, listing}
use Rattle.rules.specs.Fresh.{fresh_to, fresh, needs_of, needs_at}

unfoldable pub everything : Unit {0}
unfolding of_bits to_bits to_signed of_int add sub mul div neg lt finite smaller column step bindStep number_at times_if power_from power weight hundredths_of simplified greatest least assigned added multiplied place sorted weighed factored applied book_of fit_of header_good attributes_good effects_good type_effects_good buff_collections_good follows stand_after stand object_good objects_good bases_good buffs_good asks_good book_bad fit_bad bad_shape get_dogma_attribute get_dogma_effect get_dogma_effects get_dbuff_collection get_base effects_of collected_states states_of test_func test_operation test_domain test_projected_domain modifier_moves found_moves effect_moves own_moves projected_modifier_moves projected_moves buff_modifier_moves buff_moves fitted_moves moves requires in_location hit entry hits_on ids_of row_of rows base_keys hit_keys full_at note copies penalised unpenalised contribute resisted gather_from gather marked operate clamped calculate find_row calculated_value value_of collected walk_order valued collected_in rows_in world_of run outcome collected_column collected_value_column row_column base_column value_column entry_column entry_value_column plain_column source_column source_float_column state_column digits natural integer decimals line lines listing fresh_to fresh needs_of needs_at
everything = tt
