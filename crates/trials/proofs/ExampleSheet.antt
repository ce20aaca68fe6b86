-- The example sheet of document 01 comes out of the definitions by computation.
use mathlib.Core.Path.{◌≡◌, refl}
use Rattle.view.specs.View.{block_record, in_order, position_of, view_ok}
use Rattle.line.specs.Sound.{sound}
use Rattle.waitlist.specs.NextLane.{first_raised, next_lane}
use Rattle.event.specs.BigEndian.{big_endian, number_of}
use Rattle.event.specs.Event.{fields_in}
use Rattle.event.specs.ReadWrite.{read_at}
use Rattle.steps.specs.Effects.{started}
use Rattle.steps.specs.Step.{step_by}
use Rattle.printout.specs.Run.{run, run_on}
use Rattle.printout.specs.Print.{answer_lines, answer_words, decimal_in, hex_in, linebook, words}
use Rattle.trials.specs.ExampleSheet.{example_print, example_sheet}

pub example_sheet_lem : linebook example_sheet ≡ example_print
unfolding block_record in_order position_of view_ok sound first_raised next_lane big_endian number_of fields_in started step_by read_at run run_on answer_lines answer_words decimal_in hex_in linebook words
example_sheet_lem = refl
