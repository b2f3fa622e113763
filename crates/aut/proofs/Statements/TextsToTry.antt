-- Texts worked through, by computing.
use mathlib.Core.Path.{refl}
use Rattle.text.specs.Comparing.{same_text}
use Rattle.text.specs.Numerals.{decimal_from}
use Rattle.aut.specs.Scanning.{take_while, drop_while, after_line, line_of, after_first_line, first_line_of, readable_from, lines_from, text_readable}
use Rattle.aut.specs.Reading.{reading_of}
use Rattle.aut.specs.Plans.{label_number, labels_from, insert, merged_into, transition_bytes, body_of}
use Rattle.aut.specs.Converting.{states_below, converted_of, output_after}
use Rattle.aut.specs.TextsToTry.{TextsToTry}

pub texts_to_try : TextsToTry
unfolding same_text decimal_from take_while drop_while after_line line_of after_first_line first_line_of readable_from lines_from text_readable reading_of label_number labels_from insert merged_into transition_bytes body_of states_below converted_of output_after
texts_to_try =
    record {
      empty = refl;
      no_states = refl;
      small_reported = refl;
      small_left = refl;
      below_large = refl;
      is_large = refl;
      wraps = refl;
    }
