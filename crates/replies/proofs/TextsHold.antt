-- The worked texts.
use Rattle.std.proofs.Common.{refl}
use Rattle.writing.specs.Decimals.{decimal}
use Rattle.replies.specs.Rows.{row}
use Rattle.replies.specs.Worked.{WorkedTexts}

pub texts_hold : WorkedTexts
unfolding row decimal
texts_hold = record {
  held_row = refl;
  pop_up_row = refl;
  planned_row = refl;
  airport_list = refl;
  area_list = refl;
  acceptance = refl;
  one_error = refl;
  more_errors = refl;
  faulty_line = refl;
}
