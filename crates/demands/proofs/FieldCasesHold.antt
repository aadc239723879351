-- Document 02, (b): the cases hold. Assumes nothing.
use mathlib.Core.Path.{refl}
use Rattle.object.specs.Refusal.{require}
use Rattle.object.specs.RelocationTypes.{applied_row}
use Rattle.binder.specs.Instance.{entry_by}
use Rattle.binder.specs.Report.{undefined_by}
use Rattle.demands.specs.FieldCases.{FieldCases}

pub field_cases : FieldCases
unfolding applied_row entry_by undefined_by require
field_cases =
    record {
      direct = λ B P. refl;
      direct_wraps = λ B P. refl;
      direct_32 = λ B P. refl;
      direct_32_signed = λ B P. refl;
      less_place = λ B. refl;
      less_place_32 = λ B. refl;
      zero_64 = λ image r. refl;
      zero_32 = λ image r. refl;
      searched = λ image r base p. refl;
      searched_64 = λ image r base p. refl;
      zero_defined = λ S k image r p a. refl;
      unsigned_top = refl;
      unsigned_over = refl;
      unsigned_below = refl;
      signed_top = refl;
      signed_over = refl;
      signed_bottom = refl;
      signed_under = refl;
      place_top = refl;
      place_over = refl;
      place_bottom = refl;
      refusal_17_first = λ base r e s w. rw w;
      refusal_22 = λ r s w. rw w;
    }
