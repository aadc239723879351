-- Document 02, (h): the cases hold. Assumes nothing.
use mathlib.Core.Path.{◌≡◌, refl}
use Prim.Native.Nat.{min}
use native.Mathlib.Omega.{arith}
use Rattle.words.specs.Choice.{some}
use Rattle.binder.specs.Copies.{meets, crosses, crosses_one, copy_found, copy_by}
use Rattle.binder.specs.Verdict.{verdict, entries_verdict}
use Rattle.demands.specs.CopyCases.{CopyCases}

pub copy_cases : CopyCases
unfolding meets crosses crosses_one some copy_found copy_by verdict entries_verdict
copy_cases =
    record {
      same_place = refl;
      last_byte = refl;
      behind = refl;
      before = refl;
      same_source = refl;
      source_copied = refl;
      source_written = refl;
      own_empty = λ S k p d a s. let none : min 0 s.size ≡ 0 = omega arith in rw none;
      found_nowhere = λ S k p size. refl;
      passed_over = λ S k image r e. refl;
      refusal_18_first = λ row S k image r earlier e es h. rw h;
      refusal_28 = λ row S k image r e es z c. rw (z, c);
    }
