-- Chains of refusals, and what a file that is not refused by its ELF header satisfies. Assumes nothing.
use mathlib.Core.Path.{◌≡◌, refl}
use mathlib.Core.Bool.{Bool, true, false}
use mathlib.Core.List.{List}
use Prim.Native.Nat.{ℕ, zero, suc, ◌≤◌}
use native.Mathlib.Omega.{arith}
use borrow.Author.Tests.{leb-true}
use lib.Dec.{leb}
use lib.ListN.{length}
use Rattle.words.specs.Refusal.{refusal_number}
use Rattle.words.specs.declared.refusal.Refusal.{Refusal}
use Rattle.words.specs.declared.refusal.Refusal.TheVariants as refusals
use Rattle.words.proofs.Choice.{both_true}
use Rattle.object.specs.Refusal.{require, after}
use Rattle.object.specs.Header.{is_shared_object, is_x86, headers_inside, header_refusal, header_count, table_end}

-- a chain that gives 0 passed its first test
pub required : (t : Bool) (n rest : ℕ) → require t (suc n) rest ≡ 0 → (t ≡ true) × (rest ≡ 0)
unfolding require
required true n rest e = (refl, e)
required false n rest e = absurd (omega arith)

-- a refusal that was met stays; where none was met, what follows decides
pub after_met : (n rest : ℕ) → (n ≡ 0 → ⊥) → after n rest ≡ n
unfolding after
after_met zero rest ne = absurd (ne refl)
after_met (suc n) rest ne = refl

pub after_none : (n rest : ℕ) → n ≡ 0 → after n rest ≡ rest
unfolding after
after_none zero rest e = refl
after_none (suc n) rest e = absurd (omega arith)

pub after_zero : (n rest : ℕ) → after n rest ≡ 0 → (n ≡ 0) × (rest ≡ 0)
unfolding after
after_zero zero rest e = (refl, e)
after_zero (suc n) rest e = absurd (omega arith)

-- two chains, one after the other, are one
pub after_twice :
    (h : ℕ) (t u : Bool) (rest : ℕ) → after (after h (require t 7 (require u 21 0))) rest ≡ after h (require t 7 (require u 21 rest))
unfolding after require
after_twice zero true true rest = refl
after_twice zero true false rest = refl
after_twice zero false u rest = refl
after_twice (suc h) t u rest = refl

-- the header table lies in the file
pub table_inside : (file : List ℕ) → header_refusal file ≡ 0 → table_end file ≤ length file
unfolding header_refusal headers_inside
table_inside file e =
    let a = required (is_shared_object file) 3 _ e in
    let b = required (is_x86 file) 4 _ a.1 in
    let c = required (headers_inside file) 5 _ b.1 in
    leb-true (table_end file) (length file) (both_true (leb (header_count file) 64) _ c.0).1

-- each refusal has a number
pub number_some : (e : Refusal) → refusal_number e ≡ 0 → ⊥
number_some refusals.Sheet h = absurd (omega (arith, h))
number_some refusals.Arena h = absurd (omega (arith, h))
number_some refusals.Duplicate h = absurd (omega (arith, h))
number_some refusals.Types h = absurd (omega (arith, h))
number_some refusals.NoSharedObject h = absurd (omega (arith, h))
number_some refusals.OtherMachine h = absurd (omega (arith, h))
number_some refusals.HeaderTable h = absurd (omega (arith, h))
number_some refusals.Segments h = absurd (omega (arith, h))
number_some refusals.Alignment h = absurd (omega (arith, h))
number_some refusals.Room h = absurd (omega (arith, h))
number_some refusals.NoDynamicArray h = absurd (omega (arith, h))
number_some refusals.NoTables h = absurd (omega (arith, h))
number_some refusals.TableSizes h = absurd (omega (arith, h))
number_some refusals.TableBytes h = absurd (omega (arith, h))
number_some refusals.Requester h = absurd (omega (arith, h))
number_some refusals.NameList h = absurd (omega (arith, h))
number_some refusals.Order h = absurd (omega (arith, h))
number_some refusals.SymbolIndex h = absurd (omega (arith, h))
number_some refusals.SymbolBytes h = absurd (omega (arith, h))
number_some refusals.Irelative h = absurd (omega (arith, h))
number_some refusals.RefusedType h = absurd (omega (arith, h))
number_some refusals.NotWritable h = absurd (omega (arith, h))
number_some refusals.CopyRange h = absurd (omega (arith, h))
number_some refusals.FieldRange h = absurd (omega (arith, h))
number_some refusals.Crossing h = absurd (omega (arith, h))
number_some refusals.Undefined h = absurd (omega (arith, h))
number_some refusals.ReportRoom h = absurd (omega (arith, h))
number_some refusals.Arrays h = absurd (omega (arith, h))
number_some refusals.ListRoom h = absurd (omega (arith, h))
