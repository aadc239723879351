-- A set that meets none of refusals 1 to 12 and 21: its sheet, its counts, and the objects of its order. Assumes nothing.
use mathlib.Core.Path.{◌≡◌, sym, ap, ◌∙◌}
use mathlib.Core.Bool.{true}
use mathlib.Core.Logic.{⊎_elim}
use mathlib.Core.List.{List}
use Prim.Native.Nat.{ℕ, ◌+◌, ◌≤◌, ◌<◌}
use native.Mathlib.Omega.{arith}
use lib.Dec.{eqb}
use lib.ListN.{length, get_or}
use Rattle.model.specs.Order.{has}
use Rattle.model.proofs.OrderLaws.{nothing_else}
use Rattle.sheet.specs.Sheet.{Input, sheet_ok, set_of, arena_ok, duplicate_of}
use Rattle.sheet.proofs.SheetLonger.{sheet_shape}
use Rattle.binder.specs.Setting.{Setting}
use Rattle.binder.specs.Instance.{File}
use Rattle.binder.specs.Verdict.{Verdict, passed, no_file, load_verdict}
use Rattle.binder.specs.Steps.Prepared.{load_from}
use Rattle.binder.specs.SetOrder.{needed_objects, set_order}
use Rattle.binder.specs.Bind.{files_of, names_of, objects_of, unless, prepare_verdict}
use Rattle.demands.specs.LongerSet.{PassesLoading}
use Rattle.binder.proofs.LoadsSame.{loads_same}
use Rattle.binder.proofs.OutcomeLaws.{first_passed, unless_passed, sheet_verdict}
use Rattle.binder.proofs.OrderIs.{names_length}

module _ (sheet bytes : List ℕ) where
  abbrev os : List Input
  os = set_of sheet bytes

  pub record Loads (setting : Setting) (size : ℕ) : Type 0 where
    pub sheet_ok_lem : sheet_ok sheet (length bytes) ≡ true
    pub loads : load_from setting size 0 0 (files_of os) ≡ passed

  pub prepared : (setting : Setting) (size : ℕ) → PassesLoading setting sheet bytes size → Loads setting size
  unfolding prepare_verdict
  prepared setting size v =
      let b = first_passed (unless (arena_ok size setting.address) 2 0) _ v.1 in
      let c = first_passed (unless (eqb (duplicate_of os) 0) 3 (duplicate_of os)) (load_verdict (objects_of setting (files_of os)) size 0 (files_of os)) b.1 in
      record { sheet_ok_lem = v.0; loads = sym (loads_same setting size (files_of os)) ∙ c.1 }

  -- of the one verdict
  pub sheet_prepared :
      (setting : Setting) (types : Verdict) (size : ℕ) → sheet_verdict setting types sheet bytes size ≡ passed → PassesLoading setting sheet bytes size
  unfolding prepare_verdict
  sheet_prepared setting types size v =
      let a = first_passed (unless (sheet_ok sheet (length bytes)) 1 0) _ v in
      let b = first_passed (unless (arena_ok size setting.address) 2 0) _ a.1 in
      let c = first_passed types _ b.1 in
      (unless_passed (sheet_ok sheet (length bytes)) 1 0 a.0, rw b.0 c.1)

  -- its libraries have a name each, and are at most 62
  pub record Counts : Type 0 where
    pub all : length (names_of os) + 2 ≡ length os
    pub few : length (names_of os) ≤ 62

  pub counts : sheet_ok sheet (length bytes) ≡ true → Counts
  counts ok =
      let s = sheet_shape sheet bytes (length bytes) ok in
      let names : length (names_of os) ≡ length s.libs =
      ap (λ (l : List Input). length (names_of l)) s.is ∙ names_length s.host s.program s.libs in
      let every : length os ≡ length s.libs + 2 = omega (arith, ap (λ (l : List Input). length l) s.is) in
      record { all = omega arith; few = omega (arith, s.few) }

-- no object of an order is the host
pub order_objects :
    (files : List File) (names : List (List ℕ)) (k : ℕ) → has k (set_order files names) ≡ true → (1 ≤ k) × (k < length names + 2)
unfolding set_order
order_objects files names k h =
    ⊎_elim (λ (e : k ≡ 1). omega arith) (λ (b : (2 ≤ k) × (k < length names + 2)). omega arith)
    (nothing_else (λ k. needed_objects names (get_or files k no_file)) (length names) k h)
