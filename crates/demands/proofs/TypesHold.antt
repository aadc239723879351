-- Document 02, (f): what the words of the types do, which are refused, and that the supplied ones stand for the list of before. Assumes nothing.
use mathlib.Core.Path.{◌≡◌, refl, sym, ap, subst, ◌∙◌, fun_ext}
use mathlib.Core.Bool.{Bool, true, false}
use mathlib.Core.Logic.{⊎_elim}
use mathlib.Core.List.{List}
use Prim.Native.Nat.{ℕ, ◌≤◌, ◌<◌}
use native.Mathlib.Omega.{arith}
use native.Mathlib.Decide.{dec_lt}
use borrow.Author.Tests.{eqb-true, eq-eqb, ne_eqb, lt-ltb, le-ltb}
use lib.Dec.{eqb}
use lib.ListN.{get_or}
use Rattle.words.specs.Choice.{pick, some}
use Rattle.words.specs.Memory.{mem, tab}
use Rattle.words.proofs.Slices.{mem_tab}
use Rattle.model.specs.Objects.{pass, Objs}
use Rattle.model.proofs.OrderLaws.{decide}
use Rattle.object.specs.RelocationTypes.{Row, passed_over, ignored, turned_away, marked_refuse, applied_row, may_apply, type_word, row_under, row_in, words_ok, types_ok, supplied_word, supplied_types}
use Rattle.object.specs.Record.{Record}
use Rattle.object.specs.declared.relocate.Rela.{Rela}
use Rattle.binder.specs.Setting.{Setting, setting_of}
use Rattle.binder.specs.Instance.{entry_by}
use Rattle.binder.specs.Verdict.{refusal_by}
use Rattle.binder.specs.Report.{undefined_by}
use Rattle.binder.specs.Bind.{bind_of, unless, prepare_verdict}
use Rattle.binder.specs.Steps.TypesBefore.{row_before, setting_before}
use Rattle.demands.specs.TypeCases.{MarkedAs, TypeCases, SuppliedTypes}

-- ---- what a word does

module _ (types : List ℕ) (rtype : ℕ) where
  applies : MarkedAs types 9 rtype → row_in types rtype ≡ applied_row rtype
  unfolding row_in row_under
  applies m = rw (lt-ltb rtype 64 m.0, eq-eqb _ _ m.1)

  passes : MarkedAs types 10 rtype → row_in types rtype ≡ pick (eqb rtype 0) ignored passed_over
  unfolding row_in row_under
  passes m =
      let not_9 : get_or types rtype 0 ≡ type_word 9 rtype → ⊥ = λ e. omega (arith, m.1) in
      rw (lt-ltb rtype 64 m.0, ne_eqb _ _ not_9, eq-eqb _ _ m.1)

  refuses : MarkedAs types 11 rtype → row_in types rtype ≡ pick (eqb rtype 37) turned_away marked_refuse
  unfolding row_in row_under
  refuses m =
      let not_9 : get_or types rtype 0 ≡ type_word 9 rtype → ⊥ = λ e. omega (arith, m.1) in
      let not_10 : get_or types rtype 0 ≡ type_word 10 rtype → ⊥ = λ e. omega (arith, m.1) in
      rw (lt-ltb rtype 64 m.0, ne_eqb _ _ not_9, ne_eqb _ _ not_10)

  over : 64 ≤ rtype → row_in types rtype ≡ passed_over
  unfolding row_in row_under
  over l = rw (le-ltb rtype 64 l)

pub supplied_ok : types_ok supplied_types ≡ true
unfolding types_ok words_ok supplied_types may_apply some tab
supplied_ok = refl

-- of an entry that is passed, whether or not its type is 0
module _ (image : List ℕ) (r : Record) (e : Rela) where
  writes_none : (base : ℕ) (zero : Bool) → entry_by image r base e (pick zero ignored passed_over) ≡ pass
  unfolding entry_by
  writes_none base true = refl
  writes_none base false = refl

  meets_none : (S : Objs) (k : ℕ) (zero : Bool) → refusal_by S k image r e (pick zero ignored passed_over) ≡ 0
  unfolding refusal_by
  meets_none S k true = refl
  meets_none S k false = refl

  defined : (S : Objs) (k : ℕ) (zero : Bool) → undefined_by S k image r e (pick zero ignored passed_over) ≡ false
  unfolding undefined_by
  defined S k true = refl
  defined S k false = refl

  -- of one that is refused
  meets : (S : Objs) (k : ℕ) (irelative : Bool) → refusal_by S k image r e (pick irelative turned_away marked_refuse) ≡ pick irelative 16 25
  unfolding refusal_by
  meets S k true = refl
  meets S k false = refl

pub type_cases : TypeCases
unfolding types_ok words_ok supplied_types may_apply some tab prepare_verdict unless
type_cases =
    record {
      applied = applies;
      passed_writes = λ types image r base e m. rw (passes types e.rtype m) (writes_none image r e base (eqb e.rtype 0));
      passed_meets = λ types S k image r e m. rw (passes types e.rtype m) (meets_none image r e S k (eqb e.rtype 0));
      passed_defined = λ types S k image r e m. rw (passes types e.rtype m) (defined image r e S k (eqb e.rtype 0));
      passed_reported = λ types rtype m l. rw (passes types rtype m, ne_eqb rtype 0 (λ e. omega arith));
      zero_unreported = λ types m. rw (passes types 0 m);
      refused = λ types S k image r e m. rw (refuses types e.rtype m) (meets image r e S k (eqb e.rtype 37));
      above = over;
      type_64 = λ types. over types 64 (omega arith);
      supplied = refl;
      refuse_1 = refl;
      pass_37 = refl;
      pass_6 = refl;
      refuse_0 = refl;
      words_63 = refl;
      words_128 = refl;
      kind_8 = refl;
      kind_12 = refl;
      other_type = refl;
      type_259 = refl;
      apply_37 = refl;
      apply_0 = refl;
      apply_3 = refl;
      after_2 = λ address types os size a. rw a;
      before_3 = λ address types os size a t. rw (a, t);
    }

-- ---- the supplied words, and the list of before

-- of a type that the list names, by its number
at : (n rtype : ℕ) → row_in supplied_types n ≡ row_before n → eqb rtype n ≡ true → row_in supplied_types rtype ≡ row_before rtype
at n rtype e t = subst (λ (i : ℕ). row_in supplied_types i ≡ row_before i) (sym (eqb-true rtype n t)) e

word_is : (rtype : ℕ) → rtype < 64 → get_or supplied_types rtype 0 ≡ supplied_word rtype
unfolding supplied_types mem
word_is rtype l = mem_tab 64 supplied_word rtype l

row_0 : row_in supplied_types 0 ≡ row_before 0
unfolding row_in row_under row_before applied_row supplied_types may_apply some tab
row_0 = refl

row_1 : row_in supplied_types 1 ≡ row_before 1
unfolding row_in row_under row_before applied_row supplied_types may_apply some tab
row_1 = refl

row_2 : row_in supplied_types 2 ≡ row_before 2
unfolding row_in row_under row_before applied_row supplied_types may_apply some tab
row_2 = refl

row_5 : row_in supplied_types 5 ≡ row_before 5
unfolding row_in row_under row_before applied_row supplied_types may_apply some tab
row_5 = refl

row_6 : row_in supplied_types 6 ≡ row_before 6
unfolding row_in row_under row_before applied_row supplied_types may_apply some tab
row_6 = refl

row_7 : row_in supplied_types 7 ≡ row_before 7
unfolding row_in row_under row_before applied_row supplied_types may_apply some tab
row_7 = refl

row_8 : row_in supplied_types 8 ≡ row_before 8
unfolding row_in row_under row_before applied_row supplied_types may_apply some tab
row_8 = refl

row_10 : row_in supplied_types 10 ≡ row_before 10
unfolding row_in row_under row_before applied_row supplied_types may_apply some tab
row_10 = refl

row_11 : row_in supplied_types 11 ≡ row_before 11
unfolding row_in row_under row_before applied_row supplied_types may_apply some tab
row_11 = refl

row_24 : row_in supplied_types 24 ≡ row_before 24
unfolding row_in row_under row_before applied_row supplied_types may_apply some tab
row_24 = refl

row_37 : row_in supplied_types 37 ≡ row_before 37
unfolding row_in row_under row_before applied_row supplied_types may_apply some tab
row_37 = refl

-- a type that it does not name
module _ (rtype : ℕ)
    (no_0 : eqb rtype 0 ≡ false)
    (no_1 : eqb rtype 1 ≡ false)
    (no_2 : eqb rtype 2 ≡ false)
    (no_5 : eqb rtype 5 ≡ false)
    (no_6 : eqb rtype 6 ≡ false)
    (no_7 : eqb rtype 7 ≡ false)
    (no_8 : eqb rtype 8 ≡ false)
    (no_10 : eqb rtype 10 ≡ false)
    (no_11 : eqb rtype 11 ≡ false)
    (no_24 : eqb rtype 24 ≡ false)
    (no_37 : eqb rtype 37 ≡ false)
  where
    before_none : row_before rtype ≡ passed_over
    unfolding row_before
    before_none = rw (no_0, no_1, no_2, no_5, no_6, no_7, no_8, no_10, no_11, no_24, no_37)

    supplied_none : supplied_word rtype ≡ type_word 10 rtype
    unfolding may_apply some
    supplied_none = rw (no_1, no_2, no_5, no_6, no_7, no_8, no_10, no_11, no_24, no_37)

    row_none : row_in supplied_types rtype ≡ row_before rtype
    row_none = go (dec_lt rtype 64) ∙ sym before_none
      where
        go : Dec (rtype < 64) → row_in supplied_types rtype ≡ passed_over
        go (yes l) = passes supplied_types rtype (l, word_is rtype l ∙ supplied_none) ∙ rw no_0
        go (no l) = over supplied_types rtype (omega arith)

row_same : (rtype : ℕ) → row_in supplied_types rtype ≡ row_before rtype
row_same rtype =
    ⊎_elim (λ (t : eqb rtype 0 ≡ true). at 0 rtype row_0 t) (λ (no_0 : eqb rtype 0 ≡ false).
    ⊎_elim (λ (t : eqb rtype 1 ≡ true). at 1 rtype row_1 t) (λ (no_1 : eqb rtype 1 ≡ false).
    ⊎_elim (λ (t : eqb rtype 2 ≡ true). at 2 rtype row_2 t) (λ (no_2 : eqb rtype 2 ≡ false).
    ⊎_elim (λ (t : eqb rtype 5 ≡ true). at 5 rtype row_5 t) (λ (no_5 : eqb rtype 5 ≡ false).
    ⊎_elim (λ (t : eqb rtype 6 ≡ true). at 6 rtype row_6 t) (λ (no_6 : eqb rtype 6 ≡ false).
    ⊎_elim (λ (t : eqb rtype 7 ≡ true). at 7 rtype row_7 t) (λ (no_7 : eqb rtype 7 ≡ false).
    ⊎_elim (λ (t : eqb rtype 8 ≡ true). at 8 rtype row_8 t) (λ (no_8 : eqb rtype 8 ≡ false).
    ⊎_elim (λ (t : eqb rtype 10 ≡ true). at 10 rtype row_10 t) (λ (no_10 : eqb rtype 10 ≡ false).
    ⊎_elim (λ (t : eqb rtype 11 ≡ true). at 11 rtype row_11 t) (λ (no_11 : eqb rtype 11 ≡ false).
    ⊎_elim (λ (t : eqb rtype 24 ≡ true). at 24 rtype row_24 t) (λ (no_24 : eqb rtype 24 ≡ false).
    ⊎_elim (λ (t : eqb rtype 37 ≡ true). at 37 rtype row_37 t) (λ (no_37 : eqb rtype 37 ≡ false).
    row_none rtype no_0 no_1 no_2 no_5 no_6 no_7 no_8 no_10 no_11 no_24 no_37)
    (decide (eqb rtype 37)))
    (decide (eqb rtype 24)))
    (decide (eqb rtype 11)))
    (decide (eqb rtype 10)))
    (decide (eqb rtype 8)))
    (decide (eqb rtype 7)))
    (decide (eqb rtype 6)))
    (decide (eqb rtype 5)))
    (decide (eqb rtype 2)))
    (decide (eqb rtype 1)))
    (decide (eqb rtype 0))

setting_same : (address : ℕ) → setting_of address supplied_types ≡ setting_before address
setting_same address =
    ap (set (types_ok supplied_types)) (fun_ext row_same) ∙ ap (λ (b : Bool). set b row_before) supplied_ok
  where
    set : Bool → (ℕ → Row) → Setting
    set b row = record { address = address; row = row; typed = b }

pub supplied_types_lem : SuppliedTypes
supplied_types_lem address sheet bytes size policy words = ap (λ (s : Setting). bind_of s sheet bytes size policy words) (setting_same address)
