-- One turn of the runs of specs/Relocating.antt: over the entries of a table, and over the objects of an order; the ways out of a symbol's entry
-- and of an object; and what an object's turn comes to once its record is read again. Assumes nothing.
use Rattle.std.proofs.Common.{◌≡◌, ℕ, suc, ◌+◌, ◌-◌, ◌%◌, ◌^◌, ◌<◌, ◌≤◌, false, List, ◌∷◌, length, drop, sym, ap, ◌∙◌, add-one, arith, drop_of_length-le, drop-cons, le-leb, Ok, Err, Result}
use Rattle.std.specs.Prelude.{slice_index, slice_index_or}
use Rattle.std.specs.Result.{ResultUnwrapsOrElse}
use borrow.Author.Tests.{lt-leb}
use Rattle.words.specs.declared.refusal.Refusal.{Refusal}
use Rattle.words.specs.declared.refusal.Refusal.TheVariants as refusals
use Rattle.words.specs.Refusal.{refusal_number, refused_by}
use Rattle.object.specs.ProgramHeader.{loads_of, dynamic_of}
use Rattle.object.specs.RelocationTypes.{Row}
use Rattle.object.specs.Entries.{rela_at}
use Rattle.object.specs.Record.{Record, ReadBy, read_refusal, held_by}
use Rattle.object.specs.Steps.FieldsRead.{FieldsRead}
use Rattle.object.specs.declared.dynamic_fields.ObjectData.{ObjectData}
use Rattle.object.specs.declared.relocate.Rela.{Rela}
use Rattle.sheet.specs.Sheet.{Input, no_input}
use Rattle.binder.specs.Verdict.{Verdict, passed}
use Rattle.binder.specs.declared.Refused.{Refused}
use Rattle.binder.specs.declared.report.Progress.{Progress}
use Rattle.binder.specs.declared.turn.Turn.{Turn}
use Rattle.binder.specs.Steps.Relocating.{Left, left, unless_refused, image_in, again_refusal, again_record, run_action, run_table, run_at, run_order, row_at}

-- a refusal's number is not that of none
pub number_some : (r : Refusal) → refusal_number r ≡ 0 → ⊥
number_some refusals.Sheet e = omega arith
number_some refusals.Arena e = omega arith
number_some refusals.Duplicate e = omega arith
number_some refusals.Types e = omega arith
number_some refusals.NoSharedObject e = omega arith
number_some refusals.OtherMachine e = omega arith
number_some refusals.HeaderTable e = omega arith
number_some refusals.Segments e = omega arith
number_some refusals.Alignment e = omega arith
number_some refusals.Room e = omega arith
number_some refusals.NoDynamicArray e = omega arith
number_some refusals.NoTables e = omega arith
number_some refusals.TableSizes e = omega arith
number_some refusals.TableBytes e = omega arith
number_some refusals.Requester e = omega arith
number_some refusals.NameList e = omega arith
number_some refusals.Order e = omega arith
number_some refusals.SymbolIndex e = omega arith
number_some refusals.SymbolBytes e = omega arith
number_some refusals.Irelative e = omega arith
number_some refusals.RefusedType e = omega arith
number_some refusals.NotWritable e = omega arith
number_some refusals.CopyRange e = omega arith
number_some refusals.FieldRange e = omega arith
number_some refusals.Crossing e = omega arith
number_some refusals.Undefined e = omega arith
number_some refusals.ReportRoom e = omega arith
number_some refusals.Arrays e = omega arith
number_some refusals.ListRoom e = omega arith

-- ---- the entries of a table

module _ (table : List ℕ) (t : Turn) (r : Record) (at first : ℕ) where
  -- what is left of a table of `n` entries from entry `i` on
  abbrev pub entries_left : ℕ → ℕ → Progress → List ℕ → List ℕ → Left
  entries_left n i = run_table table t r at first (n - i) i

  module _ (n i : ℕ) (p : Progress) (a report : List ℕ) {met : Verdict} {q : Progress} {b noted : List ℕ} {e : Rela} {act : Row} {number : ℕ} (some : i < n)
      (he : e ≡ rela_at (image_in a t) at i) (ha : act ≡ row_at table e.rtype) (hn : number ≡ (first + i) % 2 ^ 32)
      (run : left met q b noted ≡ run_action table t r number e act p a report) {end : Left} (all : entries_left n i p a report ≡ end) where
    entry_step : entries_left n i p a report ≡ unless_refused (entries_left n (i + 1)) (left met q b noted)
    unfolding run_table
    entry_step =
        let s : n - i ≡ suc (n - (i + 1)) = omega arith in
        rw (s, ← he, ← ha, ← hn, ← run)

    -- the entry was refused
    pub entry_stops : {d : Refused} → met ≡ Err d → left met q b noted ≡ end
    entry_stops h = rw h (rw h at (sym entry_step ∙ all))

    -- it was not
    pub entry_goes : met ≡ passed → entries_left n (i + 1) q b noted ≡ end
    entry_goes h = rw h at (sym entry_step ∙ all)

  pub entries_end : (n i : ℕ) (p : Progress) (a report : List ℕ) {end : Left} → n ≤ i → entries_left n i p a report ≡ end → left passed p a report ≡ end
  unfolding run_table
  entries_end n i p a report h all =
      let s : n - i ≡ 0 = omega arith in
      rw s at all

-- ---- the objects of an order

module _ (table : List ℕ) (os : List Input) (ks : List ℕ) where
  -- what is left of the order from its place `i` on
  abbrev pub objects_left : ℕ → Progress → List ℕ → List ℕ → Left
  objects_left i = run_order table os (drop i ks)

  module _ (i : ℕ) (p : Progress) (a report : List ℕ) {met : Verdict} {q : Progress} {b noted : List ℕ} {k : ℕ} {file : List ℕ} (some : i < length ks)
      (hk : k ≡ slice_index ks i) (hf : file ≡ (slice_index_or os k no_input).file)
      (run : left met q b noted ≡ run_at table k file p a report) {end : Left} (all : objects_left i p a report ≡ end) where
    object_step : run_order table os (drop i ks) p a report ≡ unless_refused (run_order table os (drop (i + 1) ks)) (left met q b noted)
    unfolding run_order
    object_step =
        let d : drop i ks ≡ k ∷ drop (i + 1) ks = drop-cons ks i 0 some ∙ rw (hk, add-one) in
        rw (d, ← hf, ← run)

    -- the object was refused
    pub object_stops : {d : Refused} → met ≡ Err d → left met q b noted ≡ end
    object_stops h = rw h (rw h at (sym object_step ∙ all))

    -- it was not
    pub object_goes : met ≡ passed → objects_left (i + 1) q b noted ≡ end
    object_goes h = rw h at (sym object_step ∙ all)

  pub objects_end : (i : ℕ) (p : Progress) (a report : List ℕ) {end : Left} → length ks ≤ i → objects_left i p a report ≡ end → left passed p a report ≡ end
  unfolding run_order
  objects_end i p a report h all = rw (drop_of_length-le ks h) at all

-- ---- an object's turn, once its record is read again

module _ (image file : List ℕ) where
  -- more load segments than the record holds
  pub again_many : 16 < length (loads_of file) → again_refusal image file ≡ 7
  unfolding again_refusal
  again_many h = rw (lt-leb _ _ h)

  module _ (few : length (loads_of file) ≤ 16) where
    again_few : again_refusal image file ≡ read_refusal false image (loads_of file) (dynamic_of file)
    unfolding again_refusal
    again_few = rw (le-leb _ _ few)

    pub again_read : (r : Result ObjectData Refusal) → ReadBy false image (loads_of file) (dynamic_of file) r → refused_by r ≡ again_refusal image file
    again_read r read = read.refusal ∙ sym again_few

    pub again_record_lem : (o : ObjectData) → ReadBy false image (loads_of file) (dynamic_of file) (Ok o) → held_by o ≡ again_record image file
    again_record_lem o read = read.object

    -- the same of a record whose tables are not looked at again
    pub fields_refused : (e : Refusal) → FieldsRead image (loads_of file) (dynamic_of file) (Err e) → again_refusal image file ≡ 0 → ⊥
    fields_refused e read z = number_some e (sym (read false) ∙ (sym again_few ∙ z))

    pub fields_or_default :
        (r : Result ObjectData Refusal) → FieldsRead image (loads_of file) (dynamic_of file) r → (D : ObjectData → Type 0) (o : ObjectData) → ResultUnwrapsOrElse r D o
        → again_refusal image file ≡ 0 → held_by o ≡ again_record image file
    fields_or_default (Ok x) read D o is z = ap held_by is ∙ read.object
    fields_or_default (Err e) read D o is z = absurd (fields_refused e read z)
