-- Document 02, (f), "Our own table of types": what a word of the types does to the entries of its type, which words 24 refuses, and that "The supplied
-- words are shown to bind every set as the fixed list did". Words in quotes are document 02's. Each case stands for one way to read the request
-- wrongly. `setting_before` is the setting of before (binder/specs/Steps/TypesBefore). Assumes nothing.
use Rattle.std.specs.Prelude.{true, false, List, ◌++◌, ◌≡◌, ℕ, ◌≤◌, ◌<◌, eqb, get_or, set, take}
use Rattle.words.specs.Choice.{pick}
use Rattle.model.specs.Objects.{pass, Objs}
use Rattle.object.specs.RelocationTypes.{applied_row, passed_over, type_word, row_in, types_ok, supplied_types}
use Rattle.object.specs.Record.{Record}
use Rattle.object.specs.declared.relocate.Rela.{Rela}
use Rattle.sheet.specs.Sheet.{Input, arena_ok}
use Rattle.binder.specs.declared.Policy.{Policy}
use Rattle.binder.specs.Setting.{setting_of}
use Rattle.binder.specs.Instance.{entry_of}
use Rattle.binder.specs.Verdict as verdicts
use Rattle.binder.specs.Verdict.{entry_refusal}
use Rattle.binder.specs.Report.{is_undefined, is_passed}
use Rattle.binder.specs.Bind.{prepare_verdict, types_verdict, bind_of}
use Rattle.binder.specs.Steps.TypesBefore.{setting_before}

-- word t of the words is of that kind
abbrev pub MarkedAs : List ℕ → ℕ → ℕ → Type 0
MarkedAs types kind rtype = (rtype < 64) × (get_or types rtype 0 ≡ type_word kind rtype)

-- the supplied words, with another word for a type
abbrev pub edited : ℕ → ℕ → List ℕ
edited rtype word = set supplied_types rtype word

pub record TypeCases : Type 0 where
  -- "kind 9 (apply)": the row of the type, whatever the other words
  pub applied : (types : List ℕ) (rtype : ℕ) → MarkedAs types 9 rtype → row_in types rtype ≡ applied_row rtype
  -- "10 (pass)": the entry writes nothing, meets no refusal, and is not undefined, whatever its symbol and its place
  pub passed_writes :
      (types image : List ℕ) (r : Record) (base : ℕ) (e : Rela) → MarkedAs types 10 e.rtype → entry_of (row_in types) image r base e ≡ pass
  pub passed_meets :
      (types : List ℕ) (S : Objs) (k : ℕ) (image : List ℕ) (r : Record) (e : Rela) → MarkedAs types 10 e.rtype
      → entry_refusal (row_in types) S k image r e ≡ 0
  pub passed_defined :
      (types : List ℕ) (S : Objs) (k : ℕ) (image : List ℕ) (r : Record) (e : Rela) → MarkedAs types 10 e.rtype
      → is_undefined (row_in types) S k image r e ≡ false
  -- it has a word of kind 7, "type 0 excepted"
  pub passed_reported : (types : List ℕ) (rtype : ℕ) → MarkedAs types 10 rtype → 1 ≤ rtype → is_passed (row_in types rtype) ≡ true
  pub zero_unreported : (types : List ℕ) → MarkedAs types 10 0 → is_passed (row_in types 0) ≡ false
  -- "11 (refuse)": "Type 37 marked refuse keeps number 16", "25, .., an entry of another type marked refuse"
  pub refused :
      (types : List ℕ) (S : Objs) (k : ℕ) (image : List ℕ) (r : Record) (e : Rela) → MarkedAs types 11 e.rtype
      → entry_refusal (row_in types) S k image r e ≡ pick (eqb e.rtype 37) 16 25
  -- "Types above 63 are passed over", whatever the words
  pub above : (types : List ℕ) (rtype : ℕ) → 64 ≤ rtype → row_in types rtype ≡ passed_over
  pub type_64 : (types : List ℕ) → row_in types 64 ≡ passed_over
  -- not 24: the supplied words; type 1 refused, 37 passed over, 6 passed over, 0 refused
  pub supplied : types_ok supplied_types ≡ true
  pub refuse_1 : types_ok (edited 1 0xB0000001) ≡ true
  pub pass_37 : types_ok (edited 37 0xA0000025) ≡ true
  pub pass_6 : types_ok (edited 6 0xA0000006) ≡ true
  pub refuse_0 : types_ok (edited 0 0xB0000000) ≡ true
  -- 24: "not 64 words, a word of another kind or type, or apply at any other type"
  pub words_63 : types_ok (take 63 supplied_types) ≡ false
  pub words_128 : types_ok (supplied_types ++ supplied_types) ≡ false
  pub kind_8 : types_ok (edited 3 0x80000003) ≡ false
  pub kind_12 : types_ok (edited 3 0xC0000003) ≡ false
  pub other_type : types_ok (edited 5 0x90000006) ≡ false
  pub type_259 : types_ok (edited 3 0xA0000103) ≡ false
  pub apply_37 : types_ok (edited 37 0x90000025) ≡ false
  pub apply_0 : types_ok (edited 0 0x90000000) ≡ false
  pub apply_3 : types_ok (edited 3 0x90000003) ≡ false
  -- "24, after 2", and before 3
  pub after_2 :
      (address : ℕ) (types : List ℕ) (os : List Input) (size : ℕ) → arena_ok size address ≡ false
      → prepare_verdict (setting_of address types) (types_verdict (setting_of address types)) os size ≡ verdicts.refused 2 0
  pub before_3 :
      (address : ℕ) (types : List ℕ) (os : List Input) (size : ℕ) → arena_ok size address ≡ true → types_ok types ≡ false
      → prepare_verdict (setting_of address types) (types_verdict (setting_of address types)) os size ≡ verdicts.refused 24 0

-- answer, arena and report of every call, refused ones too
abbrev pub SuppliedTypes : Type 0
SuppliedTypes =
    (address : ℕ) (sheet bytes : List ℕ) (size : ℕ) (policy : Policy) (words : ℕ)
    → bind_of (setting_of address supplied_types) sheet bytes size policy words ≡ bind_of (setting_before address) sheet bytes size policy words
