-- Document 02, (b), "Data tables with symbol addresses": cases of types 1, 24, 2, 10 and 11, with numbers of the x86-64 psABI's calculations ("Relocation
-- Types": S + A, S + A - P). Words in quotes are document 02's. Each stands for one way to read the request wrongly. Assumes nothing.
use Rattle.std.specs.Prelude.{Bool, true, false, List, ◌≡◌, ℕ, ◌+◌, ◌-◌, ◌^◌}
use Rattle.model.specs.Objects.{fixed, symbol, Objs}
use Rattle.object.specs.RelocationTypes.{Calculation, Row, ignored, passed_over, turned_away, marked_refuse, copies, writes, word64, applied_row}
use Rattle.object.specs.TableBytes.{in_writable}
use Rattle.object.specs.Record.{Record}
use Rattle.object.specs.declared.relocate.Rela.{Rela}
use Rattle.binder.specs.Instance.{entry_of, wanted_by}
use Rattle.binder.specs.Verdict.{field_refusal}
use Rattle.binder.specs.Report.{is_undefined}

-- an entry with a place, a type, a symbol and an addend
abbrev pub entry : ℕ → ℕ → ℕ → ℕ → Rela
entry p rtype s a = record { place = p; rtype = rtype; symbol = s; addend = a }

-- what a row writes, for those that write
abbrev pub calculation_of : Row → Calculation
calculation_of (writes sought f) = f
calculation_of ignored = word64 (λ S A B P. 0)
calculation_of passed_over = word64 (λ S A B P. 0)
calculation_of turned_away = word64 (λ S A B P. 0)
calculation_of marked_refuse = word64 (λ S A B P. 0)
calculation_of copies = word64 (λ S A B P. 0)

abbrev pub value_at : ℕ → (S A B P : ℕ) → ℕ
value_at rtype = (calculation_of (applied_row rtype)).value

abbrev pub fits_at : ℕ → ℕ → Bool
fits_at rtype v = (calculation_of (applied_row rtype)).fits v

pub record FieldCases : Type 0 where
  -- "1 (S + A, 64 bits)", 10 and 11 (S + A); "Sums wrap at 64 bits"; whatever base and place
  pub direct : (B P : ℕ) → value_at 1 0x10003010 16 B P ≡ 0x10003020
  pub direct_wraps : (B P : ℕ) → value_at 1 (2 ^ 64 - 8) 16 B P ≡ 8
  pub direct_32 : (B P : ℕ) → value_at 10 (2 ^ 64 - 8) 16 B P ≡ 8
  pub direct_32_signed : (B P : ℕ) → value_at 11 (2 ^ 64 - 8) 16 B P ≡ 8
  -- "24 (S + A - P, 64 bits)", "2 (S + A - P, signed 32)", "P the place": its address; whatever base
  pub less_place : (B : ℕ) → value_at 24 0x10003010 8 B 0x10002000 ≡ 0x1018
  pub less_place_32 : (B : ℕ) → value_at 2 0x10003010 8 B 0x10002000 ≡ 0x1018
  -- "symbol 0 gives S = 0 without a search": the entry is fixed; P is base + place; a result of 64 bits has 8 bytes, one of 32 bits 4
  pub zero_64 :
      (image : List ℕ) (r : Record) → entry_of applied_row image r 0x10001000 (entry 0x1000 24 0 0) ≡ fixed 0x1000 8 0xFFFFFFFFEFFFE000
  pub zero_32 : (image : List ℕ) (r : Record) → entry_of applied_row image r 0x10001000 (entry 0x1000 11 0 (2 ^ 64 - 2)) ≡ fixed 0x1000 4 (2 ^ 64 - 2)
  -- "S found as for type 6": any other symbol is searched
  pub searched :
      (image : List ℕ) (r : Record) (base p : ℕ)
      → entry_of applied_row image r base (entry p 6 3 5) ≡ symbol p 8 (wanted_by image r 3) (λ S. S)
  pub searched_64 :
      (image : List ℕ) (r : Record) (base p : ℕ)
      → entry_of applied_row image r base (entry p 1 3 5) ≡ symbol p 8 (wanted_by image r 3) (λ S. value_at 1 S 5 base (base + p))
  -- symbol 0 "is not undefined"
  pub zero_defined : (S : Objs) (k : ℕ) (image : List ℕ) (r : Record) (p a : ℕ) → is_undefined applied_row S k image r (entry p 1 0 a) ≡ false
  -- "a 32-bit result must be that sum, read as unsigned for type 10 and as signed for 2 and 11"
  pub unsigned_top : fits_at 10 0xFFFFFFFF ≡ true
  pub unsigned_over : fits_at 10 0x100000000 ≡ false
  pub unsigned_below : fits_at 10 (2 ^ 64 - 1) ≡ false
  pub signed_top : fits_at 11 0x7FFFFFFF ≡ true
  pub signed_over : fits_at 11 0x80000000 ≡ false
  pub signed_bottom : fits_at 11 (2 ^ 64 - 2 ^ 31) ≡ true
  pub signed_under : fits_at 11 (2 ^ 64 - 2 ^ 31 - 1) ≡ false
  pub place_top : fits_at 2 0x7FFFFFFF ≡ true
  pub place_over : fits_at 2 0xFFFFFFFF ≡ false
  pub place_bottom : fits_at 2 (2 ^ 64 - 2 ^ 31) ≡ true
  -- "22, after 17"
  pub refusal_17_first :
      (base : ℕ) (r : Record) (e : Rela) (s : ℕ) → in_writable r.segments e.place 4 ≡ false
      → field_refusal base r e (calculation_of (applied_row 10)) s ≡ 17
  pub refusal_22 :
      (r : Record) (s : ℕ) → in_writable r.segments 0x1000 4 ≡ true
      → field_refusal 0x10001000 r (entry 0x1000 10 0 (2 ^ 64 - 1)) (calculation_of (applied_row 10)) 0 ≡ 22
