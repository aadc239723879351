-- One turn of a run of entries that are Symbolic whose places lie in one writable segment, and whose symbols need no further test:
-- specs/RunSteps.antt. Assumes nothing.
use Rattle.std.proofs.Common.{◌≡◌, ℕ, ◌+◌, ◌*◌, ◌%◌, ◌^◌, ◌<◌, ◌≤◌, Bool, true, false, List, sym, refl, ap, ◌∙◌, arith, eqb-true, Ok, Option, None, Some}
use Rattle.std.specs.Prelude.{◌==◌, IfSome}
use Rattle.std.proofs.lemmas.Option.{none-some, same_Some}
use borrow.Author.Tests.{eqb-false}
use Rattle.words.specs.Choice.{pick}
use Rattle.words.specs.Memory.{mem, patch}
use Rattle.words.specs.Words.{le_at, byte_of}
use Rattle.words.specs.Names.{name_at}
use Rattle.object.specs.RelocationTypes.{Calculation}
use Rattle.object.specs.Entries as entries
use Rattle.object.specs.Entries.{rela_at}
use Rattle.object.specs.Steps.Actions.{field_by, searched_by, row_by}
use Rattle.object.specs.declared.relocate.Field.{Field}
use Rattle.object.specs.declared.relocate.Field.TheVariants.{Address, Direct64, Pc64, Pc32, Direct32, Direct32S}
use Rattle.object.specs.Symbol as symbols
use Rattle.object.specs.Symbol.{symbol_at}
use Rattle.object.specs.Record.{Record, checked_symbol}
use Rattle.object.specs.TableBytes.{in_writable}
use Rattle.object.specs.Steps.WritableRange.{WritableRange}
use Rattle.object.specs.declared.symbol.Symbol.{Symbol}
use Rattle.object.specs.declared.relocate.Rela.{Rela}
use Rattle.object.specs.declared.relocate.Action.TheVariants.{Symbolic}
use Rattle.object.proofs.FineLaws.{fine_checked}
use Rattle.scope.specs.declared.scope.Hit.{Hit}
use Rattle.binder.specs.declared.report.Progress.{Progress}
use Rattle.binder.specs.declared.turn.Turn.{Turn}
use Rattle.binder.specs.declared.relocate.Symbols.{Symbols}
use Rattle.binder.specs.declared.relocate.Reached.{Reached}
use Rattle.object.specs.declared.table_bytes.Writable.{Writable}
use Rattle.binder.specs.Verdict.{passed}
use Rattle.binder.specs.declared.report.Kept.{Kept}
use Rattle.binder.specs.Steps.Relocating.{Left, left, wrote, with_report, keeps, kept_as, kept_for, image_in, written_number, field_of, sought_for, sought_or, sought_of, write_sought, run_action, row_at}
use Rattle.binder.specs.Steps.RunSteps.{EntriesPassed, SymbolsOf, EntryHere, address_found, SymbolsPassed, ManyPassed}
use Rattle.binder.proofs.RunLaws.{entries_left, entry_goes}
use Rattle.binder.proofs.RelativeLaws.{number_in}
use Rattle.binder.proofs.KeptLaws.{kept_then, kept_symbols, entry_kept}

pub kept_eq : (k : Kept) (i a : ℕ) → k.symbol ≡ i → a ≡ k.address → kept_as i a ≡ Some k
kept_eq k i a e f = rw (← e, f) refl

-- the kept address is that of the kept symbol
pub kept_found : (kept : Option Kept) (k : Kept) (i : ℕ) (x : Option Hit) → kept ≡ Some k → i ≡ k.symbol → Some k.address ≡ address_found (kept_for kept i) x
kept_found kept k i x is h = rw is (known (k.symbol == i) refl)
  where
    known : (c : Bool) → (k.symbol == i) ≡ c → Some k.address ≡ address_found (pick c (Some k.address) None) x
    known true e = refl
    known false e = absurd (eqb-false k.symbol i e (sym h))

-- a field of eight bytes holds every number
wide_fits : (f : Field) (v : ℕ) → (field_by f).width ≡ 8 → (field_by f).fits v ≡ true
wide_fits Address v e = refl
wide_fits Direct64 v e = refl
wide_fits Pc64 v e = refl
wide_fits Pc32 v e = absurd (omega arith)
wide_fits Direct32 v e = absurd (omega arith)
wide_fits Direct32S v e = absurd (omega arith)

-- entry `s.next`, which stands at `k` of the arena, is Symbolic with a field of eight bytes, its place is in low .. high, its symbol needs no
-- test and has the address `found`, by which the field was written
module _
    (table : List ℕ)
    (t : Turn)
    (y : Symbols)
    (at n low high : ℕ)
    (s : Reached)
    (a : List ℕ)
    {k place index name addend found : ℕ}
    {field : Field}
    {b : List ℕ}
    (some : s.next < n)
    (fits : at + 24 * n ≤ t.span)
    (inside : y.symbols + 24 * y.fits ≤ t.span)
    (stands : k ≡ t.offset + at + 24 * s.next)
    (here : EntryHere table a t y k low high field place index name addend)
    (found_is : Some found ≡ address_found (kept_for s.kept index) (sought_for table t a (name_at (image_in a t) (y.strings + name))))
    (written : b ≡ patch a (t.offset + place) 8 (byte_of ((field_by field).value found addend t.base (t.base + place))))
  where
    abbrev e : Rela
    e = rela_at (image_in a t) at s.next

    rtype_here : e.rtype ≡ le_at 4 (mem a) (k + 8)
    unfolding entries.rela_at
    rtype_here = number_in t a 4 (at + (24 * s.next + 8)) (k + 8) (omega arith) (omega arith) refl

    place_here : e.place ≡ place
    unfolding entries.rela_at
    place_here = number_in t a 8 (at + 24 * s.next) k (omega arith) (omega arith) here.place_is

    index_here : e.symbol ≡ index
    unfolding entries.rela_at
    index_here = number_in t a 4 (at + (24 * s.next + 12)) (k + 12) (omega arith) (omega arith) here.index_is

    addend_here : e.addend ≡ addend
    unfolding entries.rela_at
    addend_here = number_in t a 8 (at + (24 * s.next + 16)) (k + 16) (omega arith) (omega arith) here.addend_is

    abbrev calculation : Calculation
    calculation = field_by field

    acts : row_by (Symbolic field) ≡ row_at table e.rtype
    acts = sym (ap (row_at table) rtype_here ∙ here.acts)

    module _ (r : Record) (of : SymbolsOf t r y a) where
      abbrev y_here : Symbol
      y_here = symbol_at (image_in a t) r.symbols e.symbol

      name_here : y_here.name ≡ name
      unfolding symbols.symbol_from
      name_here =
          rw (of.symbols, index_here)
          (number_in t a 4 (y.symbols + 24 * index + 0) (t.offset + y.symbols + 24 * index) (omega (arith, here.few)) (omega arith) here.name_is)

      checked : checked_symbol (image_in a t) r e.symbol ≡ Ok y_here
      checked = fine_checked (image_in a t) r y.fits y.ends of.fine e.symbol (omega (arith, index_here, here.few)) (omega (arith, name_here, here.named))

      module _ (p : Progress) (report : List ℕ) (i : ℕ) where
        abbrev q : Progress
        q = keeps s.kept p

        -- the write by the address that was found
        field_here : (v : ℕ) → found ≡ v → wrote passed b ≡ field_of t e calculation v a
        unfolding field_of
        field_here v h = rw (wide_fits field (written_number t e calculation v) here.wide, written, here.wide, place_here, addend_here, h)

        -- the search found it
        searched : (x : Option Hit) → Some found ≡ address_found None x
            → left passed (keeps (kept_as e.symbol found) p) b report ≡ write_sought t e calculation i (Ok (sought_or None y_here x)) q a report
        unfolding write_sought
        searched None h = absurd (none-some found (sym h))
        searched (Some hit) h =
            let same = same_Some found hit.address h in
            rw same (ap (with_report (keeps (kept_as e.symbol hit.address) p) report) (field_here hit.address same))

        -- or it was kept
        answered : (kept : Option Kept) → s.kept ≡ kept → (x : Option Hit) → Some found ≡ address_found (kept_for kept e.symbol) x
            → left passed (keeps (kept_as e.symbol found) p) b report ≡ write_sought t e calculation i (Ok (sought_or (kept_for kept e.symbol) y_here x)) q a report
        unfolding write_sought
        answered None is x h = searched x h
        answered (Some k) is x h = known (k.symbol == e.symbol) refl h
          where
            known : (c : Bool) → (k.symbol == e.symbol) ≡ c → Some found ≡ address_found (pick c (Some k.address) None) x
                → left passed (keeps (kept_as e.symbol found) p) b report ≡ write_sought t e calculation i (Ok (sought_or (pick c (Some k.address) None) y_here x)) q a report
            known true same h =
                let there = same_Some found k.address h in
                rw (kept_eq k e.symbol found (eqb-true k.symbol e.symbol same) there, ← is) (ap (with_report q report) (field_here k.address there))
            known false same h = searched x h

        ran : WritableRange r.segments low high → left passed (keeps (kept_as index found) p) b report ≡ run_action table t r i e (row_by (Symbolic field)) q a report
        unfolding run_action sought_of
        ran wr =
            let w : in_writable r.segments e.place calculation.width ≡ true = rw (here.wide, place_here) (wr place 8 here.above here.below (omega arith)) in
            let z : searched_by field e.symbol ≡ true = rw index_here here.searched in
            let g : Some found ≡ address_found (kept_for s.kept e.symbol) (sought_for table t a (name_at (image_in a t) (r.strings + y_here.name))) =
            rw (name_here, of.strings, index_here) found_is in
            rw (checked, w, z, ← index_here)
            (answered s.kept refl (sought_for table t a (name_at (image_in a t) (r.strings + y_here.name))) g)

    pub symbolic_turn :
        (s₀ : Reached) (a₀ : List ℕ) → SymbolsPassed table t y at n low high s₀ a₀ s a
        → SymbolsPassed table t y at n low high s₀ a₀ (record { next = s.next + 1; kept = kept_as index found }) b
    symbolic_turn s₀ a₀ before r first p report wr of =
        let so_far = before r first p report wr of in
        let so = kept_symbols t r y a₀ a so_far.1 of in
        let i : ℕ = (first + s.next) % 2 ^ 32 in
        let run = ran r so p report i wr in (
          entry_goes table t r at first n s.next (keeps s.kept p) a report {met = passed} {b = b} {noted = report} some refl acts refl run so_far.0 refl,
          kept_then t r a₀ a b so_far.1
              (entry_kept t r table i e (keeps s.kept p) a report (row_by (Symbolic field)) passed (keeps (kept_as index found) p) b report run),
        )

-- two runs of entries that are Symbolic, one after the other
pub symbols_passed :
    (table : List ℕ) (t : Turn) (y : Symbols) (at n low high : ℕ) (a b c : List ℕ) (s s' s'' : Reached)
    → SymbolsPassed table t y at n low high s a s' b → SymbolsPassed table t y at n low high s' b s'' c → SymbolsPassed table t y at n low high s a s'' c
symbols_passed table t y at n low high a b c s s' s'' one two r first p report wr of =
    let x = one r first p report wr of in
    let z = two r first p report wr (kept_symbols t r y a b x.1 of) in
    (z.0 ∙ x.0, kept_then t r a b c x.1 z.1)

-- a run of entries that are Relative, then one of entries that are Symbolic
pub many_passed :
    (table : List ℕ) (t : Turn) (y : Symbols) (at n : ℕ) (w : Writable) (a b c : List ℕ) (s : Reached) (j : ℕ) (s' : Reached)
    → EntriesPassed table t at n w.low w.high s.next a j b
    → SymbolsPassed table t y at n w.low w.high (record { next = j; kept = s.kept }) b s' c
    → ManyPassed table t y at n (Some w) s a s' c
many_passed table t y at n w a b c s j s' one two r first p report wr of =
    let x = one r first (keeps s.kept p) report wr in
    let z = two r first p report wr (kept_symbols t r y a b x.1 of) in
    (z.0 ∙ x.0, kept_then t r a b c x.1 z.1)

-- what such a run leaves of a table
pub runs_passed :
    (table : List ℕ) (t : Turn) (r : Record) (y : Symbols) (at first n : ℕ) (w : Option Writable) (q : Progress) (a b report : List ℕ) (i : ℕ) (s : Reached)
    {end : Left} → ManyPassed table t y at n w (record { next = i; kept = q.kept }) a s b
    → IfSome w (λ w. WritableRange r.segments w.low w.high) → SymbolsOf t r y a
    → entries_left table t r at first n i q a report ≡ end
    → (entries_left table t r at first n s.next (keeps s.kept q) b report ≡ end) × SymbolsOf t r y b
runs_passed table t r y at first n w q a b report i s many wr of all =
    let x = many r first q report wr of in
    (x.0 ∙ all, kept_symbols t r y a b x.1 of)
