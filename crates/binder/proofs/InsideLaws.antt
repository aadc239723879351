-- What refusals 17 and 18 leave of an object: its words, its entries' places and a COPY's source lie inside spans. Assumes nothing.
use Rattle.std.specs.Prelude.{Option, None, Some}
use Rattle.std.proofs.Common.{◌≡◌, ℕ, ◌+◌, ◌*◌, ◌≤◌, min, Bool, true, false, not, eqb, leb, List, [], ◌∷◌, map, sym, refl, ap, subst, ⊎_elim, true≢false, arith, ne_eqb, leb-true, Err, Ok}
use mathlib.Core.List.Memᴰ
use mathlib.Core.List.{Memᴰ}
use Rattle.words.specs.Choice.{pick, both, some}
use Rattle.words.specs.Choice as choice
use Rattle.words.specs.Memory.{mem}
use Rattle.words.specs.Words.{le_at}
use Rattle.words.specs.Names.{name_at}
use Rattle.words.proofs.Choice.{both_true, either_true}
use Rattle.words.proofs.Page.{end_near}
use Rattle.model.specs.Symbols.{Resolved, absent, answer}
use Rattle.model.specs.Objects.{Entry, fixed, symbol, Objs, obj}
use Rattle.model.specs.Scope.{resolve, resolve_copy}
use Rattle.model.specs.Relocation.{address_or0}
use Rattle.model.specs.Sound.{InsideCopy, Inside}
use Rattle.words.specs.declared.refusal.Refusal.TheVariants as refusals
use Rattle.object.specs.Segments.{end_of}
use Rattle.object.specs.Segments as segments
use Rattle.object.specs.ProgramHeader.{loads_of, dynamic_of}
use Rattle.object.specs.TableBytes.{is_writable, holds_range, in_writable}
use Rattle.object.specs.TableBytes as tables
use Rattle.object.specs.Symbol.{symbol_at, symbol_name}
use Rattle.object.specs.Symbol as symbol-specs
use Rattle.object.specs.Entries.{Word, place, nowhere}
use Rattle.object.specs.HashCheck.{symbol_ok}
use Rattle.object.specs.Record.{Record, index_ok, is_table_of, checked_symbol, name_of}
use Rattle.object.specs.Record as records
use Rattle.object.specs.Placed.{object_span, segments_of, object_image}
use Rattle.object.specs.Placed as placing
use Rattle.object.specs.Loaded.{object_record}
use Rattle.object.specs.Loaded as loading
use Rattle.object.specs.declared.symbol.Symbol.{Symbol}
use Rattle.object.specs.declared.relocate.Rela.{Rela}
use Rattle.object.specs.RelocationTypes.{Calculation, Row, no_search, in_scope, ignored, passed_over, turned_away, marked_refuse, copies, writes}
use Rattle.object.specs.declared.program_header.Segment.{Segment}
use Rattle.object.proofs.RefusalLaws.{required}
use Rattle.binder.specs.Instance.{places_of, wanted_by, entry_by, entry_of}
use Rattle.binder.specs.Verdict.{passed, verdict, word_refusal, copy_ok, copy_refusal, field_refusal, symbol_then, refusal_by, entry_refusal, words_verdict}
use Rattle.binder.specs.Steps.PlainVerdict.{plain_entries}
use Rattle.binder.proofs.OutcomeLaws.{first_passed, verdict_passed}

-- ---- a range inside one writable segment ends within the span

writable_end : (ss : List Segment) (p n : ℕ) → in_writable ss p n ≡ true → p + n ≤ end_of ss
unfolding tables.in_writable choice.some segments.end_of
writable_end [] p n e = absurd (true≢false (sym e))
writable_end (s ∷ ss) p n e =
    ⊎_elim
    (λ (t : both (is_writable s) (holds_range s p n) ≡ true).
    let a = both_true (is_writable s) (holds_range s p n) t in
    let b = both_true (leb s.vaddr p) (leb (p + n) (s.vaddr + s.memsz)) a.1 in
    omega (arith, leb-true (p + n) (s.vaddr + s.memsz) b.1))
    (λ (t : some (λ s. both (is_writable s) (holds_range s p n)) ss ≡ true). omega (arith, writable_end ss p n t))
    (either_true (both (is_writable s) (holds_range s p n)) (some (λ s. both (is_writable s) (holds_range s p n)) ss) e)

-- the record keeps the segments that it is given
kept_segments : (image : List ℕ) (ss : List Segment) (d : Option ℕ) → (records.record_at image ss d).segments ≡ ss
unfolding records.record_at records.record_in
kept_segments image ss None = refl
kept_segments image ss (Some at) = refl

kept_inside : (host : Bool) (file : List ℕ) (p n : ℕ) → in_writable (segments_of host file) p n ≡ true → p + n ≤ object_span host file
unfolding placing.segments_of placing.object_span tables.in_writable choice.some
kept_inside true file p n e = absurd (true≢false (sym e))
kept_inside false file p n e = omega (arith, writable_end (loads_of file) p n e, end_near (end_of (loads_of file)))

pub writable_inside :
    (host : Bool) (file : List ℕ) (p n : ℕ) → in_writable (object_record host file).segments p n ≡ true → p + n ≤ object_span host file
unfolding loading.object_record
writable_inside host file p n e =
    kept_inside host file p n (rw (kept_segments (object_image host file) (segments_of host file) (dynamic_of file)) at e)

-- ---- RELR

pub words_inside :
    (k : ℕ) (r : Record) (ws : List Word) → words_verdict k r ws ≡ passed → (p : ℕ) → Memᴰ p (places_of ws)
    → in_writable r.segments p 8 ≡ true
unfolding words_verdict places_of
words_inside k r [] e p m = absurd (Memᴰ.not-nil m)
words_inside k r (place q ∷ ws) e p m =
    let a = first_passed (verdict (word_refusal r (place q)) k) (words_verdict k r ws) e in
    let b = required (in_writable r.segments q 8) 16 0 (verdict_passed (word_refusal r (place q)) k a.0) in
    ⊎_elim (λ (t : p ≡ q). rw t b.0) (λ (t : Memᴰ p (places_of ws)). words_inside k r ws a.1 p t) (Memᴰ.cases_cons m)
words_inside k r (nowhere ∷ ws) e p m =
    let a = first_passed (verdict (word_refusal r nowhere) k) (words_verdict k r ws) e in
    words_inside k r ws a.1 p m

-- ---- RELA and PLT

-- 14 and 15 passed: what follows is of the symbol
symbol_then_lem :
    (a b : Bool) (y : Symbol) (rest : Symbol → ℕ) → symbol_then (pick a (pick b (Ok y) (Err refusals.SymbolBytes)) (Err refusals.SymbolIndex)) rest ≡ 0
    → rest y ≡ 0
symbol_then_lem true true y rest e = e
symbol_then_lem true false y rest e = absurd (omega arith)
symbol_then_lem false b y rest e = absurd (omega arith)

-- a symbol's name
pub name_is :
    (image : List ℕ) (r : Record) (index : ℕ) → name_of image r (symbol_at image r.symbols index) ≡ symbol_name image r.symbols r.strings index
unfolding symbol-specs.symbol_from
name_is image r index =
    let z : r.symbols + 24 * index + 0 ≡ r.symbols + 24 * index = omega arith in
    ap (λ (at : ℕ). name_at image (r.strings + le_at 4 (mem image) at)) z

module _ (row : ℕ → Row) (S : Objs) (k : ℕ) (image : List ℕ) (r : Record) (base : ℕ)
    (inner : (p n : ℕ) → in_writable r.segments p n ≡ true → p + n ≤ (obj S k).span) where
  written : (e : Rela) (f : Calculation) (s : ℕ) → field_refusal (obj S k).base r e f s ≡ 0 → e.place + f.width ≤ (obj S k).span
  written e f s z = inner e.place f.width (required (in_writable r.segments e.place f.width) 16 _ z).0

  copy_inside : (p size : ℕ) (a : Resolved) → copy_refusal S k r p size a ≡ 0 → InsideCopy S k p size a
  unfolding copy_refusal copy_ok
  copy_inside p size absent e = tt
  copy_inside p size (answer d s a) e = λ pos.
      let n : ℕ = min size s.size in
      let ne : eqb n 0 ≡ false = ne_eqb n 0 (λ z. omega arith) in
      let c = required (in_writable r.segments p n) 16 _ (rw ne at e) in
      let f = required (copy_ok S k p d s n) 17 0 c.1 in
      let g = both_true (not s.absolute) _ f.0 in
      let h = both_true (leb (s.value + n) (obj S d).span) _ g.1 in
      (inner p n c.0, leb-true (s.value + n) (obj S d).span h.0)

  checked_then :
      (index : ℕ) (rest : Symbol → ℕ) → symbol_then (checked_symbol image r index) rest ≡ 0 → rest (symbol_at image r.symbols index) ≡ 0
  unfolding records.checked_symbol
  checked_then index rest e =
      symbol_then_lem (index_ok r.known index) (symbol_ok (is_table_of r) image r.symbols r.strings index)
      (symbol_at image r.symbols index) rest e

  entry_inside : (e : Rela) (x : Row) → refusal_by S k image r e x ≡ 0 → Inside S k (entry_by image r base e x)
  unfolding refusal_by entry_by
  entry_inside e ignored z = tt
  entry_inside e passed_over z = tt
  entry_inside e turned_away z = tt
  entry_inside e marked_refuse z = tt
  entry_inside e (writes no_search f) z = written e f 0 z
  entry_inside e (writes (in_scope searched) f) z = go (searched e.symbol)
    where
      found : ℕ
      found = pick (searched e.symbol) (address_or0 (resolve S k (wanted_by image r e.symbol))) 0

      inside : e.place + f.width ≤ (obj S k).span
      inside =
          written e f found (checked_then e.symbol (λ y. field_refusal (obj S k).base r e f found) z)

      go : (b : Bool)
          → Inside S k
          (pick b
          (symbol e.place f.width (wanted_by image r e.symbol) (λ v. f.value v e.addend base (base + e.place)))
          (fixed e.place f.width (f.value 0 e.addend base (base + e.place))))
      go true = inside
      go false = inside
  entry_inside e copies z =
      let found : Resolved = resolve_copy S (wanted_by image r e.symbol) in
      copy_inside e.place (symbol_at image r.symbols e.symbol).size found
      (checked_then e.symbol (λ y. copy_refusal S k r e.place y.size found) z)

  pub entries_inside :
      (es : List Rela) → plain_entries row S k image r es ≡ passed → (x : Entry) → Memᴰ x (map (entry_of row image r base) es)
      → Inside S k x
  unfolding plain_entries
  entries_inside [] v x m = absurd (Memᴰ.not-nil m)
  entries_inside (e ∷ es) v x m =
      let a = first_passed (verdict (entry_refusal row S k image r e) k) (plain_entries row S k image r es) v in
      ⊎_elim
      (λ (t : x ≡ entry_of row image r base e).
      subst (λ (y : Entry). Inside S k y) (sym t) (entry_inside e (row e.rtype) (verdict_passed (entry_refusal row S k image r e) k a.0)))
      (λ (t : Memᴰ x (map (entry_of row image r base) es)). entries_inside es a.1 x t)
      (Memᴰ.cases_cons m)
