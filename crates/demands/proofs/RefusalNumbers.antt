-- Which numbers and which objects refusals have. Assumes nothing.
use Rattle.std.specs.Prelude.{Err, Ok}
use mathlib.Core.Path.{◌≡◌, refl, sym, ◌∙◌, subst}
use mathlib.Core.Bool.{Bool, true, false}
use mathlib.Core.Logic.{◌⊎◌, inl, inr, ⊎_elim, ◌≢◌}
use mathlib.Core.List.{List, [], ◌∷◌, ◌++◌}
use Prim.Native.Nat.{ℕ, zero, suc, ◌+◌, ◌-◌, ◌≤◌, ◌<◌, min}
use native.Mathlib.Omega.{arith}
use native.Mathlib.Decide.{dec_le}
use borrow.Author.Tests.{eqb-true, eqb-false}
use lib.Dec.{eqb}
use lib.ListN.{length, get_or, take, drop, length-drop}
use Rattle.std.specs.Prelude.{Option, None, Some}
use Rattle.words.specs.Choice.{pick, every}
use Rattle.words.specs.Choice as choice
use Rattle.model.specs.Order.{has}
use Rattle.model.specs.Objects.{Objs, obj}
use Rattle.model.specs.Scope.{resolve, resolve_copy}
use Rattle.model.specs.Relocation.{address_or0}
use Rattle.model.specs.Symbols.{Resolved, absent, answer}
use Rattle.model.proofs.OrderLaws.{decide, clash, has_head, has_cons}
use Rattle.words.specs.declared.refusal.Refusal.TheVariants as refusals
use Rattle.object.specs.Refusal.{require, after}
use Rattle.object.specs.Header.{header_refusal}
use Rattle.object.specs.ProgramHeader.{loads_of, dynamic_of}
use Rattle.object.specs.Alignment.{align_ok}
use Rattle.object.specs.Placed.{segments_of, object_image, file_refusal, place_refusal}
use Rattle.object.specs.Record.{Record, sizes_refusal, fields_refusal, read_refusal, checked_symbol, index_ok, is_table_of}
use Rattle.object.specs.Symbol.{symbol_at}
use Rattle.object.specs.HashCheck.{symbol_ok}
use Rattle.object.specs.TableBytes.{in_writable}
use Rattle.object.specs.Loaded.{object_refusal}
use Rattle.object.specs.Entries.{Word, place, nowhere}
use Rattle.object.specs.DynamicArray.{ends_inside}
use Rattle.object.specs.DynamicFields.{Fields, fields_of}
use Rattle.object.specs.declared.program_header.Segment.{Segment}
use Rattle.object.specs.declared.symbol.Symbol.{Symbol}
use Rattle.object.specs.declared.relocate.Rela.{Rela}
use Rattle.object.specs.RelocationTypes.{Calculation, Row, no_search, in_scope, ignored, passed_over, turned_away, marked_refuse, copies, writes}
use Rattle.sheet.specs.Sheet.{Input, no_input, named, duplicate_from, duplicate_of}
use Rattle.binder.specs.Instance.{File, file_image, file_record, named_words, relas_of, wanted_by}
use Rattle.binder.specs.declared.crossing.Copy.{Copy}
use Rattle.binder.specs.Copies.{crosses_one, entry_copy, object_copies}
use Rattle.binder.specs.Verdict.{Verdict, passed, refused, cross_refusal, first, verdict, no_file, load_verdict, word_refusal, copy_ok, copy_refusal, field_refusal, symbol_then, refusal_by, entry_refusal, words_verdict, entries_verdict, object_verdict, order_verdict}
use Rattle.binder.specs.Report.{has_undefined, first_undefined}
use Rattle.binder.specs.Bind.{unless}

-- ---- numbers: none, or one of a range

abbrev Range : ℕ → ℕ → ℕ → Type 0
Range low high n = 0 < n → (low ≤ n) × (n ≤ high)

module _ (low high : ℕ) where
  required_range : (t : Bool) (n rest : ℕ) → low ≤ n → n ≤ high → Range low high rest → Range low high (require t n rest)
  unfolding require
  required_range true n rest l h r = r
  required_range false n rest l h r = λ z. (l, h)

  after_range : (n rest : ℕ) → Range low high n → Range low high rest → Range low high (after n rest)
  unfolding after
  after_range zero rest q r = r
  after_range (suc n) rest q r = q

  -- a test whose refusal is the last
  last_range : (t : Bool) (n : ℕ) → low ≤ n → n ≤ high → Range low high (require t n 0)
  last_range t n l h = required_range t n 0 l h (λ z. absurd (omega arith))

-- ---- a number of which something holds, where it is one

abbrev Told : (ℕ → Type 0) → ℕ → Type 0
Told Q n = 0 < n → Q n

module _ (Q : ℕ → Type 0) where
  required_told : (t : Bool) (n rest : ℕ) → Q n → Told Q rest → Told Q (require t n rest)
  unfolding require
  required_told true n rest q r = r
  required_told false n rest q r = λ z. q

  after_told : (n rest : ℕ) → Told Q n → Told Q rest → Told Q (after n rest)
  unfolding after
  after_told zero rest q r = r
  after_told (suc n) rest q r = q

-- 4 to 12, or 21 of an object that is not the host
abbrev LoadNumber : Bool → ℕ → Type 0
LoadNumber host n = ((4 ≤ n) × (n ≤ 12)) ⊎ ((n ≡ 21) × (host ≡ false))

from_range : (host : Bool) (n : ℕ) → Range 4 12 n → Told (LoadNumber host) n
from_range host n r = λ z. inl (r z)

-- 4 to 6
header_range : (file : List ℕ) → Range 4 12 (header_refusal file)
unfolding header_refusal
header_range file =
    required_range 4 12 _ 4 _ (omega arith) (omega arith)
    (required_range 4 12 _ 5 _ (omega arith) (omega arith) (last_range 4 12 _ 6 (omega arith) (omega arith)))

-- 21
align_number : (host : Bool) (file : List ℕ) → Told (LoadNumber host) (require (every align_ok (segments_of host file)) 21 0)
unfolding segments_of every require
align_number true file = λ z. absurd (omega arith)
align_number false file = required_told (LoadNumber false) (every align_ok (loads_of file)) 21 0 (inr (refl, refl)) (λ z. absurd (omega arith))

-- 7, 21 and 8
file_number : (host : Bool) (file : List ℕ) → Told (LoadNumber host) (file_refusal host file)
unfolding file_refusal
file_number host file =
    after_told (LoadNumber host) (header_refusal file) _ (from_range host (header_refusal file) (header_range file))
    (required_told (LoadNumber host) _ 7 _ (inl (omega arith, omega arith)) (align_number host file))

place_number : (host : Bool) (room : ℕ) (file : List ℕ) → Told (LoadNumber host) (place_refusal host room file)
unfolding place_refusal
place_number host room file =
    after_told (LoadNumber host) (file_refusal host file) _ (file_number host file)
    (required_told (LoadNumber host) _ 8 0 (inl (omega arith, omega arith)) (λ z. absurd (omega arith)))

-- 9 to 12
fields_range : (ended : Bool) (f : Fields) → Range 4 12 (fields_refusal ended f)
unfolding fields_refusal sizes_refusal
fields_range ended f =
    required_range 4 12 _ 9 _ (omega arith) (omega arith)
    (required_range 4 12 _ 10 _ (omega arith) (omega arith)
    (required_range 4 12 _ 10 _ (omega arith) (omega arith)
    (required_range 4 12 _ 11 _ (omega arith) (omega arith)
    (required_range 4 12 _ 11 _ (omega arith) (omega arith) (last_range 4 12 _ 11 (omega arith) (omega arith))))))

read_range : (host : Bool) (image : List ℕ) (segments : List Segment) (d : Option ℕ) → Range 4 12 (read_refusal host image segments d)
unfolding read_refusal
read_range host image segments None = λ z. omega arith
read_range host image segments (Some at) =
    after_range 4 12 (fields_refusal (ends_inside image at) (fields_of image at)) _ (fields_range (ends_inside image at) (fields_of image at))
    (required_range 4 12 _ 11 _ (omega arith) (omega arith) (last_range 4 12 _ 12 (omega arith) (omega arith)))

object_number : (host : Bool) (room : ℕ) (file : List ℕ) → Told (LoadNumber host) (object_refusal host room file)
unfolding object_refusal
object_number host room file =
    after_told (LoadNumber host) (place_refusal host room file) _ (place_number host room file)
    (from_range host _ (read_range host (object_image host file) (segments_of host file) (dynamic_of file)))

-- ---- 14 to 18, 22, 25 and 28

abbrev pub EntryNumber : ℕ → Type 0
EntryNumber n = (14 ≤ n) × (n ≤ 28) × (n ≢ 19) × (n ≢ 20) × (n ≢ 21) × (n ≢ 23) × (n ≢ 24) × (n ≢ 26) × (n ≢ 27)

abbrev EntryRange : ℕ → Type 0
EntryRange n = 0 < n → EntryNumber n

required_entry : (t : Bool) (n rest : ℕ) → EntryNumber n → EntryRange rest → EntryRange (require t n rest)
unfolding require
required_entry true n rest l r = r
required_entry false n rest l r = λ z. l

last_entry : (t : Bool) (n : ℕ) → EntryNumber n → EntryRange (require t n 0)
last_entry t n l = required_entry t n 0 l (λ z. absurd (omega arith))

word_range : (r : Record) (w : Word) → EntryRange (word_refusal r w)
word_range r (place p) = last_entry (in_writable r.segments p 8) 17 (omega arith)
word_range r nowhere = λ z. omega arith

-- 17 and 22
field_range : (base : ℕ) (r : Record) (e : Rela) (f : Calculation) (s : ℕ) → EntryRange (field_refusal base r e f s)
field_range base r e f s = required_entry _ 17 _ (omega arith) (last_entry _ 22 (omega arith))

-- 17 and 18
copy_range : (S : Objs) (k : ℕ) (r : Record) (p size : ℕ) (a : Resolved) → EntryRange (copy_refusal S k r p size a)
unfolding copy_refusal
copy_range S k r p size absent = λ z. absurd (omega arith)
copy_range S k r p size (answer d s a) = go (eqb (min size s.size) 0)
  where
    go :
        (t : Bool)
        → EntryRange
        (pick t 0
        (require (in_writable r.segments p (min size s.size)) 17 (require (copy_ok S k p d s (min size s.size)) 18 0)))
    go true = λ z. absurd (omega arith)
    go false =
        required_entry _ 17 _ (omega arith) (last_entry _ 18 (omega arith))

-- 14 and 15, else what follows
symbol_range :
    (image : List ℕ) (r : Record) (i : ℕ) (rest : Symbol → ℕ) → ((y : Symbol) → EntryRange (rest y))
    → EntryRange (symbol_then (checked_symbol image r i) rest)
unfolding checked_symbol
symbol_range image r i rest h =
    go (index_ok r.known i) (symbol_ok (is_table_of r) image r.symbols r.strings i)
  where
    go : (s t : Bool) → EntryRange (symbol_then (pick s (pick t (Ok (symbol_at image r.symbols i)) (Err refusals.SymbolBytes)) (Err refusals.SymbolIndex)) rest)
    go true true = h (symbol_at image r.symbols i)
    go true false = λ z. omega arith
    go false t = λ z. omega arith

entry_range : (S : Objs) (k : ℕ) (image : List ℕ) (r : Record) (e : Rela) (x : Row) → EntryRange (refusal_by S k image r e x)
unfolding refusal_by
entry_range S k image r e ignored = λ z. absurd (omega arith)
entry_range S k image r e passed_over = λ z. absurd (omega arith)
entry_range S k image r e turned_away = λ z. omega arith
entry_range S k image r e marked_refuse = λ z. omega arith
entry_range S k image r e (writes no_search f) = field_range (obj S k).base r e f 0
entry_range S k image r e (writes (in_scope searched) f) =
    symbol_range image r e.symbol (λ y. field_refusal (obj S k).base r e f found) (λ y. field_range (obj S k).base r e f found)
  where
    found : ℕ
    found = pick (searched e.symbol) (address_or0 (resolve S k (wanted_by image r e.symbol))) 0
entry_range S k image r e copies =
    symbol_range image r e.symbol (λ y. copy_refusal S k r e.place y.size (resolve_copy S (wanted_by image r e.symbol)))
    (λ y. copy_range S k r e.place y.size (resolve_copy S (wanted_by image r e.symbol)))

-- the first file is the host's
abbrev pub HostFirst : List File → Type 0
HostFirst [] = Unit {0}
HostFirst (f ∷ fs) = f.host ≡ true

-- ---- verdicts: what holds of the number and the object, where there is a refusal

abbrev pub Meets : (ℕ → ℕ → Type 0) → Verdict → Type 0
Meets P passed = Unit {0}
Meets P (Err m) = P m.number m.object

module _ (P : ℕ → ℕ → Type 0) where
  pub first_meets : (v w : Verdict) → Meets P v → Meets P w → Meets P (first v w)
  first_meets passed w a b = b
  first_meets (Err m) w a b = a

  -- the second is looked at where the first passed
  pub first_then : (v w : Verdict) → Meets P v → (v ≡ passed → Meets P w) → Meets P (first v w)
  first_then passed w a b = b refl
  first_then (Err m) w a b = a

  pub unless_meets : (t : Bool) (n k : ℕ) → (t ≡ false → P n k) → Meets P (unless t n k)
  unfolding unless
  unless_meets true n k h = tt
  unless_meets false n k h = h refl

  -- of numbers of which N holds
  verdict_meets : (N : Type 0) (n k : ℕ) → (0 < n → N) → (N → P n k) → Meets P (verdict n k)
  unfolding verdict
  verdict_meets N n k r h = go (eqb n 0) refl
    where
      go : (t : Bool) → eqb n 0 ≡ t → Meets P (pick t passed (refused n k))
      go true e = tt
      go false e =
          let ne = eqb-false n 0 e in
          h (r (omega arith))

  -- 4 to 12 and 21, of the objects from `k` on; the first of all is the host
  pub load_meets :
      (S : Objs) (size k : ℕ) (files : List File) → (k ≡ 0 → HostFirst files)
      → ((n j : ℕ) → ((4 ≤ n) × (n ≤ 12)) ⊎ ((n ≡ 21) × (1 ≤ j)) → j < k + length files → P n j)
      → Meets P (load_verdict S size k files)
  unfolding load_verdict
  load_meets S size k [] first h = tt
  load_meets S size k (f ∷ fs) first h =
      let room : ℕ = size - (obj S k).offset in
      let number : ℕ = object_refusal f.host (size - (obj S k).offset) f.bytes in
      first_meets (verdict (object_refusal f.host room f.bytes) k) _
      (verdict_meets _ (object_refusal f.host room f.bytes) k (object_number f.host room f.bytes)
      (λ q. h number k
      (⊎_elim
      (λ (r : (4 ≤ number) × (number ≤ 12)). inl r)
      (λ (r : (number ≡ 21) × (f.host ≡ false)). inr (r.0, not_first (dec_le 1 k) r.1))
      q) (omega arith)))
      (load_meets S size (k + 1) fs (λ z. absurd (omega arith)) (λ n j l b. h n j l (omega arith)))
    where
      not_first : Dec (1 ≤ k) → f.host ≡ false → 1 ≤ k
      not_first (yes l) e = l
      not_first (no l) e = absurd (clash (first (omega arith)) e)

  -- 14 to 18, 22, 25 and 28, of object `k`
  module _ (row : ℕ → Row) (S : Objs) (k : ℕ) (h : (n : ℕ) → EntryNumber n → P n k) where
    words_meets : (r : Record) (ws : List Word) → Meets P (words_verdict k r ws)
    unfolding words_verdict
    words_meets r [] = tt
    words_meets r (w ∷ ws) =
        first_meets (verdict (word_refusal r w) k) _ (verdict_meets _ (word_refusal r w) k (word_range r w) (h _)) (words_meets r ws)

    cross_range : (t : Bool) → EntryRange (pick t 28 0)
    cross_range true = λ z. omega arith
    cross_range false = λ z. absurd (omega arith)

    entries_meets : (image : List ℕ) (r : Record) (earlier : List Copy) (es : List Rela) → Meets P (entries_verdict row S k image r earlier es)
    unfolding entries_verdict
    entries_meets image r earlier [] = tt
    entries_meets image r earlier (e ∷ es) =
        let c : List Copy = entry_copy row S k image r e in
        first_meets (verdict (entry_refusal row S k image r e) k) _
        (verdict_meets _ (entry_refusal row S k image r e) k (entry_range S k image r e (row e.rtype)) (h _))
        (first_meets (verdict (cross_refusal earlier c) k) _
        (verdict_meets _ (cross_refusal earlier c) k (cross_range (crosses_one earlier c)) (h _)) (entries_meets image r (earlier ++ c) es))

    object_meets : (earlier : List Copy) (f : File) → Meets P (object_verdict row S earlier k f)
    unfolding object_verdict
    object_meets earlier f =
        first_meets (words_verdict k (file_record f) (named_words (file_image f) (file_record f))) _
        (words_meets (file_record f) (named_words (file_image f) (file_record f)))
        (entries_meets (file_image f) (file_record f) earlier (relas_of (file_image f) (file_record f)))

  -- of the objects of an order
  pub order_meets :
      (row : ℕ → Row) (S : Objs) (files : List File) (earlier : List Copy) (order : List ℕ)
      → ((n k : ℕ) → EntryNumber n → has k order ≡ true → P n k)
      → Meets P (order_verdict row S files earlier order)
  unfolding order_verdict
  order_meets row S files earlier [] h = tt
  order_meets row S files earlier (k ∷ ks) h =
      first_meets (object_verdict row S earlier k (get_or files k no_file)) _
      (object_meets row S k (λ n l. h n k l (has_head k ks)) earlier (get_or files k no_file))
      (order_meets row S files (earlier ++ object_copies row S k (get_or files k no_file)) ks (λ n j l m. h n j l (has_cons j k ks m)))

-- ---- 19: an object of the order, or none

pub first_undefined_lem : (row : ℕ → Row) (S : Objs) (files : List File) (order : List ℕ) → first_undefined row S files order ≢ 0 → has (first_undefined row S files order) order ≡ true
unfolding first_undefined
first_undefined_lem row S files [] ne = absurd (ne refl)
first_undefined_lem row S files (k ∷ ks) ne =
    ⊎_elim
    (λ (t : has_undefined row S k (get_or files k no_file) ≡ true).
    let f : first_undefined row S files (k ∷ ks) ≡ k = rw t in
    subst (λ (x : ℕ). has x (k ∷ ks) ≡ true) (sym f) (has_head k ks))
    (λ (t : has_undefined row S k (get_or files k no_file) ≡ false).
    let f : first_undefined row S files (k ∷ ks) ≡ first_undefined row S files ks = rw t in
    subst (λ (x : ℕ). has x (k ∷ ks) ≡ true) (sym f)
    (has_cons (first_undefined row S files ks) k ks (first_undefined_lem row S files ks (λ e. ne (f ∙ e)))))
    (decide (has_undefined row S k (get_or files k no_file)))

-- ---- 3: an object with a library before it, or none

no_earlier : (n : List ℕ) (os : List Input) → named n (drop 2 (take 2 os)) ≡ false
unfolding choice.some
no_earlier n [] = refl
no_earlier n (h ∷ []) = refl
no_earlier n (h ∷ (p ∷ ls)) = refl

duplicate_from_lem :
    (os : List Input) (n k : ℕ) → 2 ≤ k → duplicate_from os n k ≢ 0 → (3 ≤ duplicate_from os n k) × (duplicate_from os n k < k + n)
unfolding duplicate_from
duplicate_from_lem os zero k l ne = absurd (ne refl)
duplicate_from_lem os (suc n) k l ne =
    ⊎_elim
    (λ (t : named (get_or os k no_input).name (drop 2 (take k os)) ≡ true). rw t (later t, omega arith))
    (λ (t : named (get_or os k no_input).name (drop 2 (take k os)) ≡ false).
    let r = duplicate_from_lem os n (k + 1) (omega arith) (rw t at ne) in
    rw t (r.0, omega arith))
    (decide (named (get_or os k no_input).name (drop 2 (take k os))))
  where
    later : named (get_or os k no_input).name (drop 2 (take k os)) ≡ true → 3 ≤ k
    later t = go (eqb k 2) refl
      where
        go : (b : Bool) → eqb k 2 ≡ b → 3 ≤ k
        go true e = absurd (clash (rw (eqb-true k 2 e) at t) (no_earlier (get_or os 2 no_input).name os))
        go false e = let ne = eqb-false k 2 e in omega arith

pub duplicate_later : (os : List Input) → duplicate_of os ≢ 0 → (3 ≤ duplicate_of os) × (duplicate_of os < length os)
duplicate_later os ne =
    let r = duplicate_from_lem os (length (drop 2 os)) 2 (omega arith) ne in
    (r.0, omega (arith, length-drop 2 os))
