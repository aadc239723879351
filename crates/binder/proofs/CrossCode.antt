-- What the functions of the module crossing need, over plain values. Assumes nothing.
use Rattle.std.proofs.Common.{◌≡◌, ℕ, ◌+◌, ◌<◌, ◌≤◌, min, Bool, true, false, not, ltb, leb, List, [], ◌∷◌, ◌++◌, length, drop, sym, refl, ◌∙◌, arith, length-append, length-take, drop_of_length-le, take_all, le-ltb, lt-ltb, le-leb, leb-true, Ok, Err, Result, Option, None, Some}
use Rattle.std.specs.Result.{result_ok}
use native.Mathlib.Decide.{dec_lt, dec_le}
use borrow.Author.Tests.{lt-leb}
use lib.Seq.{take-append-le, drop-append-le}
use Rattle.words.specs.Choice.{pick, both}
use Rattle.words.specs.declared.refusal.Refusal.{Refusal}
use Rattle.object.specs.RelocationTypes.{Row, ignored, passed_over, turned_away, marked_refuse, copies, writes}
use Rattle.object.specs.Record.{Record, checked_symbol, name_of}
use Rattle.object.specs.declared.symbol.Symbol.{Symbol}
use Rattle.object.specs.declared.hash_tables.Definition.{Definition}
use Rattle.object.specs.declared.relocate.Rela.{Rela}
use Rattle.scope.specs.Steps.Links.{link_at}
use Rattle.scope.specs.declared.links.Link.{Link}
use Rattle.scope.specs.declared.scope.Hit.{Hit}
use Rattle.binder.specs.Steps.Relocating.{image_in, copy_fits, sought_for_copy}
use Rattle.binder.specs.Steps.Crossing.{copies_row, copy_linked, copy_to, copy_checked, copy_seen}
use Rattle.binder.specs.Steps.Crossing.{round, compared}
use Rattle.binder.specs.Verdict.{first}
use Rattle.binder.specs.declared.turn.Turn.{Turn}
use Rattle.binder.specs.declared.crossing.Copy.{Copy}
use Rattle.words.proofs.Choice.{both_true}

-- ---- the copies that are kept

-- those of a round, one copy later
pub compared_next :
    (first : ℕ) (ys : List Copy) (c : Copy)
    → compared first (ys ++ (c ∷ []))
    ≡ pick (both (leb first (length ys)) (ltb (length (compared first ys)) round)) (compared first ys ++ (c ∷ [])) (compared first ys)
compared_next first ys c = go (dec_le first (length ys)) (dec_lt (length (drop first ys)) round)
  where
    more : length (ys ++ (c ∷ [])) ≡ length ys + 1
    more = length-append ys (c ∷ [])

    many : length (compared first ys) ≡ min round (length (drop first ys))
    many = length-take round (drop first ys)

    go :
        Dec (first ≤ length ys) → Dec (length (drop first ys) < round)
        → compared first (ys ++ (c ∷ []))
        ≡ pick (both (leb first (length ys)) (ltb (length (compared first ys)) round)) (compared first ys ++ (c ∷ [])) (compared first ys)
    go (no x) d =
        rw (lt-leb first (length ys) (omega arith), drop_of_length-le (ys ++ (c ∷ [])) {i = first} (omega (arith, more)), drop_of_length-le ys {i = first} (omega arith))
    go (yes x) (yes y) =
        let u : length (drop first ys ++ (c ∷ [])) ≡ length (drop first ys) + 1 = length-append (drop first ys) (c ∷ []) in
        rw (le-leb first (length ys) x, lt-ltb (length (compared first ys)) round (omega (arith, many)), drop-append-le first ys (c ∷ []) x, take_all round (drop first ys) (omega arith))
        (take_all round (drop first ys ++ (c ∷ [])) (omega arith))
    go (yes x) (no y) =
        rw (le-leb first (length ys) x, le-ltb (length (compared first ys)) round (omega (arith, many)), drop-append-le first ys (c ∷ []) x)
        (take-append-le round (drop first ys) (c ∷ []) (omega arith))

-- ---- the copy of an entry

pub copies_row_lem : (x : Row) → copies_row x ≡ true → copies ≡ x
copies_row_lem ignored h = cc
copies_row_lem passed_over h = cc
copies_row_lem turned_away h = cc
copies_row_lem marked_refuse h = cc
copies_row_lem (writes sought f) h = cc
copies_row_lem copies h = refl

module _ (table a : List ℕ) (t : Turn) (r : Record) (e : Rela) where
  pub no_copies_row : (x : Row) → copies_row x ≡ false → None ≡ copy_seen table a t r e x
  unfolding copy_seen
  no_copies_row ignored h = refl
  no_copies_row passed_over h = refl
  no_copies_row turned_away h = refl
  no_copies_row marked_refuse h = refl
  no_copies_row (writes sought f) h = refl
  no_copies_row copies h = cc

  module _ {x : Row} (row : copies ≡ x) {c : Result Symbol Refusal} (check : c ≡ checked_symbol (image_in a t) r e.symbol) where
    pub copy_refused : result_ok c ≡ None → None ≡ copy_seen table a t r e x
    unfolding copy_seen copy_checked
    copy_refused z = rw (← row, ← check) (go c z)
      where
        go : (c : Result Symbol Refusal) → result_ok c ≡ None → None ≡ copy_checked table a t r e c
        go (Err why) z = refl
        go (Ok y) z = cc

    module _ {y : Symbol} (ok : result_ok c ≡ Some y) where
      is_ok : c ≡ Ok y
      is_ok = go c ok
        where
          go : (c : Result Symbol Refusal) → result_ok c ≡ Some y → c ≡ Ok y
          go (Ok x) z = cc
          go (Err why) z = cc

      module _ {s : Option Hit} (sought : s ≡ sought_for_copy table a (name_of (image_in a t) r y)) where
        pub copy_absent : s ≡ None → None ≡ copy_seen table a t r e x
        unfolding copy_seen copy_checked copy_to
        copy_absent z = rw (← row, ← check, is_ok, ← sought, z)

        pub copy_found :
            {hit : Hit} {n : ℕ} {link : Link} → s ≡ Some hit → n ≡ min y.size hit.definition.size → link ≡ link_at table hit.object
            → {q : Option Copy} → q ≡ copy_linked (length a) t e.place link hit.definition n → q ≡ copy_seen table a t r e x
        unfolding copy_seen copy_checked copy_to
        copy_found z hn hl hq = rw (← row, ← check, is_ok, ← sought, z, ← hn, ← hl) hq

pub fits_sums :
    (size : ℕ) (t : Turn) (to : ℕ) (s : Link) (d : Definition) (n : ℕ) {b : Bool} → b ≡ copy_fits size t to s d n → b ≡ true
    → (t.offset + to + n ≤ size) × (s.offset + d.value + n ≤ size)
unfolding copy_fits
fits_sums size t to s d n h z =
    let e = sym h ∙ z in
    let a = both_true (not d.absolute) _ e in
    let b = both_true (leb (d.value + n) s.span) _ a.1 in
    let x = both_true (leb (t.offset + to + n) size) _ b.1 in
    let y = both_true (leb (s.offset + d.value + n) size) _ x.1 in
    (leb-true (t.offset + to + n) size x.0, leb-true (s.offset + d.value + n) size y.0)
