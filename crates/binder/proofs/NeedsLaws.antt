-- The loops that fill the table of needs: the search for a library by name, the row of a library, the rows of all, and the order that comes
-- of them. Assumes nothing.
use Rattle.std.specs.Prelude.{Option, None, Some}
use Rattle.std.proofs.Common.{◌≡◌, ℕ, zero, suc, ◌+◌, ◌-◌, ◌*◌, ◌<◌, ◌≤◌, min, Bool, List, [], ◌∷◌, map, length, get_or, drop, replicate, sym, refl, ap, ◌∙◌, subst, inl, inr, arith, drop_of_length-le}
use native.Mathlib.Decide.{dec_lt}
use lib.ListN.{length-map, get_or-replicate, length-replicate, get_or-eq_default}
use Rattle.words.specs.Choice.{pick}
use Rattle.words.specs.Names.{same_bytes, name_at}
use Rattle.words.specs.Memory as memory
use Rattle.words.specs.Memory.{Mem, mem, write, patch}
use Rattle.words.proofs.Memory.{write_in, write_out}
use Rattle.words.proofs.Slices.{patch_none, patch_same, mem_patch}
use Rattle.model.specs.Order.{order_of}
use Rattle.object.specs.DynamicFields as fields
use Rattle.object.specs.ProgramHeader.{dynamic_of}
use Rattle.sheet.specs.Sheet.{Input, no_input}
use Rattle.sheet.proofs.SheetLaws.{drop_next}
use Rattle.scope.specs.declared.links.Link.{Link}
use Rattle.scope.specs.Steps.Links.{link_at}
use Rattle.binder.specs.Steps.Table as rows
use Rattle.binder.specs.Steps.Table.{Ordered}
use Rattle.binder.specs.SetOrder.{number_of}
use Rattle.binder.specs.Bind.{names_of}
use Rattle.scope.specs.Steps.ScopeCode.{image_at}
use Rattle.binder.specs.Steps.Needed.{needed_at, numbers_at, needs_at, NeedsPut, FewNeeds, Arranged}
use Rattle.binder.proofs.ArrangeUses.{table_order}

-- ---- the search for a library

-- among the objects from `j` on
unfoldable pub number_from : List ℕ → List Input → ℕ → ℕ
number_from name os j = number_of name j (map (λ o. o.name) (drop j os))

module _ (name : List ℕ) (os : List Input) (j : ℕ) where
  pub number_next :
      (t : Bool) → j < length os → same_bytes name (get_or os j no_input).name ≡ t
      → number_from name os j ≡ pick t j (number_from name os (j + 1))
  unfolding number_from number_of
  number_next t h e = rw (drop_next os j no_input h, e)

  pub number_none : length os ≤ j → number_from name os j ≡ 0
  unfolding number_from number_of
  number_none h = rw (drop_of_length-le os {i = j} h)

pub number_whole : (name : List ℕ) (os : List Input) → number_from name os 2 ≡ number_of name 2 (names_of os)
unfolding number_from names_of
number_whole name os = refl

-- ---- the row of a library

get_or_mapped : (f : ℕ → ℕ) (l : List ℕ) (i : ℕ) → i < length l → get_or (map f l) i 0 ≡ f (get_or l i 0)
get_or_mapped f [] i h = absurd (omega arith)
get_or_mapped f (x ∷ l) zero h = refl
get_or_mapped f (x ∷ l) (suc i) h = get_or_mapped f l i (omega arith)

-- the library that the need at the offset `n` of the string table names
unfoldable pub number_at : List Input → List ℕ → ℕ → ℕ → ℕ
number_at os image strings n = number_of (name_at image (strings + n)) 2 (names_of os)

numbers_length :
    (os : List Input) (image : List ℕ) (strings : ℕ) (d : Option ℕ) → length (numbers_at os image strings d) ≡ length (needed_at image d)
unfolding numbers_at
numbers_length os image strings d = length-map (needed_at image d) _

module _ (os : List Input) (image : List ℕ) (strings : ℕ) (file : List ℕ) (k : ℕ) (before : List ℕ) where
  -- of a file that has no dynamic array
  pub row_none : dynamic_of file ≡ None → NeedsPut os image strings file k before before
  row_none e few = rw e (sym (patch_none before (64 * k) (λ i. get_or (numbers_at os image strings None) i 0)))

  -- of one that has more needs than a record keeps
  pub row_many : (at : ℕ) → dynamic_of file ≡ Some at → 64 < length (fields.needed_offsets image at) → NeedsPut os image strings file k before before
  row_many at e more few = absurd (omega (arith, more, ap (λ (d : Option ℕ). length (needed_at image d)) e))

  -- what the loop wrote
  pub row_is :
      (at : ℕ) (needs : List ℕ) (after : List ℕ) → dynamic_of file ≡ Some at → needs ≡ fields.needed_offsets image at
      → after ≡ patch before (64 * k) (length needs) (λ i. number_at os image strings (get_or needs i 0))
      → NeedsPut os image strings file k before after
  unfolding numbers_at number_at
  row_is at needs after d e written = rw d go
    where
      l : List ℕ
      l = fields.needed_offsets image at

      g : ℕ → ℕ
      g i = number_at os image strings (get_or l i 0)

      row : ℕ → ℕ
      row i = get_or (numbers_at os image strings (Some at)) i 0

      go : length l ≤ 64 → after ≡ patch before (64 * k) (length l) row
      go few =
          let put : after ≡ patch before (64 * k) (length l) g = rw e at written in
          put ∙ patch_same before (64 * k) (length l) g row (λ i h. sym (get_or_mapped (number_at os image strings) l i h))

-- ---- the rows of all libraries

-- those before object `k` are filled, and nothing else is
abbrev pub FilledTo : (ℕ → List ℕ) → ℕ → List ℕ → Type 0
FilledTo needs k table =
    ((j : ℕ) → 2 ≤ j → j < k → (i : ℕ) → i < 64 → mem table (64 * j + i) ≡ get_or (needs j) i 0)
    × ((p : ℕ) → 64 * k ≤ p → mem table p ≡ 0)

pub filled_none : (needs : ℕ → List ℕ) (table : List ℕ) → table ≡ replicate 4096 0 → FilledTo needs 2 table
unfolding memory.mem
filled_none needs table e =
    (λ j a b. absurd (omega arith), λ p h. ap (λ (t : List ℕ). get_or t p 0) e ∙ go p (dec_lt p 4096))
  where
    zeros : List ℕ
    zeros = replicate 4096 0

    many : length zeros ≡ 4096
    many = length-replicate {A = ℕ} 4096 0

    go : (p : ℕ) → Dec (p < 4096) → get_or zeros p 0 ≡ 0
    go p (yes h) = get_or-replicate 4096 p 0 0 h
    go p (no h) = get_or-eq_default zeros 0 {n = p} (omega (arith, many))

-- one row more
module _
    (needs : ℕ → List ℕ) (k n : ℕ) (before : List ℕ) (h : k < 64) (len : length before ≡ 4096) (many : length (needs k) ≡ n) (few : n ≤ 64)
    (f : FilledTo needs k before)
  where
    abbrev row : ℕ → ℕ
    row i = get_or (needs k) i 0

    at : (p : ℕ) → mem (patch before (64 * k) n row) p ≡ write (mem before) (64 * k) n row p
    at p = ap (λ (m : Mem). m p) (mem_patch before (64 * k) n row (omega arith))

    mine : (i : ℕ) → i < 64 → Dec (i < n) → mem (patch before (64 * k) n row) (64 * k + i) ≡ get_or (needs k) i 0
    mine i l (yes b) = at (64 * k + i) ∙ (write_in (mem before) (64 * k) n row (64 * k + i) (omega arith) ∙ ap row (omega arith))
    mine i l (no b) =
        at (64 * k + i)
        ∙ (write_out (mem before) (64 * k) n row (64 * k + i) (inr (omega arith))
        ∙ (f.1 (64 * k + i) (omega arith) ∙ sym (get_or-eq_default (needs k) 0 {n = i} (omega arith))))

    every :
        (j : ℕ) → 2 ≤ j → j < k + 1 → (i : ℕ) → i < 64 → Dec (j < k)
        → mem (patch before (64 * k) n row) (64 * j + i) ≡ get_or (needs j) i 0
    every j a b i l (yes c) =
        at (64 * j + i) ∙ (write_out (mem before) (64 * k) n row (64 * j + i) (inl (omega arith)) ∙ f.0 j a c i l)
    every j a b i l (no c) = let z : j ≡ k = omega arith in rw z (mine i l (dec_lt i n))

    filled_next : FilledTo needs (k + 1) (patch before (64 * k) n row)
    filled_next = (
      λ j a b i l. every j a b i l (dec_lt j k),
      λ p l. at p ∙ (write_out (mem before) (64 * k) n row p (inr (omega arith)) ∙ f.1 p (omega arith)),
    )

-- one turn of the loop
module _ (os : List Input) (arena table : List ℕ) (k : ℕ) (before after : List ℕ) (s : Link) (image file : List ℕ) where
  pub fill_next :
      2 ≤ k → k < length os → length os ≤ 64 → length before ≡ 4096 → s ≡ link_at table k → image ≡ image_at arena s → file ≡ (get_or os k no_input).file
      → NeedsPut os image s.view.strings file k before after → FewNeeds os arena table
      → FilledTo (needs_at os arena table) k before → FilledTo (needs_at os arena table) (k + 1) after
  fill_next low h room len es ei ef put few f =
      let at_link : NeedsPut os (image_at arena (link_at table k)) (link_at table k).view.strings (get_or os k no_input).file k before after =
      subst (λ (x : Link). NeedsPut os (image_at arena x) x.view.strings (get_or os k no_input).file k before after) es
      (subst (λ (x : List ℕ). NeedsPut os x s.view.strings (get_or os k no_input).file k before after) ei
      (subst (λ (x : List ℕ). NeedsPut os image s.view.strings x k before after) ef put)) in
      let many = numbers_length os (image_at arena (link_at table k)) (link_at table k).view.strings (dynamic_of (get_or os k no_input).file) in
      rw (at_link (few k low h)) (filled_next (needs_at os arena table) k _ before (omega arith) len many (few k low h) f)

-- ---- the order

-- the table has that of the needs
filled_order :
    (os : List Input) (arena table filled : List ℕ) → 2 ≤ length os → FewNeeds os arena table
    → ((k : ℕ) → 2 ≤ k → k < length os → (i : ℕ) → i < 64 → mem filled (64 * k + i) ≡ get_or (needs_at os arena table k) i 0)
    → order_of (rows.needs_row filled) (length os - 2) ≡ order_of (needs_at os arena table) (length os - 2)
unfolding memory.mem
filled_order os arena table filled low few holds =
    table_order (needs_at os arena table) filled (length os - 2)
    (λ k a b.
    let many = numbers_length os (image_at arena (link_at table k)) (link_at table k).view.strings (dynamic_of (get_or os k no_input).file) in
    omega (arith, few k a (omega arith)))
    (λ k a b i h. let e : k * 64 + i ≡ 64 * k + i = omega arith in ap (mem filled) e ∙ holds k a (omega arith) i h)

-- the contract of `order_of`
pub arranged :
    (os : List Input) (arena table filled r : List ℕ) → 2 ≤ length os → length os ≤ 64 → Ordered filled (length os - 2) r
    → (FewNeeds os arena table
    → (k : ℕ) → 2 ≤ k → k < length os → (i : ℕ) → i < 64 → mem filled (64 * k + i) ≡ get_or (needs_at os arena table k) i 0)
    → Arranged os arena table r
arranged os arena table filled r low high o holds =
    let e : min (length os - 2) 62 ≡ length os - 2 = omega arith in
    record {
      is = λ few. o.list ∙ (ap (order_of (rows.needs_row filled)) e ∙ filled_order os arena table filled low few (holds few));
      few = omega (arith, o.count);
    }
