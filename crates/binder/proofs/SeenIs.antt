-- The copies that the code finds over the placed arena are those of the entries that no refusal meets. Assumes nothing.
use Rattle.std.proofs.Common.{◌≡◌, ℕ, suc, ◌+◌, ◌<◌, ◌≤◌, min, Bool, true, false, eqb, List, [], ◌∷◌, length, get_or, sym, refl, ap, ◌∙◌, subst, ⊎_elim, arith, Ok, Result, Option, None, Some}
use Rattle.std.specs.Option.{option_to_list}
use Rattle.words.specs.Choice.{pick}
use Rattle.model.specs.Symbols.{absent, answer}
use Rattle.model.specs.Symbols as model
use Rattle.model.specs.Objects.{Objs, count, obj}
use Rattle.model.specs.Scope.{resolve_copy}
use Rattle.model.proofs.Scope.{resolve_copy_range}
use Rattle.words.specs.declared.refusal.Refusal.{Refusal}
use Rattle.object.specs.Refusal.{require}
use Rattle.object.specs.TableBytes.{in_writable}
use Rattle.object.specs.Symbol.{symbol_at, symbol_name}
use Rattle.object.specs.RelocationTypes.{Row, ignored, passed_over, turned_away, marked_refuse, copies, writes}
use Rattle.object.specs.Record.{Record, checked_symbol, name_of}
use Rattle.object.specs.declared.symbol.Symbol.{Symbol}
use Rattle.object.specs.declared.hash_tables.Definition.{Definition}
use Rattle.object.specs.declared.relocate.Rela.{Rela}
use Rattle.sheet.specs.Sheet.{Input, no_input}
use Rattle.scope.specs.Steps.Links.{link_at}
use Rattle.scope.specs.declared.links.Link.{Link}
use Rattle.scope.specs.declared.scope.Hit.{Hit}
use Rattle.binder.specs.Setting.{Setting}
use Rattle.binder.specs.Instance.{File, file_image, file_record, definition_of, relas_of, wanted_by}
use Rattle.binder.specs.Copies.{copy_found, copy_by}
use Rattle.binder.specs.Verdict.{copy_ok, copy_refusal, symbol_then, refusal_by}
use Rattle.binder.specs.Steps.ScopeModel.{scoped_of}
use Rattle.binder.specs.Steps.Relocating.{image_in, cut_to32, copy_fits, sought_for_copy, turn_of, again_refusal}
use Rattle.binder.specs.Steps.Crossing.{copy_linked, copy_to, copy_checked, copy_seen, entries_by, seen_at, again_of, entries_at}
use Rattle.binder.specs.declared.turn.Turn.{Turn}
use Rattle.binder.proofs.InsideLaws.{name_is, writable_inside}
use Rattle.binder.proofs.Steady.{set, file_at, LoadedSet, PlacedAt, Steady}
use Rattle.binder.proofs.SteadyLaws.{lies, copy_searches, placed_steady, copy_tests, counts, again}
use Rattle.binder.proofs.EntryIs.{symbol_case}
use Rattle.binder.proofs.CrossLaws.{Agrees}

passed : (b : Bool) (n rest : ℕ) → require b (suc n) rest ≡ 0 → (b ≡ true) × (rest ≡ 0)
unfolding require
passed true n rest e = (refl, e)
passed false n rest e = absurd (omega arith)

module _ (setting : Setting) (size : ℕ) (table : List ℕ) (h pr : File) (fs : List File) (L : LoadedSet setting size table h pr fs)
    (a : List ℕ) (len : length a ≡ size) (at_place : (k : ℕ) → k < count (set setting size table h pr fs) → PlacedAt setting size table h pr fs a k)
  where
    abbrev S : Objs
    S = set setting size table h pr fs

    steady : Steady setting size table h pr fs a
    steady = placed_steady setting size table h pr fs L a len at_place

    module _ (k : ℕ) (lo : 1 ≤ k) (hi : k < count (set setting size table h pr fs)) where
      abbrev f : File
      f = file_at setting size table h pr fs k

      abbrev image : List ℕ
      image = file_image f

      abbrev r : Record
      r = file_record f

      abbrev t : Turn
      t = turn_of table k

      link_offset : (d : ℕ) → d < count S → (link_at table d).offset ≡ (obj S d).offset
      link_offset d l = ap (λ (s : Link). s.offset) (lies setting size table h pr fs L d l).link

      -- what is copied from what was found
      module _ (p : ℕ) (y : Symbol) where
        found :
            (o : ℕ) → o < count S → (x : Definition) (v : ℕ) (b : Bool) → eqb (min y.size x.size) 0 ≡ b
            → pick b 0
            (require (in_writable r.segments p (min y.size x.size)) 17 (require (copy_ok S k p o (definition_of x) (min y.size x.size)) 18 0)) ≡ 0
            → pick b []
            (record { to = (obj S k).offset + p; source = (obj S o).offset + x.value; size = min y.size x.size } ∷ [])
            ≡ option_to_list (copy_linked (length a) t p (link_at table o) x (min y.size x.size))
        unfolding copy_linked
        found o ol x v true z e = rw z
        found o ol x v false z e =
            let w = passed (in_writable r.segments p (min y.size x.size)) 16 _ e in
            let ok = passed (copy_ok S k p o (definition_of x) (min y.size x.size)) 17 0 w.1 in
            let fits : copy_fits (length a) t p (link_at table o) x (min y.size x.size) ≡ true =
            ap (λ (s : ℕ). copy_fits s t p (link_at table o) x (min y.size x.size)) len
            ∙ (copy_tests setting size table h pr fs L k o hi ol p (min y.size x.size) (writable_inside f.host f.bytes p (min y.size x.size) w.0) x
            ∙ ok.0) in
            rw (fits, z, link_offset k hi, link_offset o ol)

        by :
            (x : model.Resolved) (s : Option Hit) → scoped_of s ≡ x → ((o : ℕ) (z : model.Definition) (v : ℕ) → x ≡ answer o z v → o < count S)
            → (e : Rela) → e.place ≡ p → copy_refusal S k r p y.size x ≡ 0 → copy_found S k p y.size x ≡ option_to_list (copy_to table (length a) t e y s)
        unfolding scoped_of copy_refusal copy_found copy_to
        by x None eq range e is z = rw (← eq)
        by x (Some hit) eq range e is z =
            rw (is, ← eq)
            (found hit.object (range hit.object (definition_of hit.definition) hit.address (sym eq)) hit.definition hit.address (eqb (min y.size hit.definition.size) 0) refl
            (subst (λ (x : model.Resolved). copy_refusal S k r p y.size x ≡ 0) (sym eq) z))

      image_is : image_in a t ≡ image
      image_is = at_place k hi

      checked :
          (e : Rela) (c : Result Symbol Refusal) → checked_symbol image r e.symbol ≡ c
          → symbol_then c (λ y. copy_refusal S k r e.place y.size (resolve_copy S (wanted_by image r e.symbol))) ≡ 0
          → copy_found S k e.place (symbol_at image r.symbols e.symbol).size (resolve_copy S (wanted_by image r e.symbol))
          ≡ option_to_list (copy_checked table a t r e c)
      unfolding copy_checked
      checked e c is z =
          ⊎_elim
          (λ s.
          let y : Symbol = symbol_at image r.symbols e.symbol in
          let same : c ≡ Ok y = sym is ∙ s.0 in
          let z' = subst (λ (c : Result Symbol Refusal). symbol_then c (λ y. copy_refusal S k r e.place y.size (resolve_copy S (wanted_by image r e.symbol))) ≡ 0) same z in
          let name : name_of (image_in a t) r y ≡ symbol_name image r.symbols r.strings e.symbol =
          ap (λ (i : List ℕ). name_of i r y) image_is ∙ name_is image r e.symbol in
          subst (λ (c : Result Symbol Refusal). copy_found S k e.place y.size (resolve_copy S (wanted_by image r e.symbol)) ≡ option_to_list (copy_checked table a t r e c)) (sym same)
          (by e.place y (resolve_copy S (wanted_by image r e.symbol)) (sought_for_copy table a (name_of (image_in a t) r y))
          (ap (λ (x : List ℕ). scoped_of (sought_for_copy table a x)) name ∙ copy_searches setting size table h pr fs L a steady (symbol_name image r.symbols r.strings e.symbol))
          (λ o d v q. (resolve_copy_range S (wanted_by image r e.symbol) o d v q).0) e refl z'))
          (λ s.
          absurd (s.1 (subst (λ (c : Result Symbol Refusal). symbol_then c (λ y. copy_refusal S k r e.place y.size (resolve_copy S (wanted_by image r e.symbol))) ≡ 0) (sym is ∙ s.2) z)))
          (symbol_case image r e.symbol)

      by_row :
          (e : Rela) (x : Row) → refusal_by S k image r e x ≡ 0 → copy_by S k image r e x ≡ option_to_list (copy_seen table a t r e x)
      unfolding refusal_by copy_by copy_seen
      by_row e ignored z = refl
      by_row e passed_over z = refl
      by_row e turned_away z = refl
      by_row e marked_refuse z = refl
      by_row e (writes sought g) z = refl
      by_row e copies z =
          rw image_is (checked e (checked_symbol image r e.symbol) refl z)

      module _ (os : List Input) (file_is : (get_or os k no_input).file ≡ f.bytes) where
        record_is : again_of table os a k ≡ r
        record_is = rw file_is (again setting size table h pr fs L a k lo hi (at_place k hi)).1

        pub agrees : Agrees setting.row S k image r (seen_at table os a k)
        agrees e z =
            rw (record_is, L.typed e.rtype) (by_row e (setting.row e.rtype) z)

        pub entries_are : entries_at table os a k ≡ relas_of image r
        unfolding entries_by relas_of
        entries_are =
            let few = counts setting size table h pr fs L k lo hi in
            let m : cut_to32 r.relas ≡ r.relas = omega (arith, few.0) in
            let n : cut_to32 r.plts ≡ r.plts = omega (arith, few.1) in
            rw (record_is, image_is, m, n)

        pub readable : again_refusal (image_in a t) (get_or os k no_input).file ≡ 0
        readable = rw file_is (again setting size table h pr fs L a k lo hi (at_place k hi)).0
