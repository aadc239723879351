-- Where only the program copies, and to places that are apart by its symbols' own sizes, no copy crosses an earlier one: the destinations lie in
-- the claims, and the sources in other objects. Assumes nothing.
use Rattle.std.proofs.Common.{◌≡◌, ℕ, zero, suc, ◌+◌, ◌<◌, ◌≤◌, min, max, Bool, true, false, not, eqb, eqb-true, ltb, leb, ◌⊎◌, List, [], ◌∷◌, ◌++◌, length, get_or, sym, refl, ap, ◌∙◌, subst, inl, inr, ⊎_elim, append-nil, arith, length-take, le-ltb, leb-true, Err, Ok, Result, Option, None, Some}
use Rattle.std.specs.Option.{IfSome, IsSomeAnd}
use Rattle.words.specs.Memory.{inside}
use native.Mathlib.Decide.{dec_le}
use Rattle.std.specs.List.{filter_map, cons_option}
use Rattle.std.specs.Option.{option_to_list}
use Rattle.std.proofs.lemmas.List.Elements.{filter_map-append}
use Rattle.words.specs.Choice.{pick, either, some}
use Rattle.words.proofs.Choice.{both_true, both_false}
use Rattle.model.specs.Symbols.{by_name}
use Rattle.model.specs.Objects.{Objs, count}
use Rattle.model.proofs.Scope.{resolve_copy_range}
use Rattle.words.specs.declared.refusal.Refusal.{Refusal}
use Rattle.words.specs.declared.refusal.Refusal.TheVariants as refusals
use Rattle.object.specs.RelocationTypes.{Row, ignored, passed_over, turned_away, marked_refuse, copies, writes, applied_row, type_word}
use Rattle.object.specs.RelocationTypes as types
use Rattle.object.specs.HashCheck.{symbol_ok}
use Rattle.object.specs.Symbol.{symbol_at}
use Rattle.object.specs.Record.{Record, is_table_of, index_ok, checked_symbol, name_of}
use Rattle.object.specs.Record as records
use Rattle.object.specs.declared.symbol.Symbol.{Symbol}
use Rattle.object.specs.declared.hash_tables.Definition.{Definition}
use Rattle.object.specs.declared.relocate.Rela.{Rela}
use Rattle.sheet.specs.Sheet.{Input}
use Rattle.scope.specs.Steps.Links.{link_at}
use Rattle.scope.specs.declared.scope.Hit.{Hit}
use Rattle.scope.specs.Steps.ScopeCode.{hit_at}
use Rattle.binder.specs.Setting.{Setting}
use Rattle.binder.specs.Instance.{File, definition_of}
use Rattle.binder.specs.Copies.{meets, crosses}
use Rattle.binder.specs.Steps.ScopeModel.{scoped_of}
use Rattle.binder.specs.Steps.Relocating.{image_in, turn_of, copy_fits, sought_for_copy, row_at}
use Rattle.binder.specs.Steps.Crossing.{copies_row, copy_linked, copy_to, copy_checked, copy_seen, seen_of, EachApart, Quiet, tables_of, again_of, seen_at, entries_at, copies_among, claim_of, claims, claim_by, ClaimedOnce, EachClaim, EndsIn, NoCopies, PlainlyApart, ClaimsApart}
use Rattle.binder.specs.declared.turn.Turn.{Turn}
use Rattle.binder.specs.declared.crossing.Copy.{Copy}
use Rattle.binder.specs.declared.crossing.Claim.{Claim}
use Rattle.binder.proofs.Steady.{set, LoadedSet, Steady}
use Rattle.binder.proofs.SteadyLaws.{lies, apart, copy_searches}
use Rattle.binder.proofs.ApartLaws.{cons_is}
use Rattle.binder.proofs.ClaimLaws.{clash, is_inside, each_end}

-- ---- only type 5 copies

pick_row : (t : Bool) (x y : Row) → copies_row x ≡ false → copies_row y ≡ false → copies_row (pick t x y) ≡ false
pick_row true x y p q = p
pick_row false x y p q = q

pick_other : (t : Bool) (x y : Row) → t ≡ false → copies_row y ≡ false → copies_row (pick t x y) ≡ false
pick_other true x y z q = clash z
pick_other false x y z q = q

applied_5 : (rtype : ℕ) → eqb rtype 5 ≡ false → copies_row (applied_row rtype) ≡ false
unfolding types.applied_row
applied_5 rtype z =
    pick_row (eqb rtype 1) _ _ refl
    (pick_row (eqb rtype 2) _ _ refl
    (pick_other (eqb rtype 5) _ _ z
    (pick_row (eqb rtype 6) _ _ refl
    (pick_row (eqb rtype 7) _ _ refl
    (pick_row (eqb rtype 8) _ _ refl
    (pick_row (eqb rtype 10) _ _ refl (pick_row (eqb rtype 11) _ _ refl (pick_row (eqb rtype 24) _ _ refl refl))))))))

only_5 : (table : List ℕ) (rtype : ℕ) → eqb rtype 5 ≡ false → copies_row (row_at table rtype) ≡ false
unfolding row_at types.row_under
only_5 table rtype z =
    pick_row (ltb rtype 64) _ _
    (pick_row (eqb (get_or table (1026 + rtype) 0) (type_word 9 rtype)) _ _ (applied_5 rtype z)
    (pick_row (eqb (get_or table (1026 + rtype) 0) (type_word 10 rtype)) _ _ (pick_row (eqb rtype 0) _ _ refl refl)
    (pick_row (eqb rtype 37) _ _ refl refl)))
    refl

module _ (table a : List ℕ) (t : Turn) (r : Record) where
  not_copied : (e : Rela) (x : Row) → copies_row x ≡ false → copy_seen table a t r e x ≡ None
  unfolding copy_seen
  not_copied e ignored h = refl
  not_copied e passed_over h = refl
  not_copied e turned_away h = refl
  not_copied e marked_refuse h = refl
  not_copied e (writes sought f) h = refl
  not_copied e copies h = clash h

  -- no COPY entries, no copies
  no_copies : (es : List Rela) → NoCopies es → filter_map (seen_of table a t r) es ≡ []
  unfolding NoCopies
  no_copies [] n = refl
  no_copies (e ∷ es) n =
      ap (λ (c : Option Copy). cons_option c (filter_map (seen_of table a t r) es)) (not_copied e (row_at table e.rtype) (only_5 table e.rtype n.0))
      ∙ no_copies es n.1

-- ---- ranges without a byte in common

meets_not : (at n other m : ℕ) → (at + n ≤ other) ⊎ (other + m ≤ at) → meets at n other m ≡ false
unfolding meets
meets_not at n other m (inl l) = both_false (ltb at (other + m)) (ltb other (at + n)) (le-ltb other (at + n) l)
meets_not at n other m (inr l) = rw (le-ltb at (other + m) l)

crosses_not :
    (c d : Copy) → meets c.to c.size d.to d.size ≡ false → meets c.source c.size d.to d.size ≡ false
    → meets c.to c.size d.source d.size ≡ false → crosses c d ≡ false
unfolding crosses
crosses_not c d p q s = rw (p, q, s)

either_not : (s t : Bool) → either s t ≡ false → (s ≡ false) × (t ≡ false)
either_not true t e = clash e
either_not false t e = (refl, e)

positive : (n : ℕ) → eqb n 0 ≡ false → 0 < n
positive zero h = cc
positive (suc n) h = omega arith

-- ---- copies whose destinations lie in claims

-- the copy goes into the claim, in an object at `off` with that span, and comes from outside the object
record Within (off span : ℕ) (c : Claim) (q : Copy) : Type 0 where
  pub some : 0 < q.size
  pub goes : q.to ≡ off + c.place
  pub less : q.size ≤ c.size
  pub away : (q.source + q.size ≤ off) ⊎ (off + span ≤ q.source)

module _ (off span end : ℕ) (short : end ≤ span) (f : Rela → Option Copy) (g : Rela → Option Claim)
    (within : (e : Rela) (c : Copy) → f e ≡ Some c → IsSomeAnd (g e) (λ k. Within off span k c)) where
  -- two claims that end inside the object and have no byte in common
  module _ (c x : Copy) (k j : Claim) (wc : Within off span k c) (wx : Within off span j x) (ek : EndsIn end k) (ej : EndsIn end j)
      (once : (b : ℕ) → b < end → inside k.place k.size b ≡ true → inside j.place j.size b ≡ false) where
    apart_claims : (k.place + c.size ≤ j.place) ⊎ (j.place + x.size ≤ k.place)
    apart_claims = go (dec_le (k.place + c.size) j.place) (dec_le (j.place + x.size) k.place)
      where
        go :
            Dec (k.place + c.size ≤ j.place) → Dec (j.place + x.size ≤ k.place)
            → (k.place + c.size ≤ j.place) ⊎ (j.place + x.size ≤ k.place)
        go (yes l) y = inl l
        go (no l) (yes y) = inr y
        go (no l) (no y) =
            let b : ℕ = max k.place j.place in
            let i = is_inside k.place k.size b (omega arith) (omega (arith, wc.less, wc.some)) in
            let h = is_inside j.place j.size b (omega arith) (omega (arith, wx.less, wx.some)) in
            clash (sym h ∙ once b (omega (arith, wc.less, wc.some, ek)) i)

    pair_apart : crosses c x ≡ false
    pair_apart =
        crosses_not c x
        (meets_not c.to c.size x.to x.size
        (⊎_elim (λ l. inl (omega (arith, wc.goes, wx.goes))) (λ l. inr (omega (arith, wc.goes, wx.goes))) apart_claims))
        (meets_not c.source c.size x.to x.size
        (⊎_elim (λ l. inl (omega (arith, wx.goes))) (λ l. inr (omega (arith, wx.goes, wx.less, ej))) wc.away))
        (meets_not c.to c.size x.source x.size
        (⊎_elim (λ l. inr (omega (arith, wc.goes))) (λ l. inl (omega (arith, wc.goes, wc.less, ek))) wx.away))

  pair_claims :
      (c x : Copy) (k j : Option Claim) → IsSomeAnd k (λ k. Within off span k c) → IsSomeAnd j (λ j. Within off span j x)
      → IfSome k (EndsIn end) → IfSome j (EndsIn end) → ((b : ℕ) → b < end → claims k b ≡ true → claims j b ≡ false) → crosses c x ≡ false
  pair_claims c x None j wc wx ek ej once = absurd wc
  pair_claims c x (Some k) None wc wx ek ej once = absurd wx
  pair_claims c x (Some k) (Some j) wc wx ek ej once = pair_apart c x k j wc wx ek ej once

  one_apart :
      (e : Rela) (c : Copy) → f e ≡ Some c → IfSome (g e) (EndsIn end) → (pre : List Rela) → EachClaim g (EndsIn end) pre
      → ((b : ℕ) → b < end → claims (g e) b ≡ true → some (λ d. claims (g d) b) pre ≡ false) → some (crosses c) (filter_map f pre) ≡ false
  unfolding some EachClaim
  one_apart e c is ee [] i once = refl
  one_apart e c is ee (d ∷ ds) i once =
      go (f d) refl
      (one_apart e c is ee ds i.1 (λ b l h. (either_not (claims (g d) b) (some (λ d. claims (g d) b) ds) (once b l h)).1))
    where
      go :
          (t : Option Copy) → f d ≡ t → some (crosses c) (filter_map f ds) ≡ false
          → some (crosses c) (cons_option t (filter_map f ds)) ≡ false
      go None z rest = rest
      go (Some x) z rest =
          rw (pair_claims c x (g e) (g d) (within e c is) (within d x z) ee i.0
          (λ b l h. (either_not (claims (g d) b) (some (λ d. claims (g d) b) ds) (once b l h)).0))
          rest

  gather_end : (pre : List Rela) (e : Rela) → filter_map f (pre ++ (e ∷ [])) ≡ filter_map f pre ++ option_to_list (f e)
  gather_end pre e = filter_map-append f pre (e ∷ []) ∙ ap (λ (cs : List Copy). filter_map f pre ++ cs) (cons_is (f e) [] ∙ append-nil (option_to_list (f e)))

  all_apart :
      (pre es : List Rela) → EachClaim g (EndsIn end) pre → EachClaim g (EndsIn end) es → ClaimedOnce g 0 end pre es
      → Quiet (filter_map f pre) (filter_map f es)
  unfolding EachApart EachClaim ClaimedOnce
  all_apart pre [] i j once = Prim.tt {0}
  all_apart pre (e ∷ es) i j once =
      go (f e) refl
      (subst (λ (cs : List Copy). Quiet cs (filter_map f es)) (gather_end pre e)
      (all_apart (pre ++ (e ∷ [])) es (each_end g (EndsIn end) pre e i j.0) j.1 once.1))
    where
      go :
          (t : Option Copy) → f e ≡ t → Quiet (filter_map f pre ++ option_to_list t) (filter_map f es)
          → Quiet (filter_map f pre) (cons_option t (filter_map f es))
      go None z rest = subst (λ (cs : List Copy). Quiet cs (filter_map f es)) (append-nil (filter_map f pre)) rest
      go (Some c) z rest = (one_apart e c z j.0 pre i (λ b l h. once.0 b (omega arith) l h), rest)

-- ---- the symbol of an entry

checked_is : (image : List ℕ) (r : Record) (index : ℕ) (y : Symbol) → checked_symbol image r index ≡ Ok y → y ≡ symbol_at image r.symbols index
unfolding records.checked_symbol
checked_is image r index y = go (index_ok r.known index) (symbol_ok (is_table_of r) image r.symbols r.strings index)
  where
    go :
        (s t : Bool)
        → pick s (pick t (Ok (symbol_at image r.symbols index)) (Err refusals.SymbolBytes)) (Err refusals.SymbolIndex) ≡ Ok y
        → y ≡ symbol_at image r.symbols index
    go true true e = cc
    go true false e = let z : ◌≡◌ {A = ℕ} 0 1 = cc in absurd (omega arith)
    go false t e = let z : ◌≡◌ {A = ℕ} 0 1 = cc in absurd (omega arith)

-- ---- a loaded set

module _ (setting : Setting) (size : ℕ) (table : List ℕ) (h pr : File) (fs : List File) (L : LoadedSet setting size table h pr fs)
    (a : List ℕ) (steady : Steady setting size table h pr fs a) (os : List Input) where
  abbrev S : Objs
  S = set setting size table h pr fs

  abbrev t : Turn
  t = turn_of table 1

  abbrev image : List ℕ
  image = image_in a t

  abbrev r : Record
  r = again_of table os a 1

  abbrev In1 : Claim → Copy → Type 0
  In1 = Within (link_at table 1).offset (link_at table 1).span

  -- COPY is answered by an object other than the program
  found_range : (name : List ℕ) (k : ℕ) (d : Definition) (v : ℕ) → sought_for_copy table a name ≡ hit_at k d v → (k < count S) × (k ≡ 1 → ⊥)
  unfolding scoped_of
  found_range name k d v e =
      resolve_copy_range S (by_name name) k (definition_of d) v (sym (copy_searches setting size table h pr fs L a steady name) ∙ ap scoped_of e)

  outside :
      (k : ℕ) → k < count S → (k ≡ 1 → ⊥)
      → ((link_at table k).offset + (link_at table k).span ≤ (link_at table 1).offset)
      ⊎ ((link_at table 1).offset + (link_at table 1).span ≤ (link_at table k).offset)
  outside k l ne =
      rw ((lies setting size table h pr fs L k l).link, (lies setting size table h pr fs L 1 (omega arith)).link)
      (apart setting size table h pr fs L k 1 l (omega arith) ne)

  within_at :
      (p : ℕ) (y : Symbol) (k : ℕ) → k < count S → (k ≡ 1 → ⊥) → (d : Definition) (q : Copy)
      → copy_linked (length a) t p (link_at table k) d (min y.size d.size) ≡ Some q → In1 (record { place = p; size = y.size }) q
  unfolding copy_linked copy_fits
  within_at p y k l ne d q = go (eqb n 0) refl (copy_fits (length a) t p (link_at table k) d n) refl
    where
      n : ℕ
      n = min y.size d.size

      c : Copy
      c = record { to = t.offset + p; source = (link_at table k).offset + d.value; size = n }

      go :
          (b : Bool) → eqb n 0 ≡ b → (f : Bool) → copy_fits (length a) t p (link_at table k) d n ≡ f
          → pick b None (pick f (Some c) None) ≡ Some q → In1 (record { place = p; size = y.size }) q
      go true s f z e = cc
      go false s false z e = cc
      go false s true z e =
          let is : c ≡ q = cc in
          let x = both_true (not d.absolute) _ z in
          let i = leb-true (d.value + n) (link_at table k).span (both_true (leb (d.value + n) (link_at table k).span) _ x.1).0 in
          subst (In1 (record { place = p; size = y.size })) is
          (record {
            some = positive n s;
            goes = refl;
            less = omega arith;
            away = ⊎_elim (λ u. inl (omega arith)) (λ u. inr (omega arith)) (outside k l ne);
          })

  within_to :
      (e : Rela) (y : Symbol) (s : Option Hit) → ((k : ℕ) (d : Definition) (v : ℕ) → s ≡ hit_at k d v → (k < count S) × (k ≡ 1 → ⊥))
      → (q : Copy) → copy_to table (length a) t e y s ≡ Some q → In1 (record { place = e.place; size = y.size }) q
  unfolding copy_to
  within_to e y None range q some = cc
  within_to e y (Some hit) range q some = let b = range hit.object hit.definition hit.address refl in within_at e.place y hit.object b.0 b.1 hit.definition q some

  within_checked :
      (e : Rela) (c : Result Symbol Refusal) → checked_symbol image r e.symbol ≡ c → (q : Copy) → copy_checked table a t r e c ≡ Some q
      → In1 (record { place = e.place; size = (symbol_at image r.symbols e.symbol).size }) q
  unfolding copy_checked
  within_checked e (Err n) is q some = cc
  within_checked e (Ok y) is q some =
      subst (λ (x : Symbol). In1 (record { place = e.place; size = x.size }) q) (checked_is image r e.symbol y is)
      (within_to e y (sought_for_copy table a (name_of image r y)) (found_range (name_of image r y)) q some)

  within_row :
      (e : Rela) (x : Row) (q : Copy) → copy_seen table a t r e x ≡ Some q
      → In1 (record { place = e.place; size = (symbol_at image r.symbols e.symbol).size }) q
  unfolding copy_seen
  within_row e ignored q some = cc
  within_row e passed_over q some = cc
  within_row e turned_away q some = cc
  within_row e marked_refuse q some = cc
  within_row e (writes sought f) q some = cc
  within_row e copies q some = within_checked e (checked_symbol image r e.symbol) refl q some

  -- the program's copies lie in its claims
  within_claims : (e : Rela) (q : Copy) → seen_at table os a 1 e ≡ Some q → IsSomeAnd (claim_by image (tables_of r) e) (λ c. In1 c q)
  unfolding claim_of
  within_claims e q some = go (eqb e.rtype 5) refl (eqb own 0) refl
    where
      own : ℕ
      own = (symbol_at image r.symbols e.symbol).size

      go :
          (b : Bool) → eqb e.rtype 5 ≡ b → (z : Bool) → eqb own 0 ≡ z
          → IsSomeAnd (pick b (pick z None (Some (record { place = e.place; size = own }))) None) (λ c. In1 c q)
      go false i z j = let n = not_copied table a t r e (row_at table e.rtype) (only_5 table e.rtype i) in cc
      go true i true j =
          let w = within_row e (row_at table e.rtype) q some in
          let n : own ≡ 0 = eqb-true own 0 j in
          absurd (omega (arith, w.some, w.less, n))
      go true i false j = within_row e (row_at table e.rtype) q some

  program_apart : ClaimsApart image (tables_of r) → Quiet [] (filter_map (seen_at table os a 1) (entries_at table os a 1))
  unfolding EachClaim
  program_apart c =
      all_apart (link_at table 1).offset (link_at table 1).span (length image) (simp length-take (omega arith)) (seen_at table os a 1)
      (claim_by image (tables_of r)) within_claims [] (entries_at table os a 1) (Prim.tt {0}) c.ends c.once

  abbrev Here : List ℕ → ℕ → Type 0
  Here l i =
      NoCopies (entries_at table os a (get_or l i 0))
      ⊎ ((i + 1 ≡ length l) × (get_or l i 0 ≡ 1) × ClaimsApart (image_in a (turn_of table 1)) (tables_of (again_of table os a 1)))

  pub plain_quiet : (ks : List ℕ) → PlainlyApart table os a ks → Quiet [] (copies_among table os a ks)
  unfolding copies_among EachApart
  plain_quiet [] f = Prim.tt {0}
  plain_quiet (k ∷ ks) f =
      ⊎_elim
      (λ n.
      subst (λ (cs : List Copy). Quiet [] (cs ++ copies_among table os a ks)) (sym (no_copies table a (turn_of table k) (again_of table os a k) (entries_at table os a k) n))
      (plain_quiet ks (λ i l. again i l (f (suc i) (omega arith)))))
      (λ x. last ks (omega (arith, x.0)) x.1 (program_apart x.2))
      (f 0 (omega arith))
    where
      again : (i : ℕ) → i < length ks → Here (k ∷ ks) (suc i) → Here ks i
      again i l (inl n) = inl n
      again i l (inr x) = inr (omega (arith, x.0), x.1, x.2)

      last :
          (js : List ℕ) → length js ≡ 0 → k ≡ 1 → Quiet [] (filter_map (seen_at table os a 1) (entries_at table os a 1))
          → Quiet [] (filter_map (seen_at table os a k) (entries_at table os a k) ++ copies_among table os a js)
      last [] z e q =
          subst (Quiet []) (sym (append-nil (filter_map (seen_at table os a k) (entries_at table os a k))))
          (subst (λ (j : ℕ). Quiet [] (filter_map (seen_at table os a j) (entries_at table os a j))) (sym e) q)
      last (j ∷ js) z e q = absurd (omega arith)
