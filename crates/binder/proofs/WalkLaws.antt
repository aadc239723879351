-- The walk over the copies of an order, round by round: what it keeps and what it finds. Assumes nothing.
use Rattle.std.proofs.Common.{◌≡◌, ℕ, suc, ◌+◌, ◌<◌, ◌≤◌, true, false, ltb, leb, List, [], ◌∷◌, ◌++◌, length, get_or, take, drop, sym, refl, ap, ◌∙◌, subst, append_assoc, append-nil, arith, length-append, take-append-drop, take_all, take-suc, Option, None, Some}
use lib.Seq.{split_at, drop-nil}
use Rattle.std.specs.List.{filter_map, list_any}
use Rattle.std.specs.Option.{option_to_list}
use Rattle.std.proofs.lemmas.List.Elements.{filter_map-append}
use Rattle.words.specs.Choice.{pick, both, some}
use Rattle.object.specs.Record.{Record}
use Rattle.object.specs.declared.relocate.Rela.{Rela}
use Rattle.object.proofs.ListTests.{some_any}
use Rattle.sheet.specs.Sheet.{Input, no_input}
use Rattle.binder.specs.Copies.{crosses}
use Rattle.binder.specs.Steps.Relocating.{image_in, turn_of, again_refusal, again_record}
use Rattle.binder.specs.Steps.Crossing.{seen_of, entries_of, no_rela, round, compared}
use Rattle.binder.specs.Steps.Crossing.{EachApart, Seen, WalksOn, Readable, seen_at, entries_at, copies_among}
use Rattle.binder.specs.Steps.Crossing.{copies_met, Met, Passed, FirstCrossing}
use Rattle.binder.specs.declared.turn.Turn.{Turn}
use Rattle.binder.specs.declared.crossing.Copy.{Copy}
use Rattle.binder.specs.declared.crossing.Walk.{Walk}
use Rattle.binder.specs.declared.crossing.Crossing.{Crossing}
use Rattle.binder.proofs.ApartLaws.{cons_is, some_part, apart_left, apart_one, apart_more, apart_all}
use Rattle.binder.proofs.CrossCode.{compared_next}

-- ---- entries, one after another

one_more :
    (f : Rela → Option Copy) (es : List Rela) (i : ℕ) → i < length es
    → filter_map f (take (i + 1) es) ≡ filter_map f (take i es) ++ option_to_list (f (get_or es i no_rela))
one_more f es i l =
    let z : i + 1 ≡ suc i = omega arith in
    ap (λ (n : ℕ). filter_map f (take n es)) z
    ∙ (ap (filter_map f) (take-suc es i no_rela l)
    ∙ (filter_map-append f (take i es) (get_or es i no_rela ∷ [])
    ∙ ap (λ (l : List Copy). filter_map f (take i es) ++ l) (cons_is (f (get_or es i no_rela)) [] ∙ append-nil (option_to_list (f (get_or es i no_rela))))))

-- the code compares with what is kept
compares : (ys : List Copy) (w : Walk) (c : Copy) → Seen ys w → list_any (crosses c) w.kept.items ≡ some (crosses c) (compared w.first ys)
compares ys w c s = ap (list_any (crosses c)) s.kept ∙ sym (some_any (crosses c) (compared w.first ys))

-- after a copy that crosses none of those
seen_one :
    (ys : List Copy) (w w' : Walk) (c : Copy) → Seen ys w → list_any (crosses c) w.kept.items ≡ false → w'.first ≡ w.first → w'.seen ≡ w.seen + 1
    → w'.kept.items ≡ pick (both (leb w.first w.seen) (ltb (length w.kept.items) round)) (w.kept.items ++ (c ∷ [])) w.kept.items
    → Seen (ys ++ (c ∷ [])) w'
seen_one ys w w' c s e same more keeps =
    record {
      count = length-append ys (c ∷ []) ∙ rw (more, s.count);
      apart = rw same (apart_one (compared w.first) ys c s.apart (sym (compares ys w c s) ∙ e));
      kept = keeps ∙ (rw (s.kept, ← s.count, same) (sym (compared_next w.first ys c)));
    }

module _ (w₀ : Walk) (f : Rela → Option Copy) (es : List Rela) where
  -- before entry `i`
  abbrev pub Walking : ℕ → Walk → Type 0
  Walking i w = (ys : List Copy) → Seen ys w₀ → Seen (ys ++ filter_map f (take i es)) w

  pub walk_begin : Walking 0 w₀
  walk_begin ys s = rw (append-nil ys) s

  module _ (i : ℕ) (w : Walk) (at : Walking i w) (l : i < length es) where
    pub walk_skips : f (get_or es i no_rela) ≡ None → Walking (i + 1) w
    walk_skips z ys s = rw (one_more f es i l, z, append-nil) (at ys s)

    module _ (c : Copy) (is : f (get_or es i no_rela) ≡ Some c) where
      pub walk_goes :
          (w' : Walk) → list_any (crosses c) w.kept.items ≡ false → w'.first ≡ w.first → w'.seen ≡ w.seen + 1
          → w'.kept.items ≡ pick (both (leb w.first w.seen) (ltb (length w.kept.items) round)) (w.kept.items ++ (c ∷ [])) w.kept.items
          → Walking (i + 1) w'
      walk_goes w' e same more keeps ys s =
          let step : ys ++ filter_map f (take (i + 1) es) ≡ (ys ++ filter_map f (take i es)) ++ (c ∷ []) =
          rw (one_more f es i l, is) (sym (append_assoc ys (filter_map f (take i es)) (c ∷ []))) in
          rw step (seen_one (ys ++ filter_map f (take i es)) w w' c (at ys s) e same more keeps)

      pub walk_stops : list_any (crosses c) w.kept.items ≡ true → WalksOn w₀ f es w (Some i)
      walk_stops e ys s =
          let x = at ys s in
          let z : some (crosses c) (ys ++ filter_map f (take i es)) ≡ true =
          some_part (crosses c) w.first round (ys ++ filter_map f (take i es)) (sym (compares (ys ++ filter_map f (take i es)) w c x) ∙ e) in
          (x, record { entry = l; crossed = rw is z })

  pub walk_ends : (i : ℕ) (w : Walk) → Walking i w → length es ≤ i → WalksOn w₀ f es w None
  walk_ends i w at l ys s = (subst (λ (x : List Rela). Seen (ys ++ filter_map f x) w) (take_all i es l) (at ys s), Prim.tt {0})

-- with the record that is read again
pub walk_at :
    (w w' : Walk) (r : Option ℕ) (table a file : List ℕ) (k : ℕ) {t : Turn} {h : Record} → t ≡ turn_of table k
    → (again_refusal (image_in a t) file ≡ 0 → h ≡ again_record (image_in a t) file)
    → WalksOn w (seen_of table a t h) (entries_of (image_in a t) h) w' r → again_refusal (image_in a (turn_of table k)) file ≡ 0
    → WalksOn w (seen_of table a (turn_of table k) (again_record (image_in a (turn_of table k)) file))
    (entries_of (image_in a (turn_of table k)) (again_record (image_in a (turn_of table k)) file)) w' r
walk_at w w' r table a file k {t} {h} e f walk z =
    subst
    (λ (t : Turn).
    WalksOn w (seen_of table a t (again_record (image_in a t) file))
    (entries_of (image_in a t) (again_record (image_in a t) file)) w' r)
    e
    (subst (λ (h : Record). WalksOn w (seen_of table a t h) (entries_of (image_in a t) h) w' r)
    (f (subst (λ (t : Turn). again_refusal (image_in a t) file ≡ 0) (sym e) z)) walk)

-- ---- objects, one after another

module _ (table : List ℕ) (os : List Input) (a : List ℕ) (ks : List ℕ) where
  abbrev of : List ℕ → List Copy
  of = copies_among table os a

  abbrev own : ℕ → List Copy
  own k = filter_map (seen_at table os a k) (entries_at table os a k)

  among_append : (xs ys : List ℕ) → of (xs ++ ys) ≡ of xs ++ of ys
  unfolding copies_among
  among_append [] ys = refl
  among_append (x ∷ xs) ys = ap (λ (l : List Copy). own x ++ l) (among_append xs ys) ∙ sym (append_assoc (own x) (of xs) (of ys))

  among_one : (i : ℕ) → i < length ks → of (take (i + 1) ks) ≡ of (take i ks) ++ own (get_or ks i 0)
  unfolding copies_among
  among_one i l =
      let z : i + 1 ≡ suc i = omega arith in
      ap (λ (n : ℕ). of (take n ks)) z
      ∙ (ap of (take-suc ks i 0 l)
      ∙ (among_append (take i ks) (get_or ks i 0 ∷ []) ∙ ap (λ (l : List Copy). of (take i ks) ++ l) (append-nil (own (get_or ks i 0)))))

  -- before the object at the place `i`
  abbrev pub Scanning : ℕ → Walk → Type 0
  Scanning i w = Seen (of (take i ks)) w

  pub scan_begin : (w : Walk) → w.seen ≡ 0 → w.kept.items ≡ [] → Scanning 0 w
  unfolding copies_among EachApart
  scan_begin w z e = record { count = sym z; apart = Prim.tt {0}; kept = e ∙ sym (ap (take round) (drop-nil w.first)) }

  module _ (i : ℕ) (w w' : Walk) (at : Scanning i w) (l : i < length ks) where
    abbrev Walks : Option ℕ → Type 0
    Walks r = WalksOn w (seen_at table os a (get_or ks i 0)) (entries_at table os a (get_or ks i 0)) w' r

    pub scan_goes : Walks None → Scanning (i + 1) w'
    scan_goes walk = rw (among_one i l) (walk (of (take i ks)) at).0

    pub scan_stops : (j : ℕ) → Walks (Some j) → Passed table os a ks w' (Some (record { index = i; entry = j }))
    scan_stops j walk = let x = walk (of (take i ks)) at in record { scanned = x.0; met = record { object = l; crossed = x.1 } }

  pub scan_ends : (i : ℕ) (w : Walk) → Scanning i w → length ks ≤ i → Passed table os a ks w None
  scan_ends i w at l =
      record { scanned = subst (λ (x : List ℕ). Seen (of x) w) (take_all i ks l) at; met = Prim.tt {0} }

  -- ---- round by round

  abbrev before : Option Crossing → List Copy
  before = copies_met table os a ks

  prefix : (m : Option Crossing) → Met table os a ks m → (rest : List Copy) × (before m ++ rest ≡ of ks)
  unfolding copies_among
  prefix None g = ([], append-nil (of ks))
  prefix (Some m) g =
      let i : ℕ = m.index in
      let j : ℕ = m.entry in
      let k : ℕ = get_or ks i 0 in
      let f : Rela → Option Copy = seen_at table os a k in
      let es : List Rela = entries_at table os a k in
      let front : List Copy = of (take i ks) in
      let pre : List Copy = filter_map f (take j es) in
      let post : List Copy = filter_map f (drop j es) in
      let back : List Copy = of (drop (suc i) ks) in (
        post ++ back,
        append_assoc front pre (post ++ back)
            ∙ (ap (λ (l : List Copy). front ++ l)
            (sym (append_assoc pre post back)
            ∙ ap (λ (l : List Copy). l ++ back) (sym (filter_map-append f (take j es) (drop j es)) ∙ ap (filter_map f) (take-append-drop j es)))
            ∙ (sym (among_append (take i ks) (k ∷ drop (suc i) ks)) ∙ ap of (sym (split_at ks i 0 g.object)))),
      )

  longer_of : (xs xr ys yr : List Copy) → xs ++ xr ≡ ys ++ yr → length xs ≤ length ys → (z : List Copy) × (ys ≡ xs ++ z)
  longer_of [] xr ys yr e l = (ys, refl)
  longer_of (x ∷ xs) xr [] yr e l = absurd (omega arith)
  longer_of (x ∷ xs) xr (y ∷ ys) yr e l =
      let h : x ≡ y = cc in
      let t : xs ++ xr ≡ ys ++ yr = cc in
      let r = longer_of xs xr ys yr t (omega arith) in
      (r.0, ap (λ (l : List Copy). y ∷ l) r.1 ∙ ap (λ (c : Copy). c ∷ (xs ++ r.0)) (sym h))

  -- before the round from `first` on; `many` copies stand before what is met
  pub record Searching (first many : ℕ) (m : Option Crossing) : Type 0 where
    pub count : length (before m) ≡ many
    pub apart : EachApart (take first) [] (before m)
    pub met : Met table os a ks m

  pub search_begin : (w : Walk) (m : Option Crossing) → w.first ≡ 0 → Passed table os a ks w m → Searching round w.seen m
  search_begin w m e p =
      record { count = p.scanned.count; apart = subst (λ (n : ℕ). EachApart (compared n) [] (before m)) e p.scanned.apart; met = p.met }

  module _ (first many : ℕ) (m q : Option Crossing) (w : Walk) (now : Searching first many m) (p : Passed table os a ks w q) (here : w.first ≡ first) where
    both_lists : before m ++ (prefix m now.met).0 ≡ before q ++ (prefix q p.met).0
    both_lists = (prefix m now.met).1 ∙ sym (prefix q p.met).1

    in_round : EachApart (compared first) [] (before q)
    in_round = subst (λ (n : ℕ). EachApart (compared n) [] (before q)) here p.scanned.apart

    pub search_keeps : many ≤ w.seen → Searching (first + round) many m
    search_keeps l =
        let z = longer_of (before m) _ (before q) _ both_lists (omega (arith, now.count, p.scanned.count)) in
        let s = subst (λ (l : List Copy). EachApart (compared first) [] l) z.1 in_round in
        record {
          count = now.count;
          apart = apart_more first round [] (before m) now.apart (apart_left (compared first) [] (before m) z.0 s);
          met = now.met;
        }

    pub search_takes : w.seen < many → Searching (first + round) w.seen q
    search_takes l =
        let z = longer_of (before q) _ (before m) _ (sym both_lists) (omega (arith, now.count, p.scanned.count)) in
        let s = subst (λ (l : List Copy). EachApart (take first) [] l) z.1 now.apart in
        record {
          count = p.scanned.count;
          apart = apart_more first round [] (before q) (apart_left (take first) [] (before q) z.0 s) in_round;
          met = p.met;
        }

  pub search_ends : (first many : ℕ) (m : Option Crossing) → Searching first many m → many ≤ first → FirstCrossing table os a ks m
  search_ends first many m s l = record { quiet = apart_all first [] (before m) (omega (arith, s.count)) s.apart; met = s.met }

-- the walk over the object at the place `i` of an order
pub walk_here :
    (table : List ℕ) (os : List Input) (a ks : List ℕ) (i : ℕ) → i < length ks → (w w' : Walk) (r : Option ℕ) {file : List ℕ}
    → file ≡ (get_or os (get_or ks i 0) no_input).file
    → (again_refusal (image_in a (turn_of table (get_or ks i 0))) file ≡ 0
    → WalksOn w (seen_of table a (turn_of table (get_or ks i 0)) (again_record (image_in a (turn_of table (get_or ks i 0))) file))
    (entries_of (image_in a (turn_of table (get_or ks i 0))) (again_record (image_in a (turn_of table (get_or ks i 0))) file)) w' r)
    → Readable table os a ks
    → WalksOn w (seen_at table os a (get_or ks i 0)) (entries_at table os a (get_or ks i 0)) w' r
walk_here table os a ks i l w w' r f walk read =
    rw (← f) (walk (rw f (read i l)))
