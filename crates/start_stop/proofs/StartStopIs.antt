-- What a call to `start_stop` comes to, step by step, is its definition. Assumes nothing.
use mathlib.Core.Path.{◌≡◌, refl, sym, ap, ◌∙◌, subst}
use mathlib.Core.Bool.{true, false}
use mathlib.Core.Logic.{⊎_elim}
use mathlib.Core.List.{List, [], ◌∷◌, map}
use Prim.Native.Nat.{ℕ, zero, suc, ◌+◌, ◌≤◌, ◌<◌}
use native.Mathlib.Omega.{arith}
use native.Mathlib.Decide.{dec_lt}
use borrow.Author.Tests.{eq-eqb}
use lib.Dec.{eqb}
use lib.ListN.{length, get_or, replicate, length-append, length-replicate, length-map, get_or-append}
use lib.Seq.{get_or-append_seam}
use Rattle.words.specs.Memory.{Mem, mem, from}
use Rattle.model.specs.Objects as objects
use Rattle.model.specs.Objects.{obj}
use Rattle.model.specs.Order.{times, OnceEach}
use Rattle.model.specs.Layout.{objs_of}
use Rattle.model.proofs.OrderLaws.{decide}
use Rattle.object.specs.Placed.{object_span}
use Rattle.scope.specs.Steps.Links.{link_at}
use Rattle.scope.specs.Steps.ScopeCode.{image_at}
use Rattle.scope.specs.declared.links.Link.{Link}
use Rattle.sheet.specs.Sheet.{Input, handed_in}
use Rattle.std.specs.Prelude.{Result, Ok, Err}
use Rattle.words.specs.declared.refusal.Refusal.{Refusal}
use Rattle.sheet.proofs.ObjectLaws.{handed_good}
use Rattle.binder.specs.declared.Policy.{Policy}
use Rattle.binder.specs.Setting.{Setting}
use Rattle.binder.specs.Instance.{File, file_image, object_from}
use Rattle.binder.specs.Verdict.{Verdict, passed, refused, no_file}
use Rattle.binder.specs.SetOrder.{set_order}
use Rattle.binder.specs.Bind.{files_of, names_of, objects_of, types_verdict, outcome, bind_set}
use Rattle.binder.specs.Steps.Relocating as relocating
use Rattle.binder.specs.Steps.Prepared.{Prepared}
use Rattle.binder.specs.Steps.Needed.{Arranged}
use Rattle.binder.specs.Steps.Finished as finished
use Rattle.binder.specs.Steps.Finished.{RelocatedOr, BoundSet}
use Rattle.binder.proofs.FileLaws.{host_file, file_of}
use Rattle.binder.proofs.BindIs as binds
use Rattle.binder.proofs.BindIs.{bind_is}
use Rattle.binder.proofs.Steady as steady
use Rattle.binder.proofs.Steady.{LoadedSet}
use Rattle.binder.proofs.Lies.{span_is, count_is}
use Rattle.binder.proofs.SteadyLaws.{lies, starts}
use Rattle.start_stop.specs.StartStop as defs
use Rattle.start_stop.specs.StartStop.{Lists, counted, Calls, calls_of, calls_in, fields_at, placed_fields, list_by, refused_lists, then_list, start_stop_of}
use Rattle.start_stop.specs.declared.rows.Array.{Array}
use Rattle.start_stop.specs.declared.rows.Row.{Row}
use Rattle.start_stop.specs.Steps.Rows as tables
use Rattle.start_stop.specs.Steps.Rows.{row_at, row_of, fields_in, RowsRead, base_at, bytes_at, calls_at, InOrder}
use Rattle.start_stop.specs.Steps.Listed as listed
use Rattle.start_stop.specs.Steps.Listed.{finished_of, ListsMade}
use Rattle.start_stop.proofs.ListedIs.{same_lists}

-- ---- the numbers of an order

times_at : (l : List ℕ) (i : ℕ) → i < length l → 0 < times (get_or l i 0) l
times_at [] i h = absurd (omega arith)
times_at (x ∷ xs) zero h = rw (eq-eqb x x refl) (omega arith)
times_at (x ∷ xs) (suc i) h =
    ⊎_elim (λ (t : eqb x (get_or xs i 0) ≡ true). rw t (omega arith)) (λ (t : eqb x (get_or xs i 0) ≡ false). rw t (times_at xs i (omega arith)))
    (decide (eqb x (get_or xs i 0)))

module _ (n : ℕ) (order : List ℕ) (two : 2 ≤ n) (o : OnceEach n order) where
  abbrev front : List ℕ
  front = o.front

  many : length order ≡ length o.front + 1
  many = ap length o.split ∙ length-append o.front (1 ∷ [])

  program_at : get_or order (length o.front) 0 ≡ 1
  program_at = ap (λ (l : List ℕ). get_or l (length o.front) 0) o.split ∙ get_or-append_seam o.front 1 [] 0

  among : (i : ℕ) → i < length order → (1 ≤ get_or order i 0) × (get_or order i 0 < n)
  among i h = go (dec_lt i (length o.front))
    where
      go : Dec (i < length o.front) → (1 ≤ get_or order i 0) × (get_or order i 0 < n)
      go (yes l) =
          let e : get_or order i 0 ≡ get_or o.front i 0 =
          ap (λ (l : List ℕ). get_or l i 0) o.split ∙ get_or-append o.front (1 ∷ []) 0 i l in
          let x = o.only (get_or o.front i 0) (times_at o.front i l) in
          omega (arith, e, x.0, x.1)
      go (no l) =
          let e : i ≡ length o.front = omega (arith, many, h) in
          let x : get_or order i 0 ≡ 1 = ap (λ (j : ℕ). get_or order j 0) e ∙ program_at in
          omega (arith, x, two)

-- ---- a set that was loaded

same_calls :
    {b b' s s' i i' f f' : ℕ} {m m' : Mem} {x x' y y' w w' : Array} → b ≡ b' → s ≡ s' → m ≡ m' → i ≡ i' → f ≡ f' → x ≡ x' → y ≡ y' → w ≡ w'
    → ◌≡◌ {A = Calls} (record { base = b; span = s; bytes = m; init = i; fini = f; preinits = x; inits = y; finis = w })
    (record { base = b'; span = s'; bytes = m'; init = i'; fini = f'; preinits = x'; inits = y'; finis = w' })
same_calls eb es em ei ef ex ey ew = rw (eb, es, em, ei, ef, ex, ey, ew)

module _
    (setting : Setting) (size : ℕ) (table : List ℕ) (h p : Input) (ls : List Input) (arena a : List ℕ) (r : Verdict) (len : length arena ≡ size)
    (kept : length a ≡ length arena) (made : Prepared setting (types_verdict setting) (h ∷ (p ∷ ls)) arena a table r) (z : r ≡ passed)
    (typed : (rtype : ℕ) → relocating.row_at table rtype ≡ setting.row rtype)
  where
    abbrev fs : List File
    fs = map file_of ls

    abbrev S : objects.Objs
    S = objs_of (object_from setting) (host_file h) (file_of p) fs

    set_loaded : LoadedSet setting size table (host_file h) (file_of p) fs
    set_loaded = binds.loaded setting size table h p ls arena a r len kept made z typed

    count_of_lem : objects.count S ≡ length ls + 2
    count_of_lem =
        let n : length fs ≡ length ls = length-map ls file_of in
        omega (arith, count_is setting size (host_file h) (file_of p) fs)

    at : (k : ℕ) → k < length ls + 2 → steady.At setting size table (host_file h) (file_of p) fs k
    at k l = lies setting size table (host_file h) (file_of p) fs set_loaded k (omega (arith, count_of_lem))

    link_span : (k : ℕ) → k < length ls + 2 → (link_at table k).span ≡ (obj S k).span
    link_span k l = ap (λ (s : Link). s.span) (at k l).link ∙ sym (span_is (at k l).object)

    abbrev file : ℕ → File
    file k = get_or (host_file h ∷ (file_of p ∷ fs)) k no_file

    fields_are : (k : ℕ) → k < length ls + 2 → fields_in (h ∷ (p ∷ ls)) a table k ≡ placed_fields (file k)
    unfolding files_of
    fields_are k l =
        let image : image_at a (link_at table k) ≡ file_image (file k) =
        starts setting size table (host_file h) (file_of p) fs set_loaded a (λ _. 0) (kept ∙ len) (made.arena z) k (omega (arith, count_of_lem)) in
        let bytes = binds.files_are setting size table h p ls arena a r len kept made z typed k l in
        rw (image, bytes)

    module _ (rows : List Row) (read : RowsRead (h ∷ (p ∷ ls)) (length ls + 2) a table rows) (a' : List ℕ) where
      row_is : (k : ℕ) → 1 ≤ k → k < length ls + 2 → row_at rows k ≡ row_of (placed_fields (file k))
      row_is k o l = read k o l ∙ ap row_of (fields_are k l)

      calls_are : (k : ℕ) → 1 ≤ k → k < length ls + 2 → calls_at a' table rows k ≡ calls_in S (host_file h ∷ (file_of p ∷ fs)) a' k
      unfolding tables.row_of
      calls_are k o l =
          let t = at k l in
          let offset : (link_at table k).offset ≡ (obj S k).offset = ap (λ (s : Link). s.offset) t.link in
          let r = row_is k o l in
          same_calls t.base (link_span k l) (ap (λ (n : ℕ). from n (mem a')) offset) (ap (λ (r : Row). r.init) r) (ap (λ (r : Row). r.fini) r)
          (ap (λ (r : Row). r.preinits) r) (ap (λ (r : Row). r.inits) r) (ap (λ (r : Row). r.finis) r)

    module _ (order : List ℕ) (same : order ≡ set_order (files_of (h ∷ (p ∷ ls))) (names_of (h ∷ (p ∷ ls)))) where
      once : OnceEach (objects.count S) order
      once = binds.in_order setting size table h p ls arena a r len kept made z typed order same

      among_set : (i : ℕ) → i < length order → (1 ≤ get_or order i 0) × (get_or order i 0 < length ls + 2)
      among_set i l = let x = among (objects.count S) order (omega (arith, count_of_lem)) once i l in omega (arith, x.0, x.1, count_of_lem)

      pub set_in_order : InOrder table order
      set_in_order =
          record {
            spans =
                λ i l.
                let t = at (get_or order i 0) (among_set i l).1 in
                let s : (link_at table (get_or order i 0)).span ≡ object_span (file (get_or order i 0)).host (file (get_or order i 0)).bytes =
                ap (λ (s : Link). s.span) t.link in
                omega (arith, s, t.object.fits, set_loaded.small);
            place = length once.front;
            there = omega (arith, many (objects.count S) order (omega (arith, count_of_lem)) once);
            program = program_at (objects.count S) order (omega (arith, count_of_lem)) once;
          }

      pub lists_are :
          (rows : List Row) → RowsRead (h ∷ (p ∷ ls)) (length ls + 2) a table rows → (a' report' : List ℕ) (starts stops : ℕ)
          → list_by (calls_at a' table rows) order starts stops a' report'
          ≡ list_by (calls_in (objects_of setting (files_of (h ∷ (p ∷ ls)))) (files_of (h ∷ (p ∷ ls))) a')
          (set_order (files_of (h ∷ (p ∷ ls))) (names_of (h ∷ (p ∷ ls)))) starts stops a' report'
      unfolding files_of objects_of
      lists_are rows read a' report' starts stops =
          same_lists (calls_at a' table rows) (calls_in S (host_file h ∷ (file_of p ∷ fs)) a') order
          (λ i l. let x = among_set i l in calls_are rows read a' (get_or order i 0) x.0 x.1) (calls_are rows read a' 1 (omega arith) (omega arith))
          starts stops a' report'
          ∙ ap (λ (l : List ℕ). list_by (calls_in S (host_file h ∷ (file_of p ∷ fs)) a') l starts stops a' report') same

-- ---- whatever objects the set has

-- a refusal of `bind`
pub then_refused :
    (setting : Setting) (os : List Input) (size : ℕ) (policy : Policy) (words : ℕ) (m : Verdict) (a report start stop : List ℕ) (n k : ℕ) → m ≡ refused n k
    → BoundSet setting os size policy words a report m
    → finished_of (refused n k) a report start stop
    ≡ then_list setting os (length start) (length stop) (bind_set setting os size policy words)
unfolding finished.finished_of listed.finished_of defs.then_list
then_refused setting os size policy words m a report start stop n k e b =
    let x : outcome (refused n k) (replicate (length a) 0) (replicate (length report) 0) ≡ bind_set setting os size policy words = rw e at b in
    let i : length {A = ℕ} (replicate (length a) 0) ≡ length a = length-replicate (length a) 0 in
    let j : length {A = ℕ} (replicate (length report) 0) ≡ length report = length-replicate (length report) 0 in
    rw (sym x, i, j)

-- the order is the set's
pub order_of_set :
    (setting : Setting) (os : List Input) (arena a table : List ℕ) (r : Verdict) → 2 ≤ length os → length a ≡ length arena
    → Prepared setting (types_verdict setting) os arena a table r → r ≡ passed → ((rtype : ℕ) → relocating.row_at table rtype ≡ setting.row rtype) → (order : List ℕ) → Arranged os a table order
    → InOrder table order
order_of_set setting [] arena a table r two kept made z typed order o = absurd (omega arith)
order_of_set setting (h ∷ []) arena a table r two kept made z typed order o = absurd (omega arith)
order_of_set setting (h ∷ (p ∷ ls)) arena a table r two kept made z typed order o =
    set_in_order setting (length arena) table h p ls arena a r refl kept made z typed order
    (binds.ordered setting (length arena) table h p ls arena a r refl kept made z typed order o)

bound_then :
    (setting : Setting) (os : List Input) (size : ℕ) (policy : Policy) (words starts stops : ℕ) (a report : List ℕ) (m : Verdict) → m ≡ passed
    → BoundSet setting os size policy words a report m
    → list_by (calls_in (objects_of setting (files_of os)) (files_of os) a) (set_order (files_of os) (names_of os)) starts stops a report
    ≡ then_list setting os starts stops (bind_set setting os size policy words)
unfolding finished.finished_of defs.then_list
bound_then setting os size policy words starts stops a report m pass b =
    let x : outcome passed a report ≡ bind_set setting os size policy words = rw pass at b in
    rw (sym x)

-- the lists of what was bound
pub then_listed :
    (setting : Setting) (os : List Input) (arena a table : List ℕ) (r : Verdict) → 2 ≤ length os → length a ≡ length arena
    → Prepared setting (types_verdict setting) os arena a table r → r ≡ passed → ((rtype : ℕ) → relocating.row_at table rtype ≡ setting.row rtype) → (order : List ℕ) → Arranged os a table order
    → (rows : List Row) → RowsRead os (length os) a table rows
    → (policy : Policy) (report : List ℕ) → report ≡ replicate (length report) 0
    → (a' report' : List ℕ) (m : Verdict) → RelocatedOr os table order a policy report a' report' m → m ≡ passed
    → (start stop : List ℕ) (l : Lists) → ListsMade (calls_at a' table rows) order a' start stop l
    → finished_of l a' report' start stop
    ≡ then_list setting os (length start) (length stop) (bind_set setting os (length arena) policy (length report))
then_listed setting [] arena a table r two kept made z typed order o rows read policy report zeros a' report' m g pass start stop l lm =
    absurd (omega arith)
then_listed setting (h ∷ []) arena a table r two kept made z typed order o rows read policy report zeros a' report' m g pass start stop l lm =
    absurd (omega arith)
then_listed setting (h ∷ (p ∷ ls)) arena a table r two kept made z typed order o rows read policy report zeros a' report' m g pass start stop l lm =
    lm report'
    ∙ (lists_are setting (length arena) table h p ls arena a r refl kept made z typed order same rows
    (subst (λ (n : ℕ). RowsRead (h ∷ (p ∷ ls)) n a table rows) c read) a' report' (length start) (length stop)
    ∙ bound_then setting (h ∷ (p ∷ ls)) (length arena) policy (length report) (length start) (length stop) a' report' m pass
    (bind_is setting (h ∷ (p ∷ ls)) arena a table r two kept made z typed order o policy report zeros a' report' m g))
  where
    c : length (h ∷ (p ∷ ls)) ≡ length ls + 2
    c = omega arith

    same : order ≡ set_order (files_of (h ∷ (p ∷ ls))) (names_of (h ∷ (p ∷ ls)))
    same =
        binds.ordered setting (length arena) table h p ls arena a r refl kept made z typed order o

-- ---- the objects of a sheet

module _ (setting : Setting) (sheet bytes : List ℕ) (size : ℕ) {r : Result (List Input) Refusal} (t : r ≡ handed_in sheet bytes) (policy : Policy) (words starts stops : ℕ) where
  pub sheet_refused :
      {e : Refusal} → r ≡ Err e
      → refused_lists size words starts stops 1 0 ≡ start_stop_of setting sheet bytes size policy words starts stops
  unfolding defs.start_stop_of defs.then_list
  sheet_refused is =
      let i : length {A = ℕ} (replicate size 0) ≡ size = length-replicate size 0 in
      let j : length {A = ℕ} (replicate words 0) ≡ words = length-replicate words 0 in
      rw (sym (binds.bind_refused setting sheet bytes size t policy words is), i, j)

  pub sheet_listed :
      {os : List Input} → r ≡ Ok os
      → then_list setting os starts stops (bind_set setting os size policy words)
      ≡ start_stop_of setting sheet bytes size policy words starts stops
  unfolding defs.start_stop_of
  sheet_listed is = rw (binds.bind_handed setting sheet bytes size t policy words is, (handed_good sheet bytes t is).1)
