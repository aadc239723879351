-- What a call to `bind_ordered` comes to, step by step, is its definition. Assumes nothing.
use Rattle.std.proofs.Common.{◌≡◌, ℕ, suc, ◌+◌, ◌-◌, ◌*◌, ◌^◌, ◌<◌, ◌≤◌, Bool, true, false, List, [], ◌∷◌, map, length, get_or, replicate, sym, refl, ap, ◌∙◌, subst, arith, eq-eqb}
use lib.ListN.{length-map}
use Rattle.words.specs.Choice.{some}
use Rattle.words.proofs.Choice.{both_true}
use Rattle.model.specs.Objects.{count}
use Rattle.model.specs.Layout.{objs_of}
use Rattle.model.specs.Order.{up_from, OnceEach}
use Rattle.sheet.specs.Sheet.{handed_in, Input}
use Rattle.std.specs.Prelude.{Result, Ok, Err}
use Rattle.words.specs.declared.refusal.Refusal.{Refusal}
use Rattle.sheet.proofs.ObjectLaws.{handed_bad, handed_good}
use Rattle.binder.specs.Setting.{Setting}
use Rattle.binder.specs.Instance.{File, file_image, file_record, relas_of, object_from}
use Rattle.binder.specs.Verdict.{Verdict, passed, refused, no_file}
use Rattle.binder.specs.declared.Policy.{Policy}
use Rattle.binder.specs.Bind.{files_of, names_of, unless, prepare_verdict, types_verdict, refused_bind, bind_in}
use Rattle.binder.specs.OwnOrder.{is_order, is_copy, has_copy, library_copies, may_take, bind_ordered_set, bind_ordered_of}
use Rattle.binder.specs.Steps.Prepared.{Prepared}
use Rattle.binder.specs.Steps.Relocating.{cut_to32, again_refusal, again_record, row_at}
use Rattle.binder.specs.Steps.Finished.{RelocatedOr}
use Rattle.binder.specs.Steps.OrderTaken.{copy_in, copy_again, copy_at, copies_at, Taken, BoundOrdered}
use Rattle.binder.proofs.FileLaws.{host_file, file_of}
use Rattle.binder.proofs.SoundLaws.{count_is}
use Rattle.binder.proofs.OrderIs.{names_length}
use Rattle.binder.proofs.OutcomeLaws.{refused_not}
use Rattle.binder.proofs.Steady.{file_at, LoadedSet}
use Rattle.binder.proofs.SteadyLaws.{starts, again, counts}
use Rattle.binder.proofs.ApartLaws.{some_append}
use Rattle.binder.proofs.BindIs.{finished_by, files_are, loaded, ordered, bound_in}
use Rattle.binder.proofs.OwnOrderLaws.{order_once, once_length}

-- ---- COPY entries of a loaded set's libraries

-- tables of less than 2^32 entries are looked at whole
uncut : (n : ℕ) → 24 * n ≤ 2 ^ 28 → cut_to32 n ≡ n
uncut n h = omega arith

copy_in_is : (f : File) → 24 * (file_record f).relas ≤ 2 ^ 28 → 24 * (file_record f).plts ≤ 2 ^ 28 → copy_in (file_image f) (file_record f) ≡ has_copy f
unfolding has_copy relas_of
copy_in_is f a b =
    rw (uncut (file_record f).relas a, uncut (file_record f).plts b) (sym (some_append is_copy _ _))

-- the same tests, one after another
some_same : (p : ℕ → Bool) (q : File → Bool) (fs : List File) (k : ℕ) → ((j : ℕ) → j < length fs → p (k + j) ≡ q (get_or fs j no_file)) → some p (up_from k (length fs)) ≡ some q fs
unfolding some
some_same p q [] k h = refl
some_same p q (f ∷ fs) k h =
    let z : k + 0 ≡ k = omega arith in
    rw (sym (ap p z) ∙ h 0 (omega arith), some_same p q fs (suc k) (λ j l. let s : suc k + j ≡ k + suc j = omega arith in ap p s ∙ h (suc j) (omega arith)))

-- an object whose image and file are those of the set
again_copy :
    (image file : List ℕ) (f : File) → file ≡ f.bytes → image ≡ file_image f → again_refusal image f.bytes ≡ 0 → again_record image f.bytes ≡ file_record f
    → 24 * (file_record f).relas ≤ 2 ^ 28
    → 24 * (file_record f).plts ≤ 2 ^ 28
    → copy_again image file ≡ has_copy f
unfolding copy_again
again_copy image file f ef ei er eo a b =
    ap (copy_again image) ef ∙ (read ∙ (ap (λ (m : List ℕ). copy_in m (file_record f)) ei ∙ copy_in_is f a b))
  where
    read : copy_again image f.bytes ≡ copy_in image (file_record f)
    read = rw (eq-eqb (again_refusal image f.bytes) 0 er) (ap (copy_in image) eo)

-- a set that was loaded
module _
    (setting : Setting) (size : ℕ) (table : List ℕ) (h p : Input) (ls : List Input) (arena a : List ℕ) (r : Verdict) (len : length arena ≡ size)
    (kept : length a ≡ length arena) (made : Prepared setting (types_verdict setting) (h ∷ (p ∷ ls)) arena a table r) (z : r ≡ passed)
    (typed : (rtype : ℕ) → row_at table rtype ≡ setting.row rtype)
  where
    abbrev os : List Input
    os = h ∷ (p ∷ ls)

    abbrev fs : List File
    fs = map file_of ls

    many : count (objs_of (object_from setting) (host_file h) (file_of p) fs) ≡ length ls + 2
    many = omega (arith, count_is setting size (host_file h) (file_of p) fs, length-map ls file_of)

    copy_at_is : (k : ℕ) → 2 ≤ k → k < length ls + 2 → copy_at os a table k ≡ has_copy (file_at setting size table (host_file h) (file_of p) fs k)
    unfolding files_of
    copy_at_is k lo hi =
        let L : LoadedSet setting size table (host_file h) (file_of p) fs = loaded setting size table h p ls arena a r len kept made z typed in
        let n : k < count (objs_of (object_from setting) (host_file h) (file_of p) fs) = omega (arith, many) in
        let placed = starts setting size table (host_file h) (file_of p) fs L a (λ _. 0) (kept ∙ len) (made.arena z) k n in
        let x = again setting size table (host_file h) (file_of p) fs L a k (omega arith) n placed in
        let c = counts setting size table (host_file h) (file_of p) fs L k (omega arith) n in
        again_copy _ _ (file_at setting size table (host_file h) (file_of p) fs k) (files_are setting size table h p ls arena a r len kept made z typed k hi) placed
        x.0 x.1 c.0 c.1

    copies_are : copies_at os a table ≡ library_copies (files_of os)
    unfolding library_copies files_of
    copies_are =
        let n : length os - 2 ≡ length fs = omega (arith, length-map ls file_of) in
        ap (λ (m : ℕ). some (copy_at os a table) (up_from 2 m)) n
        ∙ some_same (copy_at os a table) has_copy fs 2
        (λ j l.
        let e : 2 + j ≡ suc (suc j) = omega arith in
        ap (copy_at os a table) e ∙ copy_at_is (suc (suc j)) (omega arith) (omega (arith, length-map ls file_of)))

    names_many : length os - 2 ≡ length (names_of os)
    names_many = omega (arith, names_length h p ls)

    -- the order that the code took may be taken
    pub taken_is : (order : List ℕ) (t : Bool) → Taken os a table order t → t ≡ may_take (files_of os) (names_of os) order
    unfolding may_take
    taken_is order t k =
        k.is
        ∙ rw (copies_are, names_many, ordered setting size table h p ls arena a r len kept made z typed k.own k.arranged)

    passed_it : prepare_verdict setting (types_verdict setting) os size ≡ passed
    passed_it = ap (prepare_verdict setting (types_verdict setting) os) (sym len) ∙ (sym made.met ∙ z)

    module _ (policy : Policy) (words : ℕ) (order : List ℕ) (t : Bool) (k : Taken os a table order t) where
      -- 35
      pub order_refused :
          t ≡ false → (report : List ℕ) → length report ≡ words → BoundOrdered setting os size policy words order a report (refused 35 0)
      unfolding bind_ordered_set bind_in unless
      order_refused f report lr =
          rw (passed_it, sym (taken_is order t k) ∙ f)
          (finished_by size words (refused 35 0) (refused 35 0) _ _ a report refl (kept ∙ len) lr (λ q. refused_not 35 0 q))

      -- 14 to 20, in that order
      pub order_bound :
          t ≡ true → (report : List ℕ) → report ≡ replicate words 0
          → (a' report' : List ℕ) (m : Verdict) → RelocatedOr os table order a policy report a' report' m
          → BoundOrdered setting os size policy words order a' report' m
      unfolding bind_ordered_set unless may_take
      order_bound f report zeros a' report' m g =
          let e : may_take (files_of os) (names_of os) order ≡ true = sym (taken_is order t k) ∙ f in
          let is = (both_true (is_order (length (names_of os)) order) _ e).0 in
          let n : length (names_of os) + 2 ≡ count (objs_of (object_from setting) (host_file h) (file_of p) fs) = omega (arith, many, names_length h p ls) in
          let once = subst (λ (i : ℕ). OnceEach i order) n (order_once (length (names_of os)) order is) in
          bound_in setting size table h p ls arena a r len kept made z typed policy words order once report zeros a' report' m
          g
          ∙ rw (passed_it, e)

-- refusals 2 to 12
pub prepare_refused :
    (setting : Setting) (os : List Input) (size : ℕ) (policy : Policy) (words : ℕ) (order : List ℕ) (m : Verdict) (a report : List ℕ)
    → m ≡ prepare_verdict setting (types_verdict setting) os size
    → (n k : ℕ) → m ≡ refused n k → length a ≡ size → length report ≡ words → BoundOrdered setting os size policy words order a report m
unfolding bind_ordered_set bind_in
prepare_refused setting os size policy words order m a report e n k z la lr =
    rw (sym e ∙ z) (finished_by size words m (refused n k) _ _ a report z la lr (λ q. refused_not n k q))

-- whatever objects the set has
module _
    (setting : Setting) (os : List Input) (arena a table : List ℕ) (r : Verdict) (two : 2 ≤ length os)
    (kept : length a ≡ length arena) (made : Prepared setting (types_verdict setting) os arena a table r) (z : r ≡ passed)
    (typed : (rtype : ℕ) → row_at table rtype ≡ setting.row rtype) (policy : Policy) (order : List ℕ) (t : Bool)
    (k : Taken os a table order t)
  where
    pub taken_length : t ≡ true → length os ≤ 64 → length order ≤ 64
    taken_length f few =
        let is = (both_true (is_order (length os - 2) order) _ (sym k.is ∙ f)).0 in
        omega (arith, once_length (length os - 2) order (order_once (length os - 2) order is))

    pub set_refused : t ≡ false → (report : List ℕ) → BoundOrdered setting os (length arena) policy (length report) order a report (refused 35 0)
    set_refused f report = go os two made k
      where
        go :
            (xs : List Input) → 2 ≤ length xs → Prepared setting (types_verdict setting) xs arena a table r → Taken xs a table order t
            → BoundOrdered setting xs (length arena) policy (length report) order a report (refused 35 0)
        go [] l q y = absurd (omega arith)
        go (h ∷ []) l q y = absurd (omega arith)
        go (h ∷ (p ∷ ls)) l q y =
            order_refused setting (length arena) table h p ls arena a r refl kept q z typed policy (length report) order t y f report refl

    pub set_bound :
        t ≡ true → (report : List ℕ) → report ≡ replicate (length report) 0
        → (a' report' : List ℕ) (m : Verdict) → RelocatedOr os table order a policy report a' report' m
        → BoundOrdered setting os (length arena) policy (length report) order a' report' m
    set_bound f report zeros a' report' m g = go os two made k g
      where
        go :
            (xs : List Input) → 2 ≤ length xs → Prepared setting (types_verdict setting) xs arena a table r → Taken xs a table order t
            → RelocatedOr xs table order a policy report a' report' m
            → BoundOrdered setting xs (length arena) policy (length report) order a' report' m
        go [] l q y w = absurd (omega arith)
        go (h ∷ []) l q y w = absurd (omega arith)
        go (h ∷ (p ∷ ls)) l q y w =
            order_bound setting (length arena) table h p ls arena a r refl kept q z typed policy (length report) order t y f report zeros a' report' m w

-- ---- the objects of a sheet

module _ (setting : Setting) (sheet bytes : List ℕ) (size : ℕ) {r : Result (List Input) Refusal} (t : r ≡ handed_in sheet bytes) (policy : Policy) (words : ℕ) (order : List ℕ) where
  pub ordered_refused : {e : Refusal} → r ≡ Err e → refused_bind size words 1 0 ≡ bind_ordered_of setting sheet bytes size policy words order
  unfolding bind_ordered_of
  ordered_refused is = rw (handed_bad sheet bytes t is)

  pub ordered_handed :
      {os : List Input} → r ≡ Ok os → bind_ordered_set setting os size policy words order ≡ bind_ordered_of setting sheet bytes size policy words order
  unfolding bind_ordered_of
  ordered_handed is = let good = handed_good sheet bytes t is in rw (good.0, good.1)
