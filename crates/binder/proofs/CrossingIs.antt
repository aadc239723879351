-- What the code does about refusal 28 comes to the definition: over the placed arena of a loaded set, the first copy that crosses an earlier one
-- is found, and what is met before it. Assumes nothing.
use Rattle.std.proofs.Common.{◌≡◌, ℕ, zero, suc, ◌+◌, ◌<◌, ◌≤◌, true, ◌⊎◌, List, [], ◌∷◌, ◌++◌, length, get_or, take, drop, replicate, sym, refl, ap, ◌∙◌, subst, inl, inr, ⊎_elim, arith, take-suc, filter_map, IsSomeAnd, Err, Option, None, Some}
use lib.Seq.{split_at}
use Rattle.words.specs.Choice.{some}
use Rattle.words.specs.Memory.{mem}
use Rattle.model.specs.Objects.{Objs, count}
use Rattle.model.specs.Order.{OnceEach}
use Rattle.model.specs.Relocation.{placed}
use Rattle.object.specs.declared.relocate.Rela.{Rela}
use Rattle.sheet.specs.Sheet.{Input, no_input}
use Rattle.binder.specs.Setting.{Setting}
use Rattle.binder.specs.Instance.{File, file_image, file_record, relas_of}
use Rattle.binder.specs.Copies.{crosses}
use Rattle.binder.specs.Verdict.{Verdict, passed, refused, first, no_file, order_verdict}
use Rattle.binder.specs.Steps.PlainVerdict.{plain_order}
use Rattle.binder.specs.Steps.Relocating.{left, started, run_order, run_until}
use Rattle.binder.specs.Steps.Crossing.{no_rela, Quiet, seen_at, entries_at, copies_among, copies_before, Readable, CrossesAt, PlainlyApart, FirstCrossing, CrossingIn}
use Rattle.binder.specs.Steps.Finished.{UntilReadable, Crossed}
use Rattle.binder.specs.declared.Refused.{Refused}
use Rattle.binder.specs.declared.crossing.Copy.{Copy}
use Rattle.binder.specs.declared.crossing.Crossing.{Crossing}
use Rattle.binder.specs.declared.report.Progress.{Progress}
use Rattle.binder.proofs.OutcomeLaws.{refused_not}
use Rattle.binder.proofs.QueryLaws.{placed_is}
use Rattle.binder.proofs.Steady.{files, set, file_at, LoadedSet, PlacedAt}
use Rattle.binder.proofs.SteadyLaws.{starts, placed_steady}
use Rattle.binder.proofs.PlainLaws.{plain_quiet}
use Rattle.binder.proofs.CrossLaws.{AgreesIn, gathered, met_until, order_quiet, order_crossed}
use Rattle.binder.proofs.SeenIs.{agrees, entries_are, readable}
use Rattle.binder.proofs.RelocatedIs.{in_range, Until, until_is}

module _ (setting : Setting) (size : ℕ) (table : List ℕ) (h pr : File) (fs : List File) (L : LoadedSet setting size table h pr fs)
    (a : List ℕ) (len : length a ≡ size) (at : mem a ≡ placed (set setting size table h pr fs)) (os : List Input)
    (inputs : (k : ℕ) → k < count (set setting size table h pr fs) → (get_or os k no_input).file ≡ (file_at setting size table h pr fs k).bytes) where
  abbrev S : Objs
  S = set setting size table h pr fs

  abbrev fl : List File
  fl = files setting size table h pr fs

  abbrev g : ℕ → Rela → Option Copy
  g = seen_at table os a

  at_place : (k : ℕ) → k < count S → PlacedAt setting size table h pr fs a k
  at_place = starts setting size table h pr fs L a (λ _. 0) len (at ∙ placed_is setting h pr fs)

  -- objects other than the host
  unfoldable Others : List ℕ → Type 0
  Others [] = Unit {0}
  Others (k ∷ ks) = ((1 ≤ k) × (k < count S)) × Others ks

  others_of : (ks : List ℕ) → ((i : ℕ) → i < length ks → (1 ≤ get_or ks i 0) × (get_or ks i 0 < count S)) → Others ks
  unfolding Others
  others_of [] f = Prim.tt {0}
  others_of (k ∷ ks) f = (f 0 (omega arith), others_of ks (λ i l. f (suc i) (omega arith)))

  others_take : (n : ℕ) (ks : List ℕ) → Others ks → Others (take n ks)
  unfolding Others
  others_take zero ks o = Prim.tt {0}
  others_take (suc n) [] o = Prim.tt {0}
  others_take (suc n) (k ∷ ks) o = (o.0, others_take n ks o.1)

  agrees_in : (ks : List ℕ) → Others ks → AgreesIn setting.row S fl g ks
  unfolding Others AgreesIn
  agrees_in [] o = Prim.tt {0}
  agrees_in (k ∷ ks) o =
      (agrees setting size table h pr fs L a len at_place k o.0.0 o.0.1 os (inputs k o.0.1), agrees_in ks o.1)

  among_is : (ks : List ℕ) → Others ks → copies_among table os a ks ≡ gathered setting.row S fl g ks
  unfolding Others copies_among gathered
  among_is [] o = refl
  among_is (k ∷ ks) o =
      rw (entries_are setting size table h pr fs L a len at_place k o.0.0 o.0.1 os (inputs k o.0.1), among_is ks o.1)

  module _ (order : List ℕ) (once : OnceEach (count (set setting size table h pr fs)) order) where
    range : (i : ℕ) → i < length order → (1 ≤ get_or order i 0) × (get_or order i 0 < count S)
    range = in_range (count S) order (omega arith) once

    others : Others order
    others = others_of order range

    pub can_read : Readable table os a order
    can_read i l =
        let b = range i l in
        readable setting size table h pr fs L a len at_place (get_or order i 0) b.0 b.1 os (inputs (get_or order i 0) b.1)

    -- no copy crosses an earlier one
    pub none_crosses :
        CrossingIn table os a order None → order_verdict setting.row S fl [] order ≡ plain_order setting.row S fl order
    none_crosses x =
        order_quiet setting.row S fl g [] order (agrees_in order others)
        (subst (Quiet []) (among_is order others)
        (⊎_elim (λ n. plain_quiet setting size table h pr fs L a (placed_steady setting size table h pr fs L a len at_place) os order n.1)
        (λ (f : FirstCrossing table os a order None). f.quiet) x))

    module _ (n : ℕ) (report : List ℕ) (zeros : report ≡ replicate n 0) where
      until_at : (i : ℕ) → i < length order → (met : Verdict) (p : Progress) (b notes : List ℕ) → left met p b notes ≡ run_order table os (take i order) started a report
          → Until setting size table h pr fs (take i order) (get_or order i 0) n met p b notes
      until_at i l met p b notes e =
          until_is setting size table h pr fs L os inputs order once (take i order) (get_or order i 0) (drop (suc i) order) (split_at order i 0 l) n a report at len zeros met p b notes e

      pub can_read_then : (i : ℕ) → i < length order → UntilReadable os table order i a report
      can_read_then i l p b notes e = rw (inputs (get_or order i 0) (range i l).1) ((until_at i l passed p b notes e).readable refl)

      -- the first copy that crosses an earlier one
      pub one_crosses :
          (c : Crossing) → CrossingIn table os a order (Some c) → (m : Verdict) → Crossed os table order c.index c.entry a report m
          → (m ≡ order_verdict setting.row S fl [] order) × (m ≡ passed → ⊥)
      one_crosses c x m w =
          ⊎_elim (λ (z : (◌≡◌ {A = Option Crossing} (Some c) None) × PlainlyApart table os a order). let e = z.0 in cc) with_copy x
        where
          with_copy : FirstCrossing table os a order (Some c) → (m ≡ order_verdict setting.row S fl [] order) × (m ≡ passed → ⊥)
          with_copy f =
              let k : CrossesAt table os a order c.index c.entry = f.met in
              let i : ℕ = c.index in
              let j : ℕ = c.entry in
              let o : ℕ = get_or order i 0 in
              let b = range i k.object in
              let es : List Rela = relas_of (file_image (get_or fl o no_file)) (file_record (get_or fl o no_file)) in
              let are : entries_at table os a o ≡ es = entries_are setting size table h pr fs L a len at_place o b.0 b.1 os (inputs o b.1) in
              let inside : j < length es = subst (λ (l : List Rela). j < length l) are k.crossed.entry in
              let before : copies_before table os a order i j ≡ gathered setting.row S fl g (take i order) ++ filter_map (g o) (take j es) =
              rw (among_is (take i order) (others_take i order others), are) in
              let quiet = subst (Quiet []) before f.quiet in
              let crossed = subst (λ (l : List Copy). IsSomeAnd (g o (get_or es j no_rela)) (λ q. some (crosses q) l ≡ true)) before
              (subst (λ (l : List Rela). IsSomeAnd (g o (get_or l j no_rela)) (λ q. some (crosses q) (copies_before table os a order i j) ≡ true)) are k.crossed.crossed) in
              let one : take (j + 1) es ≡ take j es ++ (get_or es j no_rela ∷ []) =
              (let z : j + 1 ≡ suc j = omega arith in ap (λ (n : ℕ). take n es) z ∙ take-suc es j no_rela inside) in
              let u = until_at i k.object w.reached w.progress w.before w.notes w.leaves in
              let is : order_verdict setting.row S fl [] order ≡ first (met_until setting.row S fl g (take i order) o (take (j + 1) es)) (refused 28 o) =
              ap (order_verdict setting.row S fl []) (split_at order i 0 k.object)
              ∙ (order_crossed setting.row S fl g (take i order) o (drop (suc i) order) (take j es) (get_or es j no_rela) (drop (suc j) es) (split_at es j no_rela inside)
              (agrees_in (take i order) (others_take i order others)) (agrees setting size table h pr fs L a len at_place o b.0 b.1 os (inputs o b.1))
              quiet crossed
              ∙ ap (λ (l : List Rela). first (met_until setting.row S fl g (take i order) o l) (refused 28 o)) (sym one)) in
              let met : m ≡ first (met_until setting.row S fl g (take i order) o (take (j + 1) es)) (refused 28 o) =
              ⊎_elim
              (λ z.
              let q = w.until z in
              let v = u.until z (j + 1) (omega arith) q.0 q.1 q.2 q.3
              (subst (λ (l : List ℕ). left q.0 q.1 q.2 q.3 ≡ run_until table o l (j + 1) w.progress w.before w.notes) (inputs o b.1) q.4) in
              let p : plain_order setting.row S fl (take i order) ≡ passed = sym u.verdict_is ∙ z in
              rw p (rw v at q.5))
              (λ d. rw (sym u.verdict_is ∙ d.1) (w.stopped d.0 d.1))
              (passes w.reached) in
              (met ∙ sym is, λ z. never (met_until setting.row S fl g (take i order) o (take (j + 1) es)) o (sym met ∙ z))
            where
              passes : (v : Verdict) → (v ≡ passed) ⊎ ((d : Refused) × (v ≡ Err d))
              passes passed = inl refl
              passes (Err d) = inr (d, refl)

              never : (v : Verdict) (k : ℕ) → first v (refused 28 k) ≡ passed → ⊥
              never passed k e = refused_not 28 k e
              never (Err m) k e = refused_not m.number m.object e
