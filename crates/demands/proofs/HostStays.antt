-- The host's part of the arena is the host's file. Assumes nothing.
use Rattle.std.proofs.Common.{Err}
use mathlib.Core.Path.{◌≡◌, refl, sym, ap, ◌∙◌}
use mathlib.Core.Logic.{◌≢◌}
use mathlib.Core.Bool.{true}
use mathlib.Core.List.{List, [], ◌∷◌, map}
use Prim.Native.Nat.{ℕ, ◌+◌, ◌-◌, ◌≤◌, ◌<◌}
use native.Mathlib.Omega.{arith}
use lib.ListN.{length, take, length-take, length-map}
use Rattle.words.specs.Memory.{Mem, mem, tab}
use Rattle.words.proofs.Memory.{write_in}
use Rattle.words.proofs.Slices.{mem_take, mem_tab, mem_ext, length_tab}
use Rattle.model.specs.Objects.{Objs, count, obj}
use Rattle.model.specs.Relocation.{placed, bound, run}
use Rattle.model.specs.Sound.{Sound, Order}
use Rattle.model.specs.Layout.{objs_of}
use Rattle.model.specs.Layout as layouts
use Rattle.model.proofs.Frame.{relocate_frame}
use Rattle.model.proofs.Orders.{run_append, run_keeps, times_early, apart_out}
use Rattle.object.specs.Placed.{object_span, object_bytes}
use Rattle.sheet.specs.Sheet.{Input, set_of}
use Rattle.sheet.proofs.SheetLonger.{Shape, sheet_shape}
use Rattle.binder.specs.declared.Policy.{Policy}
use Rattle.binder.specs.Setting.{Setting}
use Rattle.binder.specs.Instance.{File, object_at, next_offset, object_from}
use Rattle.binder.specs.Steps.PlainVerdict.{plain_order}
use Rattle.binder.specs.SetOrder.{set_order}
use Rattle.binder.specs.Steps.Prepared.{load_from, place_files}
use Rattle.binder.specs.Bind.{Reply, files_of, names_of, objects_of, replied, replied_of, query_of}
use Rattle.binder.proofs.FileLaws.{host_file, file_of, files_are}
use Rattle.binder.proofs.OutcomeLaws.{objects_in, order_in, sheet_verdict, query_one, bound_passed, first_passed}
use Rattle.binder.proofs.OrderIs.{names_length, order_is}
use Rattle.binder.proofs.Lies.{place_before}
use Rattle.binder.proofs.QueryLaws.{placed_is}
use Rattle.binder.proofs.SoundLaws.{set_sound, set_fits}
use Rattle.demands.proofs.PassedSet.{prepared, sheet_prepared}
use Rattle.demands.specs.LongerSet.{BoundBy}
use Rattle.demands.specs.Refusals.{HostIn, HostKept}
use Rattle.binder.specs.Verdict.{Verdict, passed, refused}

-- ---- placing and binding leave the bytes of the first object

placed_first :
    (setting : Setting) (h : Input) (p : File) (fs : List File) (i : ℕ) → i < object_span true h.file
    → placed (objs_of (object_from setting) (host_file h) p fs) i ≡ object_bytes true h.file i
unfolding place_files next_offset
placed_first setting h p fs i l =
    let start : i - 0 ≡ i = omega arith in
    ap (λ (m : Mem). m i) (placed_is setting (host_file h) p fs)
    ∙ (place_before setting (p ∷ fs) (0 + object_span true h.file) _ i (omega arith)
    ∙ (write_in (λ _. 0) 0 (object_span true h.file) (object_bytes true h.file) i (omega arith)
    ∙ ap (object_bytes true h.file) start))

-- no library is the host, and neither is the program
bound_first : (S : Objs) → Sound S → (order : List ℕ) → Order S order → (i : ℕ) → i < (obj S 0).span → (obj S 0).offset ≡ 0 → bound S order i ≡ placed S i
unfolding bound run
bound_first S sound order o i l start =
    let front : run S o.front (placed S) i ≡ placed S i =
    run_keeps S sound o.front o.only 0 (omega arith) (times_early (count S) o.front 0 o.only (omega arith)) (placed S) i (omega arith) in
    rw (o.split, run_append S o.front (1 ∷ []) (placed S))
    (relocate_frame S sound 1 (omega arith) (omega arith) (run S o.front (placed S)) i
    (apart_out S sound 1 0 (omega arith) (omega arith) (λ e. omega arith) i (omega arith))
    ∙ front)

-- ---- as lists

first_bytes : (file : List ℕ) (size : ℕ) (m : Mem) → length file ≤ size → ((i : ℕ) → i < length file → m i ≡ mem file i) → take (length file) (tab size m) ≡ file
first_bytes file size m l same =
    mem_ext (take (length file) (tab size m)) file many
    (λ i h.
    let g : i < length file = omega (arith, many) in
    mem_take (length file) (tab size m) i g ∙ (mem_tab size m i (omega arith) ∙ same i g))
  where
    many : length (take (length file) (tab size m)) ≡ length file
    many = simp (length-take, length_tab) (omega arith)

module _ (setting : Setting) (size : ℕ) (h p : Input) (ls : List Input) (v : load_from setting size 0 0 (files_of (h ∷ (p ∷ ls))) ≡ passed) where
  abbrev fs : List File
  fs = map file_of ls

  loads : load_from setting size 0 0 (host_file h ∷ (file_of p ∷ fs)) ≡ passed
  loads = rw (files_are h p ls) at v

  fits : length h.file ≤ size
  unfolding layouts.objs_of object_from object_at next_offset object_span
  fits = omega (arith, set_fits setting size (host_file h) (file_of p) fs loads 0 (omega arith))

  placed_host : (i : ℕ) → i < length h.file → placed (objects_of setting (files_of (h ∷ (p ∷ ls)))) i ≡ mem h.file i
  unfolding objects_of object_span object_bytes
  placed_host i l = rw (files_are h p ls) (placed_first setting h (file_of p) fs i l)

  bound_host :
      plain_order setting.row (objects_in setting (h ∷ (p ∷ ls))) (files_of (h ∷ (p ∷ ls))) (order_in (h ∷ (p ∷ ls))) ≡ passed
      → (i : ℕ) → i < length h.file
      → bound (objects_in setting (h ∷ (p ∷ ls))) (order_in (h ∷ (p ∷ ls))) i ≡ mem h.file i
  unfolding objects_of object_span object_from object_at next_offset layouts.objs_of
  bound_host w i l =
      let order : List ℕ = set_order (host_file h ∷ (file_of p ∷ fs)) (names_of (h ∷ (p ∷ ls))) in
      let o = order_is setting (host_file h) (file_of p) fs (names_of (h ∷ (p ∷ ls))) (names_length h p ls ∙ sym (length-map ls file_of)) in
      let sound = set_sound setting size (host_file h) (file_of p) fs loads order o (rw (files_are h p ls) at w) in
      rw (files_are h p ls)
      (bound_first (objs_of (object_from setting) (host_file h) (file_of p) fs) sound order o i l refl) ∙ placed_host i l

-- ---- of a set

module _ (setting : Setting) (size : ℕ) (os : List Input) (s : Shape os) (v : load_from setting size 0 0 (files_of os) ≡ passed) where
  -- an arena whose first bytes are the host's
  host_in : (m : Mem) → ((i : ℕ) → i < length s.host.file → m i ≡ mem s.host.file i) → HostIn os (tab size m)
  host_in m same =
      rw s.is
      (first_bytes s.host.file size m (fits setting size s.host s.program s.libs (rw s.is at v)) same)

  placed_in : HostIn os (tab size (placed (objects_in setting os)))
  placed_in =
      host_in (placed (objects_in setting os))
      (λ i l. rw s.is (placed_host setting size s.host s.program s.libs (rw s.is at v) i l))

  bound_in :
      plain_order setting.row (objects_in setting os) (files_of os) (order_in os) ≡ passed → HostIn os (tab size (bound (objects_in setting os) (order_in os)))
  bound_in w =
      host_in (bound (objects_in setting os) (order_in os))
      (λ i l. rw s.is (bound_host setting size s.host s.program s.libs (rw s.is at v) (rw s.is at w) i l))

-- a query that was answered
answered :
    (size : ℕ) (v : Verdict) (x : Reply) (l : List ℕ) (r : Reply) (arena : List ℕ) → replied_of size v x l ≡ replied r arena
    → ((n k : ℕ) → r ≢ refused n k)
    → (v ≡ passed) × (arena ≡ l)
unfolding replied_of
answered size passed x l r arena e ne = (refl, cc)
answered size (Err m) x l r arena e ne = absurd (ne m.number m.object cc)

pub host_kept : HostKept
host_kept = record { bound = bind_host; asked = query_host }
  where
    bind_host :
        (setting : Setting) (sheet bytes : List ℕ) (size : ℕ) (policy : Policy) (words : ℕ) (arena report : List ℕ)
        → BoundBy setting sheet bytes size policy words arena report
        → HostIn (set_of sheet bytes) arena
    bind_host setting sheet bytes size policy words arena report e =
        let q = bound_passed setting sheet bytes size policy words arena report e in
        rw q.arena_is
        (bound_in setting size (set_of sheet bytes) (sheet_shape sheet bytes (length bytes) q.sheet_ok_lem) q.loads q.relocates)

    query_host :
        (setting : Setting) (sheet bytes : List ℕ) (size requester : ℕ) (name : List ℕ) (r : Reply) (arena : List ℕ)
        → query_of setting sheet bytes size requester name ≡ replied r arena
        → ((n k : ℕ) → r ≢ refused n k)
        → HostIn (set_of sheet bytes) arena
    query_host setting sheet bytes size requester name r arena e ne =
        let a = answered size _ _ _ r arena (sym (query_one setting sheet bytes size requester name) ∙ e) ne in
        let q = prepared sheet bytes setting size (sheet_prepared sheet bytes setting passed size (first_passed (sheet_verdict setting passed sheet bytes size) _ a.0).0) in
        rw a.1 (placed_in setting size (set_of sheet bytes) (sheet_shape sheet bytes (length bytes) q.sheet_ok_lem) q.loads)
