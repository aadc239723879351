-- Demand 3 for what `query` answers: a longer set gives the same answer. Assumes nothing.
use Rattle.std.proofs.Common.{Err}
use mathlib.Core.Path.{◌≡◌, refl, sym, ap, ◌∙◌}
use mathlib.Core.Logic.{◌≢◌}
use mathlib.Core.List.{List, [], ◌∷◌, ◌++◌, map}
use Prim.Native.Nat.{ℕ, ◌+◌, ◌<◌}
use native.Mathlib.Omega.{arith}
use borrow.Author.Tests.{ltb-true, lt-ltb}
use lib.Dec.{ltb}
use lib.ListN.{length, length-append, length-map}
use Rattle.words.specs.Memory.{tab}
use Rattle.model.specs.Symbols.{by_name, Definition, absent, answer}
use Rattle.model.specs.Symbols as symbols
use Rattle.model.specs.Scope.{resolve}
use Rattle.model.specs.Relocation.{placed}
use Rattle.model.proofs.Laid.{objs_longer}
use Rattle.model.proofs.Scope.{resolve_kept}
use Rattle.sheet.specs.Sheet.{Input, set_of}
use Rattle.sheet.proofs.SheetLonger.{Longer, sheet_longer}
use Rattle.binder.specs.declared.Policy.{Policy}
use Rattle.binder.specs.Setting.{Setting, setting_at}
use Rattle.binder.specs.Instance.{File, object_from}
use Rattle.binder.specs.Bind.{Reply, found, files_of, objects_of, unless, prepare_verdict, replied, reply_of, replied_of, ask_set, query_of}
use Rattle.demands.proofs.PassedSet.{sheet_prepared}
use Rattle.demands.specs.LongerSet.{PassesLoading, BoundBy, set_objects, LongerQuery}
use Rattle.binder.proofs.LoadsSame.{loads_same}
use Rattle.binder.proofs.OutcomeLaws.{first_passed, unless_passed, sheet_verdict, query_one, AllPassed, bound_passed, found_same}
use Rattle.binder.proofs.TypesLaws.{verdict_as}
use Rattle.binder.proofs.FileLaws.{host_file, file_of, files_are, files_longer}
use Rattle.binder.proofs.SoundLaws.{count_is}
use Rattle.binder.specs.Verdict.{Verdict, passed}

-- a query that found a symbol was not refused
found_passed :
    (size : ℕ) (v : Verdict) (r : Reply) (l arena : List ℕ) (k i a : ℕ) → replied_of size v r l ≡ replied (found k i a) arena
    → (v ≡ passed) × (r ≡ found k i a)
unfolding replied_of
found_passed size passed r l arena k i a e = (refl, cc)
found_passed size (Err m) r l arena k i a e = let z : ◌≡◌ {A = ℕ} 0 1 = cc in absurd (omega arith)

-- the lookup of which it is the reply
found_answer :
    (x : symbols.Resolved) (k i a : ℕ) → reply_of x ≡ found k i a → (s : Definition) × (x ≡ answer k s a) × (s.index ≡ i)
found_answer absent k i a e = let z : ◌≡◌ {A = ℕ} 0 1 = cc in absurd (omega arith)
found_answer (answer j s b) k i a e =
    let f = found_same j s.index b k i a e in
    (s, rw (f.0, f.2), f.1)

-- of any two sets of which the second is the first and one object more
kept :
    (setting : Setting) (os os' : List Input) → Longer os os' → (r : ℕ) → r < length os → (name : List ℕ) (k : ℕ) (s : Definition) (a : ℕ)
    → resolve (objects_of setting (files_of os)) r (by_name name) ≡ answer k s a → k ≢ 0
    → (resolve (objects_of setting (files_of os')) r (by_name name) ≡ answer k s a) × (r < length os')
unfolding objects_of
kept setting os os' l r small name k s a e pos =
    let fs : List File = map file_of l.libs in
    let files : files_of os ≡ host_file l.host ∷ (file_of l.program ∷ fs) =
    ap files_of l.is ∙ files_are l.host l.program l.libs in
    let files' : files_of os' ≡ host_file l.host ∷ (file_of l.program ∷ (fs ++ (file_of l.added ∷ []))) =
    ap files_of l.longer ∙ files_longer l.host l.program l.libs l.added in
    let n : length os ≡ length fs + 2 = ap length l.is ∙ omega (arith, length-map l.libs file_of) in
    let n' : length os' ≡ length fs + 3 =
    ap length l.longer ∙ omega (arith, length-map l.libs file_of, length-append l.libs (l.added ∷ [])) in (
      rw (files', objs_longer (object_from setting) (host_file l.host) (file_of l.program) fs (file_of l.added))
          (resolve_kept _ _ r (omega (arith, count_is setting 0 (host_file l.host) (file_of l.program) fs)) (by_name name) k s a (rw files at e) pos),
      omega arith,
    )

-- a bound set passed refusals 1 to 12
prepared_so :
    (setting : Setting) (sheet bytes : List ℕ) (size words : ℕ) (arena report : List ℕ) → AllPassed setting sheet bytes size words arena report
    → prepare_verdict setting passed (set_of sheet bytes) size ≡ passed
unfolding prepare_verdict unless
prepared_so setting sheet bytes size words arena report p =
    rw (p.arena_ok_lem, p.no_duplicate) (loads_same setting size (files_of (set_of sheet bytes)) ∙ p.loads)

loaded :
    (setting : Setting) (sheet bytes : List ℕ) (size : ℕ) (policy : Policy) (words : ℕ) (arena report : List ℕ)
    → BoundBy setting sheet bytes size policy words arena report → PassesLoading (setting_at setting.address) sheet bytes size
loaded setting sheet bytes size policy words arena report e =
    let p = bound_passed setting sheet bytes size policy words arena report e in
    (p.sheet_ok_lem, verdict_as setting passed (set_of sheet bytes) size ∙ prepared_so setting sheet bytes size words arena report p)

-- what a set that is not refused replies
pub asked :
    (setting : Setting) (sheet bytes : List ℕ) (size requester : ℕ) (name : List ℕ) → PassesLoading setting sheet bytes size → requester < length (set_of sheet bytes)
    → query_of setting sheet bytes size requester name
    ≡ replied (reply_of (resolve (set_objects setting sheet bytes) requester (by_name name))) (tab size (placed (set_objects setting sheet bytes)))
unfolding query_of ask_set replied_of unless
asked setting sheet bytes size requester name v l = rw (v.0, v.1, lt-ltb requester (length (set_of sheet bytes)) l)

same :
    (setting : Setting) (sheet bytes : List ℕ) (size requester : ℕ) (name : List ℕ) (k i a : ℕ) (arena : List ℕ)
    → query_of setting sheet bytes size requester name ≡ replied (found k i a) arena → k ≢ 0
    → (f n : ℕ) (added : List ℕ) (size' : ℕ) → PassesLoading setting (sheet ++ (f ∷ (n ∷ []))) (bytes ++ added) size'
    → query_of setting (sheet ++ (f ∷ (n ∷ []))) (bytes ++ added) size' requester name
    ≡ replied (found k i a) (tab size' (placed (set_objects setting (sheet ++ (f ∷ (n ∷ []))) (bytes ++ added))))
same setting sheet bytes size requester name k i a arena e pos f n added size' v =
    let os : List Input = set_of sheet bytes in
    let p = found_passed size _ _ _ arena k i a (sym (query_one setting sheet bytes size requester name) ∙ e) in
    let q = first_passed (sheet_verdict setting passed sheet bytes size) (unless (ltb requester (length os)) 13 0) p.0 in
    let ok = (sheet_prepared sheet bytes setting passed size q.0).0 in
    let l = ltb-true requester (length os) (unless_passed (ltb requester (length os)) 13 0 q.1) in
    let x = found_answer (resolve (set_objects setting sheet bytes) requester (by_name name)) k i a p.1 in
    let t = kept setting os (set_of (sheet ++ (f ∷ (n ∷ []))) (bytes ++ added)) (sheet_longer sheet bytes f n added ok) requester l name k x.0 a
    x.1 pos in
    asked setting (sheet ++ (f ∷ (n ∷ []))) (bytes ++ added) size' requester name v t.1 ∙ rw (t.0, x.2)

pub longer_query : LongerQuery
longer_query = record { bound_loaded = loaded; same_answer = same }
