-- The answer of a query, refusal by refusal: `query` against its definition. Assumes nothing.
use Rattle.std.proofs.Common.{◌≡◌, ℕ, ◌<◌, ◌≤◌, true, false, List, [], ◌∷◌, map, length, sym, ap, ◌∙◌, arith, le-ltb, lt-ltb, Err}
use lib.ListN.{length-map}
use Rattle.words.specs.Memory.{mem, tab}
use Rattle.words.specs.Hash.{gnu_hash, elf_hash}
use Rattle.words.proofs.Slices.{tab_mem}
use Rattle.model.specs.Objects as objects
use Rattle.model.specs.Relocation.{placed}
use Rattle.model.specs.Symbols.{by_name}
use Rattle.model.specs.Scope.{resolve}
use Rattle.model.specs.Layout.{objs_of}
use Rattle.sheet.specs.Sheet.{handed_in, Input}
use Rattle.std.specs.Prelude.{Result, Ok, Err}
use Rattle.words.specs.declared.refusal.Refusal.{Refusal}
use Rattle.sheet.proofs.ObjectLaws.{handed_bad, handed_good}
use Rattle.binder.specs.Setting.{Setting}
use Rattle.binder.specs.Instance.{File, object_from}
use Rattle.binder.specs.Bind.{Reply, files_of, objects_of, unless, prepare_verdict, replied, reply_of, refused_query, replied_of, ask_set, query_of}
use Rattle.scope.specs.Steps.ScopeCode.{resolve_links}
use Rattle.binder.specs.Steps.ScopeModel.{scoped_of}
use Rattle.binder.specs.Steps.Prepared.{Prepared}
use Rattle.binder.proofs.PrepareLaws.{Ready, passes}
use Rattle.binder.proofs.SoundLaws.{count_is}
use Rattle.binder.proofs.ScopeIs.{resolve_is}
use Rattle.binder.proofs.QueryLaws.{placed_is, linked_for}
use Rattle.binder.specs.declared.Refused.{Refused}
use Rattle.binder.specs.Steps.Finished.{replied_by}
use Rattle.binder.specs.Verdict.{Verdict, passed, refused}

-- ---- 2 to 13

module _ (setting : Setting) (os : List Input) (size requester : ℕ) (name : List ℕ) where
  pub ask_refused :
      (r : Verdict) → r ≡ prepare_verdict setting passed os size → (d : Refused) → r ≡ Err d → (a : List ℕ) → length a ≡ size
      → replied_by (Err d) a ≡ ask_set setting os size requester name
  unfolding ask_set replied_of replied_by
  ask_refused r e d z a l = rw (l, sym e ∙ z)

  pub ask_thirteen :
      (r : Verdict) → r ≡ prepare_verdict setting passed os size → r ≡ passed → length os ≤ requester → (a : List ℕ) → length a ≡ size
      → replied_by (refused 13 0) a ≡ ask_set setting os size requester name
  unfolding ask_set replied_of replied_by unless
  ask_thirteen r e z o a l = rw (l, sym e ∙ z, le-ltb requester (length os) o)

  pub ask_found :
      (r : Verdict) → r ≡ prepare_verdict setting passed os size → r ≡ passed → requester < length os
      → ask_set setting os size requester name
      ≡ replied (reply_of (resolve (objects_of setting (files_of os)) requester (by_name name))) (tab size (placed (objects_of setting (files_of os))))
  unfolding ask_set replied_of unless
  ask_found r e z l = rw (sym e ∙ z, lt-ltb requester (length os) l)

-- the objects that were loaded are placed as the model says, and answer so
pub record LoadedFor (S : objects.Objs) (size requester : ℕ) (arena table : List ℕ) : Type 0 where
  pub bytes : arena ≡ tab size (placed S)
  pub answers :
      (name : List ℕ) → scoped_of (resolve_links arena table requester name (gnu_hash name) (elf_hash name)) ≡ resolve S requester (by_name name)

pub loaded_for :
    (setting : Setting) (os : List Input) (count : ℕ) (arena arena' table : List ℕ) (requester : ℕ) (r : Verdict)
    → 2 ≤ count → length os ≡ count → Prepared setting passed os arena arena' table r → r ≡ passed → requester < count
    → length arena' ≡ length arena
    → LoadedFor (objects_of setting (files_of os)) (length arena) requester arena' table
unfolding files_of objects_of
loaded_for setting [] count arena arena' table requester r two many made z l len =
    absurd (omega (arith, many))
loaded_for setting (h ∷ []) count arena arena' table requester r two many made z l len =
    absurd (omega (arith, many))
loaded_for setting (h ∷ (p ∷ ls)) count arena arena' table requester r two many made z l len =
    record {
      bytes =
          sym (tab_mem arena')
          ∙ (ap (λ (n : ℕ). tab n (mem arena')) len
          ∙ ap (tab (length arena)) (made.arena z ∙ sym (placed_is setting hf pf fs)));
      answers = λ name.
          let n : length fs ≡ length ls = length-map ls (λ (o : Input). record { host = false; bytes = o.file }) in
          let c : objects.count S ≡ length (h ∷ (p ∷ ls)) = omega (arith, count_is setting (length arena) hf pf fs) in
          resolve_is setting.address arena' table name S (made.addressed z) (made.counted z ∙ sym c)
          (linked_for setting (length arena) table hf pf fs arena' (λ _. 0) len (omega (arith, passed_it.end)) passed_it.loads (made.table z)
          (made.arena z))
          requester (omega (arith, c, many));
    }
  where
    hf : File
    hf = record { host = true; bytes = h.file }

    pf : File
    pf = record { host = false; bytes = p.file }

    fs : List File
    fs = map (λ (o : Input). record { host = false; bytes = o.file }) ls

    S : objects.Objs
    S = objs_of (object_from setting) hf pf fs

    passed_it : Ready setting passed (h ∷ (p ∷ ls)) (length arena)
    passed_it = passes setting passed (h ∷ (p ∷ ls)) arena arena' table r made z

pub asked :
    (setting : Setting) (os : List Input) (count : ℕ) (arena arena' table : List ℕ) (requester : ℕ) (name : List ℕ) (r : Verdict)
    → 2 ≤ count → length os ≡ count → Prepared setting passed os arena arena' table r → r ≡ passed → requester < count
    → length arena' ≡ length arena
    → (x : Reply) → x ≡ reply_of (scoped_of (resolve_links arena' table requester name (gnu_hash name) (elf_hash name)))
    → replied x arena' ≡ ask_set setting os (length arena) requester name
asked setting os count arena arena' table requester name r two many made z l len x e =
    let t = loaded_for setting os count arena arena' table requester r two many made z l len in
    rw (e, t.answers name) (ap (replied (reply_of (resolve (objects_of setting (files_of os)) requester (by_name name)))) t.bytes)
    ∙ sym (ask_found setting os (length arena) requester name r made.met z (omega (arith, many)))

-- ---- the objects of a sheet

module _ (setting : Setting) (sheet bytes : List ℕ) (size : ℕ) {r : Result (List Input) Refusal} (t : r ≡ handed_in sheet bytes) (requester : ℕ) (name : List ℕ) where
  pub query_refused : {e : Refusal} → r ≡ Err e → refused_query size 1 0 ≡ query_of setting sheet bytes size requester name
  unfolding query_of
  query_refused is = rw (handed_bad sheet bytes t is)

  pub query_handed : {os : List Input} → r ≡ Ok os → ask_set setting os size requester name ≡ query_of setting sheet bytes size requester name
  unfolding query_of
  query_handed is = let good = handed_good sheet bytes t is in rw (good.0, good.1)
