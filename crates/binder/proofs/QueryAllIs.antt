-- The answer of `query_all`, refusal by refusal, against its definition. Assumes nothing.
use Rattle.std.proofs.Common.{◌≡◌, ℕ, ◌<◌, ◌≤◌, Bool, true, false, ltb, List, [], ◌∷◌, map, length, sym, refl, ap, ◌∙◌, arith, le-ltb, lt-ltb, Err}
use Rattle.words.specs.Choice.{pick}
use Rattle.words.specs.Memory.{tab}
use Rattle.model.specs.Objects.{Objs}
use Rattle.model.specs.Relocation.{placed, address_or0}
use Rattle.model.specs.Symbols.{by_name}
use Rattle.model.specs.Scope.{resolve}
use Rattle.sheet.specs.Sheet.{handed_in, Input, sheet_ok, set_of}
use Rattle.std.specs.Prelude.{Result, Ok, Err}
use Rattle.words.specs.declared.refusal.Refusal.{Refusal}
use Rattle.sheet.proofs.ObjectLaws.{handed_bad, handed_good}
use Rattle.binder.specs.Setting.{Setting}
use Rattle.binder.specs.Bind.{files_of, objects_of, unless, prepare_verdict}
use Rattle.binder.specs.QueryAll.{names_in, list_ok, replied_all, refused_all, replied_all_of, addresses_of, ask_all_set, query_all_of}
use Rattle.binder.specs.Steps.AllNames.{link_address, link_addresses}
use Rattle.binder.specs.Steps.Prepared.{Prepared}
use Rattle.binder.specs.Verdict.{first, Verdict, passed, refused}
use Rattle.binder.proofs.OutcomeLaws.{objects_in, sheet_verdict}
use Rattle.binder.specs.declared.Refused.{Refused}
use Rattle.binder.specs.Steps.Finished.{replied_all_by}
use Rattle.binder.proofs.QueryIs.{LoadedFor, loaded_for}

-- ---- 2 to 13, 21 and 23

module _ (setting : Setting) (os : List Input) (size requester : ℕ) (list : List ℕ) (words : ℕ) where
  pub all_refused :
      (r : Verdict) → r ≡ prepare_verdict setting passed os size → (d : Refused) → r ≡ Err d → (a ws : List ℕ) → length a ≡ size → length ws ≡ words
      → replied_all_by (Err d) a ws ≡ ask_all_set setting os size requester list words
  unfolding ask_all_set replied_all_of replied_all_by
  all_refused r e d z a ws l m = rw (l, m, sym e ∙ z)

  pub all_thirteen :
      (r : Verdict) → r ≡ prepare_verdict setting passed os size → r ≡ passed → length os ≤ requester → (a ws : List ℕ) → length a ≡ size
      → length ws ≡ words → replied_all_by (refused 13 0) a ws ≡ ask_all_set setting os size requester list words
  unfolding ask_all_set replied_all_of replied_all_by unless
  all_thirteen r e z o a ws l m = rw (l, m, sym e ∙ z, le-ltb requester (length os) o)

  pub all_list :
      (r : Verdict) → r ≡ prepare_verdict setting passed os size → r ≡ passed → requester < length os → list_ok list words ≡ false
      → (a ws : List ℕ) → length a ≡ size → length ws ≡ words
      → replied_all_by (refused 23 0) a ws ≡ ask_all_set setting os size requester list words
  unfolding ask_all_set replied_all_of replied_all_by unless
  all_list r e z o bad a ws l m = rw (l, m, sym e ∙ z, lt-ltb requester (length os) o, bad)

  pub all_found :
      (r : Verdict) → r ≡ prepare_verdict setting passed os size → r ≡ passed → requester < length os → list_ok list words ≡ true
      → ask_all_set setting os size requester list words
      ≡ replied_all passed (tab size (placed (objects_of setting (files_of os))))
      (addresses_of (objects_of setting (files_of os)) requester (names_in list))
  unfolding ask_all_set replied_all_of unless
  all_found r e z l ok = rw (sym e ∙ z, lt-ltb requester (length os) l, ok)

-- ---- the words

links_are :
    (S : Objs) (size requester : ℕ) (arena table : List ℕ) → LoadedFor S size requester arena table → (names : List (List ℕ))
    → map (link_address arena table requester) names ≡ map (λ name. address_or0 (resolve S requester (by_name name))) names
links_are S size requester arena table t [] = refl
links_are S size requester arena table t (name ∷ names) =
    rw (t.answers name, links_are S size requester arena table t names)

pub asked_all :
    (setting : Setting) (os : List Input) (count : ℕ) (arena arena' table : List ℕ) (requester : ℕ) (list : List ℕ) (slots : ℕ) (r : Verdict)
    → 2 ≤ count → length os ≡ count → Prepared setting passed os arena arena' table r → r ≡ passed → requester < count
    → length arena' ≡ length arena → list_ok list slots ≡ true
    → (ws : List ℕ) → ws ≡ link_addresses arena' table requester (names_in list)
    → replied_all passed arena' ws ≡ ask_all_set setting os (length arena) requester list slots
unfolding link_addresses addresses_of
asked_all setting os count arena arena' table requester list slots r two many made z l len ok ws e =
    let t = loaded_for setting os count arena arena' table requester r two many made z l len in
    let same = links_are (objects_of setting (files_of os)) (length arena) requester arena' table t (names_in list) in
    let words : List ℕ = addresses_of (objects_of setting (files_of os)) requester (names_in list) in
    ap (replied_all passed arena') (e ∙ same)
    ∙ (ap (λ (a : List ℕ). replied_all passed a words) t.bytes
    ∙ sym (all_found setting os (length arena) requester list slots r made.met z (omega (arith, many)) ok))

-- ---- the objects of a sheet

module _ (setting : Setting) (sheet bytes : List ℕ) (size : ℕ) {r : Result (List Input) Refusal} (t : r ≡ handed_in sheet bytes) (requester : ℕ) (list : List ℕ) (words : ℕ) where
  pub query_all_refused : {e : Refusal} → r ≡ Err e → refused_all size words 1 0 ≡ query_all_of setting sheet bytes size requester list words
  unfolding query_all_of
  query_all_refused is = rw (handed_bad sheet bytes t is)

  pub query_all_handed :
      {os : List Input} → r ≡ Ok os → ask_all_set setting os size requester list words ≡ query_all_of setting sheet bytes size requester list words
  unfolding query_all_of
  query_all_handed is = let good = handed_good sheet bytes t is in rw (good.0, good.1)

-- ---- the answers for a sheet, by one verdict

pub query_all_one :
    (setting : Setting) (sheet bytes : List ℕ) (size requester : ℕ) (list : List ℕ) (words : ℕ)
    → query_all_of setting sheet bytes size requester list words
    ≡ replied_all_of size words
    (first (sheet_verdict setting passed sheet bytes size)
    (first (unless (ltb requester (length (set_of sheet bytes))) 13 0) (unless (list_ok list words) 23 0)))
    (tab size (placed (objects_in setting (set_of sheet bytes)))) (addresses_of (objects_in setting (set_of sheet bytes)) requester (names_in list))
unfolding query_all_of ask_all_set replied_all_of unless
query_all_one setting sheet bytes size requester list words = go (sheet_ok sheet (length bytes))
  where
    os : List Input
    os = set_of sheet bytes

    go :
        (t : Bool) → pick t (ask_all_set setting os size requester list words) (refused_all size words 1 0)
        ≡ replied_all_of size words
        (first (first (unless t 1 0) (prepare_verdict setting passed os size))
        (first (unless (ltb requester (length os)) 13 0) (unless (list_ok list words) 23 0)))
        (tab size (placed (objects_in setting os))) (addresses_of (objects_in setting os) requester (names_in list))
    go true = refl
    go false = refl
