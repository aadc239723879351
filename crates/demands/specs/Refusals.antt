-- Demand 1 for `bind` and `query`: "The answer to every sheet, file, address and policy, damaged ones included, is a bound arena with its
-- report, or one numbered refusal with an object number; a refusal leaves zeros in arena and report". Document 01, "Refused, in checking
-- order": "Object number 0 for 1, 2, 13, 20"; "What is handed in": "The host plays the part of `miros`: already mapped, never written".
-- Document 02, (a): "21, after 7, a PT_LOAD p_align, the host's excepted, ..; a query meets it too"; (f): "24, after 2, .. (object 0); 25, after
-- 16, an entry of another type marked refuse"; (h): "28, after 18 in the entry's turn". Assumes nothing.
use Rattle.std.specs.Prelude.{true, false, List, [], ◌∷◌, ◌⊎◌, ◌≢◌, ◌≡◌, ℕ, ◌≤◌, ◌<◌, length, get_or, take, replicate}
use Rattle.model.specs.Symbols.{by_name}
use Rattle.model.specs.Order.{has}
use Rattle.model.specs.Scope.{resolve}
use Rattle.sheet.specs.Sheet.{Input, no_input, set_of}
use Rattle.binder.specs.declared.Policy.{Policy}
use Rattle.binder.specs.Setting.{Setting}
use Rattle.binder.specs.Bind.{Reply, bind_of, outcome, query_of, replied, reply_of}
use Rattle.demands.specs.LongerSet.{BoundBy, set_objects}
use Rattle.binder.specs.Verdict.{Verdict, refused}

-- ---- refusals

-- "Object number 0 for 1, 2, 13, 20", and 24
abbrev pub without_object : List ℕ
without_object = 1 ∷ 2 ∷ 13 ∷ 20 ∷ 24 ∷ []

-- the object number `k` of refusal `n`, in a set of `count` objects
pub record ObjectOf (count n k : ℕ) : Type 0 where
  pub zero : has n without_object ≡ true → k ≡ 0
  -- every other refusal names an object of the set
  pub object : has n without_object ≡ false → k < count
  -- 3: "A library name that an earlier library has": not the first library
  pub later : n ≡ 3 → 3 ≤ k
  -- 14 to 19, 22, 25 and 28 are of entries, and the host's are not read; 21: "the host's excepted"
  pub entry : 14 ≤ n → n ≢ 20 → n ≢ 24 → 1 ≤ k

-- the numbers of `bind`: 1 to 12, 14 to 22, 24, 25 and 28
abbrev pub BindNumber : ℕ → Type 0
BindNumber n = (1 ≤ n) × (n ≤ 28) × (n ≢ 13) × (n ≢ 23) × (n ≢ 26) × (n ≢ 27)

-- what a refused call to `bind` answers, and leaves
pub record BindRefused (sheet bytes : List ℕ) (size words n k : ℕ) (arena report : List ℕ) : Type 0 where
  pub number : BindNumber n
  pub object : ObjectOf (length (set_of sheet bytes)) n k
  pub arena_zeros : arena ≡ replicate size 0
  pub report_zeros : report ≡ replicate words 0

abbrev pub BindRefusals : Type 0
BindRefusals =
    (setting : Setting) (sheet bytes : List ℕ) (size : ℕ) (policy : Policy) (words n k : ℕ) (arena report : List ℕ)
    → bind_of setting sheet bytes size policy words ≡ outcome (refused n k) arena report
    → BindRefused sheet bytes size words n k arena report

-- a query "meets only refusals 1 to 13", and 21
abbrev pub QueryNumber : ℕ → Type 0
QueryNumber n = ((1 ≤ n) × (n ≤ 13)) ⊎ (n ≡ 21)

-- what a refused query answers, and leaves
pub record QueryRefused (sheet bytes : List ℕ) (size n k : ℕ) (arena : List ℕ) : Type 0 where
  pub number : QueryNumber n
  pub object : ObjectOf (length (set_of sheet bytes)) n k
  pub arena_zeros : arena ≡ replicate size 0

abbrev pub QueryRefusals : Type 0
QueryRefusals =
    (setting : Setting) (sheet bytes : List ℕ) (size requester : ℕ) (name : List ℕ) (n k : ℕ) (arena : List ℕ)
    → query_of setting sheet bytes size requester name ≡ replied (refused n k) arena
    → QueryRefused sheet bytes size n k arena

-- ---- every call

-- "is a bound arena with its report, or one numbered refusal with an object number"; of a query, a reply that is a lookup's, or a refusal
pub record Answered : Type 0 where
  pub bind :
      (setting : Setting) (sheet bytes : List ℕ) (size : ℕ) (policy : Policy) (words : ℕ)
      → ((arena report : List ℕ) × BoundBy setting sheet bytes size policy words arena report)
      ⊎ ((n k : ℕ)
      × (bind_of setting sheet bytes size policy words
      ≡ outcome (refused n k) (replicate size 0) (replicate words 0)))
  pub query :
      (setting : Setting) (sheet bytes : List ℕ) (size requester : ℕ) (name : List ℕ)
      → ((arena : List ℕ)
      × (query_of setting sheet bytes size requester name
      ≡ replied (reply_of (resolve (set_objects setting sheet bytes) requester (by_name name))) arena))
      ⊎ ((n k : ℕ) × (query_of setting sheet bytes size requester name ≡ replied (refused n k) (replicate size 0)))

-- ---- the host's part of the arena

-- the file of object 0
abbrev pub host_of : List Input → List ℕ
host_of os = (get_or os 0 no_input).file

-- the first bytes of the arena are the host's file
abbrev pub HostIn : List Input → List ℕ → Type 0
HostIn os arena = take (length (host_of os)) arena ≡ host_of os

-- "never written": not by binding, and not by a query
pub record HostKept : Type 0 where
  pub bound :
      (setting : Setting) (sheet bytes : List ℕ) (size : ℕ) (policy : Policy) (words : ℕ) (arena report : List ℕ)
      → BoundBy setting sheet bytes size policy words arena report
      → HostIn (set_of sheet bytes) arena
  pub asked :
      (setting : Setting) (sheet bytes : List ℕ) (size requester : ℕ) (name : List ℕ) (r : Reply) (arena : List ℕ)
      → query_of setting sheet bytes size requester name ≡ replied r arena
      → ((n k : ℕ) → r ≢ refused n k)
      → HostIn (set_of sheet bytes) arena

-- ---- lengths

-- whatever the answer, the arena has as many bytes, and the report as many words, as were handed in
pub record Lengths : Type 0 where
  pub bind :
      (setting : Setting) (sheet bytes : List ℕ) (size : ℕ) (policy : Policy) (words : ℕ) (a : Verdict) (arena report : List ℕ)
      → bind_of setting sheet bytes size policy words ≡ outcome a arena report
      → (length arena ≡ size) × (length report ≡ words)
  pub query :
      (setting : Setting) (sheet bytes : List ℕ) (size requester : ℕ) (name : List ℕ) (r : Reply) (arena : List ℕ)
      → query_of setting sheet bytes size requester name ≡ replied r arena
      → length arena ≡ size
