-- What each step of a call to `bind` answers. Document 01, "Refused, in checking order" (19 and 20); demand 1, "a refusal
-- leaves zeros in arena and report". `Bind` has what it comes to. Assumes nothing.
use Rattle.std.specs.Prelude.{◌≡◌, ℕ, ◌+◌, ◌<◌, not, List, length, take, replicate, slice_index, slice_index_or, Ok, Err, Option, MatchOption}
use Rattle.sheet.specs.Sheet.{Input, no_input}
use Rattle.binder.specs.Setting.{Setting}
use Rattle.binder.specs.Verdict.{Verdict, passed, refused, first}
use Rattle.binder.specs.Bind.{unless, allows, Outcome, outcome, Reply, Replied, replied, bind_set}
use Rattle.binder.specs.QueryAll.{RepliedAll, replied_all}
use Rattle.binder.specs.Steps.Relocating.{left, started, image_in, turn_of, again_refusal, run_order, run_until}
use Rattle.binder.specs.Steps.Crossing.{Readable, CrossingIn}
use Rattle.binder.specs.declared.crossing.Crossing.{Crossing}
use Rattle.binder.specs.declared.Policy.{Policy}
use Rattle.binder.specs.declared.Refused.{Refused}
use Rattle.binder.specs.declared.report.Progress.{Progress}

-- 19, then 20
unfoldable pub ends_by : Policy → Progress → Verdict
ends_by policy p = first (unless (allows policy p.undefined) 19 p.undefined) (unless (not p.full) 20 0)

-- the answer; a refusal leaves zeros
unfoldable pub finished_of : Verdict → List ℕ → List ℕ → Outcome
finished_of passed arena report = outcome passed arena report
finished_of (Err r) arena report =
    outcome (Err r) (replicate (length arena) 0) (replicate (length report) 0)

-- the same of a query, and of a query for many names
unfoldable pub replied_by : Reply → List ℕ → Replied
replied_by (Ok f) arena = replied (Ok f) arena
replied_by (Err r) arena = replied (Err r) (replicate (length arena) 0)

unfoldable pub replied_all_by : Verdict → List ℕ → List ℕ → RepliedAll
replied_all_by passed arena words = replied_all passed arena words
replied_all_by (Err r) arena words = replied_all (Err r) (replicate (length arena) 0) (replicate (length words) 0)

-- 14 to 20 of loaded objects, relocated in an order: what was met, how far it came, what it leaves, and the refusal
pub record Relocated
    (os : List Input) (table order arena : List ℕ) (policy : Policy) (report arena' report' : List ℕ) (m : Verdict)
    : Type 0 where
  pub reached : Verdict
  pub progress : Progress
  pub leaves : left reached progress arena' report' ≡ run_order table os order started arena report
  pub met : m ≡ first reached (ends_by policy progress)

-- ---- 28: the objects before an entry, then its object up to it

-- the object at the place `i` of the order is read again where its turn comes
abbrev pub UntilReadable : List Input → List ℕ → List ℕ → ℕ → List ℕ → List ℕ → Type 0
UntilReadable os table ks i arena report =
    (p : Progress) (a notes : List ℕ) → left passed p a notes ≡ run_order table os (take i ks) started arena report
    → again_refusal (image_in a (turn_of table (slice_index ks i))) (slice_index_or os (slice_index ks i) no_input).file ≡ 0

-- what is met before entry `j` of that object or at it, else 28
pub record Crossed (os : List Input) (table ks : List ℕ) (i j : ℕ) (arena report : List ℕ) (m : Verdict) : Type 0 where
  pub reached : Verdict
  pub progress : Progress
  pub before : List ℕ
  pub notes : List ℕ
  pub leaves : left reached progress before notes ≡ run_order table os (take i ks) started arena report
  pub stopped : (d : Refused) → reached ≡ Err d → m ≡ Err d
  pub until :
      reached ≡ passed
      → (v : Verdict) × (q : Progress) × (a' : List ℕ) × (notes' : List ℕ)
      × (left v q a' notes' ≡ run_until table (slice_index ks i) (slice_index_or os (slice_index ks i) no_input).file (j + 1) progress before notes)
      × (m ≡ first v (refused 28 (slice_index ks i)))

-- 14 to 20 and 28 of loaded objects
abbrev pub RelocatedOr : List Input → List ℕ → List ℕ → List ℕ → Policy → List ℕ → List ℕ → List ℕ → Verdict → Type 0
RelocatedOr os table ks arena policy report arena' report' m =
    Readable table os arena ks
    → ((i : ℕ) → i < length ks → UntilReadable os table ks i arena report)
    → (length arena' ≡ length arena) × (length report' ≡ length report) × (c : Option Crossing) × CrossingIn table os arena ks c
    × MatchOption c (Relocated os table ks arena policy report arena' report' m) (λ x. Crossed os table ks x.index x.entry arena report m)

-- what is left of a set: finished, it is `bind_set`
abbrev pub BoundSet : Setting → List Input → ℕ → Policy → ℕ → List ℕ → List ℕ → Verdict → Type 0
BoundSet setting os size policy words arena' report' m = finished_of m arena' report' ≡ bind_set setting os size policy words
