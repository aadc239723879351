-- Demand 3 for `bind` and `query`, as one statement over sheets and bytes. Document 01, "A set and a longer one": "T's sheet is S's, then a
-- word of kind 3 and one of kind 4; T's bytes are S's, then that file and that name"; "S and T may have arenas and reports of different
-- lengths". `Kept` and `OnlyProgramCopies` are the model's (model/specs/Longer). Assumes nothing.
use Rattle.std.specs.Prelude.{true, List, [], ◌∷◌, ◌++◌, ◌≡◌, ◌≢◌, ℕ, length}
use Rattle.words.specs.Memory.{mem, tab}
use Rattle.model.specs.Objects.{Objs}
use Rattle.model.specs.Relocation.{placed}
use Rattle.model.specs.Longer.{OnlyProgramCopies, Kept}
use Rattle.binder.specs.declared.Policy.{Policy}
use Rattle.sheet.specs.Sheet.{sheet_ok, set_of}
use Rattle.binder.specs.Setting.{Setting, setting_at}
use Rattle.binder.specs.Bind.{found, files_of, objects_of, prepare_verdict, bind_of, outcome, query_of, replied}
use Rattle.binder.specs.Verdict.{passed}

-- the objects of a sheet and its bytes, in a setting
abbrev pub set_objects : Setting → List ℕ → List ℕ → Objs
set_objects setting sheet bytes = objects_of setting (files_of (set_of sheet bytes))

-- "A set is bound where its call to bind meets no refusal": it leaves this arena and this report
abbrev pub BoundBy : Setting → List ℕ → List ℕ → ℕ → Policy → ℕ → List ℕ → List ℕ → Type 0
BoundBy setting sheet bytes size policy words arena report = bind_of setting sheet bytes size policy words ≡ outcome passed arena report

-- demand 3: "For every bound set S whose only COPY entries are the program's, and whatever library is added at its end, where that longer
-- set T is bound at the same arena address under the same policy": what T keeps of S, names in both scopes and bytes together. Document 02, (f):
-- "Comparing a set with a longer one presumes the same words": one setting has them
abbrev pub LongerSet : Type 0
LongerSet =
    (setting : Setting) (policy : Policy)
    (sheet bytes : List ℕ) (size words : ℕ) (arena report : List ℕ)
    → BoundBy setting sheet bytes size policy words arena report
    → OnlyProgramCopies (set_objects setting sheet bytes)
    -- the added words, and the added bytes: a file and then a name
    → (file_word name_word : ℕ) (added : List ℕ) (size' words' : ℕ) (arena' report' : List ℕ)
    → BoundBy setting (sheet ++ (file_word ∷ (name_word ∷ []))) (bytes ++ added) size' policy words' arena' report'
    → Kept (set_objects setting sheet bytes) (set_objects setting (sheet ++ (file_word ∷ (name_word ∷ []))) (bytes ++ added)) (mem arena) (mem arena')

-- ---- the same for the public query

-- the set meets none of refusals 1 to 12 and 21 in an arena of `size` bytes: only 13 is left to a query
abbrev pub PassesLoading : Setting → List ℕ → List ℕ → ℕ → Type 0
PassesLoading setting sheet bytes size =
    (sheet_ok sheet (length bytes) ≡ true) × (prepare_verdict setting passed (set_of sheet bytes) size ≡ passed)

-- demand 3's clause on names, for what `query` answers; document 01: "An answer is what a lookup yields". S and T are asked in arenas of any
-- sizes in which they meet none of refusals 1 to 12 and 21. They need not be bound; a set that is bound, under whatever words of
-- the types, can be asked in the arena of that call.
pub record LongerQuery : Type 0 where
  pub bound_loaded :
      (setting : Setting) (sheet bytes : List ℕ) (size : ℕ) (policy : Policy) (words : ℕ) (arena report : List ℕ)
      → BoundBy setting sheet bytes size policy words arena report → PassesLoading (setting_at setting.address) sheet bytes size
  -- "every name that S answers from its program or a library, for any object of S as requester": the answer is of an object other than
  -- 0; a requester that is no object of S is refused
  pub same_answer :
      (setting : Setting) (sheet bytes : List ℕ) (size requester : ℕ) (name : List ℕ) (k i a : ℕ) (arena : List ℕ)
      → query_of setting sheet bytes size requester name ≡ replied (found k i a) arena → k ≢ 0
      → (file_word name_word : ℕ) (added : List ℕ) (size' : ℕ)
      → PassesLoading setting (sheet ++ (file_word ∷ (name_word ∷ []))) (bytes ++ added) size'
      -- "has the same answer in T, the same object, symbol and address"
      → query_of setting (sheet ++ (file_word ∷ (name_word ∷ []))) (bytes ++ added) size' requester name
      ≡ replied (found k i a) (tab size' (placed (set_objects setting (sheet ++ (file_word ∷ (name_word ∷ []))) (bytes ++ added))))
