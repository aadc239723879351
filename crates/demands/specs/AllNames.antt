-- What document 02, (e), asks of `query_all`, as statements about `query_all_of`: "equal to as many single queries in that order", "New numbers: 23,
-- after 13, .. (object 0); after any refusal the words are all 0", and demand 3's clause on names for this call. Assumes nothing.
use Rattle.std.specs.Prelude.{Bool, true, false, List, [], ◌∷◌, ◌++◌, map, ◌⊎◌, ◌≢◌, ◌≡◌, ℕ, ◌<◌, ltb, length, get_or, replicate, Ok, Err, Some, None}
use Rattle.words.specs.Memory.{tab}
use Rattle.model.specs.Relocation.{placed}
use Rattle.sheet.specs.Sheet.{Input, set_of}
use Rattle.binder.specs.Setting.{Setting}
use Rattle.binder.specs.Bind.{found, prepare_verdict, Replied, replied, query_of}
use Rattle.binder.specs.QueryAll.{names_in, list_ok, RepliedAll, replied_all, refused_all, ask_all_set, query_all_of}
use Rattle.demands.specs.LongerSet.{PassesLoading, set_objects}
use Rattle.demands.specs.Refusals.{QueryNumber, ObjectOf}
use Rattle.binder.specs.Verdict.{Verdict, passed, refused}

-- ---- as many single queries

-- the word of a single query: "the addresses, 0 for absent"
abbrev pub word_of : Replied → ℕ
word_of (replied (Ok (Some f)) arena) = f.address
word_of (replied (Ok None) arena) = 0
word_of (replied (Err r) arena) = 0

-- what `query_all` answers, put together from single queries. `query` is what a single one leaves for some name: a refusal is its refusal; else a
-- list that 23 meets is refused, and for any other the arena is its arena, with the words
abbrev pub from_single : ℕ → ℕ → Bool → Replied → List ℕ → RepliedAll
from_single size slots ok (replied (Err r) arena) words = replied_all (Err r) arena (replicate slots 0)
from_single size slots true (replied (Ok f) arena) words = replied_all passed arena words
from_single size slots false (replied (Ok f) arena) words = refused_all size slots 23 0

-- "The words become the addresses, 0 for absent, equal to as many single queries in that order", and the arena is theirs, whatever the name
abbrev pub SingleQueries : Type 0
SingleQueries =
    (setting : Setting) (sheet bytes : List ℕ) (size requester : ℕ) (list : List ℕ) (slots : ℕ) (some : List ℕ)
    → query_all_of setting sheet bytes size requester list slots
    ≡ from_single size slots (list_ok list slots) (query_of setting sheet bytes size requester some)
    (map (λ name. word_of (query_of setting sheet bytes size requester name)) (names_in list))

-- ---- "the names end to end with a zero byte after each"

unfoldable pub end_to_end : List (List ℕ) → List ℕ
end_to_end [] = []
end_to_end (name ∷ names) = name ++ (0 ∷ end_to_end names)

-- a list that 23 does not meet is its names, end to end with a zero byte after each, as many as there are words
abbrev pub EndToEnd : Type 0
EndToEnd = (list : List ℕ) (slots : ℕ) → list_ok list slots ≡ true → (end_to_end (names_in list) ≡ list) × (length (names_in list) ≡ slots)

-- ---- refusals

-- what a refused call answers, and leaves: a query's refusal, or 23 with object 0
pub record AllRefused (sheet bytes : List ℕ) (size slots n k : ℕ) (arena words : List ℕ) : Type 0 where
  pub number : (QueryNumber n × ObjectOf (length (set_of sheet bytes)) n k) ⊎ ((n ≡ 23) × (k ≡ 0))
  pub arena_zeros : arena ≡ replicate size 0
  pub words_zeros : words ≡ replicate slots 0

abbrev pub AllRefusals : Type 0
AllRefusals =
    (setting : Setting) (sheet bytes : List ℕ) (size requester : ℕ) (list : List ℕ) (slots n k : ℕ) (arena words : List ℕ)
    → query_all_of setting sheet bytes size requester list slots ≡ replied_all (refused n k) arena words
    → AllRefused sheet bytes size slots n k arena words

-- ---- every call

-- whatever the answer, arena and words have the lengths that they were handed in with
abbrev pub AllLengths : Type 0
AllLengths =
    (setting : Setting) (sheet bytes : List ℕ) (size requester : ℕ) (list : List ℕ) (slots : ℕ) (r : Verdict) (arena words : List ℕ)
    → query_all_of setting sheet bytes size requester list slots ≡ replied_all r arena words
    → (length arena ≡ size) × (length words ≡ slots)

-- ---- demand 3's clause on names

-- "every name that S answers from its program or a library .. has the same answer in T": S and T are asked for the same names in arenas of any
-- sizes in which they meet none of refusals 1 to 12 and 21. T is answered too, and the word of each such name is the same in both
abbrev pub LongerAll : Type 0
LongerAll =
    (setting : Setting) (sheet bytes : List ℕ) (size requester : ℕ) (list : List ℕ) (slots : ℕ) (arena words : List ℕ)
    → query_all_of setting sheet bytes size requester list slots ≡ replied_all passed arena words
    → (file_word name_word : ℕ) (added : List ℕ) (size' : ℕ)
    → PassesLoading setting (sheet ++ (file_word ∷ (name_word ∷ []))) (bytes ++ added) size'
    → (words' : List ℕ)
    × (query_all_of setting (sheet ++ (file_word ∷ (name_word ∷ []))) (bytes ++ added) size' requester list slots
    ≡ replied_all passed
    (tab size' (placed (set_objects setting (sheet ++ (file_word ∷ (name_word ∷ []))) (bytes ++ added)))) words')
    × ((i : ℕ) → i < slots → (k s a : ℕ) (left : List ℕ)
    → query_of setting sheet bytes size requester (get_or (names_in list) i []) ≡ replied (found k s a) left → k ≢ 0
    → (get_or words i 0 ≡ a) × (get_or words' i 0 ≡ a))

-- ---- cases

-- each stands for one way to read the request wrongly
pub record AllCases : Type 0 where
  -- "An empty list is answered with no word"; 00 is one empty name
  pub empty : list_ok [] 0 ≡ true
  pub empty_names : names_in [] ≡ []
  pub empty_word : list_ok [] 1 ≡ false
  pub empty_name : list_ok (0 ∷ []) 1 ≡ true
  pub one_empty : names_in (0 ∷ []) ≡ [] ∷ []
  -- "a list whose last byte is not zero": "a", and "a" 00 "b" whose count is right
  pub no_zero : list_ok (0x61 ∷ []) 0 ≡ false
  pub no_last_zero : list_ok (0x61 ∷ 0 ∷ 0x62 ∷ []) 1 ≡ false
  -- "or whose count of zero bytes differs from the slice's length"
  pub word_too_few : list_ok (0x61 ∷ 0 ∷ []) 0 ≡ false
  pub word_too_many : list_ok (0x61 ∷ 0 ∷ []) 2 ≡ false
  -- "in that order"
  pub in_order : names_in (0x61 ∷ 0 ∷ 0 ∷ 0x62 ∷ 0x63 ∷ 0 ∷ []) ≡ (0x61 ∷ []) ∷ [] ∷ (0x62 ∷ 0x63 ∷ []) ∷ []
  -- "23, after 13": whatever the list
  pub thirteen_first :
      (setting : Setting) (os : List Input) (size requester : ℕ) (list : List ℕ) (slots : ℕ)
      → prepare_verdict setting passed os size ≡ passed → ltb requester (length os) ≡ false
      → ask_all_set setting os size requester list slots ≡ refused_all size slots 13 0
  pub twenty_three :
      (setting : Setting) (os : List Input) (size requester : ℕ) (list : List ℕ) (slots : ℕ)
      → prepare_verdict setting passed os size ≡ passed → ltb requester (length os) ≡ true → list_ok list slots ≡ false
      → ask_all_set setting os size requester list slots ≡ refused_all size slots 23 0
