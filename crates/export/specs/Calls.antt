-- What the functions for C answer, as numbers: `bind_of`, `bind_ordered_of`, `query_of`, `query_all_of` and `start_stop_of` say what is answered, and this file how it is written: where
-- an answer has cases, a definition gives the number and the values for each of its cases. Assumes nothing.
use Rattle.std.specs.Prelude.{List, [], ◌∷◌, ◌≡◌, ℕ, ◌+◌, ◌*◌, ◌^◌, ◌<◌, eqb, Some, None, Result, Ok, Err}
use Rattle.words.specs.Choice.{pick}
use Rattle.words.specs.Memory.{mem, tab}
use Rattle.binder.specs.declared.Policy.{Policy}
use Rattle.binder.specs.declared.Policy.TheVariants.{Strict, Lenient}
use Rattle.binder.specs.declared.Refused.{Refused}
use Rattle.binder.specs.Setting.{Setting}
use Rattle.binder.specs.Verdict.{refused}
use Rattle.binder.specs.QueryAll.{RepliedAll, replied_all, query_all_of}
use Rattle.binder.specs.Bind.{Reply, Outcome, outcome, bind_of, Replied, replied, query_of}
use Rattle.binder.specs.OwnOrder.{bind_ordered_of}
use Rattle.start_stop.specs.StartStop.{Lists, Listing, listing, start_stop_of}

-- a refusal: its number in the low 32 bits, its object in the high 32
abbrev pub packed : ℕ → ℕ → ℕ
packed number object = number + object * 2 ^ 32

-- ---- bind

-- 0 is lenient, any other number strict
unfoldable pub policy_of : ℕ → Policy
policy_of strict = pick (eqb strict 0) Lenient Strict

-- 0 for bound, for a question that is answered, and for functions that are listed; else the refusal
abbrev pub answer_number : {A : Type 0} → Result A Refused → ℕ
answer_number (Ok x) = 0
answer_number (Err r) = packed r.number r.object

-- the number, the arena and the report that a call leaves
pub data Called : Type 0 where
  called : (number : ℕ) (arena report : List ℕ) → Called

abbrev pub called_of : Outcome → Called
called_of (outcome answer arena report) = called (answer_number answer) arena report

-- ---- query

-- 1 where the name is found, then its object, its symbol and its address; else zeros
abbrev pub reply_words : Reply → List ℕ
reply_words (Ok (Some f)) = 1 ∷ f.object ∷ f.symbol ∷ f.address ∷ []
reply_words (Ok None) = 0 ∷ 0 ∷ 0 ∷ 0 ∷ []
reply_words (Err r) = 0 ∷ 0 ∷ 0 ∷ 0 ∷ []

-- a slice of `size` words that has these words, then zeros; what does not fit is dropped
unfoldable pub fitted : ℕ → List ℕ → List ℕ
fitted size words = tab size (mem words)

-- the number, the arena and the words that a call leaves
pub data Asked : Type 0 where
  asked : (number : ℕ) (arena words : List ℕ) → Asked

abbrev pub asked_of : ℕ → Replied → Asked
asked_of size (replied reply arena) = asked (answer_number reply) arena (fitted size (reply_words reply))

-- ---- query_all

abbrev pub asked_all_of : RepliedAll → Asked
asked_all_of (replied_all reply arena words) = asked (answer_number reply) arena words

-- ---- start_stop

-- how many words each list has; zeros after a refusal
abbrev pub lists_counts : Lists → List ℕ
lists_counts (Ok c) = c.start ∷ c.stop ∷ []
lists_counts (Err r) = 0 ∷ 0 ∷ []

-- the number, the arena, the report, the lists and their counts that a call leaves
pub data CalledLists : Type 0 where
  called_lists : (number : ℕ) (arena report start stop counts : List ℕ) → CalledLists

abbrev pub called_lists_of : ℕ → Listing → CalledLists
called_lists_of size (listing answer arena report start stop) =
    called_lists (answer_number answer) arena report start stop (fitted size (lists_counts answer))

-- ---- 0 tells

-- no refusal has the number 0, so the number 0 says that the set is bound, the question answered, or the functions listed
abbrev pub ZeroTells : Type 0
ZeroTells =
    ((setting : Setting) (sheet bytes : List ℕ) (size : ℕ) (policy : Policy) (words number object : ℕ) (arena report : List ℕ)
    → bind_of setting sheet bytes size policy words ≡ outcome (refused number object) arena report → 0 < number)
    × ((setting : Setting) (sheet bytes : List ℕ) (size : ℕ) (policy : Policy) (words : ℕ) (order : List ℕ) (number object : ℕ) (arena report : List ℕ)
    → bind_ordered_of setting sheet bytes size policy words order ≡ outcome (refused number object) arena report → 0 < number)
    × ((setting : Setting) (sheet bytes : List ℕ) (size requester : ℕ) (name : List ℕ) (number object : ℕ) (arena : List ℕ)
    → query_of setting sheet bytes size requester name ≡ replied (refused number object) arena → 0 < number)
    × ((setting : Setting) (sheet bytes : List ℕ) (size requester : ℕ) (list : List ℕ) (slots number object : ℕ) (arena words : List ℕ)
    → query_all_of setting sheet bytes size requester list slots ≡ replied_all (refused number object) arena words → 0 < number)
    × ((setting : Setting) (sheet bytes : List ℕ) (size : ℕ) (policy : Policy) (words starts stops number object : ℕ) (arena report start stop : List ℕ)
    → start_stop_of setting sheet bytes size policy words starts stops ≡ listing (refused number object) arena report start stop
    → 0 < number)
