-- What the code leaves in a list, word by word, and what it answers. Assumes nothing.
use Rattle.std.specs.Prelude.{List, ◌≡◌, ℕ, ◌+◌, length, Ok, Err}
use Rattle.words.specs.Memory.{mem, patch}
use Rattle.start_stop.specs.declared.fill.Addresses.{Addresses}
use Rattle.start_stop.specs.StartStop.{Lists, Calls, Listing, listing, refused_lists, list_by}

-- the words `ws` went to the list `xs` from place `n` on, and left `ys`; what falls past its end is dropped. `r` is the place after them
pub record Put (ws : List ℕ) (n : ℕ) (xs ys : List ℕ) (r : ℕ) : Type 0 where
  pub list : ys ≡ patch xs n (length ws) (mem ws)
  pub next : r ≡ n + length ws

-- the same of a list that counts them
abbrev pub Pushed : List ℕ → Addresses → Addresses → Type 0
Pushed ws a b = Put ws a.used a.words.now b.words.now b.used

-- the answer; a refusal leaves zeros
unfoldable pub finished_of : Lists → List ℕ → List ℕ → List ℕ → List ℕ → Listing
finished_of (Ok c) arena report start stop = listing (Ok c) arena report start stop
finished_of (Err r) arena report start stop =
    refused_lists (length arena) (length report) (length start) (length stop) r.number r.object

-- what is left of a bound set, finished, whatever its report
abbrev pub ListsMade : (ℕ → Calls) → List ℕ → List ℕ → List ℕ → List ℕ → Lists → Type 0
ListsMade calls order arena start stop r =
    (report : List ℕ) → finished_of r arena report start stop ≡ list_by calls order (length start) (length stop) arena report
