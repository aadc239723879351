-- Demand 1 for `start_stop`: "a refusal leaves zeros", one numbered refusal with an object number, and what is listed was bound. Document 02, (g):
-- "from a call of its own that binds first"; "each with its count"; "New numbers, after 20: 26, .. (first such object in binding order); 27, ..
-- (object 0). Any refusal leaves zeros in the lists too". Assumes nothing.
use Rattle.std.specs.Prelude.{List, ◌++◌, ◌⊎◌, ◌≡◌, ℕ, ◌-◌, ◌≤◌, ◌<◌, length, take, replicate}
use Rattle.sheet.specs.Sheet.{set_of}
use Rattle.binder.specs.declared.Policy.{Policy}
use Rattle.binder.specs.Setting.{Setting}
use Rattle.binder.specs.Bind.{bind_of, outcome}
use Rattle.start_stop.specs.StartStop.{Lists, counted, listing, start_stop_of}
use Rattle.demands.specs.LongerSet.{BoundBy}
use Rattle.demands.specs.Refusals.{ObjectOf, BindNumber}
use Rattle.binder.specs.Verdict.{refused}

-- the number and the object of a refusal, in a set of `count` objects: those of `bind`, 26 with an object other than the host, 27 with object 0
abbrev pub StartStopNumber : ℕ → ℕ → ℕ → Type 0
StartStopNumber count n k = (BindNumber n × ObjectOf count n k) ⊎ (((n ≡ 26) × (1 ≤ k) × (k < count)) ⊎ ((n ≡ 27) × (k ≡ 0)))

-- what a refused call answers, and leaves
pub record StartStopRefused (sheet bytes : List ℕ) (size words starts stops n k : ℕ) (arena report start stop : List ℕ) : Type 0 where
  pub number : StartStopNumber (length (set_of sheet bytes)) n k
  pub arena_zeros : arena ≡ replicate size 0
  pub report_zeros : report ≡ replicate words 0
  pub start_zeros : start ≡ replicate starts 0
  pub stop_zeros : stop ≡ replicate stops 0

abbrev pub StartStopRefusals : Type 0
StartStopRefusals =
    (setting : Setting) (sheet bytes : List ℕ) (size : ℕ) (policy : Policy) (words starts stops n k : ℕ) (arena report start stop : List ℕ)
    → start_stop_of setting sheet bytes size policy words starts stops ≡ listing (refused n k) arena report start stop
    → StartStopRefused sheet bytes size words starts stops n k arena report start stop

-- "binds first": what `bind` refuses is refused by the same number and object, and what is listed is what `bind` leaves
pub record BindsFirst : Type 0 where
  pub refused :
      (setting : Setting) (sheet bytes : List ℕ) (size : ℕ) (policy : Policy) (words starts stops n k : ℕ) (arena report : List ℕ)
      → bind_of setting sheet bytes size policy words ≡ outcome (refused n k) arena report
      → start_stop_of setting sheet bytes size policy words starts stops
      ≡ listing (refused n k) arena report (replicate starts 0) (replicate stops 0)
  pub listed :
      (setting : Setting) (sheet bytes : List ℕ) (size : ℕ) (policy : Policy) (words starts stops n m : ℕ) (arena report start stop : List ℕ)
      → start_stop_of setting sheet bytes size policy words starts stops ≡ listing (counted n m) arena report start stop
      → BoundBy setting sheet bytes size policy words arena report

-- whatever the answer, every slice is as long as it was
abbrev pub StartStopLengths : Type 0
StartStopLengths =
    (setting : Setting) (sheet bytes : List ℕ) (size : ℕ) (policy : Policy) (words starts stops : ℕ) (r : Lists) (arena report start stop : List ℕ)
    → start_stop_of setting sheet bytes size policy words starts stops ≡ listing r arena report start stop
    → (length arena ≡ size) × (length report ≡ words) × (length start ≡ starts) × (length stop ≡ stops)

-- "each with its count", "Unused list words are 0"
abbrev pub CountedWords : Type 0
CountedWords =
    (setting : Setting) (sheet bytes : List ℕ) (size : ℕ) (policy : Policy) (words starts stops n m : ℕ) (arena report start stop : List ℕ)
    → start_stop_of setting sheet bytes size policy words starts stops ≡ listing (counted n m) arena report start stop
    → (n ≤ starts) × (m ≤ stops) × (start ≡ take n start ++ replicate (starts - n) 0) × (stop ≡ take m stop ++ replicate (stops - m) 0)
