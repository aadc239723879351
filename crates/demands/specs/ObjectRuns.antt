-- What is proved of the runs that placing an object writes (object/specs/Runs), of a file that passes refusals 4 to 7 and 21. Document 02, (d):
-- "The runs of file bytes and zeros that placing an object writes become a definition: each byte of its span is shown to lie in exactly
-- one". Assumes nothing.
use Rattle.std.specs.Prelude.{Bool, true, List, ◌≡◌, ℕ, ◌<◌, ltb}
use Rattle.words.specs.Choice.{pick, every}
use Rattle.object.specs.Placed.{object_span, object_bytes, file_refusal}
use Rattle.object.specs.Runs.{runs_of, said_by, holders}

-- "each byte of its span is shown to lie in exactly one", and no other byte in any
abbrev pub EachOnce : Type 0
EachOnce =
    (host : Bool) (file : List ℕ) → file_refusal host file ≡ 0 → (i : ℕ)
    → holders (runs_of host file) i ≡ pick (ltb i (object_span host file)) 1 0

abbrev pub NoneEmpty : Type 0
NoneEmpty = (host : Bool) (file : List ℕ) → file_refusal host file ≡ 0 → every (λ r. ltb 0 r.size) (runs_of host file) ≡ true

-- document 01's placed bytes are what the runs say
abbrev pub RunsSay : Type 0
RunsSay =
    (host : Bool) (file : List ℕ) → file_refusal host file ≡ 0 → (i : ℕ) → i < object_span host file
    → said_by file (runs_of host file) i ≡ object_bytes host file i
