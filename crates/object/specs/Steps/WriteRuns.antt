-- What writing runs leaves of a slice: each is written once, in its turn, and no other byte. Assumes nothing.
use Rattle.std.specs.Prelude.{List, [], ◌∷◌, ℕ}
use Rattle.words.specs.Memory.{patch}
use Rattle.object.specs.Runs.{Run, bytes_of}

unfoldable pub write_runs : List ℕ → List Run → List ℕ → List ℕ
write_runs file [] xs = xs
write_runs file (r ∷ rs) xs = write_runs file rs (patch xs r.at r.size (bytes_of file r.source))
