-- `program::bind_sheet` meets its contract. Assumes nothing.
use mathlib.Core.Path.{◌≡◌, ap, ◌∙◌}
use Prim.Native.Nat.{ℕ, ◌+◌, ◌*◌, ◌-◌}
use native.Mathlib.Omega.{arith}
use lib.ListN.{length, take, drop, replicate, length-drop, length-replicate}
use lib.Seq.{length-take-le, take_all}
use mathlib.Core.List.{List}
use Rattle.words.specs.Memory.{mem, tab}
use Rattle.object.specs.RelocationTypes.{supplied_types}
use Rattle.binder.proofs.TypeWords.{supplied_all}
use Rattle.program.specs.Program.{word_in}
use Rattle.program.proofs.bind_sheet.Goals as goal

pub returns : goal.returns
returns c =
    let a = c.args in
    let n = a.input.now in
    let start = 4 + 4 * a.count in
    let room : List ℕ = replicate 16383 0 in
    let long : length (take a.count room) ≡ a.count = length-take-le a.count room (omega (arith, length-replicate {A = ℕ} 16383 0)) in
    let sheet : c.read_words.new.sheet ≡ tab a.count (word_in n) = rw long at c.read_words.ensures in
    let types : c.supply.new.types ≡ supplied_types =
    c.supply.ensures ∙ (ap (λ (k : ℕ). tab k (mem supplied_types)) (length-replicate {A = ℕ} 64 0) ∙ supplied_all) in
    let rest : take (length n - start) (drop start n) ≡ drop start n = take_all (length n - start) (drop start n) (omega (arith, length-drop start n)) in
    rw (sheet, rest, types) at c.bind.ensures
