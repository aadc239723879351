-- The turns of a search over the table of links. No contract cites this file. Assumes nothing.
use Rattle.std.specs.Prelude.{Option, None, Some, MatchOption, is_some}
use Rattle.std.specs.Bool.{then_some}
use Prim.Native.Nat.{ℕ, suc, ◌+◌, ◌-◌, ◌%◌, ◌^◌, ◌≤◌, ◌<◌}
use mathlib.Core.Path.{◌≡◌, refl, sym, ap, ◌∙◌}
use mathlib.Core.Bool.{Bool, true, false, false≢true}
use mathlib.Core.List.{List}
use native.Mathlib.Omega.{arith}
use native.Mathlib.Decide.{dec_lt}
use native.Mathlib.Numerals.{add-one}
use borrow.Author.Tests.{eqb-true}
use lib.Dec.{eqb}
use lib.ListN.{take, drop}
use Rattle.words.specs.Choice.{pick}
use Rattle.object.specs.declared.hash_tables.HashTable.TheVariants.{Without, Gnu}
use Rattle.object.specs.HashTable as hash
use Rattle.object.specs.HashTable.{find_by, answer_of}
use Rattle.scope.specs.declared.scope.Hit.{Hit}
use Rattle.scope.specs.Steps.Links.{word_at, link_at, links_from}
use Rattle.scope.specs.Steps.ScopeCode.{answer_at, Lacks, scoped_by, protected_by, or_else, link_answer, own_answer, scan_links}

-- ---- a table that is not System V's has no use for the System V hash

no_use :
    (image : List ℕ) (symbols strings : ℕ) (b : Bool) (at n symoffset bloomwords shift : ℕ) (name : List ℕ) (g e e' : ℕ)
    → find_by image symbols strings (pick b (Gnu at n symoffset bloomwords shift) Without) name g e
    ≡ find_by image symbols strings (pick b (Gnu at n symoffset bloomwords shift) Without) name g e'
unfolding hash.find_by hash.may_hold
no_use image symbols strings true at n symoffset bloomwords shift name g e e' = refl
no_use image symbols strings false at n symoffset bloomwords shift name g e e' = refl

module _ (arena table : List ℕ) (k : ℕ) (name : List ℕ) (g e e' : ℕ) (same : word_at table k 4 ≡ 1 → e ≡ e') where
  answer_any : answer_at arena (link_at table k) name g e ≡ answer_at arena (link_at table k) name g e'
  unfolding answer_at link_at
  answer_any = go (eqb (word_at table k 4) 1) refl
    where
      go : (b : Bool) → eqb (word_at table k 4) 1 ≡ b → answer_at arena (link_at table k) name g e ≡ answer_at arena (link_at table k) name g e'
      go true q = ap (λ (h : ℕ). answer_at arena (link_at table k) name g h) (same (eqb-true (word_at table k 4) 1 q))
      go false q =
          rw q
          (ap (λ (f : Option ℕ). answer_of (take (word_at table k 1) (drop (word_at table k 0) arena)) (word_at table k 2) f)
          (no_use (take (word_at table k 1) (drop (word_at table k 0) arena)) (word_at table k 2) (word_at table k 3) (eqb (word_at table k 4) 2) (word_at table k 5) (word_at table k 6 % 2 ^ 32) (word_at table k 7 % 2 ^ 32) (word_at table k 8 % 2 ^ 32) (word_at table k 9 % 2 ^ 32) name g e e'))

  pub link_any : (address : ℕ) → link_answer address arena k (link_at table k) name g e ≡ link_answer address arena k (link_at table k) name g e'
  unfolding link_answer
  link_any address = rw answer_any

  pub own_any : (address : ℕ) → own_answer address arena k (link_at table k) name g e ≡ own_answer address arena k (link_at table k) name g e'
  unfolding own_answer link_answer
  own_any address = rw answer_any

-- ---- the library's calls of closures

pub protected_is :
    (a r : Option Hit) (Says : Hit → Bool → Type 0) → MatchOption a (r ≡ None) (λ x. (b : Bool) × Says x b × (r ≡ then_some b x))
    → ((x : Hit) (b : Bool) → Says x b → b ≡ x.definition.protected) → r ≡ protected_by a
unfolding protected_by
protected_is None r Says m k = m
protected_is (Some x) r Says m k = m.2 ∙ go m.0 ∙ ap (λ (b : Bool). pick b (Some x) None) (k x m.0 m.1)
  where
    go : (b : Bool) → then_some b x ≡ pick b (Some x) None
    go true = refl
    go false = refl

module _ (address : ℕ) (arena table name : List ℕ) (g e : ℕ) where
  -- what is left of the search from object `k` on
  abbrev pub rest : ℕ → ℕ → Option Hit
  rest k count = scan_links address arena k (links_from table k (count - k)) name g e

  abbrev here : ℕ → Option Hit
  here k = link_answer address arena k (link_at table k) name g e

  module _ (k count : ℕ) where
    turn : k < count → rest k count ≡ or_else (here k) (rest (k + 1) count)
    unfolding scan_links links_from
    turn h =
        let s : count - k ≡ suc (count - (k + 1)) = omega arith in
        rw (s, add-one)

    pub scan_hit : {a whole : Option Hit} → k < count → a ≡ here k → is_some a ≡ true → rest k count ≡ whole → a ≡ whole
    unfolding or_else
    scan_hit {a = None} h is some inv = absurd (false≢true some)
    scan_hit {a = Some x} h is some inv =
        let t : or_else (here k) (rest (k + 1) count) ≡ Some x = rw (← is) in
        sym t ∙ sym (turn h) ∙ inv

    pub scan_miss : {a whole : Option Hit} → k < count → a ≡ here k → is_some a ≡ false → rest k count ≡ whole → rest (k + 1) count ≡ whole
    unfolding or_else
    scan_miss {a = None} h is none inv =
        let t : or_else (here k) (rest (k + 1) count) ≡ rest (k + 1) count = rw (← is) in
        sym t ∙ sym (turn h) ∙ inv
    scan_miss {a = Some x} h is none inv = absurd (false≢true (sym none))

    pub scan_end : {whole : Option Hit} → count ≤ k → rest k count ≡ whole → None ≡ whole
    unfolding scan_links links_from
    scan_end {whole} h inv =
        let s : count - k ≡ 0 = omega arith in
        rw s at inv

  -- ---- objects that lack the name

  pub own_lacks : (k : ℕ) → Lacks arena (link_at table k) g → None ≡ own_answer address arena k (link_at table k) name g e
  unfolding own_answer link_answer scoped_by protected_by
  own_lacks k lack = rw (lack name e)

  here_lacks : (k : ℕ) → Lacks arena (link_at table k) g → here k ≡ None
  unfolding link_answer scoped_by
  here_lacks k lack = rw (lack name e)

  pub pass : (k count : ℕ) → Lacks arena (link_at table k) g → rest k count ≡ rest (k + 1) count
  pass k count lack = go (dec_lt k count)
    where
      go : Dec (k < count) → rest k count ≡ rest (k + 1) count
      go (yes h) = sym (scan_miss k count h refl (ap is_some (here_lacks k lack)) refl)
      go (no h) = sym (scan_end k count (omega arith) refl) ∙ scan_end (k + 1) count (omega arith) refl
