-- Runs: a list of runs that follow one another without a gap, what it says, what writing it leaves; the runs of an object are such a list
-- from 0 to its span, and they say its placed bytes. Assumes nothing.
use mathlib.Core.Path.{◌≡◌, refl, sym, ap, ◌∙◌}
use mathlib.Core.Logic.{◌⊎◌, inl, inr, ⊎_elim}
use mathlib.Core.Bool.{Bool, true, false}
use mathlib.Core.List.{List, [], ◌∷◌}
use Prim.Native.Nat.{ℕ, ◌+◌, ◌-◌, ◌≤◌, ◌<◌, min, max}
use native.Mathlib.Omega.{arith}
use borrow.Author.Tests.{lt-ltb, le-ltb, le-leb, lt-leb, ltb-true, ltb-false}
use lib.Dec.{leb, ltb}
use lib.ListN.{length}
use Rattle.words.specs.Choice.{pick, both, every}
use Rattle.words.specs.Memory.{mem, from, In, patch}
use Rattle.words.specs.Page.{page_start, page_end}
use Rattle.words.proofs.Memory.{Out, in_or_out}
use Rattle.words.proofs.Slices.{patch_none, patch_same, patch_join}
use Rattle.object.specs.Runs.{Source, file_from, zeros, Run, between, file_end, segment_runs, runs_from, bytes_of, holds, said_by, holders}
use Rattle.object.specs.Steps.WriteRuns.{write_runs}
use Rattle.object.specs.declared.program_header.Segment.{Segment}
use Rattle.object.proofs.Ranges.{split}

-- ---- runs that follow one another from `a` to `b`

abbrev pub Tiled : ℕ → List Run → ℕ → Type 0
Tiled a [] b = a ≡ b
Tiled a (r ∷ rs) b = (r.at ≡ a) × ((0 < r.size) × Tiled (a + r.size) rs b)

pub tiled_le : (a : ℕ) (rs : List Run) (b : ℕ) → Tiled a rs b → a ≤ b
tiled_le a [] b t = omega (arith, t)
tiled_le a (r ∷ rs) b t = omega (arith, tiled_le (a + r.size) rs b t.1.1)

pub tiled_between :
    (a e : ℕ) (source : Source) (rs : List Run) (b : ℕ) → Tiled (max a e) rs b → Tiled a (between a e source rs) b
unfolding between
tiled_between a e source rs b t =
    ⊎_elim
    (λ (p : a < e). rw (lt-ltb a e p) (refl, (omega arith, (let x : max a e ≡ a + (e - a) = omega arith in rw x at t))))
    (λ (p : e ≤ a). rw (le-ltb a e p) (let x : max a e ≡ a = omega arith in rw x at t))
    (split a e)

-- a run that holds the offset, and one that does not
module _ (r : Run) (i : ℕ) where
  held : In r.at r.size i → holds r i ≡ true
  held h = rw (le-leb r.at i h.0, lt-ltb i (r.at + r.size) h.1)

  passed : Out r.at r.size i → holds r i ≡ false
  passed (inl h) = rw (lt-leb r.at i h)
  passed (inr h) = go (leb r.at i)
    where
      go : (b : Bool) → both b (ltb i (r.at + r.size)) ≡ false
      go true = le-ltb i (r.at + r.size) h
      go false = refl

pub holders_out : (a : ℕ) (rs : List Run) (b i : ℕ) → Tiled a rs b → (i < a) ⊎ (b ≤ i) → holders rs i ≡ 0
unfolding holders
holders_out a [] b i t h = refl
holders_out a (r ∷ rs) b i t (inl h) =
    rw (passed r i (inl (omega (arith, t.0))), holders_out (a + r.size) rs b i t.1.1 (inl (omega arith)))
holders_out a (r ∷ rs) b i t (inr h) =
    let l = tiled_le (a + r.size) rs b t.1.1 in
    rw (passed r i (inr (omega (arith, t.0, l))), holders_out (a + r.size) rs b i t.1.1 (inr h))

pub holders_in : (a : ℕ) (rs : List Run) (b i : ℕ) → Tiled a rs b → a ≤ i → i < b → holders rs i ≡ 1
unfolding holders
holders_in a [] b i t l u = absurd (omega (arith, t))
holders_in a (r ∷ rs) b i t l u = go (in_or_out r.at r.size i) (λ h. holders_in (a + r.size) rs b i t.1.1 h u)
  where
    go : In r.at r.size i ⊎ Out r.at r.size i → (a + r.size ≤ i → holders rs i ≡ 1) → pick (holds r i) 1 0 + holders rs i ≡ 1
    go (inl w) next = rw (held r i w, holders_out (a + r.size) rs b i t.1.1 (inl (omega (arith, t.0))))
    go (inr (inl w)) next = absurd (omega (arith, t.0))
    go (inr (inr w)) next = rw (passed r i (inr w), next (omega (arith, t.0)))

pub tiled_sizes : (a : ℕ) (rs : List Run) (b : ℕ) → Tiled a rs b → every (λ (r : Run). ltb 0 r.size) rs ≡ true
unfolding every
tiled_sizes a [] b t = refl
tiled_sizes a (r ∷ rs) b t = rw (lt-ltb 0 r.size t.1.0, tiled_sizes (a + r.size) rs b t.1.1)

-- ---- what runs say, and what writing them leaves

module _ (file : List ℕ) (r : Run) (rs : List Run) (i : ℕ) where
  said_here : In r.at r.size i → said_by file (r ∷ rs) i ≡ bytes_of file r.source (i - r.at)
  unfolding said_by
  said_here w = rw (held r i w)

  said_later : Out r.at r.size i → said_by file (r ∷ rs) i ≡ said_by file rs i
  unfolding said_by
  said_later w = rw (passed r i w)

pub written :
    (file : List ℕ) (a : ℕ) (rs : List Run) (b : ℕ) (xs : List ℕ) → Tiled a rs b
    → write_runs file rs xs ≡ patch xs a (b - a) (from a (said_by file rs))
unfolding write_runs
written file a [] b xs t =
    let z : b - a ≡ 0 = omega (arith, t) in
    sym (ap (λ (k : ℕ). patch xs a k (from a (said_by file []))) z ∙ patch_none xs a (from a (said_by file [])))
written file a (r ∷ rs) b xs t =
    let f : ℕ → ℕ = bytes_of file r.source in
    let l = tiled_le (a + r.size) rs b t.1.1 in
    let z : r.size + (b - (a + r.size)) ≡ b - a = omega (arith, l) in
    written file (a + r.size) rs b (patch xs r.at r.size f) t.1.1
    ∙ (ap (λ (k : ℕ). patch (patch xs k r.size f) (a + r.size) (b - (a + r.size)) (from (a + r.size) (said_by file rs))) t.0
    ∙ (patch_join xs a r.size (b - (a + r.size)) f (from (a + r.size) (said_by file rs)) (from a (said_by file (r ∷ rs)))
    (λ k h.
    let e : a + k - r.at ≡ k = omega (arith, t.0) in
    sym (said_here file r rs (a + k) (omega (arith, t.0)) ∙ ap f e))
    (λ k h.
    let e : a + (r.size + k) ≡ a + r.size + k = omega arith in
    sym (said_later file r rs (a + (r.size + k)) (inr (omega (arith, t.0))) ∙ ap (said_by file rs) e))
    ∙ ap (λ (k : ℕ). patch xs a k (from a (said_by file (r ∷ rs)))) z))

pub said_none : (file : List ℕ) (i : ℕ) → said_by file [] i ≡ 0
unfolding said_by
said_none file i = refl

-- a run that may be empty
module _ (file : List ℕ) (a e : ℕ) (source : Source) (rs : List Run) where
  pub said_in : (i : ℕ) → a ≤ i → i < e → said_by file (between a e source rs) i ≡ bytes_of file source (i - a)
  unfolding between
  said_in i l u =
      let p : a < e = omega arith in
      rw (lt-ltb a e p) (said_here file (record { at = a; size = e - a; source = source }) rs i (omega arith))

  pub said_out : (i : ℕ) → (i < a) ⊎ (e ≤ i) → said_by file (between a e source rs) i ≡ said_by file rs i
  unfolding between
  said_out i h = go (ltb a e) refl h
    where
      go : (b : Bool) → ltb a e ≡ b → (i < a) ⊎ (e ≤ i)
          → said_by file (pick b (record { at = a; size = e - a; source = source } ∷ rs) rs) i ≡ said_by file rs i
      go true t (inl h) = said_later file (record { at = a; size = e - a; source = source }) rs i (inl h)
      go true t (inr h) = said_later file (record { at = a; size = e - a; source = source }) rs i (inr (omega (arith, ltb-true a e t)))
      go false t h = refl

  pub write_between :
      (xs : List ℕ) → write_runs file (between a e source rs) xs ≡ write_runs file rs (patch xs a (e - a) (bytes_of file source))
  unfolding between write_runs
  write_between xs = go (ltb a e) refl
    where
      go : (b : Bool) → ltb a e ≡ b
          → write_runs file (pick b (record { at = a; size = e - a; source = source } ∷ rs) rs) xs
          ≡ write_runs file rs (patch xs a (e - a) (bytes_of file source))
      go true t = refl
      go false t =
          let z : e - a ≡ 0 = omega (arith, ltb-false a e t) in
          sym (ap (λ (k : ℕ). write_runs file rs (patch xs a k (bytes_of file source))) z
          ∙ ap (write_runs file rs) (patch_none xs a (bytes_of file source)))

-- ---- the code's writes

-- where file bytes lie past p_memsz, the file goes on there
in_file : (n o v m p k : ℕ) → k < v + min p (n - o) - (v + m) → min (o + m) n ≡ o + m
in_file n o v m p k h = omega arith

-- one segment after zeros from `done` on, whatever follows
module _ (file : List ℕ) (done : ℕ) (s : Segment) (xs : List ℕ) where
  abbrev after_1 : List ℕ
  after_1 = patch xs done (page_start s.vaddr - done) (λ _. 0)

  abbrev after_2 : List ℕ
  after_2 = patch after_1 (page_start s.vaddr) (s.vaddr + s.filesz - page_start s.vaddr) (from (page_start s.offset) (mem file))

  abbrev after_3 : List ℕ
  after_3 = patch after_2 (s.vaddr + s.filesz) (s.vaddr + s.memsz - (s.vaddr + s.filesz)) (λ _. 0)

  abbrev after_4 : List ℕ
  after_4 = patch after_3 (s.vaddr + s.memsz) (file_end (length file) s - (s.vaddr + s.memsz)) (from (s.offset + s.memsz) (mem file))

  abbrev after_5 : List ℕ
  after_5 =
      patch after_4 (max (s.vaddr + s.memsz) (file_end (length file) s))
      (page_end (s.vaddr + s.memsz) - max (s.vaddr + s.memsz) (file_end (length file) s)) (λ _. 0)

  write_first : (ss : List Segment)
      → write_runs file (runs_from (length file) done (s ∷ ss)) xs
      ≡ write_runs file (runs_from (length file) (page_end (s.vaddr + s.memsz)) ss) after_5
  unfolding runs_from segment_runs
  write_first ss =
      write_between file done (page_start s.vaddr) zeros _ xs
      ∙ (write_between file (page_start s.vaddr) (s.vaddr + s.filesz) (file_from (page_start s.offset)) _ after_1
      ∙ (write_between file (s.vaddr + s.filesz) (s.vaddr + s.memsz) zeros _ after_2
      ∙ (write_between file (s.vaddr + s.memsz) (file_end (length file) s) (file_from (s.offset + s.memsz)) _ after_3
      ∙ write_between file (max (s.vaddr + s.memsz) (file_end (length file) s)) (page_end (s.vaddr + s.memsz)) zeros _ after_4)))

  write_alone : write_runs file (runs_from (length file) done (s ∷ [])) xs ≡ after_5
  unfolding runs_from write_runs
  write_alone = write_first []

  -- what is left after one segment
  pub write_on : (ss : List Segment) {ys : List ℕ} → ys ≡ write_runs file (runs_from (length file) done (s ∷ [])) xs
      → write_runs file (runs_from (length file) done (s ∷ ss)) xs
      ≡ write_runs file (runs_from (length file) (page_end (s.vaddr + s.memsz)) ss) ys
  write_on ss e = write_first ss ∙ ap (write_runs file (runs_from (length file) (page_end (s.vaddr + s.memsz)) ss)) (sym (e ∙ write_alone))

  -- the five writes of the code
  pub write_segment :
      {start there last page from_file past : ℕ} {a b c d e : List ℕ} → start ≡ page_start s.vaddr → there ≡ file_end (length file) s
      → last ≡ max (s.vaddr + s.memsz) there
      → page ≡ page_end (s.vaddr + s.memsz)
      → from_file ≡ page_start s.offset
      → past ≡ min (s.offset + s.memsz) (length file)
      → a ≡ patch xs done (start - done) (λ _. 0)
      → b ≡ patch a start (s.vaddr + s.filesz - start) (from from_file (mem file))
      → c ≡ patch b (s.vaddr + s.filesz) (s.vaddr + s.memsz - (s.vaddr + s.filesz)) (λ _. 0)
      → d ≡ patch c (s.vaddr + s.memsz) (there - (s.vaddr + s.memsz)) (from past (mem file))
      → e ≡ patch d last (page - last) (λ _. 0)
      → e ≡ write_runs file (runs_from (length file) done (s ∷ [])) xs
  write_segment {start} {there} {last} {page} {from_file} {past} {a} {b} {c} {d} {e} hs ht hl hp hf hq ha hb hc hd he =
      let a' : a ≡ after_1 = ha ∙ ap (λ (k : ℕ). patch xs done (k - done) (λ _. 0)) hs in
      let b' : b ≡ after_2 =
      hb
      ∙ (ap (λ (k : ℕ). patch a k (s.vaddr + s.filesz - k) (from from_file (mem file))) hs
      ∙ (ap (λ (k : ℕ). patch a (page_start s.vaddr) (s.vaddr + s.filesz - page_start s.vaddr) (from k (mem file))) hf
      ∙ ap (λ (ys : List ℕ). patch ys (page_start s.vaddr) (s.vaddr + s.filesz - page_start s.vaddr) (from (page_start s.offset) (mem file))) a')) in
      let c' : c ≡ after_3 = hc ∙ ap (λ (ys : List ℕ). patch ys (s.vaddr + s.filesz) (s.vaddr + s.memsz - (s.vaddr + s.filesz)) (λ _. 0)) b' in
      let d' : d ≡ after_4 =
      hd
      ∙ (ap (λ (k : ℕ). patch c (s.vaddr + s.memsz) (k - (s.vaddr + s.memsz)) (from past (mem file))) ht
      ∙ (patch_same c (s.vaddr + s.memsz) (file_end (length file) s - (s.vaddr + s.memsz)) (from past (mem file)) (from (s.offset + s.memsz) (mem file))
      (λ k h. ap (λ (q : ℕ). mem file (q + k)) (hq ∙ in_file (length file) s.offset s.vaddr s.memsz (page_end (s.vaddr + s.filesz) - s.vaddr) k h))
      ∙ ap (λ (ys : List ℕ). patch ys (s.vaddr + s.memsz) (file_end (length file) s - (s.vaddr + s.memsz)) (from (s.offset + s.memsz) (mem file))) c')) in
      let l' : last ≡ max (s.vaddr + s.memsz) (file_end (length file) s) = hl ∙ ap (max (s.vaddr + s.memsz)) ht in
      he
      ∙ (ap (λ (k : ℕ). patch d k (page - k) (λ _. 0)) l'
      ∙ (ap (λ (k : ℕ). patch d (max (s.vaddr + s.memsz) (file_end (length file) s)) (k - max (s.vaddr + s.memsz) (file_end (length file) s)) (λ _. 0)) hp
      ∙ (ap (λ (ys : List ℕ). patch ys (max (s.vaddr + s.memsz) (file_end (length file) s))
      (page_end (s.vaddr + s.memsz) - max (s.vaddr + s.memsz) (file_end (length file) s)) (λ _. 0)) d'
      ∙ sym write_alone)))

pub write_end : (file : List ℕ) (n done : ℕ) (ss : List Segment) (xs : List ℕ) → ss ≡ [] → write_runs file (runs_from n done ss) xs ≡ xs
unfolding runs_from write_runs
write_end file n done ss xs e = ap (λ (us : List Segment). write_runs file (runs_from n done us) xs) e
