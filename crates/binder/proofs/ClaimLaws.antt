-- The claims of an object's entries, which are the bytes that its copies may write: no byte is claimed twice, as the marks of a window tell.
-- Assumes nothing.
use Rattle.std.proofs.Common.{◌≡◌, ℕ, zero, suc, ◌+◌, ◌-◌, ◌*◌, ◌<◌, ◌≤◌, min, max, Bool, true, false, eqb, ltb, leb, ◌⊎◌, List, [], ◌∷◌, ◌++◌, length, get_or, take, set, replicate, sym, refl, ap, ◌∙◌, subst, inl, inr, true≢false, append_assoc, append-nil, arith, length-append, length-set, take_all, get_or-set_other, take-suc, get_or-set_same, get_or-append-add, ltb-true, le-ltb, lt-ltb, le-leb, leb-true, Option, None, Some}
use Rattle.std.specs.List.{list_any, range_with_len}
use Rattle.std.specs.Prelude.{◌||◌}
use Rattle.std.specs.Option.{IfSome}
use Rattle.std.proofs.lemmas.Option.{IfSome_then}
use native.Mathlib.Decide.{dec_lt, dec_le}
use borrow.Author.Tests.{lt-leb}
use lib.ListN.{length-replicate, get_or-replicate, get_or-append}
use Rattle.words.specs.Choice.{pick, both, either, some}
use Rattle.words.specs.Memory.{mem, inside}
use Rattle.words.specs.Memory as memory
use Rattle.words.specs.Words.{le_at}
use Rattle.words.specs.Words as words
use Rattle.words.proofs.Choice.{both_true, both_false}
use Rattle.object.specs.Entries.{rela_at, relas_from}
use Rattle.object.specs.Entries as entries
use Rattle.object.specs.Symbol as symbols
use Rattle.object.specs.declared.relocate.Rela.{Rela}
use Rattle.sheet.specs.Sheet.{Input, no_input}
use Rattle.binder.specs.Steps.Relocating.{image_in, turn_of, again_refusal, again_record}
use Rattle.binder.specs.Steps.Crossing.{entries_by, no_rela, tables_of, entries_at, again_of, Readable, claim_of, claims, ClaimedOnce, EachClaim, EndsIn, window, MarksTaken, claim_by, ClaimedIn, ClaimsApart, NoCopies, PlainlyApart}
use Rattle.binder.specs.declared.turn.Turn.{Turn}
use Rattle.binder.specs.declared.crossing.Claim.{Claim}
use Rattle.binder.specs.declared.crossing.Tables.{Tables}
use Rattle.binder.proofs.ApartLaws.{some_append}

-- ---- tests as facts

pub clash : {P : Type 0} → true ≡ false → P
clash e = absurd (true≢false e)

inside_is : (at n b : ℕ) → inside at n b ≡ true → (at ≤ b) × (b < at + n)
inside_is at n b e = let x = both_true (leb at b) (ltb b (at + n)) e in (leb-true at b x.0, ltb-true b (at + n) x.1)

pub is_inside : (at n b : ℕ) → at ≤ b → b < at + n → inside at n b ≡ true
is_inside at n b l h = rw (le-leb at b l, lt-ltb b (at + n) h)

-- a sum that is not made
pub fits_test : (end at n : ℕ) → n ≤ end → leb at (end - n) ≡ leb (at + n) end
fits_test end at n l = go (dec_le (at + n) end)
  where
    go : Dec (at + n ≤ end) → leb at (end - n) ≡ leb (at + n) end
    go (yes h) = let k : at ≤ end - n = omega arith in rw (le-leb (at + n) end h, le-leb at (end - n) k)
    go (no h) = let k : end - n < at = omega arith in rw (lt-leb (at + n) end (omega arith), lt-leb at (end - n) k)

either_none : (s : Bool) → either s false ≡ s
either_none true = refl
either_none false = refl

some_end : {A : Type 0} (p : A → Bool) (xs : List A) (y : A) → some p (xs ++ (y ∷ [])) ≡ either (some p xs) (p y)
unfolding some
some_end p xs y = some_append p xs (y ∷ []) ∙ ap (either (some p xs)) (either_none (p y))

-- ---- marks

-- the marks `low` to `i` were 0 and became 1
pub record Taking (marks₀ marks : List ℕ) (low high i : ℕ) : Type 0 where
  pub long : length marks ≡ length marks₀
  pub begun : low ≤ i
  pub below : i ≤ max low high
  pub were : (x : ℕ) → low ≤ x → x < i → get_or marks₀ x 0 ≡ 0
  pub are : (x : ℕ) → get_or marks x 0 ≡ pick (both (leb low x) (ltb x i)) 1 (get_or marks₀ x 0)

pub taking_begins : (marks : List ℕ) (low high : ℕ) → Taking marks marks low high low
taking_begins marks low high =
    record { long = refl; begun = omega arith; below = omega arith; were = λ x l h. absurd (omega arith); are = λ x. go x (dec_lt x low) }
  where
    go : (x : ℕ) → Dec (x < low) → get_or marks x 0 ≡ pick (both (leb low x) (ltb x low)) 1 (get_or marks x 0)
    go x (yes l) = rw (lt-leb low x l)
    go x (no l) = rw (le-leb low x (omega arith), le-ltb x low (omega arith))

pub taking_goes :
    (marks₀ marks : List ℕ) (low high i : ℕ) → Taking marks₀ marks low high i → i < high → high ≤ length marks₀ → get_or marks i 0 ≡ 0
    → Taking marks₀ (set marks i 1) low high (i + 1)
taking_goes marks₀ marks low high i so l room z =
    record {
      long = length-set marks i 1 ∙ so.long;
      begun = omega (arith, so.begun);
      below = omega arith;
      were = λ x a b. were x a b (dec_lt x i);
      are = λ x. are x (dec_lt x i) (dec_lt i x);
    }
  where
    free : get_or marks₀ i 0 ≡ 0
    free = sym (so.are i ∙ rw (le-leb low i so.begun, le-ltb i i (omega arith))) ∙ z

    were : (x : ℕ) → low ≤ x → x < i + 1 → Dec (x < i) → get_or marks₀ x 0 ≡ 0
    were x a b (yes y) = so.were x a y
    were x a b (no y) = let e : i ≡ x = omega arith in subst (λ (j : ℕ). get_or marks₀ j 0 ≡ 0) e free

    are : (x : ℕ) → Dec (x < i) → Dec (i < x) → get_or (set marks i 1) x 0 ≡ pick (both (leb low x) (ltb x (i + 1))) 1 (get_or marks₀ x 0)
    are x (yes y) w =
        get_or-set_other marks i x 1 0 (λ q. omega arith) ∙ (so.are x ∙ rw (lt-ltb x i y, lt-ltb x (i + 1) (omega arith)))
    are x (no y) (yes w) =
        get_or-set_other marks i x 1 0 (λ q. omega arith) ∙ (so.are x ∙ rw (le-ltb x i (omega arith), le-ltb x (i + 1) (omega arith)))
    are x (no y) (no w) =
        let e : x ≡ i = omega arith in
        rw (e, get_or-set_same marks i 1 0 (omega (arith, so.long)), le-leb low i so.begun, lt-ltb i (i + 1) (omega arith))

pub taking_ends :
    (marks₀ marks : List ℕ) (low high i : ℕ) → Taking marks₀ marks low high i → high ≤ i → MarksTaken marks₀ marks low high
taking_ends marks₀ marks low high i so l =
    record {
      were = λ x a b. so.were x a (omega arith);
      are = λ x. so.are x ∙ ap (λ (t : Bool). pick t 1 (get_or marks₀ x 0)) (same x (dec_lt x low) (dec_lt x high));
    }
  where
    same : (x : ℕ) → Dec (x < low) → Dec (x < high) → both (leb low x) (ltb x i) ≡ both (leb low x) (ltb x high)
    same x (yes y) w = rw (lt-leb low x y)
    same x (no y) (yes w) = rw (lt-ltb x i (omega arith), lt-ltb x high w)
    same x (no y) (no w) = rw (le-ltb x i (omega (arith, so.below)), le-ltb x high (omega arith))

-- ---- a range in the window

module _ (w at n : ℕ) {low high : ℕ} (a : low ≡ min (at - w) window) (b : high ≡ min (at + n - w) window) (x : ℕ) where
  to_window : x < window → inside at n (w + x) ≡ true → (low ≤ x) × (x < high)
  to_window l e = let i = inside_is at n (w + x) e in (omega arith, omega arith)

  is_in : x < window → both (leb low x) (ltb x high) ≡ inside at n (w + x)
  is_in l = go (dec_lt x low) (dec_lt x high)
    where
      go : Dec (x < low) → Dec (x < high) → both (leb low x) (ltb x high) ≡ inside at n (w + x)
      go (yes y) z = let k : w + x < at = omega arith in rw (lt-leb low x y, lt-leb at (w + x) k)
      go (no y) (yes z) =
          let p : at ≤ w + x = omega arith in
          let q : w + x < at + n = omega arith in
          rw (le-leb low x (omega arith), lt-ltb x high z, le-leb at (w + x) p, lt-ltb (w + x) (at + n) q)
      go (no y) (no z) =
          let k : at + n ≤ w + x = omega arith in
          rw (le-leb low x (omega arith), le-ltb x high (omega arith)) (sym (both_false (leb at (w + x)) (ltb (w + x) (at + n)) (le-ltb (w + x) (at + n) k)))

-- ---- claims, one after another

module _ (f : Rela → Option Claim) where
  each_append : (P : Claim → Type 0) (xs ys : List Rela) → EachClaim f P xs → EachClaim f P ys → EachClaim f P (xs ++ ys)
  unfolding EachClaim
  each_append P [] ys p q = q
  each_append P (x ∷ xs) ys p q = (p.0, each_append P xs ys p.1 q)

  pub each_end : (P : Claim → Type 0) (xs : List Rela) (e : Rela) → EachClaim f P xs → IfSome (f e) P → EachClaim f P (xs ++ (e ∷ []))
  unfolding EachClaim
  each_end P xs e p q = each_append P xs (e ∷ []) p (q, Prim.tt {0})

  each_weaker : (P Q : Claim → Type 0) → ((c : Claim) → P c → Q c) → (xs : List Rela) → EachClaim f P xs → EachClaim f Q xs
  unfolding EachClaim
  each_weaker P Q g [] p = Prim.tt {0}
  each_weaker P Q g (x ∷ xs) p = (IfSome_then (f x) p.0 g, each_weaker P Q g xs p.1)

  each_of : (P : Claim → Type 0) → ((e : Rela) → IfSome (f e) P) → (xs : List Rela) → EachClaim f P xs
  unfolding EachClaim
  each_of P g [] = Prim.tt {0}
  each_of P g (x ∷ xs) = (g x, each_of P g xs)

  module _ (low high : ℕ) where
    once_append :
        (earlier xs ys : List Rela) → ClaimedOnce f low high earlier xs → ClaimedOnce f low high (earlier ++ xs) ys
        → ClaimedOnce f low high earlier (xs ++ ys)
    unfolding ClaimedOnce
    once_append earlier [] ys p q = subst (λ (l : List Rela). ClaimedOnce f low high l ys) (append-nil earlier) q
    once_append earlier (x ∷ xs) ys p q = (
      p.0,
      once_append (earlier ++ (x ∷ [])) xs ys p.1
          (subst (λ (l : List Rela). ClaimedOnce f low high l ys) (sym (append_assoc earlier (x ∷ []) xs)) q),
    )

    once_end :
        (xs : List Rela) (e : Rela) → ClaimedOnce f low high [] xs
        → ((b : ℕ) → low ≤ b → b < high → claims (f e) b ≡ true → some (λ d. claims (f d) b) xs ≡ false)
        → ClaimedOnce f low high [] (xs ++ (e ∷ []))
    unfolding ClaimedOnce
    once_end xs e p q = once_append [] xs (e ∷ []) p (q, Prim.tt {0})

  once_none : (earlier xs : List Rela) → ClaimedOnce f 0 0 earlier xs
  unfolding ClaimedOnce
  once_none earlier [] = Prim.tt {0}
  once_none earlier (e ∷ es) = ((λ b l h i. absurd (omega arith)), once_none (earlier ++ (e ∷ [])) es)

  once_within : (high high' : ℕ) (earlier xs : List Rela) → high' ≤ high → ClaimedOnce f 0 high earlier xs → ClaimedOnce f 0 high' earlier xs
  unfolding ClaimedOnce
  once_within high high' earlier [] l p = Prim.tt {0}
  once_within high high' earlier (e ∷ es) l p =
      ((λ b a h. p.0 b a (omega arith)), once_within high high' (earlier ++ (e ∷ [])) es l p.1)

  -- the claim has no byte behind the window below `next`
  abbrev Behind : ℕ → ℕ → Claim → Type 0
  Behind w next c = (b : ℕ) → inside c.place c.size b ≡ true → w + window ≤ b → next ≤ b

  behind_of : (w next : ℕ) (o : Option Claim) → IfSome o (Behind w next) → (b : ℕ) → claims o b ≡ true → w + window ≤ b → next ≤ b
  behind_of w next None p b i l = clash (sym i)
  behind_of w next (Some c) p b i l = p b i l

  -- once below `w`, in the window, and up to the next claim
  once_next :
      (w next : ℕ) (earlier xs : List Rela) → EachClaim f (Behind w next) xs → ClaimedOnce f 0 w earlier xs
      → ClaimedOnce f w (w + window) earlier xs → ClaimedOnce f 0 next earlier xs
  unfolding ClaimedOnce EachClaim
  once_next w next earlier [] p q r = Prim.tt {0}
  once_next w next earlier (e ∷ es) p q r =
      ((λ b l h i. at b h i (dec_lt b w) (dec_lt b (w + window))), once_next w next (earlier ++ (e ∷ [])) es p.1 q.1 r.1)
    where
      at : (b : ℕ) → b < next → claims (f e) b ≡ true → Dec (b < w) → Dec (b < w + window) → some (λ d. claims (f d) b) earlier ≡ false
      at b h i (yes x) y = q.0 b (omega arith) x i
      at b h i (no x) (yes y) = r.0 b (omega arith) y i
      at b h i (no x) (no y) = absurd (let z = behind_of w next (f e) p.0 b i (omega arith) in omega arith)

  -- ---- a walk over the entries, in the window from `w` on

  module _ (end w : ℕ) where
    pub record Claiming (ys : List Rela) (marks : List ℕ) (next : ℕ) : Type 0 where
      pub long : length marks ≡ window
      pub once : ClaimedOnce f w (w + window) [] ys
      pub ends : EachClaim f (EndsIn end) ys
      pub behind : EachClaim f (Behind w next) ys
      pub ahead : w < next
      pub marked : (x : ℕ) → x < window → get_or marks x 0 ≡ pick (some (λ d. claims (f d) (w + x)) ys) 1 0

    claiming_begins : (marks : List ℕ) → marks ≡ replicate window 0 → w < end → Claiming [] marks end
    unfolding ClaimedOnce EachClaim some
    claiming_begins marks z l =
        record {
          long = ap length z ∙ length-replicate {A = ℕ} window 0;
          once = Prim.tt {0};
          ends = Prim.tt {0};
          behind = Prim.tt {0};
          ahead = l;
          marked = λ x h. ap (λ (m : List ℕ). get_or m x 0) z ∙ get_or-replicate {A = ℕ} window x 0 0 h;
        }

    module _ (ys : List Rela) (marks : List ℕ) (next : ℕ) (so : Claiming ys marks next) (e : Rela) where
      claiming_none : f e ≡ None → Claiming (ys ++ (e ∷ [])) marks next
      claiming_none z =
          record {
            long = so.long;
            once = once_end w (w + window) ys e so.once (λ b l h i. clash (sym i ∙ no b));
            ends = each_end (EndsIn end) ys e so.ends (rw z (Prim.tt {0}));
            behind = each_end (Behind w next) ys e so.behind (rw z (Prim.tt {0}));
            ahead = so.ahead;
            marked = λ x l. so.marked x l ∙ ap (λ (t : Bool). pick t 1 0) (sym (same (w + x)));
          }
        where
          no : (b : ℕ) → claims (f e) b ≡ false
          no b = ap (λ (o : Option Claim). claims o b) z

          same : (b : ℕ) → some (λ d. claims (f d) b) (ys ++ (e ∷ [])) ≡ some (λ d. claims (f d) b) ys
          same b =
              some_end (λ d. claims (f d) b) ys e
              ∙ (ap (either (some (λ d. claims (f d) b) ys)) (no b) ∙ either_none (some (λ d. claims (f d) b) ys))

      module _ {c : Claim} (claim : f e ≡ Some c) {low high : ℕ} (hl : low ≡ min (c.place - w) window) (hh : high ≡ min (c.place + c.size - w) window) (marks' : List ℕ)
          (taken : MarksTaken marks marks' low high) where
        named : (b : ℕ) → claims (f e) b ≡ inside c.place c.size b
        named b = ap (λ (o : Option Claim). claims o b) claim

        once_here : (b : ℕ) → w ≤ b → b < w + window → claims (f e) b ≡ true → some (λ d. claims (f d) b) ys ≡ false
        once_here b lo hi i =
            let z : w + (b - w) ≡ b = omega arith in
            let j = to_window w c.place c.size hl hh (b - w) (omega arith) (ap (inside c.place c.size) z ∙ (sym (named b) ∙ i)) in
            let m : get_or marks (b - w) 0 ≡ pick (some (λ d. claims (f d) b) ys) 1 0 =
            so.marked (b - w) (omega arith) ∙ ap (λ (n : ℕ). pick (some (λ d. claims (f d) n) ys) 1 0) z in
            zero_mark (some (λ d. claims (f d) b) ys) (sym m ∙ taken.were (b - w) j.0 j.1)
          where
            zero_mark : (s : Bool) → ◌≡◌ {A = ℕ} (pick s 1 0) 0 → s ≡ false
            zero_mark true h = absurd (omega arith)
            zero_mark false h = refl

        marked_here : (x : ℕ) → x < window → get_or marks' x 0 ≡ pick (some (λ d. claims (f d) (w + x)) (ys ++ (e ∷ []))) 1 0
        marked_here x l =
            taken.are x
            ∙ (ap (λ (t : Bool). pick t 1 (get_or marks x 0)) (is_in w c.place c.size hl hh x l ∙ sym (named (w + x)))
            ∙ (ap (pick (claims (f e) (w + x)) 1) (so.marked x l)
            ∙ (joined (some (λ d. claims (f d) (w + x)) ys) (claims (f e) (w + x))
            ∙ ap (λ (t : Bool). pick t 1 0) (sym (some_end (λ d. claims (f d) (w + x)) ys e)))))
          where
            joined : (s t : Bool) → ◌≡◌ {A = ℕ} (pick t 1 (pick s 1 0)) (pick (either s t) 1 0)
            joined true true = refl
            joined true false = refl
            joined false true = refl
            joined false false = refl

        claiming_one :
            (next' : ℕ) → c.place + c.size ≤ end → length marks' ≡ length marks
            → next' ≡ pick (leb (c.place + c.size - w) window) next (min next (max c.place (w + window)))
            → Claiming (ys ++ (e ∷ [])) marks' next'
        claiming_one next' fits same is =
            record {
              long = same ∙ so.long;
              once = once_end w (w + window) ys e so.once once_here;
              ends = each_end (EndsIn end) ys e so.ends (rw claim fits);
              behind =
                  each_end (Behind w next') ys e
                  (each_weaker (Behind w next) (Behind w next') (λ c g b i l. let z = g b i l in omega (arith, less)) ys so.behind) (rw claim after);
              ahead = more;
              marked = marked_here;
            }
          where
            less : next' ≤ next
            less = subst (λ (n : ℕ). n ≤ next) (sym is) (go (leb (c.place + c.size - w) window))
              where
                go : (t : Bool) → pick t next (min next (max c.place (w + window))) ≤ next
                go true = omega arith
                go false = omega arith

            more : w < next'
            more = subst (λ (n : ℕ). w < n) (sym is) (go (leb (c.place + c.size - w) window))
              where
                go : (t : Bool) → w < pick t next (min next (max c.place (w + window)))
                go true = so.ahead
                go false = omega (arith, so.ahead)

            after : Behind w next' c
            after b i l = subst (λ (n : ℕ). n ≤ b) (sym is) (go (leb (c.place + c.size - w) window) refl)
              where
                go : (t : Bool) → leb (c.place + c.size - w) window ≡ t → pick t next (min next (max c.place (w + window))) ≤ b
                go true h =
                    let x = inside_is c.place c.size b i in
                    let y = leb-true (c.place + c.size - w) window h in
                    absurd (omega arith)
                go false h = let x = inside_is c.place c.size b i in omega arith

-- ---- the entries of the tables

pub relas_length : (image : List ℕ) (at i c : ℕ) → length (relas_from image at i c) ≡ c
unfolding entries.relas_from
relas_length image at i zero = refl
relas_length image at i (suc c) = ap suc (relas_length image at (i + 1) c)

pub rela_at_lem : (image : List ℕ) (at i c j : ℕ) (d : Rela) → j < c → get_or (relas_from image at i c) j d ≡ rela_at image at (i + j)
unfolding entries.relas_from
rela_at_lem image at i zero j d h = absurd (omega arith)
rela_at_lem image at i (suc c) zero d h = ap (rela_at image at) (omega arith)
rela_at_lem image at i (suc c) (suc j) d h = rela_at_lem image at (i + 1) c j d (omega arith) ∙ ap (rela_at image at) (omega arith)

module _ (image : List ℕ) (r : Tables) where
  abbrev relas : List Rela
  relas = relas_from image r.rela 0 r.relas

  abbrev plts : List Rela
  plts = relas_from image r.plt 0 r.plts

  pub entries_long : length (entries_by image r) ≡ r.relas + r.plts
  unfolding entries_by
  entries_long =
      length-append relas plts
      ∙ (let x = relas_length image r.rela 0 r.relas in let y = relas_length image r.plt 0 r.plts in omega arith)

  pub entry_first : (i : ℕ) → i < r.relas → rela_at image r.rela i ≡ get_or (entries_by image r) i no_rela
  unfolding entries_by
  entry_first i l =
      let z : 0 + i ≡ i = omega arith in
      sym
      (get_or-append relas plts no_rela i (omega (arith, relas_length image r.rela 0 r.relas))
      ∙ (rela_at_lem image r.rela 0 r.relas i no_rela l ∙ ap (rela_at image r.rela) z))

  pub entry_second :
      (i : ℕ) → r.relas ≤ i → i < r.relas + r.plts → rela_at image r.plt (i - r.relas) ≡ get_or (entries_by image r) i no_rela
  unfolding entries_by
  entry_second i h l =
      let j : ℕ = i - r.relas in
      let a : i ≡ length relas + j = omega (arith, relas_length image r.rela 0 r.relas) in
      let z : 0 + j ≡ j = omega arith in
      sym
      (ap (λ (n : ℕ). get_or (relas ++ plts) n no_rela) a
      ∙ (get_or-append-add relas plts j no_rela ∙ (rela_at_lem image r.plt 0 r.plts j no_rela (omega arith) ∙ ap (rela_at image r.plt) z)))

  -- ---- a walk over them

  abbrev es : List Rela
  es = entries_by image r

  -- the first `i` entries were walked over
  abbrev pub ClaimsWalked : ℕ → ℕ → List ℕ → ℕ → Type 0
  ClaimsWalked w i marks next = (i ≤ r.relas + r.plts) × Claiming (claim_by image r) (length image) w (take i es) marks next

  pub walk_begins : (w : ℕ) (marks : List ℕ) → marks ≡ replicate window 0 → w < length image → ClaimsWalked w 0 marks (length image)
  walk_begins w marks z l = (omega arith, claiming_begins (claim_by image r) (length image) w marks z l)

  module _ (w i : ℕ) (marks : List ℕ) (next : ℕ) (so : ClaimsWalked w i marks next) (l : i < r.relas + r.plts) {c : Option Claim}
      (is : c ≡ claim_of image r.symbols (get_or (entries_by image r) i no_rela)) where
    one_more : take (i + 1) es ≡ take i es ++ (get_or es i no_rela ∷ [])
    one_more =
        let z : i + 1 ≡ suc i = omega arith in
        ap (λ (n : ℕ). take n es) z ∙ take-suc es i no_rela (omega (arith, entries_long))

    pub walk_passes : c ≡ None → ClaimsWalked w (i + 1) marks next
    walk_passes z = (
      omega arith,
      subst (λ (l : List Rela). Claiming (claim_by image r) (length image) w l marks next) (sym one_more)
          (claiming_none (claim_by image r) (length image) w (take i es) marks next so.1 (get_or es i no_rela) (sym is ∙ z)),
    )

    pub walk_goes :
        {q : Claim} → c ≡ Some q → (marks' : List ℕ) (next' : ℕ) {low high : ℕ} → low ≡ min (q.place - w) window
        → high ≡ min (q.place + q.size - w) window → q.place + q.size ≤ length image → length marks' ≡ length marks
        → MarksTaken marks marks' low high → next' ≡ pick (leb (q.place + q.size - w) window) next (min next (max q.place (w + window)))
        → ClaimsWalked w (i + 1) marks' next'
    walk_goes {q} some marks' next' {low} {high} hl hh fits same taken e = (
      omega arith,
      subst (λ (l : List Rela). Claiming (claim_by image r) (length image) w l marks' next') (sym one_more)
          (claiming_one (claim_by image r) (length image) w (take i es) marks next so.1 (get_or es i no_rela) (sym is ∙ some) hl hh marks' taken next' fits same e),
    )

  pub walk_ends : (w i : ℕ) (marks : List ℕ) (next : ℕ) → ClaimsWalked w i marks next → r.relas + r.plts ≤ i → ClaimedIn image r w next
  walk_ends w i marks next so l =
      let whole : take i es ≡ es = take_all i es (omega (arith, entries_long)) in
      let c = subst (λ (l : List Rela). Claiming (claim_by image r) (length image) w l marks next) whole so.1 in
      record { once = c.once; ends = c.ends; behind = c.behind; ahead = c.ahead }

  -- ---- window by window

  -- no byte below `w` is claimed twice
  pub record OnceBelow (w : ℕ) : Type 0 where
    pub once : ClaimedOnce (claim_by image r) 0 w [] (entries_by image r)
    pub ends : 0 < w → EachClaim (claim_by image r) (EndsIn (length image)) (entries_by image r)

  pub windows_begin : OnceBelow 0
  windows_begin = record { once = once_none (claim_by image r) [] es; ends = λ l. absurd (omega arith) }

  pub windows_go : (w next : ℕ) → OnceBelow w → ClaimedIn image r w next → OnceBelow next
  windows_go w next so c = record { once = once_next (claim_by image r) w next [] es c.behind so.once c.once; ends = λ l. c.ends }

  -- nothing is claimed in an image without bytes
  no_number : (bytes : List ℕ) → length bytes ≡ 0 → (n at : ℕ) → le_at n (mem bytes) at ≡ 0
  unfolding words.le_at memory.mem
  no_number [] e zero at = refl
  no_number [] e (suc n) at = rw (no_number [] e n at) (omega arith)
  no_number (b ∷ bs) e n at = absurd (omega arith)

  none_claimed : length image ≡ 0 → (e : Rela) → IfSome (claim_of image r.symbols e) (EndsIn (length image))
  unfolding claim_of symbols.symbol_from
  none_claimed z e = go (eqb e.rtype 5)
    where
      size : ℕ
      size = le_at 8 (mem image) (r.symbols + 24 * e.symbol + 16)

      none : size ≡ 0
      none = no_number image z 8 (r.symbols + 24 * e.symbol + 16)

      go : (t : Bool) → IfSome (pick t (pick (eqb size 0) None (Some (record { place = e.place; size = size }))) None) (EndsIn (length image))
      go true = rw none (Prim.tt {0})
      go false = Prim.tt {0}

  pub windows_end : (w : ℕ) → OnceBelow w → length image ≤ w → ClaimsApart image r
  windows_end w so l = record { once = once_within (claim_by image r) w (length image) [] es l so.once; ends = go (dec_lt 0 w) }
    where
      go : Dec (0 < w) → EachClaim (claim_by image r) (EndsIn (length image)) es
      go (yes p) = so.ends p
      go (no p) = each_of (claim_by image r) (EndsIn (length image)) (none_claimed (omega arith)) es

-- ---- tables without COPY entries

pub no_copies_any :
    (image : List ℕ) (at i n : ℕ) → list_any (λ j. eqb (rela_at image at j).rtype 5) (range_with_len i n) ≡ false → NoCopies (relas_from image at i n)
unfolding entries.relas_from NoCopies
no_copies_any image at i zero e = Prim.tt {0}
no_copies_any image at i (suc n) e = go (eqb (rela_at image at i).rtype 5) refl e (no_copies_any image at (i + 1) n)
  where
    go :
        (t : Bool) → eqb (rela_at image at i).rtype 5 ≡ t → {r : Bool} → (t || r) ≡ false
        → (r ≡ false → NoCopies (relas_from image at (i + 1) n)) → ((eqb (rela_at image at i).rtype 5) ≡ false) × NoCopies (relas_from image at (i + 1) n)
    go true z e f = clash e
    go false z e f = (z, f e)

pub no_copies_both :
    (image : List ℕ) (r : Tables) → NoCopies (relas_from image r.rela 0 r.relas) → NoCopies (relas_from image r.plt 0 r.plts)
    → NoCopies (entries_by image r)
unfolding entries_by NoCopies
no_copies_both image r = go (relas_from image r.rela 0 r.relas) (relas_from image r.plt 0 r.plts)
  where
    go : (xs ys : List Rela) → NoCopies xs → NoCopies ys → NoCopies (xs ++ ys)
    go [] ys a b = b
    go (x ∷ xs) ys a b = (a.0, go xs ys a.1 b)

-- ---- an order, object by object

module _ (table : List ℕ) (os : List Input) (a ks : List ℕ) where
  -- the first `i` objects have no COPY entries
  abbrev pub NoneBefore : ℕ → Type 0
  NoneBefore i = Readable table os a ks → (j : ℕ) → j < i → j < length ks → NoCopies (entries_at table os a (get_or ks j 0))

  pub none_ends : (i : ℕ) → length ks ≤ i → NoneBefore i → Readable table os a ks → PlainlyApart table os a ks
  none_ends i l so readable j h = inl (so readable j (omega arith) h)

  module _ (i : ℕ) (l : i < length ks) {t : Turn} (is : t ≡ turn_of table (get_or ks i 0)) {file : List ℕ}
      (f : file ≡ (get_or os (get_or ks i 0) no_input).file) {image : List ℕ} (im : image ≡ image_in a t) {r : Tables}
      (tables : again_refusal (image_in a t) file ≡ 0 → r ≡ tables_of (again_record (image_in a t) file)) (so : NoneBefore i) where
    image_is : image ≡ image_in a (turn_of table (get_or ks i 0))
    image_is = im ∙ ap (image_in a) is

    tables_are : Readable table os a ks → r ≡ tables_of (again_of table os a (get_or ks i 0))
    tables_are readable =
        tables (rw (is, f) (readable i l)) ∙ rw (is, f)

    pub none_goes : NoCopies (entries_by image r) → NoneBefore (i + 1)
    none_goes none readable j h k = go (dec_lt j i)
      where
        now : NoCopies (entries_at table os a (get_or ks i 0))
        now = rw (image_is, tables_are readable) at none

        go : Dec (j < i) → NoCopies (entries_at table os a (get_or ks j 0))
        go (yes y) = so readable j y k
        go (no y) = let z : j ≡ i = omega arith in rw z now

    pub last_apart : length ks ≤ i + 1 → get_or ks i 0 ≡ 1 → ClaimsApart image r → Readable table os a ks → PlainlyApart table os a ks
    last_apart last one apart readable j h = go (dec_lt j i)
      where
        go :
            Dec (j < i)
            → NoCopies (entries_at table os a (get_or ks j 0))
            ⊎ ((j + 1 ≡ length ks) × (get_or ks j 0 ≡ 1) × ClaimsApart (image_in a (turn_of table 1)) (tables_of (again_of table os a 1)))
        go (yes y) = inl (so readable j y h)
        go (no y) =
            let z : j ≡ i = omega arith in
            inr (omega arith, rw z one, rw one at (rw (image_is, tables_are readable) at apart))
