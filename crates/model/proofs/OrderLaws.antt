-- The laws of the order. Assumes nothing.
use Prim.Native.Nat.{ℕ, zero, suc, ◌+◌, ◌≤◌, ◌<◌}
use mathlib.Core.Path.{◌≡◌, refl, sym, ap, subst, ◌∙◌}
use mathlib.Core.Bool.{Bool, true, false, not, true≢false}
use mathlib.Core.Logic.{◌⊎◌, inl, inr, ⊎_elim}
use mathlib.Core.List.{List, [], ◌∷◌, ◌++◌}
use native.Mathlib.Omega.{arith}
use lib.Dec.{leb, ltb, eqb}
use lib.ListN.{length, get_or, length-append}
use borrow.Author.Tests.{eq-eqb, eqb-true, eqb-false, leb-true, ltb-true, le-leb, lt-ltb, not-true}
use Rattle.words.specs.Choice.{both, either}
use Rattle.words.proofs.Choice.{both_true, either_true, either_left, either_right}
use Rattle.model.specs.Order.{has, listed, fresh, first_first, last_first, up_from, visit, order_of, Distinct, Before, Reach, times, OnceEach}
use Rattle.model.specs.Order.Distinct.{none, one_more}
use Rattle.model.specs.Order.Before.{first, later}
use Rattle.model.specs.Order.Reach.{here, further}

-- ---- document 01's cases, by computation: the needs of object k stand in row k

abbrev table : List (List ℕ) → ℕ → List ℕ
table rows k = get_or rows k []

-- "Libraries 2 needs 3 then 4: order 4, 3, 2, 1."
pub case_needs : order_of (table ([] ∷ [] ∷ (3 ∷ 4 ∷ []) ∷ [])) 3 ≡ 4 ∷ 3 ∷ 2 ∷ 1 ∷ []
unfolding order_of visit
case_needs = refl

-- "2 and 3 need each other: 3, 2, 1."
pub case_cycle : order_of (table ([] ∷ [] ∷ (3 ∷ []) ∷ (2 ∷ []) ∷ [])) 2 ≡ 3 ∷ 2 ∷ 1 ∷ []
unfolding order_of visit
case_cycle = refl

-- the same with a library 4 beside them, so that the visit could go deeper than the cycle is long
pub case_cycle_beside : order_of (table ([] ∷ [] ∷ (3 ∷ []) ∷ (2 ∷ []) ∷ [])) 3 ≡ 3 ∷ 2 ∷ 4 ∷ 1 ∷ []
unfolding order_of visit
case_cycle_beside = refl

-- "No libraries: 1."
pub case_none : (needs : ℕ → List ℕ) → order_of needs 0 ≡ 1 ∷ []
unfolding order_of
case_none needs = refl

-- a need named twice goes by its last place: 2 needs 3, 4, 3: order 3, 4, 2, 1
pub case_twice : order_of (table ([] ∷ [] ∷ (3 ∷ 4 ∷ 3 ∷ []) ∷ [])) 3 ≡ 3 ∷ 4 ∷ 2 ∷ 1 ∷ []
unfolding order_of visit
case_twice = refl

-- ---- tests

pub decide : (b : Bool) → (b ≡ true) ⊎ (b ≡ false)
decide true = inl refl
decide false = inr refl

pub clash : {b : Bool} → b ≡ true → b ≡ false → ⊥
clash p q = true≢false (sym p ∙ q)

is_false : (b : Bool) → (b ≡ true → ⊥) → b ≡ false
is_false true h = absurd (h refl)
is_false false h = refl

neither : (a b : Bool) → a ≡ false → b ≡ false → either a b ≡ false
neither a b e f = rw (e, f)

not_right : (a b : Bool) → either a b ≡ false → b ≡ false
not_right true b e = absurd (true≢false e)
not_right false b e = e

pub either_assoc : (a b c : Bool) → either a (either b c) ≡ either (either a b) c
either_assoc true b c = refl
either_assoc false b c = refl

-- ---- a list's members

pub has_head : (k : ℕ) (xs : List ℕ) → has k (k ∷ xs) ≡ true
has_head k xs = either_left (eqb k k) (has k xs) (eq-eqb k k refl)

pub has_cases : (k x : ℕ) (xs : List ℕ) → has k (x ∷ xs) ≡ true → (k ≡ x) ⊎ (has k xs ≡ true)
has_cases k x xs h = ⊎_elim (λ e. inl (eqb-true k x e)) (λ m. inr m) (either_true (eqb k x) (has k xs) h)

pub has_cons : (k x : ℕ) (xs : List ℕ) → has k xs ≡ true → has k (x ∷ xs) ≡ true
has_cons k x xs h = either_right (eqb k x) (has k xs) h

has_left : (k : ℕ) (xs ys : List ℕ) → has k xs ≡ true → has k (xs ++ ys) ≡ true
has_left k [] ys h = absurd (true≢false (sym h))
has_left k (x ∷ xs) ys h = ⊎_elim (λ e. either_left (eqb k x) (has k (xs ++ ys)) e) (λ m. has_cons k x (xs ++ ys) (has_left k xs ys m)) (either_true (eqb k x) (has k xs) h)

has_right : (k : ℕ) (xs ys : List ℕ) → has k ys ≡ true → has k (xs ++ ys) ≡ true
has_right k [] ys h = h
has_right k (x ∷ xs) ys h = has_cons k x (xs ++ ys) (has_right k xs ys h)

has_append : (k : ℕ) (xs ys : List ℕ) → has k (xs ++ ys) ≡ true → (has k xs ≡ true) ⊎ (has k ys ≡ true)
has_append k [] ys h = inr h
has_append k (x ∷ xs) ys h = ⊎_elim (λ e. inl (either_left (eqb k x) (has k xs) e)) (λ m. ⊎_elim (λ l. inl (has_cons k x xs l)) (λ r. inr r) (has_append k xs ys m)) (either_true (eqb k x) (has k (xs ++ ys)) h)

pub has_one : (k x : ℕ) → has k (x ∷ []) ≡ true → k ≡ x
has_one k x h = ⊎_elim (λ e. e) (λ m. absurd (true≢false (sym m))) (has_cases k x [] h)

-- `Distinct` and `Before` of a list with one more at the end
distinct_snoc : (k : ℕ) {xs : List ℕ} → Distinct xs → has k xs ≡ false → Distinct (xs ++ (k ∷ []))
distinct_snoc k none h = one_more refl none
distinct_snoc k (one_more {x} {xs} m d) h =
    one_more (is_false (has x (xs ++ (k ∷ []))) (λ t. ⊎_elim (λ l. clash l m) (λ r. clash (subst (λ (j : ℕ). has j (x ∷ xs) ≡ true) (has_one x k r) (has_head x xs)) h) (has_append x xs (k ∷ []) t)))
    (distinct_snoc k d (not_right (eqb k x) (has k xs) h))

distinct_tail : {x : ℕ} {xs : List ℕ} → Distinct (x ∷ xs) → Distinct xs
distinct_tail (one_more m d) = d

before_snoc : (b a : ℕ) (xs : List ℕ) → has b xs ≡ true → Before b a (xs ++ (a ∷ []))
before_snoc b a [] h = absurd (true≢false (sym h))
before_snoc b a (x ∷ xs) h = ⊎_elim (λ e. first e (has_right a xs (a ∷ []) (has_head a []))) (λ m. later (before_snoc b a xs m)) (has_cases b x xs h)

before_left : {b a : ℕ} {xs : List ℕ} (ys : List ℕ) → Before b a xs → Before b a (xs ++ ys)
before_left {b} {a} ys (first {x} {xs} e m) = first e (has_left a xs ys m)
before_left ys (later h) = later (before_left ys h)

-- so many different numbers have room from 2 up to n + 2
record Gone (k : ℕ) (xs : List ℕ) : Type 0 where
  rest : List ℕ
  shorter : length xs ≡ suc (length rest)
  distinct : Distinct rest
  inside : (j : ℕ) → has j rest ≡ true → has j xs ≡ true
  gone : has k rest ≡ false
  stays : (j : ℕ) → has j xs ≡ true → (j ≡ k → ⊥) → has j rest ≡ true

gone : (k : ℕ) {xs : List ℕ} → Distinct xs → has k xs ≡ true → Gone k xs
gone k none h = absurd (true≢false (sym h))
gone k (one_more {x} {xs} m d) h =
    ⊎_elim
    (λ (e : k ≡ x). record { rest = xs; shorter = refl; distinct = d; inside = λ j t. has_cons j x xs t; gone = rw e m; stays = λ j u ne. ⊎_elim (λ (q : j ≡ x). absurd (ne (q ∙ sym e))) (λ v. v) (has_cases j x xs u) })
    (λ (t : has k xs ≡ true). let g = gone k d t in
    record {
      rest = x ∷ g.rest;
      shorter = ap suc g.shorter;
      distinct = one_more (is_false (has x g.rest) (λ u. clash (g.inside x u) m)) g.distinct;
      inside = λ j u. ⊎_elim (λ e. either_left (eqb j x) (has j xs) (eq-eqb j x e)) (λ v. has_cons j x xs (g.inside j v)) (has_cases j x g.rest u);
      gone = neither (eqb k x) (has k g.rest) (is_false (eqb k x) (λ u. clash t (rw (eqb-true k x u) m))) g.gone;
      stays = λ j u ne. ⊎_elim (λ q. either_left (eqb j x) (has j g.rest) (eq-eqb j x q)) (λ v. has_cons j x g.rest (g.stays j v ne)) (has_cases j x xs u);
    })
    (has_cases k x xs h)

pub room : (n : ℕ) (xs : List ℕ) → Distinct xs → ((x : ℕ) → has x xs ≡ true → (2 ≤ x) × (x < n + 2)) → length xs ≤ n
room zero [] d h = omega arith
room zero (x ∷ xs) d h = let b = h x (has_head x xs) in omega arith
room (suc n) xs d h = ⊎_elim
    (λ (t : has (n + 2) xs ≡ true). let g = gone (n + 2) d t in
    let ih = room n g.rest g.distinct (λ x u. let b = h x (g.inside x u) in let ne : x ≡ n + 2 → ⊥ = λ e. clash u (rw e g.gone) in omega arith) in
    omega (arith, g.shorter))
    (λ (t : has (n + 2) xs ≡ false). let ih = room n xs d (λ x u. let b = h x u in let ne : x ≡ n + 2 → ⊥ = λ e. clash u (rw e t) in omega arith) in omega arith)
    (decide (has (n + 2) xs))

pub covers : (n a : ℕ) (xs : List ℕ) → Distinct xs → ((k : ℕ) → a ≤ k → k < a + n → has k xs ≡ true) → n ≤ length xs
covers zero a xs d h = omega arith
covers (suc n) a xs d h =
    let g = gone a d (h a (omega arith) (omega arith)) in
    let ih = covers n (suc a) g.rest g.distinct (λ k l u. g.stays k (h k (omega arith) (omega arith)) (λ e. omega arith)) in
    omega (arith, g.shorter)

pub listed_range : (count k : ℕ) → listed count k ≡ true → (2 ≤ k) × (k < count + 2)
listed_range count k h =
    let b = both_true (leb 2 k) (ltb k (count + 2)) h in
    (leb-true 2 k b.0, ltb-true k (count + 2) b.1)

pub range_listed : (count k : ℕ) → 2 ≤ k → k < count + 2 → listed count k ≡ true
range_listed count k a b = rw (le-leb 2 k a, lt-ltb k (count + 2) b)

-- what a test of freshness says
pub record Fresh (count : ℕ) (path : List ℕ) (k : ℕ) (out : List ℕ) : Type 0 where
  pub lib : listed count k ≡ true
  pub off_path : has k path ≡ false
  pub not_out : has k out ≡ false

pub is_fresh : (count : ℕ) (path : List ℕ) (k : ℕ) (out : List ℕ) → fresh count path k out ≡ true → Fresh count path k out
is_fresh count path k out h =
    let b = both_true (listed count k) (both (not (has k path)) (not (has k out))) h in
    let r = both_true (not (has k path)) (not (has k out)) b.1 in
    record { lib = b.0; off_path = not-true (has k path) r.0; not_out = not-true (has k out) r.1 }

stale : (count : ℕ) (path : List ℕ) (k : ℕ) (out : List ℕ) → fresh count path k out ≡ false → listed count k ≡ true → has k path ≡ false → has k out ≡ true
stale count path k out h l p = ⊎_elim (λ (t : has k out ≡ true). t) (λ (t : has k out ≡ false). absurd (clash (rw (l, p, t)) h)) (decide (has k out))

-- a library that leaves the path stands at the end of the order: what is fresh stays so
pub has_snoc : (j k : ℕ) (out : List ℕ) → has j (out ++ (k ∷ [])) ≡ either (has j out) (eqb j k)
has_snoc j k [] = either_none (eqb j k)
  where
    either_none : (b : Bool) → either b false ≡ either false b
    either_none true = refl
    either_none false = refl
has_snoc j k (x ∷ out) = ap (λ (b : Bool). either (eqb j x) b) (has_snoc j k out) ∙ either_assoc (eqb j x) (has j out) (eqb j k)

pub fresh_moved : (count : ℕ) (path : List ℕ) (k j : ℕ) (out : List ℕ) → fresh count (k ∷ path) j out ≡ fresh count path j (out ++ (k ∷ []))
fresh_moved count path k j out = moved (listed count j) (eqb j k) (has j path) (has j out) ∙ rw has_snoc
  where
    moved : (l e p o : Bool) → both l (both (not (either e p)) (not o)) ≡ both l (both (not p) (not (either o e)))
    moved false e p o = refl
    moved true true true o = refl
    moved true true false true = refl
    moved true true false false = refl
    moved true false true o = refl
    moved true false false true = refl
    moved true false false false = refl

-- a number that is not fresh is passed over
pub passed : (needs : ℕ → List ℕ) (count depth : ℕ) (path : List ℕ) (k : ℕ) (out : List ℕ) → fresh count path k out ≡ false → visit needs count depth path k out ≡ out
unfolding visit
passed needs count zero path k out h = refl
passed needs count (suc d) path k out h = rw h

-- a fresh one is put after what it needs
pub visit_fresh : (needs : ℕ → List ℕ) (count depth d : ℕ) (path : List ℕ) (k : ℕ) (out : List ℕ) → depth ≡ suc d → fresh count path k out ≡ true
    → visit needs count depth path k out ≡ last_first (visit needs count d (k ∷ path)) (needs k) out ++ (k ∷ [])
unfolding visit
visit_fresh needs count depth d path k out e f = rw (e, f)

module _ (needs : ℕ → List ℕ) (count : ℕ) where
  -- the list so far is in order
  pub record Ok (path out : List ℕ) : Type 0 where
    pub distinct : Distinct out
    pub apart : (x : ℕ) → has x out ≡ true → has x path ≡ false
    pub libs : (x : ℕ) → has x out ≡ true → listed count x ≡ true
    pub sound : (a b : ℕ) → has a out ≡ true → has b (needs a) ≡ true → listed count b ≡ true → Before b a out ⊎ Reach needs count b a

  -- what a visit of the numbers ks gives
  record After (path ks out new : List ℕ) : Type 0 where
    ok : Ok path new
    keeps : (x : ℕ) → has x out ≡ true → has x new ≡ true
    got : (k : ℕ) → has k ks ≡ true → listed count k ≡ true → has k path ≡ false → has k new ≡ true

  -- the path: libraries, all different
  pub record Way (path : List ℕ) : Type 0 where
    pub distinct : Distinct path
    pub libs : (x : ℕ) → has x path ≡ true → listed count x ≡ true

  last_first_lem : (f : ℕ → List ℕ → List ℕ) (path ks : List ℕ) → ((k : ℕ) → has k ks ≡ true → (out : List ℕ) → Ok path out → After path (k ∷ []) out (f k out))
      → (out : List ℕ) → Ok path out → After path ks out (last_first f ks out)
  last_first_lem f path [] each out o = record { ok = o; keeps = λ x h. h; got = λ k h. absurd (true≢false (sym h)) }
  last_first_lem f path (k ∷ ks) each out o =
      let r = last_first_lem f path ks (λ j h. each j (has_cons j k ks h)) out o in
      let s = each k (has_head k ks) (last_first f ks out) r.ok in
      record {
        ok = s.ok;
        keeps = λ x h. s.keeps x (r.keeps x h);
        got = λ j h l p. ⊎_elim (λ e. s.got j (rw e (has_head k [])) l p) (λ m. s.keeps j (r.got j m l p)) (has_cases j k ks h);
      }

  first_first_lem : (f : ℕ → List ℕ → List ℕ) (path ks : List ℕ) → ((k : ℕ) (out : List ℕ) → Ok path out → After path (k ∷ []) out (f k out))
      → (out : List ℕ) → Ok path out → After path ks out (first_first f ks out)
  first_first_lem f path [] each out o = record { ok = o; keeps = λ x h. h; got = λ k h. absurd (true≢false (sym h)) }
  first_first_lem f path (k ∷ ks) each out o =
      let s = each k out o in
      let r = first_first_lem f path ks each (f k out) s.ok in
      record {
        ok = r.ok;
        keeps = λ x h. r.keeps x (s.keeps x h);
        got = λ j h l p. ⊎_elim (λ e. r.keeps j (s.got j (rw e (has_head k [])) l p)) (λ m. r.got j m l p) (has_cases j k ks h);
      }

  -- one more on the path
  pub way_cons : (path : List ℕ) (k : ℕ) → Way path → listed count k ≡ true → has k path ≡ false → Way (k ∷ path)
  way_cons path k w l p = record { distinct = one_more p w.distinct; libs = λ x h. ⊎_elim (λ e. rw e l) (λ m. w.libs x m) (has_cases x k path h) }

  pub way_tail : {path : List ℕ} {k : ℕ} → Way (k ∷ path) → Way path
  way_tail {path} {k} w = record { distinct = distinct_tail w.distinct; libs = λ x h. w.libs x (has_cons x k path h) }

  -- the path is never longer than the list of libraries
  pub short : (path : List ℕ) → Way path → length path ≤ count
  short path w = room count path w.distinct (λ x h. listed_range count x (w.libs x h))

  ok_cons : (path out : List ℕ) (k : ℕ) → Ok path out → has k out ≡ false → Ok (k ∷ path) out
  ok_cons path out k o n =
      record {
        distinct = o.distinct;
        apart = λ x h. neither (eqb x k) (has x path) (is_false (eqb x k) (λ e. clash h (rw (eqb-true x k e) n))) (o.apart x h);
        libs = o.libs;
        sound = o.sound;
      }

  -- the needs of k are visited, and k is put at the end
  ok_snoc : (path out : List ℕ) (k : ℕ) → Ok (k ∷ path) out → listed count k ≡ true → has k path ≡ false
      → ((b : ℕ) → has b (needs k) ≡ true → listed count b ≡ true → (has b out ≡ true) ⊎ Reach needs count b k) → Ok path (out ++ (k ∷ []))
  ok_snoc path out k o l p needed =
      record {
        distinct = distinct_snoc k o.distinct (is_false (has k out) (λ h. clash (has_head k path) (o.apart k h)));
        apart = λ x h. ⊎_elim (λ m. not_right (eqb x k) (has x path) (o.apart x m)) (λ e. rw (has_one x k e) p) (has_append x out (k ∷ []) h);
        libs = λ x h. ⊎_elim (λ m. o.libs x m) (λ e. rw (has_one x k e) l) (has_append x out (k ∷ []) h);
        sound = λ a b h n t. ⊎_elim
            (λ (m : has a out ≡ true). ⊎_elim (λ s. inl (before_left (k ∷ []) s)) (λ r. inr r) (o.sound a b m n t))
            (λ (e : has a (k ∷ []) ≡ true). let q = has_one a k e in
            ⊎_elim (λ m. inl (rw q (before_snoc b k out m))) (λ r. inr (rw q r)) (needed b (rw q at n) t))
            (has_append a out (k ∷ []) h);
      }

  -- the needs of k are visited, with k on the path, and then k is put at the end
  after_snoc : (path : List ℕ) (k : ℕ) (out new : List ℕ) → Fresh count path k out → ((p : ℕ) → has p path ≡ true → Reach needs count p k)
      → After (k ∷ path) (needs k) out new → After path (k ∷ []) out (new ++ (k ∷ []))
  after_snoc path k out new f from r =
      record {
        ok = ok_snoc path new k r.ok f.lib f.off_path
            (λ b n l. ⊎_elim
            (λ (t : has b (k ∷ path) ≡ true). inr (⊎_elim (λ (e : b ≡ k). here (sym e)) (λ (m : has b path ≡ true). from b m) (has_cases b k path t)))
            (λ (t : has b (k ∷ path) ≡ false). inl (r.got b n l t))
            (decide (has b (k ∷ path))));
        keeps = λ x h. has_left x new (k ∷ []) (r.keeps x h);
        got = λ j h l p. rw (has_one j k h) (has_right k new (k ∷ []) (has_head k []));
      }

  visited : (depth : ℕ) (path : List ℕ) (k : ℕ) (out : List ℕ) → depth + length path ≡ count → Way path
      → (listed count k ≡ true → (p : ℕ) → has p path ≡ true → Reach needs count p k) → Ok path out → After path (k ∷ []) out (visit needs count depth path k out)
  unfolding visit
  visited zero path k out full w from o =
      record {
        ok = o;
        keeps = λ x h. h;
        got = λ j h l p. absurd (let s = short (j ∷ path) (way_cons path j w l p) in omega arith);
      }
  visited (suc depth) path k out full w from o =
      ⊎_elim
      (λ (t : fresh count path k out ≡ true).
      let f = is_fresh count path k out t in
      let path' : List ℕ = k ∷ path in
      let r = last_first_lem (visit needs count depth path') path' (needs k)
      (λ j m out' o'. visited depth path' j out' (omega arith) (way_cons path k w f.lib f.off_path)
      (λ l p h. ⊎_elim (λ (e : p ≡ k). further (here (sym e)) m l) (λ (h' : has p path ≡ true). further (from f.lib p h') m l) (has_cases p k path h)) o')
      out (ok_cons path out k o f.not_out) in
      rw t (after_snoc path k out _ f (from f.lib) r))
      (λ (t : fresh count path k out ≡ false).
      rw t (record { ok = o; keeps = λ x h. h; got = λ j h l p. rw (has_one j k h) (stale count path k out t (rw (has_one j k h) at l) (rw (has_one j k h) at p)) }))
      (decide (fresh count path k out))

  empty : Ok [] []
  empty = record { distinct = none; apart = λ x h. refl; libs = λ x h. absurd (true≢false (sym h)); sound = λ a b h. absurd (true≢false (sym h)) }

  -- the libraries' order, without the program
  abbrev pub library_order : List ℕ
  library_order = first_first (visit needs count count []) (up_from 2 count) []

  all : After [] (up_from 2 count) [] library_order
  all = first_first_lem (visit needs count count []) [] (up_from 2 count) (λ k out o. visited count [] k out (omega arith) (record { distinct = none; libs = λ x h. absurd (true≢false (sym h)) }) (λ l p h. absurd (true≢false (sym h))) o) [] empty

pub up_from_lem : (a n k : ℕ) → a ≤ k → k < a + n → has k (up_from a n) ≡ true
up_from_lem a zero k h l = absurd (omega arith)
up_from_lem a (suc n) k h l = ⊎_elim (λ e. either_left (eqb k a) (has k (up_from (suc a) n)) e) (λ (e : eqb k a ≡ false). let ne = eqb-false k a e in has_cons k a (up_from (suc a) n) (up_from_lem (suc a) n k (omega arith) (omega arith))) (decide (eqb k a))

-- ---- how often a number is in a list

times_has : (k : ℕ) (xs : List ℕ) → 0 < times k xs → has k xs ≡ true
times_has k [] h = absurd (omega arith)
times_has k (x ∷ xs) h = ⊎_elim
    (λ (e : eqb x k ≡ true). either_left (eqb k x) (has k xs) (eq-eqb k x (sym (eqb-true x k e))))
    (λ (e : eqb x k ≡ false). has_cons k x xs (times_has k xs (rw e at h)))
    (decide (eqb x k))

times_none : (k : ℕ) (xs : List ℕ) → has k xs ≡ false → times k xs ≡ 0
times_none k [] h = refl
times_none k (x ∷ xs) h =
    let ne : eqb x k ≡ false = is_false (eqb x k) (λ t. clash (either_left (eqb k x) (has k xs) (eq-eqb k x (sym (eqb-true x k t)))) h) in
    rw ne (times_none k xs (not_right (eqb k x) (has k xs) h))

times_once : (k : ℕ) {xs : List ℕ} → Distinct xs → has k xs ≡ true → times k xs ≡ 1
times_once k none h = absurd (true≢false (sym h))
times_once k (one_more {x} {xs} m d) h = ⊎_elim
    (λ (e : k ≡ x). rw (eq-eqb x k (sym e)) (ap suc (times_none k xs (rw e m))))
    (λ (t : has k xs ≡ true).
    let ne : eqb x k ≡ false = is_false (eqb x k) (λ u. clash t (rw (sym (eqb-true x k u)) m)) in
    rw ne (times_once k d t))
    (has_cases k x xs h)

-- ---- the laws

module _ (needs : ℕ → List ℕ) (count : ℕ) where
  -- "program last": the order is the libraries' and then the program, which is not among them
  pub program_last : (libs : List ℕ) × (order_of needs count ≡ libs ++ (1 ∷ [])) × (has 1 libs ≡ false)
  unfolding order_of
  program_last =
      let a = all needs count in
      (library_order needs count, refl, is_false (has 1 (library_order needs count)) (λ h. let r = listed_range count 1 (a.ok.libs 1 h) in omega arith))

  -- each library is in the order
  pub each_library : (k : ℕ) → 2 ≤ k → k < count + 2 → has k (order_of needs count) ≡ true
  unfolding order_of
  each_library k a b = has_left k (library_order needs count) (1 ∷ []) ((all needs count).got k (up_from_lem 2 count k a (omega arith)) (range_listed count k a b) refl)

  -- nothing else is, but the program
  pub nothing_else : (k : ℕ) → has k (order_of needs count) ≡ true → (k ≡ 1) ⊎ ((2 ≤ k) × (k < count + 2))
  unfolding order_of
  nothing_else k h = ⊎_elim (λ m. inr (listed_range count k ((all needs count).ok.libs k m))) (λ e. inl (has_one k 1 e)) (has_append k (library_order needs count) (1 ∷ []) h)

  -- no object is in it twice
  pub once : Distinct (order_of needs count)
  unfolding order_of program_last
  once = distinct_snoc 1 (all needs count).ok.distinct program_last.2

  -- "each after what it needs": where library a needs listed library b, and b cannot reach a along needs, b is before a
  pub needed_first :
      (a b : ℕ) → 2 ≤ a → a < count + 2 → 2 ≤ b → b < count + 2
      → has b (needs a) ≡ true
      → (Reach needs count b a → ⊥)
      → Before b a (order_of needs count)
  unfolding order_of
  needed_first a b la ha lb hb n far =
      let r = all needs count in
      ⊎_elim (λ s. before_left (1 ∷ []) s) (λ t. absurd (far t))
      (r.ok.sound a b (r.got a (up_from_lem 2 count a la (omega arith)) (range_listed count a la ha) refl) n (range_listed count b lb hb))

  -- the order is as long as there are libraries, and the program
  pub order_length : length (order_of needs count) ≡ count + 1
  unfolding order_of
  order_length =
      let r = all needs count in
      let most = room count (library_order needs count) r.ok.distinct (λ x h. listed_range count x (r.ok.libs x h)) in
      let least = covers count 2 (library_order needs count) r.ok.distinct (λ k a b. r.got k (up_from_lem 2 count k a b) (range_listed count k a (omega arith)) refl) in
      simp length-append (omega arith)

  -- these in one, by how often an object is there: before the program each library once, and nothing else
  pub once_each : OnceEach (count + 2) (order_of needs count)
  unfolding order_of
  once_each =
      let r = all needs count in
      record {
        front = library_order needs count;
        split = refl;
        only = λ j h. listed_range count j (r.ok.libs j (times_has j (library_order needs count) h));
        once = λ j a b. times_once j r.ok.distinct (r.got j (up_from_lem 2 count j a (omega arith)) (range_listed count j a b) refl);
      }
