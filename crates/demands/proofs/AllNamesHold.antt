-- The statements about `query_all` hold. Assumes nothing.
use Rattle.std.proofs.Common.{Ok, Err}
use mathlib.Core.Path.{◌≡◌, refl, sym, ap, ◌∙◌}
use mathlib.Core.Bool.{Bool, true, false}
use mathlib.Core.Logic.{inl, inr, ⊎_elim}
use mathlib.Core.List.{List, [], ◌∷◌, ◌++◌, map}
use Prim.Native.Nat.{ℕ, zero, suc, ◌≤◌, ◌<◌}
use native.Mathlib.Omega.{arith}
use borrow.Author.Tests.{eqb-true, ltb-true}
use lib.Dec.{eqb, ltb}
use lib.ListN.{length, get_or, replicate, length-append, length-map, length-replicate}
use Rattle.words.specs.Choice.{pick}
use Rattle.words.specs.Memory.{tab}
use Rattle.words.proofs.Choice.{both_true}
use Rattle.words.proofs.Slices.{length_tab}
use Rattle.model.specs.Objects.{Objs}
use Rattle.model.specs.Symbols as symbols
use Rattle.model.specs.Symbols.{by_name, absent, answer}
use Rattle.model.specs.Scope.{resolve}
use Rattle.model.specs.Relocation.{placed, address_or0}
use Rattle.model.proofs.OrderLaws.{decide}
use Rattle.sheet.specs.Sheet.{Input, set_of}
use Rattle.sheet.proofs.SheetLonger.{Longer, sheet_longer}
use Rattle.binder.specs.Setting.{Setting}
use Rattle.binder.specs.Verdict.{Verdict, passed, refused, first}
use Rattle.binder.specs.Bind.{unless, replied, Replied, reply_of, replied_of, query_of}
use Rattle.binder.specs.QueryAll.{beginning, names_in, ends_in_zero, zero_bytes, list_ok, replied_all, replied_all_of, addresses_of, ask_all_set}
use Rattle.binder.proofs.OutcomeLaws.{first_passed, unless_passed, objects_in, sheet_verdict, query_one, refused_same}
use Rattle.binder.proofs.QueryAllIs.{query_all_one}
use Rattle.demands.specs.LongerSet.{set_objects}
use Rattle.demands.specs.Refusals.{QueryRefused}
use Rattle.demands.specs.AllNames.{word_of, from_single, SingleQueries, end_to_end, EndToEnd, AllRefused, AllRefusals, AllLengths, LongerAll, AllCases}
use Rattle.demands.proofs.PassedSet.{sheet_prepared}
use Rattle.demands.proofs.RefusalsHold.{query_refusals}
use Rattle.demands.proofs.LongerQueryLaw.{asked, longer_query}

-- ---- as many single queries

-- a reply's word is the answer's address
word_is : (size : ℕ) (v : Verdict) (x : symbols.Resolved) (a : List ℕ) → v ≡ passed → word_of (replied_of size v (reply_of x) a) ≡ address_or0 x
unfolding replied_of address_or0
word_is size v absent a e = rw e refl
word_is size v (answer k s b) a e = rw e refl

module _ (setting : Setting) (sheet bytes : List ℕ) (size requester : ℕ) where
  -- refusals 1 to 13 and 21
  abbrev asking : Verdict
  asking = first (sheet_verdict setting passed sheet bytes size) (unless (ltb requester (length (set_of sheet bytes))) 13 0)

  abbrev S : Objs
  S = objects_in setting (set_of sheet bytes)

  abbrev word : List ℕ → ℕ
  word name = word_of (query_of setting sheet bytes size requester name)

  words_are : asking ≡ passed → (names : List (List ℕ)) → addresses_of S requester names ≡ map word names
  unfolding addresses_of
  words_are e [] = refl
  words_are e (name ∷ names) =
      rw (
        query_one setting sheet bytes size requester name,
        word_is size asking (resolve S requester (by_name name)) (tab size (placed S)) e,
      ) (ap (λ (ws : List ℕ). address_or0 (resolve S requester (by_name name)) ∷ ws) (words_are e names))

put_together :
    (size slots : ℕ) (v w : Verdict) (t : Bool) (x : symbols.Resolved) (arena ws ws' : List ℕ) → (first v w ≡ passed → ws ≡ ws')
    → replied_all_of size slots (first v (first w (unless t 23 0))) arena ws ≡ from_single size slots t (replied_of size (first v w) (reply_of x) arena) ws'
unfolding replied_all_of replied_of unless
put_together size slots (Err m) w t x arena ws ws' same = refl
put_together size slots passed (Err m) t x arena ws ws' same = refl
put_together size slots passed passed true absent arena ws ws' same = ap (replied_all passed arena) (same refl)
put_together size slots passed passed true (answer k s a) arena ws ws' same = ap (replied_all passed arena) (same refl)
put_together size slots passed passed false absent arena ws ws' same = refl
put_together size slots passed passed false (answer k s a) arena ws ws' same = refl

pub single_queries : SingleQueries
single_queries setting sheet bytes size requester list slots some =
    query_all_one setting sheet bytes size requester list slots
    ∙ rw (query_one setting sheet bytes size requester some)
    (put_together size slots (sheet_verdict setting passed sheet bytes size) (unless (ltb requester (length (set_of sheet bytes))) 13 0) (list_ok list slots)
    (resolve (S setting sheet bytes size requester) requester (by_name some)) (tab size (placed (S setting sheet bytes size requester))) _ _
    (λ e. words_are setting sheet bytes size requester e (names_in list)))

-- ---- the names end to end

-- a list that is not empty has a name
some_name : (b : ℕ) (bs : List ℕ) → 0 < length (names_in (b ∷ bs))
unfolding names_in
some_name b bs = go (eqb b 0) (names_in bs)
  where
    go : (t : Bool) (ns : List (List ℕ)) → 0 < length (pick t ([] ∷ ns) (beginning b ns))
    go true ns = omega arith
    go false [] = omega arith
    go false (n ∷ ns) = omega arith

-- a byte before the first name
begun : (b : ℕ) (ns : List (List ℕ)) → 0 < length ns → (end_to_end (beginning b ns) ≡ b ∷ end_to_end ns) × (length (beginning b ns) ≡ length ns)
unfolding end_to_end
begun b [] l = absurd (omega arith)
begun b (n ∷ ns) l = (refl, refl)

joined : (xs : List ℕ) → ends_in_zero xs ≡ true → (end_to_end (names_in xs) ≡ xs) × (length (names_in xs) ≡ zero_bytes xs)
unfolding ends_in_zero names_in zero_bytes end_to_end
joined [] e = (refl, refl)
joined (b ∷ []) e = let z : b ≡ 0 = eqb-true b 0 e in (rw e (ap (λ (c : ℕ). c ∷ []) (sym z)), rw e (omega arith))
joined (b ∷ (c ∷ bs)) e =
    let rest = joined (c ∷ bs) e in
    ⊎_elim
    (λ (t : eqb b 0 ≡ true).
    let z : b ≡ 0 = eqb-true b 0 t in
    (rw (t, rest.0) (ap (λ (d : ℕ). d ∷ (c ∷ bs)) (sym z)), rw t (omega (arith, rest.1))))
    (λ (t : eqb b 0 ≡ false).
    let put = begun b (names_in (c ∷ bs)) (some_name c bs) in
    (rw t (put.0 ∙ ap (λ (r : List ℕ). b ∷ r) rest.0), rw t (omega (arith, put.1, rest.1))))
    (decide (eqb b 0))

pub end_to_end_lem : EndToEnd
unfolding list_ok
end_to_end_lem list slots ok =
    let b = both_true (ends_in_zero list) (eqb (zero_bytes list) slots) ok in
    let j = joined list b.0 in
    (j.0, j.1 ∙ eqb-true (zero_bytes list) slots b.1)

-- ---- refusals

not_answered :
    {P : Type 0} {a b c d : List ℕ} {n k : ℕ} → replied_all passed a b ≡ replied_all (refused n k) c d → P
not_answered e = let z : ◌≡◌ {A = ℕ} 0 1 = cc in absurd (omega arith)

refused_single :
    (sheet bytes : List ℕ) (size slots : ℕ) (t : Bool) (r : Replied) (ws : List ℕ) (n k : ℕ) (arena words : List ℕ)
    → ((n k : ℕ) (arena : List ℕ) → r ≡ replied (refused n k) arena → QueryRefused sheet bytes size n k arena)
    → from_single size slots t r ws ≡ replied_all (refused n k) arena words
    → AllRefused sheet bytes size slots n k arena words
refused_single sheet bytes size slots t (replied (Err m) a) ws n k arena words q e =
    let number : m.number ≡ n = cc in
    let object : m.object ≡ k = cc in
    let left : a ≡ arena = cc in
    let o = rw (number, object, left) at (q m.number m.object a refl) in
    record { number = inl (o.number, o.object); arena_zeros = o.arena_zeros; words_zeros = cc }
refused_single sheet bytes size slots true (replied (Ok f) a) ws n k arena words q e = not_answered e
refused_single sheet bytes size slots false (replied (Ok f) a) ws n k arena words q e =
    let x : ◌≡◌ {A = Verdict} (refused n k) (refused 23 0) = cc in
    let y = refused_same n k 23 0 x in
    record { number = inr (y.0, y.1); arena_zeros = cc; words_zeros = cc }

pub all_refusals : AllRefusals
all_refusals setting sheet bytes size requester list slots n k arena words e =
    refused_single sheet bytes size slots (list_ok list slots) (query_of setting sheet bytes size requester []) _ n k arena words
    (λ n k arena z. query_refusals setting sheet bytes size requester [] n k arena z)
    (sym (single_queries setting sheet bytes size requester list slots []) ∙ e)

-- ---- every call

answered_lengths :
    (size slots : ℕ) (v : Verdict) (a ws : List ℕ) (r : Verdict) (arena words : List ℕ) → length a ≡ size → (v ≡ passed → length ws ≡ slots)
    → replied_all_of size slots v a ws ≡ replied_all r arena words
    → (length arena ≡ size) × (length words ≡ slots)
unfolding replied_all_of
answered_lengths size slots passed a ws r arena words la lw e =
    let arena_is : arena ≡ a = cc in
    let words_is : words ≡ ws = cc in
    (ap length arena_is ∙ la, ap length words_is ∙ lw refl)
answered_lengths size slots (Err m) a ws r arena words la lw e =
    let arena_is : arena ≡ replicate size 0 = cc in
    let words_is : words ≡ replicate slots 0 = cc in
    (ap length arena_is ∙ length-replicate size 0, ap length words_is ∙ length-replicate slots 0)

-- 23 was passed
list_passed :
    (v w : Verdict) (t : Bool) → first v (first w (unless t 23 0)) ≡ passed → t ≡ true
list_passed v w t e = unless_passed t 23 0 (first_passed w (unless t 23 0) (first_passed v _ e).1).1

pub all_lengths : AllLengths
unfolding addresses_of
all_lengths setting sheet bytes size requester list slots r arena words e =
    answered_lengths size slots _ _ _ r arena words (length_tab size _)
    (λ v. length-map (names_in list) _ ∙ (end_to_end_lem list slots (list_passed (sheet_verdict setting passed sheet bytes size) (unless (ltb requester (length (set_of sheet bytes))) 13 0) (list_ok list slots) v)).1)
    (sym (query_all_one setting sheet bytes size requester list slots) ∙ e)

-- ---- a longer set

-- a call that was answered: nothing was refused, and what it leaves
answered_all :
    (size slots : ℕ) (v : Verdict) (a ws arena words : List ℕ) → replied_all_of size slots v a ws ≡ replied_all passed arena words
    → (v ≡ passed) × (words ≡ ws)
unfolding replied_all_of
answered_all size slots passed a ws arena words e = (refl, cc)
answered_all size slots (Err m) a ws arena words e = not_answered (sym e)

both_passed : {v w : Verdict} → v ≡ passed → w ≡ passed → first v w ≡ passed
both_passed e f = rw (e, f) refl

answered_from :
    (size slots : ℕ) (x : symbols.Resolved) (arena ws : List ℕ)
    → from_single size slots true (replied (reply_of x) arena) ws ≡ replied_all passed arena ws
answered_from size slots absent arena ws = refl
answered_from size slots (answer k s a) arena ws = refl

get_or_mapped : (f : List ℕ → ℕ) (l : List (List ℕ)) (i : ℕ) → i < length l → get_or (map f l) i 0 ≡ f (get_or l i [])
get_or_mapped f [] i h = absurd (omega arith)
get_or_mapped f (x ∷ l) zero h = refl
get_or_mapped f (x ∷ l) (suc i) h = get_or_mapped f l i (omega arith)

longer_count : (os os' : List Input) → Longer os os' → length os ≤ length os'
longer_count os os' l =
    omega (arith, ap length l.is, ap length l.longer, length-append l.libs (l.added ∷ []))

pub longer_all : LongerAll
longer_all setting sheet bytes size requester list slots arena words e f n added size' v =
    let os : List Input = set_of sheet bytes in
    let T : List ℕ = sheet ++ (f ∷ (n ∷ [])) in
    let more : List ℕ = bytes ++ added in
    let x = answered_all size slots _ _ _ arena words (sym (query_all_one setting sheet bytes size requester list slots) ∙ e) in
    let p = first_passed (sheet_verdict setting passed sheet bytes size) _ x.0 in
    let q = first_passed (unless (ltb requester (length os)) 13 0) (unless (list_ok list slots) 23 0) p.1 in
    let ok : list_ok list slots ≡ true = unless_passed (list_ok list slots) 23 0 q.1 in
    let l : requester < length os = ltb-true requester (length os) (unless_passed (ltb requester (length os)) 13 0 q.0) in
    let h : requester < length (set_of T more) =
    omega (arith, longer_count os (set_of T more) (sheet_longer sheet bytes f n added (sheet_prepared sheet bytes setting passed size p.0).0)) in
    let passed : asking setting sheet bytes size requester ≡ passed = both_passed p.0 q.0 in
    let ws : words ≡ map (word setting sheet bytes size requester) (names_in list) = x.1 ∙ words_are setting sheet bytes size requester passed (names_in list) in (
      map (word setting T more size' requester) (names_in list),
      single_queries setting T more size' requester list slots []
          ∙ rw (ok, asked setting T more size' requester [] v h)
          (answered_from size' slots (resolve (set_objects setting T more) requester (by_name [])) _ _),
      λ i small k s a left found pos.
          let many : i < length (names_in list) = omega (arith, (end_to_end_lem list slots ok).1) in (
            ap (λ (z : List ℕ). get_or z i 0) ws ∙ (get_or_mapped (word setting sheet bytes size requester) (names_in list) i many ∙ ap word_of found),
            get_or_mapped (word setting T more size' requester) (names_in list) i many
                ∙ ap word_of (longer_query.same_answer setting sheet bytes size requester (get_or (names_in list) i []) k s a left found pos f n added size' v),
          ),
    )

-- ---- cases

pub all_cases : AllCases
unfolding names_in list_ok ends_in_zero zero_bytes ask_all_set replied_all_of unless
all_cases =
    record {
      empty = refl;
      empty_names = refl;
      empty_word = refl;
      empty_name = refl;
      one_empty = refl;
      no_zero = refl;
      no_last_zero = refl;
      word_too_few = refl;
      word_too_many = refl;
      in_order = refl;
      thirteen_first = λ setting os size requester list slots p r. rw (p, r) refl;
      twenty_three = λ setting os size requester list slots p r l. rw (p, r, l) refl;
    }
