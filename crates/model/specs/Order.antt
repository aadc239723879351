-- Document 01, "Order: iter_objects_topological": "Depth first, libraries in list order, of one library's needs the last first, each after
-- what it needs; program last. Needs match library names byte for byte; unlisted ones are ignored."
-- Objects are numbers: 0 the host, 1 the program, from 2 on the libraries in list order. `count` is the number of libraries, and `needs k` are
-- the objects that library k's needs name, in file order; a number that is no library's stands for an unlisted need. Assumes nothing.
use Rattle.std.specs.Prelude.{ℕ, zero, suc, ◌+◌, ◌≤◌, ◌<◌, ◌≡◌, Bool, true, false, not, List, [], ◌∷◌, ◌++◌, leb, ltb, eqb}
use Rattle.words.specs.Choice.{pick, both, either}

-- whether k is in the list
abbrev pub has : ℕ → List ℕ → Bool
has k [] = false
has k (x ∷ xs) = either (eqb k x) (has k xs)

-- whether k is a library's number
abbrev pub listed : ℕ → ℕ → Bool
listed count k = both (leb 2 k) (ltb k (count + 2))

-- whether k is a library, and neither among those whose needs are being visited (`path`) nor ordered already (`out`)
abbrev pub fresh : ℕ → List ℕ → ℕ → List ℕ → Bool
fresh count path k out = both (listed count k) (both (not (has k path)) (not (has k out)))

-- f at each number of the list in turn: the first first, or the last first
abbrev pub first_first : (ℕ → List ℕ → List ℕ) → List ℕ → List ℕ → List ℕ
first_first f [] out = out
first_first f (k ∷ ks) out = first_first f ks (f k out)

abbrev pub last_first : (ℕ → List ℕ → List ℕ) → List ℕ → List ℕ → List ℕ
last_first f [] out = out
last_first f (k ∷ ks) out = f k (last_first f ks out)

-- a, a + 1, .. : n numbers
abbrev pub up_from : ℕ → ℕ → List ℕ
up_from a zero = []
up_from a (suc n) = a ∷ up_from (suc a) n

-- "Depth first, .. of one library's needs the last first, each after what it needs": a fresh library's needs are visited, the last first,
-- and then it stands at the end of the order so far, `out`; any other number is passed over. `depth` is how much deeper the visit may go;
-- no path is longer than the number of libraries, so that this many is enough (proofs/OrderLaws.antt).
unfoldable pub visit : (ℕ → List ℕ) → ℕ → ℕ → List ℕ → ℕ → List ℕ → List ℕ
visit needs count zero path k out = out
visit needs count (suc depth) path k out =
    pick (fresh count path k out) (last_first (visit needs count depth (k ∷ path)) (needs k) out ++ (k ∷ [])) out

-- "libraries in list order, .. program last"
unfoldable pub order_of : (ℕ → List ℕ) → ℕ → List ℕ
order_of needs count = first_first (visit needs count count []) (up_from 2 count) [] ++ (1 ∷ [])

-- ---- what the laws say of an order

-- no number is in the list twice
pub data Distinct : List ℕ → Type 0 where
  none : Distinct []
  one_more : {x : ℕ} {xs : List ℕ} → has x xs ≡ false → Distinct xs → Distinct (x ∷ xs)

-- b is in the list, and a is after it
pub data Before (b a : ℕ) : List ℕ → Type 0 where
  first : {x : ℕ} {xs : List ℕ} → b ≡ x → has a xs ≡ true → Before b a (x ∷ xs)
  later : {x : ℕ} {xs : List ℕ} → Before b a xs → Before b a (x ∷ xs)

-- b reaches a along needs: a is b itself, or a listed need of what b reaches
pub data Reach (needs : ℕ → List ℕ) (count b : ℕ) : ℕ → Type 0 where
  here : {a : ℕ} → a ≡ b → Reach needs count b a
  further : {k a : ℕ} → Reach needs count b k → has a (needs k) ≡ true → listed count a ≡ true → Reach needs count b a

-- the libraries among the numbers of a list
abbrev pub keep : ℕ → List ℕ → List ℕ
keep count [] = []
keep count (k ∷ ks) = pick (listed count k) (k ∷ keep count ks) (keep count ks)

-- how often k is in the list
abbrev pub times : ℕ → List ℕ → ℕ
times k [] = 0
times k (j ∷ js) = pick (eqb j k) (suc (times k js)) (times k js)

-- what any binding order of `n` objects is: each library once, then the program, and nothing else
pub record OnceEach (n : ℕ) (order : List ℕ) : Type 0 where
  -- the libraries
  pub front : List ℕ
  pub split : order ≡ front ++ (1 ∷ [])
  -- nothing else, and each once
  pub only : (j : ℕ) → 0 < times j front → (2 ≤ j) × (j < n)
  pub once : (j : ℕ) → 2 ≤ j → j < n → times j front ≡ 1
