-- What it is to be sorted, over any order. The sorted list is an insertion sort's; that there is no other sorted list of the same elements is `only_one` of `proofs/SortedLaws.antt`.
-- Assumes nothing.
use Rattle.std.specs.Prelude.{◌≡◌, Bool, true, false, List, [], ◌∷◌, ◌++◌, ℕ, ◌+◌}
use Rattle.output.specs.Logic.{if}

-- An order on A: `b x y` says that x comes before y. Of two different elements exactly one comes before the other.
pub record Order {A : Type 0} (b : A → A → Bool) : Type 0 where
  pub one_way : (x y : A) → b x y ≡ true → b y x ≡ false
  pub through : (x y z : A) → b y x ≡ false → b z y ≡ false → b z x ≡ false
  pub same : (x y : A) → b x y ≡ false → b y x ≡ false → x ≡ y

-- how many elements pass a test
abbrev pub many : {A : Type 0} → (A → Bool) → List A → ℕ
many p [] = 0
many p (x ∷ l) = if (p x) 1 0 + many p l

-- the elements that pass a test, in their order
unfoldable pub filter : {A : Type 0} → (A → Bool) → List A → List A
filter q [] = []
filter q (x ∷ l) = if (q x) (x ∷ filter q l) (filter q l)

-- a list from its end
unfoldable pub reversed : {A : Type 0} → List A → List A
reversed [] = []
reversed (x ∷ l) = reversed l ++ x ∷ []

-- the same elements, each as often
abbrev pub Same : {A : Type 0} → List A → List A → Type 0
Same {A} l m = (p : A → Bool) → many p l ≡ many p m

module _ {A : Type 0} (b : A → A → Bool) where
  -- nothing of the list comes before x
  abbrev pub First : A → List A → Type 0
  First x [] = Unit {0}
  First x (y ∷ l) = (b y x ≡ false) × First x l

  -- no element comes before one that stands earlier
  abbrev pub Sorted : List A → Type 0
  Sorted [] = Unit {0}
  Sorted (x ∷ l) = First x l × Sorted l

  -- x in front of the first element that does not come before it
  unfoldable pub insert : A → List A → List A
  insert x [] = x ∷ []
  insert x (y ∷ l) = if (b y x) (y ∷ insert x l) (x ∷ y ∷ l)

  -- the elements in order
  unfoldable pub sorted : List A → List A
  sorted [] = []
  sorted (x ∷ l) = insert x (sorted l)
