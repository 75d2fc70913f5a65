-- The rule of a table, proved once for any table and any rule: a table that is `tabulate g n 0` by computation has g k at each place k.
-- Assumes nothing.
use mathlib.Core.Path.{◌≡◌, ◌∙◌, sym, ap}
use mathlib.Core.List.{List, [], ◌∷◌}
use Prim.Native.Nat.{ℕ, zero, suc, ◌+◌, ◌<◌}
use native.Mathlib.Nat.{add-zero, zero-add, add-suc, suc-add, le_of_suc-le-suc, not-suc-le-zero}
use lib.ListN.{get_or}

module _ {A : Type 0} where
  -- g i, g (i + 1), .., n of them
  abbrev pub tabulate : (ℕ → A) → ℕ → ℕ → List A
  tabulate g zero i = []
  tabulate g (suc n) i = g i ∷ tabulate g n (suc i)

  from : (d : A) (g : ℕ → A) (n i k : ℕ) → k < n → get_or (tabulate g n i) k d ≡ g (i + k)
  from d g zero i k h = absurd (not-suc-le-zero h)
  from d g (suc n) i zero h = ap g (sym (add-zero i))
  from d g (suc n) i (suc k) h = from d g n (suc i) k (le_of_suc-le-suc h) ∙ ap g (suc-add i k ∙ sym (add-suc i k))

  pub rule : (d : A) (g : ℕ → A) (n k : ℕ) → k < n → get_or (tabulate g n 0) k d ≡ g k
  rule d g n k h = from d g n 0 k h ∙ ap g (zero-add k)

  -- two functions that agree at each number below n, by computation, agree at each
  pub same : (f g : ℕ → A) (n : ℕ) → tabulate f n 0 ≡ tabulate g n 0 → (k : ℕ) → k < n → f k ≡ g k
  same f g n e k h = sym (rule (f 0) f n k h) ∙ ap (λ (l : List A). get_or l k (f 0)) e ∙ rule (f 0) g n k h
