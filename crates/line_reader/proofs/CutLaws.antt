-- Laws of cutting a text into lines. The cut distributes over `++` at a LF: `cut-head`, `cut_tail`, and of both `cut-damaged`. Assumes nothing.
use Prim.Native.Nat.{ℕ, zero, suc, ◌+◌, ◌≤◌}
use mathlib.Core.Path.{◌≡◌, refl, sym, ◌∙◌, ap}
use mathlib.Core.List.{List, [], ◌∷◌, ◌++◌, append_assoc, append-nil, flatten, cons≢nil}
use mathlib.Core.Bool.{Bool, true, false}
use native.Mathlib.Omega.{arith}
use borrow.Author.Tests.{eqb-true}
use lib.Dec.{eqb, eqb-suc-zero}
use lib.ListN.{length, take, drop, length-append}
use lib.Seq.{drop-nil, take-append_seam}
use Rattle.output.specs.Logic.{if}
use Rattle.line_reader.specs.Cut.{lf, grow, lines_of, lfs, to_first, from_last}

-- what follows the first LF; nothing where there is none
unfoldable pub after_first : List ℕ → List ℕ
after_first [] = []
after_first (b ∷ t) = if (eqb b lf) t (after_first t)

-- a text is its first line, and the lines of what follows
pub cut-first : (b : ℕ) (t : List ℕ) → lines_of (b ∷ t) ≡ to_first (b ∷ t) ∷ lines_of (after_first (b ∷ t))
unfolding grow lines_of to_first after_first
cut-first b [] = go (eqb b lf)
  where
    go : (q : Bool) → if q ((b ∷ []) ∷ []) ((b ∷ []) ∷ []) ≡ (b ∷ if q [] []) ∷ lines_of (if q [] [])
    go true = refl
    go false = refl
cut-first b (c ∷ t) = go (cut-first c t) (eqb b lf)
  where
    go : lines_of (c ∷ t) ≡ to_first (c ∷ t) ∷ lines_of (after_first (c ∷ t)) → (q : Bool)
        → if q ((b ∷ []) ∷ lines_of (c ∷ t)) (grow b (lines_of (c ∷ t))) ≡ (b ∷ if q [] (to_first (c ∷ t))) ∷ lines_of (if q (c ∷ t) (after_first (c ∷ t)))
    go ih true = refl
    go ih false = ap (grow b) ih

pub first-after : (t : List ℕ) → to_first t ++ after_first t ≡ t
unfolding to_first after_first
first-after [] = refl
first-after (b ∷ t) = go (first-after t) (eqb b lf)
  where
    go : to_first t ++ after_first t ≡ t → (q : Bool) → (b ∷ if q [] (to_first t)) ++ if q t (after_first t) ≡ b ∷ t
    go ih true = refl
    go ih false = ap (λ (u : List ℕ). b ∷ u) ih

-- the first line, as a part of the text that starts at its length
pub take-first : (t : List ℕ) → take (length (to_first t)) t ≡ to_first t
take-first t = ap (take (length (to_first t))) (sym (first-after t)) ∙ take-append_seam (to_first t) (after_first t)

pub first-within : (t : List ℕ) → length (to_first t) ≤ length t
first-within t = omega (arith, sym (length-append (to_first t) (after_first t)) ∙ ap length (first-after t))

-- ---- one byte more in front of a cut text

grow-append : (b : ℕ) (u : List ℕ) (ms : List (List ℕ)) → (u ≡ [] → ms ≡ []) → grow b (lines_of u ++ ms) ≡ grow b (lines_of u) ++ ms
unfolding grow lines_of
grow-append b [] ms none = rw (none refl)
grow-append b (c ∷ u) ms none = rw (cut-first c u)

grow-take : (b k : ℕ) (h y : List ℕ) (ms : List (List ℕ)) → lfs h ≡ suc k → grow b (take (suc k) (lines_of (h ++ y)) ++ ms) ≡ take (suc k) (grow b (lines_of (h ++ y))) ++ ms
unfolding grow lfs
grow-take b k [] y ms e = absurd (omega arith)
grow-take b k (c ∷ h) y ms e = rw (cut-first c (h ++ y))

grow-drop : (b k : ℕ) (ls : List (List ℕ)) → drop (suc k) (grow b ls) ≡ drop (suc k) ls
unfolding grow
grow-drop b k [] = drop-nil k
grow-drop b k (l ∷ ls) = refl

none_first : (x tail : List ℕ) → x ++ to_first tail ≡ [] → lines_of (after_first tail) ≡ []
unfolding to_first after_first lines_of
none_first [] [] e = refl
none_first [] (b ∷ t) e = absurd (cons≢nil e)
none_first (c ∷ x) tail e = absurd (cons≢nil e)

-- ---- at the head and at the tail

-- AT THE HEAD: the lines that lie in the head are the same whatever follows it, and the rest is cut by itself
pub cut-head : (head x y : List ℕ) → lines_of (head ++ x) ≡ take (lfs head) (lines_of (head ++ y)) ++ lines_of (from_last head ++ x)
unfolding lines_of lfs from_last
cut-head [] x y = refl
cut-head (b ∷ h) x y = go (cut-head h x y) (eqb b lf) refl (lfs h) refl
  where
    go : lines_of (h ++ x) ≡ take (lfs h) (lines_of (h ++ y)) ++ lines_of (from_last h ++ x) → (q : Bool) → eqb b lf ≡ q → (k : ℕ) → lfs h ≡ k
        → lines_of (b ∷ h ++ x) ≡ take (lfs (b ∷ h)) (lines_of (b ∷ h ++ y)) ++ lines_of (from_last (b ∷ h) ++ x)
    go ih true e k e' = rw (e, eqb-suc-zero (lfs h)) (ap (λ (ls : List (List ℕ)). (b ∷ []) ∷ ls) ih)
    go ih false e zero e' = rw (e, e') (rw e)
    go ih false e (suc k) e' = rw (e, e', eqb-suc-zero k) (ap (grow b) (rw e' at ih) ∙ grow-take b k h y (lines_of (from_last h ++ x)) e')

-- AT THE TAIL: what follows the tail's first LF is cut by itself
pub cut_tail : (x tail : List ℕ) → lines_of (x ++ tail) ≡ lines_of (x ++ to_first tail) ++ lines_of (after_first tail)
unfolding lines_of to_first after_first
cut_tail [] [] = refl
cut_tail [] (b ∷ t) = go (cut_tail [] t) (eqb b lf) refl
  where
    go : lines_of t ≡ lines_of (to_first t) ++ lines_of (after_first t) → (q : Bool) → eqb b lf ≡ q → lines_of (b ∷ t) ≡ lines_of (to_first (b ∷ t)) ++ lines_of (after_first (b ∷ t))
    go ih true e = rw e
    go ih false e = rw e (ap (grow b) ih ∙ grow-append b (to_first t) (lines_of (after_first t)) (none_first [] t))
cut_tail (b ∷ x) tail = go (cut_tail x tail) (eqb b lf) refl
  where
    go : lines_of (x ++ tail) ≡ lines_of (x ++ to_first tail) ++ lines_of (after_first tail) → (q : Bool) → eqb b lf ≡ q
        → lines_of (b ∷ x ++ tail) ≡ lines_of (b ∷ x ++ to_first tail) ++ lines_of (after_first tail)
    go ih true e = rw e (ap (λ (ls : List (List ℕ)). (b ∷ []) ∷ ls) ih)
    go ih false e = rw e (ap (grow b) ih ∙ grow-append b (x ++ to_first tail) (lines_of (after_first tail)) (none_first x tail))

-- and its lines are those past the line where the tail begins
pub past_tail : (p tail : List ℕ) → drop (suc (lfs p)) (lines_of (p ++ tail)) ≡ lines_of (after_first tail)
unfolding lines_of lfs after_first
past_tail [] [] = refl
past_tail [] (b ∷ t) = rw (cut-first b t)
past_tail (b ∷ p) tail = go (past_tail p tail) (eqb b lf)
  where
    go : drop (suc (lfs p)) (lines_of (p ++ tail)) ≡ lines_of (after_first tail) → (q : Bool)
        → drop (suc (if q (suc (lfs p)) (lfs p))) (if q ((b ∷ []) ∷ lines_of (p ++ tail)) (grow b (lines_of (p ++ tail)))) ≡ lines_of (after_first tail)
    go ih true = ih
    go ih false = grow-drop b (lfs p) (lines_of (p ++ tail)) ∙ ih

-- ONE RUN REPLACED, in any text: the lines that lie in the head, the bytes between cut by themselves, and the lines past the one where the
-- tail begins
pub cut-damaged : (head run new tail : List ℕ) → lines_of (head ++ new ++ tail) ≡
    take (lfs head) (lines_of (head ++ run ++ tail)) ++ lines_of (from_last head ++ new ++ to_first tail) ++ drop (suc (lfs (head ++ run))) (lines_of (head ++ run ++ tail))
cut-damaged head run new tail =
    rw (past_tail (head ++ run) tail, append_assoc head run tail, append_assoc (from_last head) new (to_first tail), ← cut-head head (new ++ to_first tail) (run ++ tail), ← append_assoc head new (to_first tail))
    (cut_tail (head ++ new) tail)

-- ---- a line in front of a text

-- bytes without LF, then LF: the first line
pub cut_line : (u t : List ℕ) → lfs u ≡ 0 → lines_of (u ++ lf ∷ t) ≡ (u ++ lf ∷ []) ∷ lines_of t
unfolding lines_of lfs grow
cut_line [] t e = refl
cut_line (b ∷ u) t e = go (eqb b lf) refl e (cut_line u t)
  where
    go : (q : Bool) → eqb b lf ≡ q → lfs (b ∷ u) ≡ 0 → (lfs u ≡ 0 → lines_of (u ++ lf ∷ t) ≡ (u ++ lf ∷ []) ∷ lines_of t)
        → lines_of (b ∷ u ++ lf ∷ t) ≡ (b ∷ u ++ lf ∷ []) ∷ lines_of t
    go true e' e ih = let z : suc (lfs u) ≡ 0 = rw e' at e in absurd (omega arith)
    go false e' e ih = rw e' (ap (grow b) (ih (rw e' at e)))

pub lfs-append : (s t : List ℕ) → lfs (s ++ t) ≡ lfs s + lfs t
unfolding lfs
lfs-append [] t = omega arith
lfs-append (c ∷ s) t = go (eqb c lf) (lfs (s ++ t)) (lfs s) (lfs t) (lfs-append s t)
  where
    go : (b : Bool) (m n k : ℕ) → m ≡ n + k → if b (suc m) m ≡ if b (suc n) n + k
    go true m n k e = omega arith
    go false m n k e = e

-- behind the last LF there is none
pub lfs-last : (p : List ℕ) → lfs (from_last p) ≡ 0
unfolding lfs from_last
lfs-last [] = refl
lfs-last (b ∷ p) = go (lfs-last p) (eqb (lfs (b ∷ p)) 0) refl
  where
    go : lfs (from_last p) ≡ 0 → (q : Bool) → eqb (lfs (b ∷ p)) 0 ≡ q → lfs (if q (b ∷ p) (from_last p)) ≡ 0
    go ih true e = eqb-true (lfs (b ∷ p)) 0 e
    go ih false e = ih

-- ---- the lines joined again

flatten-append : (ls ms : List (List ℕ)) → flatten (ls ++ ms) ≡ flatten ls ++ flatten ms
unfolding flatten
flatten-append [] ms = refl
flatten-append (l ∷ ls) ms = ap (λ (t : List ℕ). l ++ t) (flatten-append ls ms) ∙ sym (append_assoc l (flatten ls) (flatten ms))

flatten-grow : (b : ℕ) (ls : List (List ℕ)) → flatten (grow b ls) ≡ b ∷ flatten ls
unfolding grow flatten
flatten-grow b [] = refl
flatten-grow b (l ∷ ls) = refl

pub flatten_lines : (t : List ℕ) → flatten (lines_of t) ≡ t
unfolding lines_of flatten
flatten_lines [] = refl
flatten_lines (b ∷ t) = go (flatten_lines t) (eqb b lf)
  where
    go : flatten (lines_of t) ≡ t → (q : Bool) → flatten (if q ((b ∷ []) ∷ lines_of t) (grow b (lines_of t))) ≡ b ∷ t
    go ih true = ap (λ (u : List ℕ). b ∷ u) ih
    go ih false = flatten-grow b (lines_of t) ∙ ap (λ (u : List ℕ). b ∷ u) ih

-- as many lines as the head has LFs: they are the head, up to its last LF
pub lines_lie : (head y : List ℕ) → flatten (take (lfs head) (lines_of (head ++ y))) ++ from_last head ≡ head
lines_lie head y =
    let e : lines_of head ≡ take (lfs head) (lines_of (head ++ y)) ++ lines_of (from_last head) = rw (append-nil head, append-nil (from_last head)) at (cut-head head [] y) in
    sym (sym (flatten_lines head) ∙ ap flatten e ∙ flatten-append (take (lfs head) (lines_of (head ++ y))) (lines_of (from_last head)) ∙ rw (flatten_lines (from_last head)))

-- and those past the line where the tail begins: they are the tail, from behind its first LF
pub lines_follow : (p tail : List ℕ) → to_first tail ++ flatten (drop (suc (lfs p)) (lines_of (p ++ tail))) ≡ tail
lines_follow p tail = rw (past_tail p tail, flatten_lines (after_first tail)) (first-after tail)
