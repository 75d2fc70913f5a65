-- Demand 3 over any written values that the grammar reads, by the book: `demand`. Assumes nothing.
use Prim.Native.Nat.{ℕ, zero, suc}
use mathlib.Core.Path.{◌≡◌, refl, sym, ◌∙◌, ap}
use mathlib.Core.List.{List, [], ◌∷◌, ◌++◌, map, append_assoc, map-append, flatten}
use mathlib.Core.Option.{some}
use mathlib.Core.Bool.{true}
use lib.ListN.{length, take, drop}
use Rattle.reader.specs.Outcome.{fits}
use Rattle.line_reader.specs.Cut.{lf, lines_of, lfs, to_first, from_last}
use Rattle.line_reader.specs.Book.{Call, Turn, line_tape, room, by_book, play, book}
use Rattle.line_reader.specs.Damage.{Written, joined_text, as_written, before, between, behind_run, damaged}
use Rattle.line_reader.proofs.CutLaws.{cut_line, cut-damaged, lines_lie, lines_follow}
use Rattle.line_reader.proofs.BookLaws.{book-length}

-- ---- written values

-- a written value is one line, read by the grammar to its tape, which a buffer of n bytes holds
pub record Reads (n : ℕ) (w : Written) : Type 0 where
  pub body : List ℕ
  pub is : w.line ≡ body ++ lf ∷ []
  pub only : lfs body ≡ 0
  pub reads : line_tape w.line ≡ some w.tape
  pub holds : fits w.tape n ≡ true

abbrev pub All : {A : Type 0} → (A → Type 0) → List A → Type 0
All P [] = Unit {0}
All P (x ∷ xs) = P x × All P xs

all_take : {A : Type 0} (P : A → Type 0) (n : ℕ) (xs : List A) → All P xs → All P (take n xs)
all_take P zero xs a = tt
all_take P (suc n) [] a = tt
all_take P (suc n) (x ∷ xs) a = (a.0, all_take P n xs a.1)

all_drop : {A : Type 0} (P : A → Type 0) (n : ℕ) (xs : List A) → All P xs → All P (drop n xs)
all_drop P zero xs a = a
all_drop P (suc n) [] a = tt
all_drop P (suc n) (x ∷ xs) a = all_drop P n xs a.1

map-take : {A B : Type 0} (f : A → B) (n : ℕ) (xs : List A) → take n (map f xs) ≡ map f (take n xs)
map-take f zero xs = refl
map-take f (suc n) [] = refl
map-take {B = B} f (suc n) (x ∷ xs) = ap (λ (ys : List B). f x ∷ ys) (map-take f n xs)

map-drop : {A B : Type 0} (f : A → B) (n : ℕ) (xs : List A) → drop n (map f xs) ≡ map f (drop n xs)
map-drop f zero xs = refl
map-drop f (suc n) [] = refl
map-drop f (suc n) (x ∷ xs) = map-drop f n xs

abbrev pub line_of : Written → List ℕ
line_of w = w.line

-- the lines joined are cut into these lines again
pub cut-joined : (n : ℕ) (ws : List Written) → All (Reads n) ws → lines_of (joined_text ws) ≡ map line_of ws
unfolding flatten lines_of
cut-joined n [] a = refl
cut-joined n (w ∷ ws) a =
    let r = a.0 in
    rw (r.is, append_assoc r.body (lf ∷ []) (joined_text ws), cut_line r.body (joined_text ws) r.only)
    (ap (λ (ls : List (List ℕ)). (r.body ++ lf ∷ []) ∷ ls) (cut-joined n ws a.1))

-- The lines before, joined, are the head up to its last LF; those behind are the tail from behind its first.
pub before-behind : (n : ℕ) (ws : List Written) → All (Reads n) ws → (head run tail : List ℕ) → joined_text ws ≡ head ++ run ++ tail
    → (joined_text (before ws head) ++ from_last head ≡ head) × (to_first tail ++ joined_text (behind_run ws head run) ≡ tail)
unfolding before behind_run
before-behind n ws a head run tail e =
    let lines : map line_of ws ≡ lines_of (head ++ run ++ tail) = sym (cut-joined n ws a) ∙ ap lines_of e in (
      rw (← map-take line_of (lfs head) ws, lines, append_assoc head run tail) (lines_lie head (run ++ tail)),
      rw (← map-drop line_of (suc (lfs (head ++ run))) ws, lines) (lines_follow (head ++ run) tail),
    )

-- ---- turns that agree

-- two turns that agree at every buffer of n bytes, and keep that length
record Same (n : ℕ) (f g : Turn) : Type 0 where
  same : (at : ℕ) (buf : List ℕ) → length buf ≡ n → f at buf ≡ g at buf
  keeps : (at : ℕ) (buf : List ℕ) → length buf ≡ n → length (f at buf).buf ≡ n

data Like (n : ℕ) : List Turn → List Turn → Type 0 where
  like_nil : Like n [] []
  like_more : {f g : Turn} {fs gs : List Turn} → Same n f g → Like n fs gs → Like n (f ∷ fs) (g ∷ gs)

play_like : {n : ℕ} {fs gs : List Turn} (k at : ℕ) (buf : List ℕ) → length buf ≡ n → Like n fs gs → play k fs at buf ≡ play k gs at buf
unfolding play
play_like zero at buf h l = refl
play_like (suc k) at buf h like_nil = refl
play_like (suc k) at buf h (like_more {f} {g} {fs} {gs} s l) =
    rw (← s.same at buf h) (ap (λ (cs : List Call). f at buf ∷ cs) (play_like k (f at buf).at (f at buf).buf (s.keeps at buf h) l))

like_append : {n : ℕ} {fs gs fs' gs' : List Turn} → Like n fs gs → Like n fs' gs' → Like n (fs ++ fs') (gs ++ gs')
like_append like_nil l' = l'
like_append (like_more s l) l' = like_more s (like_append l l')

like_book : (n : ℕ) (ls : List (List ℕ)) → Like n (map by_book ls) (map by_book ls)
like_book n [] = like_nil
like_book n (l ∷ ls) = like_more record { same = λ at buf h. refl; keeps = λ at buf h. book-length l at buf ∙ h } (like_book n ls)

-- a written line by the book is as written
book-written : (n : ℕ) (w : Written) → Reads n w → (at : ℕ) (buf : List ℕ) → length buf ≡ n → by_book w.line at buf ≡ as_written w at buf
unfolding by_book room as_written
book-written n w r at buf h = rw (r.reads, h, r.holds)

like_written : (n : ℕ) (ws : List Written) → All (Reads n) ws → Like n (map by_book (map line_of ws)) (map as_written ws)
like_written n [] a = like_nil
like_written n (w ∷ ws) a = like_more record { same = book-written n w a.0; keeps = λ at buf h. book-length w.line at buf ∙ h } (like_written n ws a.1)

-- ---- demand 3

-- A text of written values is answered as written, line by line.
pub undamaged : (ws : List Written) (buf : List ℕ) → All (Reads (length buf)) ws → (n : ℕ) → book n (joined_text ws) buf ≡ play n (map as_written ws) 0 buf
unfolding book
undamaged ws buf a n = rw (cut-joined (length buf) ws a) (play_like n 0 buf refl (like_written (length buf) ws a))

-- Of a text of written values one run is replaced: every list of calls is answered, by the book, as `damaged` says.
pub demand : (ws : List Written) (buf : List ℕ) → All (Reads (length buf)) ws → (head run new tail : List ℕ) → joined_text ws ≡ head ++ run ++ tail
    → (n : ℕ) → book n (head ++ new ++ tail) buf ≡ play n (damaged ws head run new tail) 0 buf
unfolding book damaged before between behind_run
demand ws buf a head run new tail e n =
    let m : ℕ = length buf in
    let k : ℕ = lfs head in
    let l : ℕ = suc (lfs (head ++ run)) in
    rw (cut-damaged head run new tail, ← e, cut-joined m ws a, map-take, map-drop, map-append, map-append)
    (play_like n 0 buf refl
    (like_append (like_append (like_written m (take k ws) (all_take (Reads m) k ws a)) (like_book m (lines_of (from_last head ++ new ++ to_first tail))))
    (like_written m (drop l ws) (all_drop (Reads m) l ws a))))
