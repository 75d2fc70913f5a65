-- The calls by offsets are the book's: `calls-book`. Assumes nothing.
use Prim.Native.Nat.{ℕ, zero, suc, ◌+◌, ◌-◌, ◌≤◌, ◌<◌, min}
use mathlib.Core.Path.{◌≡◌, refl, sym, ◌∙◌, ap}
use mathlib.Core.List.{List, [], ◌∷◌, ◌++◌, map}
use mathlib.Core.Option.{Option, some, none}
use mathlib.Core.Bool.{Bool, true, false}
use native.Mathlib.Omega.{arith}
use borrow.Author.Tests.{lt-ltb, le-ltb, eq-eqb, ne_eqb, leb-true}
use lib.ListN.{length, take, drop, length-append, length-drop, length-replicate}
use lib.Seq.{drop-drop, drop-append_seam, take_at, get_or_at}
use Rattle.output.specs.Logic.{if, on, then}
use Rattle.tokens.specs.Quoted.{strict_raw}
use Rattle.reader.specs.Grammar.{meaning}
use Rattle.reader.specs.Outcome.{fits, zeros}
use Rattle.line_reader.specs.Cut.{lf, lines_of, to_first}
use Rattle.line_reader.specs.Book.{Call, Turn, success, failure, end_mark, ends_in_lf, single, line_tape, room, by_book, play, book}
use Rattle.line_reader.specs.Calls.{past_text, step, calls}
use Rattle.line_reader.proofs.CutLaws.{after_first, cut-first, first-after}

-- ---- one call, by its three ways

pub step_past : (text : List ℕ) (at : ℕ) (buf : List ℕ) → length text < at → step text at buf ≡ past_text at buf
unfolding step
step_past text at buf h = rw (lt-ltb (length text) at h)

pub step_end : (text : List ℕ) (at : ℕ) (buf : List ℕ) → at ≡ length text → step text at buf ≡ end_mark at buf
unfolding step
step_end text at buf h = rw (le-ltb (length text) at (omega arith), eq-eqb at (length text) h)

pub step_line : (text : List ℕ) (at : ℕ) (buf : List ℕ) → at < length text → step text at buf ≡ by_book (to_first (drop at text)) at buf
unfolding step
step_line text at buf h = rw (le-ltb (length text) at (omega arith), ne_eqb at (length text) (λ z. omega arith))

-- ---- the book's turn for a line

-- bytes and LF: the line's tape is that of the one node that the bytes mean
pub line-tape : (u : List ℕ) → line_tape (u ++ lf ∷ []) ≡ then (meaning strict_raw u) single
unfolding line_tape ends_in_lf
line-tape u =
    let n : length u ≡ length (u ++ lf ∷ []) - 1 = omega (arith, length-append u (lf ∷ [])) in
    rw (get_or_at u lf [] 0 (length (u ++ lf ∷ []) - 1) n, take_at u (lf ∷ []) (length (u ++ lf ∷ []) - 1) n)

-- it steps past the line
pub book-at : (l : List ℕ) (at : ℕ) (buf : List ℕ) → (by_book l at buf).at ≡ at + length l
unfolding by_book room success failure
book-at l at buf = go (line_tape l)
  where
    go : (o : Option (List ℕ)) → (on o (λ t. if (fits t (length buf)) (success l t at buf) (failure 9 l at buf)) (failure 8 l at buf)).at ≡ at + length l
    go none = refl
    go (some t) = held (fits t (length buf))
      where
        held : (q : Bool) → (if q (success l t at buf) (failure 9 l at buf)).at ≡ at + length l
        held true = refl
        held false = refl

-- and keeps the buffer's length
pub book-length : (l : List ℕ) (at : ℕ) (buf : List ℕ) → length (by_book l at buf).buf ≡ length buf
unfolding by_book room success failure fits zeros
book-length l at buf = go (line_tape l)
  where
    go : (o : Option (List ℕ)) → length (on o (λ t. if (fits t (length buf)) (success l t at buf) (failure 9 l at buf)) (failure 8 l at buf)).buf ≡ length buf
    go none = search length-replicate
    go (some t) = held (fits t (length buf)) refl
      where
        held : (q : Bool) → fits t (length buf) ≡ q → length (if q (success l t at buf) (failure 9 l at buf)).buf ≡ length buf
        held true e = simp (length-append, length-drop) (omega (arith, leb-true (length t) (min (length buf) 1048576) e))
        held false e = simp (length-replicate {A = ℕ})

-- ---- every list of calls

-- what is left behind the next line
behind-line : (text : List ℕ) (at b : ℕ) (t : List ℕ) → drop at text ≡ b ∷ t → drop (at + length (to_first (b ∷ t))) text ≡ after_first (b ∷ t)
behind-line text at b t e =
    sym (drop-drop (length (to_first (b ∷ t))) at text) ∙ ap (drop (length (to_first (b ∷ t)))) (e ∙ sym (first-after (b ∷ t))) ∙ drop-append_seam (to_first (b ∷ t)) (after_first (b ∷ t))

within : (text : List ℕ) (at b : ℕ) (t : List ℕ) → at ≤ length text → drop at text ≡ b ∷ t → at + length (to_first (b ∷ t)) ≤ length text
within text at b t h e =
    let n : length (to_first (b ∷ t)) + length (after_first (b ∷ t)) ≡ length text - at = sym (length-append (to_first (b ∷ t)) (after_first (b ∷ t))) ∙ ap length (first-after (b ∷ t) ∙ sym e) ∙ length-drop at text in
    omega arith

-- n calls from an offset are the book's on what is left of the text
pub calls-from : (n : ℕ) (text : List ℕ) (at : ℕ) (buf : List ℕ) → at ≤ length text → calls n text at buf ≡ play n (map by_book (lines_of (drop at text))) at buf
unfolding calls play lines_of end_mark by_book to_first
calls-from zero text at buf h = refl
calls-from (suc n) text at buf h = go (calls-from n text) (drop at text) refl
  where
    go : ((at : ℕ) (buf : List ℕ) → at ≤ length text → calls n text at buf ≡ play n (map by_book (lines_of (drop at text))) at buf)
        → (r : List ℕ) → drop at text ≡ r → calls (suc n) text at buf ≡ play (suc n) (map by_book (lines_of (drop at text))) at buf
    go ih [] e =
        let m : 0 ≡ length text - at = ap length (sym e) ∙ length-drop at text in
        rw (step_end text at buf (omega arith), e) (ap (λ (cs : List Call). end_mark at buf ∷ cs) (rw e at (ih at buf h)))
    go ih (b ∷ t) e =
        let now : List ℕ = (by_book (to_first (b ∷ t)) at buf).buf in
        let m : suc (length t) ≡ length text - at = ap length (sym e) ∙ length-drop at text in
        rw (step_line text at buf (omega arith), e, cut-first b t, book-at)
        (ap (λ (cs : List Call). by_book (to_first (b ∷ t)) at buf ∷ cs)
        (rw (behind-line text at b t e) at (ih (at + length (to_first (b ∷ t))) now (within text at b t h e))))

-- EVERY LIST OF CALLS from a fresh session is the book's: each answer, offset and whole buffer
pub calls-book : (n : ℕ) (text buf : List ℕ) → calls n text 0 buf ≡ book n text buf
unfolding book
calls-book n text buf = calls-from n text 0 buf (omega arith)

-- ---- calls more or fewer

play_begins : (k n : ℕ) (ts : List Turn) (at : ℕ) (buf : List ℕ) → k ≤ n → take k (play n ts at buf) ≡ play k ts at buf
unfolding play
play_begins zero n ts at buf h = refl
play_begins (suc k) zero ts at buf h = absurd (omega arith)
play_begins (suc k) (suc n) [] at buf h = ap (λ (cs : List Call). end_mark at buf ∷ cs) (play_begins k n [] at buf (omega arith))
play_begins (suc k) (suc n) (t ∷ ts) at buf h = ap (λ (cs : List Call). t at buf ∷ cs) (play_begins k n ts (t at buf).at (t at buf).buf (omega arith))

-- The first k of n calls are the k calls, so that what k calls leave is what n calls leave after k of them.
pub book_begins : (k n : ℕ) (text buf : List ℕ) → k ≤ n → take k (book n text buf) ≡ book k text buf
unfolding book
book_begins k n text buf h = play_begins k n (map by_book (lines_of text)) 0 buf h
