-- What `line_end`, `ends_in_lf`, `read_line` and `line_at` need: the next LF from a place on, and the book's turn for a line, by its ways. Assumes nothing.
use Prim.Native.Nat.{ℕ, ◌+◌, ◌-◌, ◌≤◌, ◌<◌, min}
use mathlib.Core.Path.{◌≡◌, refl, sym}
use mathlib.Core.List.{List, [], ◌∷◌, ◌++◌}
use mathlib.Core.Bool.{true, false}
use mathlib.Core.Option.{none, some}
use native.Mathlib.Numerals.{add-one}
use native.Mathlib.Omega.{arith}
use borrow.Author.Tests.{eq-eqb, ne_eqb}
use lib.ListN.{length, get_or, take, drop, replicate, drop_of_length-le}
use lib.Seq.{drop-cons}
use Rattle.tape.specs.Tree.{Nodes, nil, more, size, tape}
use Rattle.tape.specs.declared.answer.Answer.{Answer}
use Rattle.tape.specs.declared.answer.Answer.TheVariants.{Count, OutsideGrammar, TapeTooLong}
use Rattle.tokens.specs.Quoted.{strict_raw}
use Rattle.reader.specs.Grammar.{meaning}
use Rattle.reader.specs.Outcome.{zeros}
use Rattle.reader.specs.Steps.{Laid}
use Rattle.reader.proofs.Whole.{tape_long, tape-fits}
use Rattle.line_reader.specs.Cut.{lf, to_first}
use Rattle.line_reader.specs.Book.{success, failure, ends_in_lf, single, line_tape, room, by_book}
use Rattle.line_reader.specs.Calls.{called, step}
use Rattle.line_reader.proofs.CutLaws.{take-first}
use Rattle.line_reader.proofs.BookLaws.{step_line}

module _ (t : List ℕ) (i : ℕ) where
  pub first_found : i < length t → get_or t i 0 ≡ lf → i + length (to_first (drop i t)) ≡ i + 1
  unfolding to_first
  first_found h e = rw (drop-cons t i 0 h, eq-eqb (get_or t i 0) lf e)

  pub first_more : i < length t → (get_or t i 0 ≡ lf → ⊥) → i + length (to_first (drop i t)) ≡ i + 1 + length (to_first (drop (i + 1) t))
  unfolding to_first
  first_more h e = rw (add-one, drop-cons t i 0 h, ne_eqb (get_or t i 0) lf e) (omega arith)

  pub first-none : length t ≤ i → i + length (to_first (drop i t)) ≡ i
  unfolding to_first
  first-none h = rw (drop_of_length-le t h) (omega arith)

-- a line that ends in LF has a byte
pub ends_long : (line : List ℕ) → ends_in_lf line ≡ true → 1 ≤ length line
unfolding ends_in_lf
ends_long [] e = let z : ◌≡◌ {A = ℕ} 0 1 = cc in omega arith
ends_long (b ∷ line) e = omega arith

-- and no bytes do not end in one
pub ends-none : (line : List ℕ) → length line ≡ 0 → false ≡ ends_in_lf line
unfolding ends_in_lf
ends-none [] e = refl
ends-none (b ∷ line) e = absurd (omega arith)

-- nodes that are not one, or are
single-other : (ns : Nodes) → (size ns ≡ 1 → ⊥) → single ns ≡ none
unfolding single size
single-other nil h = refl
single-other (more h n nil) e = absurd (e refl)
single-other (more h n (more h' n' ns)) e = refl

single_one : (ns : Nodes) → size ns ≡ 1 → single ns ≡ some (tape ns)
unfolding single size
single_one nil e = absurd (omega arith)
single_one (more h n nil) e = refl
single_one (more h n (more h' n' ns)) e = absurd (omega arith)

module _ (line : List ℕ) (at : ℕ) (buf : List ℕ) where
  -- a line that is not one value or marker and LF
  book-other : (last : List ℕ) → last ≡ replicate (length buf) 0 → line_tape line ≡ none → by_book line at buf ≡ called OutsideGrammar (at + length line) last
  unfolding by_book failure called zeros
  book-other last z e = rw (e, z)

  pub book_open : (last : List ℕ) → last ≡ replicate (length buf) 0 → ends_in_lf line ≡ false → by_book line at buf ≡ called OutsideGrammar (at + length line) last
  unfolding line_tape
  book_open last z e = book-other last z (rw e)

  module _ (e : ends_in_lf line ≡ true) where
    pub book-none : (last : List ℕ) → last ≡ replicate (length buf) 0 → meaning strict_raw (take (length line - 1) line) ≡ none → by_book line at buf ≡ called OutsideGrammar (at + length line) last
    unfolding line_tape
    book-none last z m = book-other last z (rw (e, m))

    module _ (ns : Nodes) (m : meaning strict_raw (take (length line - 1) line) ≡ some ns) where
      pub book_several : (last : List ℕ) → last ≡ replicate (length buf) 0 → (size ns ≡ 1 → ⊥) → by_book line at buf ≡ called OutsideGrammar (at + length line) last
      unfolding line_tape
      book_several last z s = book-other last z (rw (e, m) (single-other ns s))

      line_one : size ns ≡ 1 → line_tape line ≡ some (tape ns)
      unfolding line_tape
      line_one s = rw (e, m) (single_one ns s)

      module _ (s : size ns ≡ 1) (l n : ℕ) (part : List ℕ) (lim : l ≡ min (length buf) 1_048_576) (w : Laid (take l buf) part 0 n (tape ns)) where
        pub book_long : (last : List ℕ) → last ≡ replicate (length buf) 0 → l < n → by_book line at buf ≡ called TapeTooLong (at + length line) last
        unfolding by_book room failure called zeros
        book_long last z h = rw (line_one s, tape_long buf l n part ns lim w h, z)

        pub book-laid : n ≤ l → by_book line at buf ≡ called (Count n) (at + length line) (part ++ drop l buf)
        unfolding by_book room success called
        book-laid h =
            let f = tape-fits buf l n part ns lim w h in
            rw (line_one s, f.0, f.1, f.2)

-- what is read of the part from the offset to the next line's end, the step answers
pub step_read : (text : List ℕ) (at : ℕ) (buf : List ℕ) (end : ℕ) (answer : Answer) (last : List ℕ) → at < length text → end ≡ at + length (to_first (drop at text))
    → by_book (take (end - at) (drop at text)) at buf ≡ called answer (at + length (take (end - at) (drop at text))) last → called answer end last ≡ step text at buf
step_read text at buf end answer last h e r =
    let size : end - at ≡ length (to_first (drop at text)) = omega arith in
    rw (step_line text at buf h, e) (sym (rw (size, take-first (drop at text)) at r))
