-- What a whole read answers and leaves, in each of its three cases. Assumes nothing.
use Prim.Native.Nat.{ℕ, ◌≤◌, ◌<◌, min}
use mathlib.Core.Path.{◌≡◌, sym, ap, ◌∙◌}
use mathlib.Core.List.{List, ◌++◌, append_assoc}
use mathlib.Core.Option.{none, some}
use mathlib.Core.Bool.{true, false}
use native.Mathlib.Omega.{arith}
use lib.ListN.{length, take, drop, replicate, take-append-drop}
use lib.Seq.{drop-append-le, length-take-le}
use borrow.Author.Tests.{le-leb, lt-leb}
use Rattle.tokens.specs.Quoted.{strict_raw}
use Rattle.tape.specs.Tree.{Nodes, tape}
use Rattle.tape.specs.Answer.{counted, refused}
use Rattle.reader.specs.Grammar.{meaning}
use Rattle.reader.specs.Outcome.{fits, zeros, tape_answer, tape_leaves, answer, leaves}
use Rattle.reader.specs.Steps.{Laid}
use Rattle.reader.proofs.Laying.{laid-start}

-- a tape that was laid into the buffer's first l bytes is too long, or all of it stands at the buffer's start
module _ (b : List ℕ) (l n : ℕ) (part : List ℕ) (ns : Nodes) (lim : l ≡ min (length b) 1_048_576) (w : Laid (take l b) part 0 n (tape ns)) where
  pub tape_long : l < n → fits (tape ns) (length b) ≡ false
  unfolding fits
  tape_long h = lt-leb (length (tape ns)) (min (length b) 1_048_576) (omega (arith, w.count))

  pub tape-fits : n ≤ l → (fits (tape ns) (length b) ≡ true) × (n ≡ length (tape ns)) × (part ++ drop l b ≡ tape ns ++ drop (length (tape ns)) b)
  unfolding fits
  tape-fits h =
      let size-l : length (take l b) ≡ l = length-take-le l b (omega arith) in
      let k : n ≡ length (tape ns) = omega (arith, w.count) in
      let f : length (tape ns) ≤ length (take l b) = omega arith in
      let d : drop (length (tape ns)) (take l b) ++ drop l b ≡ drop (length (tape ns)) b = sym (drop-append-le (length (tape ns)) (take l b) (drop l b) f) ∙ ap (drop (length (tape ns))) (take-append-drop l b) in
      let g : part ++ drop l b ≡ tape ns ++ drop (length (tape ns)) b = ap (λ (x : List ℕ). x ++ drop l b) (laid-start w f (omega arith)) ∙ append_assoc (tape ns) (drop (length (tape ns)) (take l b)) (drop l b) ∙ ap (λ (x : List ℕ). tape ns ++ x) d in
      (le-leb (length (tape ns)) (min (length b) 1_048_576) (omega arith), k, g)

module _ (t b : List ℕ) where
  pub whole-none : meaning strict_raw t ≡ none → (refused 8 ≡ answer t (length b)) × (replicate (length b) 0 ≡ leaves t b)
  unfolding answer leaves zeros
  whole-none e = (rw e, rw e)

  module _ (l n : ℕ) (part : List ℕ) (ns : Nodes) (lim : l ≡ min (length b) 1_048_576) (e : meaning strict_raw t ≡ some ns) (w : Laid (take l b) part 0 n (tape ns)) where
    pub whole_long : l < n → (refused 9 ≡ answer t (length b)) × (replicate (length b) 0 ≡ leaves t b)
    unfolding answer leaves tape_answer tape_leaves zeros
    whole_long h =
        let f = tape_long b l n part ns lim w h in
        (rw (e, f), rw (e, f))

    pub whole-fits : n ≤ l → (counted n ≡ answer t (length b)) × (part ++ drop l b ≡ leaves t b)
    unfolding answer leaves tape_answer tape_leaves
    whole-fits h =
        let f = tape-fits b l n part ns lim w h in
        (rw (e, f.0, f.1), rw (e, f.0) f.2)
