-- `listing::decode::decode` meets its contract. The invariant: the bytes so far, and behind them what is spelled from the place on, are all that is
-- spelled; the rest of the buffer is as it was. Assumes nothing.
use Prim.Native.Nat.{ℕ, ◌+◌}
use native.Mathlib.Numerals.{add-one}
use mathlib.Core.Path.{◌≡◌, ap, sym, ◌∙◌}
use mathlib.Core.List.{List, [], ◌∷◌, ◌++◌, append-nil}
use native.Mathlib.Omega.{arith}
use lib.ListN.{length, take, drop, set, length-take, length-set, take-append-drop}
use lib.Seq.{take-suc-set, drop-set-lt, drop-drop}
use Rattle.listing.specs.Spelling.{bytes_of}
use Rattle.listing.proofs.Spelled.{behind, behind_more, bytes-end, bytes-none, bytes_one, nothing, too_many, whole}
use Rattle.listing.proofs.decode.decode.Goals as goal

pub returns-in_err-b : goal.returns-in_err-b
returns-in_err-b c =
    let l = c.loop-at in
    let a = c.args in
    let h = (rw c.in_err-b.was at c.one_at.ensures).told in
    rw (c.from_residual.ensures, l.invariant.4, bytes-none a.form a.said.now l.at c.loop-at-test.true h) (nothing _ _)

pub returns-then-out-n : goal.returns-then-out-n
returns-then-out-n c =
    let l = c.loop-at in
    let a = c.args in
    let h = (rw c.in_ok-b.was at c.one_at.ensures).told in
    let n = length-take l.n l.out in
    rw (l.invariant.4, bytes_one a.form a.said.now l.at _ _ h.1 h.2 h.0) (too_many (take l.n l.out) c.in_ok-b.b (bytes_of a.form 0 (drop c.in_ok-b.next a.said.now)) _ _ (omega arith))

pub loop-at-preserved : goal.loop-at-preserved
loop-at-preserved c =
    let l = c.loop-at in
    let a = c.args in
    let h = (rw c.in_ok-b.was at c.one_at.ensures).told in
    let n = length-set l.out l.n c.in_ok-b.b in
    let o = bytes_of a.form 0 (drop c.in_ok-b.next a.said.now) in
    let w : take l.n l.out ++ (c.in_ok-b.b ∷ []) ≡ take (l.n + 1) (set l.out l.n c.in_ok-b.b) = rw (add-one l.n) (sym (take-suc-set l.out l.n c.in_ok-b.b (omega arith))) in
    let e : drop (l.n + 1) l.out ≡ drop (l.n + 1) a.out.now = sym (drop-drop 1 l.n l.out) ∙ ap (drop 1) l.invariant.3 ∙ drop-drop 1 l.n a.out.now in (
      h.2,
      omega arith,
      omega arith,
      drop-set-lt (l.n + 1) l.out l.n _ (omega arith) ∙ e,
      l.invariant.4
          ∙ ap (behind (take l.n l.out)) (bytes_one a.form a.said.now l.at _ _ h.1 h.2 h.0)
          ∙ behind_more (take l.n l.out) c.in_ok-b.b o
          ∙ ap (λ (d : List ℕ). behind d o) w,
    )

pub returns : goal.returns
returns c =
    let l = c.loop-at in
    let a = c.args in
    let d = take l.n l.out in
    let n : length d ≡ l.n = length-take l.n l.out ∙ omega arith in
    rw (l.invariant.4, bytes-end a.form a.said.now l.at c.loop-at-test.false, append-nil d) (rw n at (whole d a.out.now l.out (omega arith) (rw (n, ← l.invariant.3) (sym (take-append-drop l.n l.out)))))
