-- `line_reader::last_call` meets its contract: the entry of the n-th of the calls that were made. Assumes nothing.
use Rattle.std.proofs.Common.{◌≡◌, ℕ, ◌-◌, ◌<◌, ◌≤◌, List, ◌++◌, take, drop, length, get_or, arith, ap, subst, ◌∙◌}
use Rattle.std.proofs.Math.ListN.{get_or-append}
use Rattle.std.proofs.Math.Seq.{length-take-le}
use Rattle.std.proofs.lemmas.List.{get_or_default}
use Rattle.line_reader.specs.Book.{end_mark, book}
use Rattle.line_reader.specs.Calls.{called, Ran, last_call}
use Rattle.line_reader.specs.declared.Called.{Called}
use Rattle.line_reader.proofs.RunLaws.{no_call, last-told}
use Rattle.line_reader.proofs.last_call.Goals as goal

-- the entries are the calls made and, behind them, what was there
last_entry : (text buf last : List ℕ) (at n : ℕ) (room zs : List Called) (d : Called) → 1 ≤ n → n ≤ length room → length zs ≡ length (take n room) → Ran (book (length (take n room)) text buf) buf zs at last
    → called (get_or (zs ++ drop n room) (n - 1) d).answer (get_or (zs ++ drop n room) (n - 1) d).at last ≡ last_call (end_mark 0 buf) (book n text buf)
last_entry text buf last at n room zs d some few long ran =
    let k : length (take n room) ≡ n = length-take-le n room few in
    let l : length zs ≡ n = long ∙ k in
    let h : n - 1 < length zs = omega arith in
    let e : get_or (zs ++ drop n room) (n - 1) d ≡ get_or zs (n - 1) no_call = get_or-append zs (drop n room) d (n - 1) h ∙ get_or_default zs (n - 1) d no_call h in
    ap (λ (x : Called). called x.answer x.at last) e ∙ last-told (book n text buf) buf n zs at last some l (subst (λ (j : ℕ). Ran (book j text buf) buf zs at last) k ran)

pub returns : goal.returns
returns c = last_entry c.args.text.now c.args.out.now _ _ c.args.n _ _ _ c.requires.0 c.requires.1 c.read_lines.auto.calls c.read_lines.ensures
