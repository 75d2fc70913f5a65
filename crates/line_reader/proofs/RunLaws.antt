-- The loop of `read_lines`: what is known after some calls, `Upto`, and that one call more keeps it; and the last call of what it hands out.
-- Assumes nothing.
use Prim.Native.Nat.{ℕ, zero, suc, ◌+◌, ◌-◌, ◌≤◌, ◌<◌}
use mathlib.Core.Path.{◌≡◌, refl, sym, ◌∙◌, ap}
use mathlib.Core.List.{List, [], ◌∷◌, ◌++◌, map, map-append, append-nil}
use native.Mathlib.Numerals.{add-one}
use native.Mathlib.Omega.{arith}
use borrow.Author.Tests.{le-leb, lt-leb}
use lib.ListN.{length, get_or, drop, set, length-append, length-map, length-drop, drop_of_length-le, get_or-map}
use lib.Seq.{drop-cons, set_at, append_snoc}
use Rattle.tape.specs.Answer.{Outcome, outcome}
use Rattle.tape.specs.declared.answer.Answer.{Answer}
use Rattle.tape.specs.declared.answer.Answer.TheVariants.{End}
use Rattle.line_reader.specs.Book.{Call, end_mark, play, book}
use Rattle.line_reader.specs.Calls.{step, calls, called, answer_and_offset, handed_out, last_call, Ran, nth_call}
use Rattle.line_reader.specs.declared.Called.{Called}
use Rattle.line_reader.proofs.BookLaws.{calls-book}

-- one call more is made from what the calls before it left
calls_more : (text : List ℕ) (n : ℕ) (c : Call) → calls (suc n) text c.at c.buf
    ≡ calls n text c.at c.buf ++ (step text (last_call c (calls n text c.at c.buf)).at (last_call c (calls n text c.at c.buf)).buf ∷ [])
unfolding calls last_call
calls_more text zero c = refl
calls_more text (suc n) c = ap (λ (cs : List Call). step text c.at c.buf ∷ cs) (calls_more text n (step text c.at c.buf))

last_snoc : (c : Call) (cs : List Call) (d : Call) → last_call c (cs ++ (d ∷ [])) ≡ d
unfolding last_call
last_snoc c [] d = refl
last_snoc c (x ∷ cs) d = last_snoc x cs d

-- an entry that holds no call
abbrev pub no_call : Called
no_call = record { answer = End; at = 0 }

module _ (text buf₀ : List ℕ) (room : List Called) where
  -- the calls that were made: their number, answers and offsets, and the offset and the buffer that they left
  pub record Upto : Type 0 where
    pub count : ℕ
    pub at : ℕ
    pub buf : List ℕ
    pub made : List Called
    pub small : count ≤ length room
    pub made_long : length made ≡ count
    pub buf_long : length buf ≡ length buf₀
    pub made_are : map handed_out made ≡ map answer_and_offset (calls count text 0 buf₀)
    pub at-is : at ≡ (last_call (end_mark 0 buf₀) (calls count text 0 buf₀)).at
    pub buf_is : buf ≡ (last_call (end_mark 0 buf₀) (calls count text 0 buf₀)).buf

  -- the whole list of entries: those of the calls that were made, and what was there
  abbrev pub stored : Upto → List Called
  stored u = u.made ++ drop u.count room

  pub stored_long : (u : Upto) → length (stored u) ≡ length room
  stored_long u = length-append u.made (drop u.count room) ∙ omega (arith, u.made_long, u.small, length-drop u.count room)

  pub no_calls : (map handed_out [] ≡ map answer_and_offset (calls 0 text 0 buf₀)) × (0 ≡ (last_call (end_mark 0 buf₀) (calls 0 text 0 buf₀)).at) × (buf₀ ≡ (last_call (end_mark 0 buf₀) (calls 0 text 0 buf₀)).buf)
  unfolding calls last_call end_mark
  no_calls = (refl, refl, refl)

  abbrev pub upto-none : Upto
  upto-none = record {
    count = 0;
    at = 0;
    buf = buf₀;
    made = [];
    small = omega arith;
    made_long = refl;
    buf_long = refl;
    made_are = no_calls.0;
    at-is = no_calls.1;
    buf_is = no_calls.2;
  }

  calls-first : (n : ℕ) → calls (suc n) text 0 buf₀
      ≡ calls n text 0 buf₀ ++ (step text (last_call (end_mark 0 buf₀) (calls n text 0 buf₀)).at (last_call (end_mark 0 buf₀) (calls n text 0 buf₀)).buf ∷ [])
  unfolding end_mark
  calls-first n = calls_more text n (end_mark 0 buf₀)

  module _ (u : Upto) (h : u.count < length room) (r : Answer) (at : ℕ) (buf : List ℕ) (l : length buf ≡ length u.buf) (e : called r at buf ≡ step text u.at u.buf) where
    -- the new entry
    abbrev pub entry : Called
    entry = record { answer = r; at = at }

    calls-next : calls (u.count + 1) text 0 buf₀ ≡ calls u.count text 0 buf₀ ++ (called r at buf ∷ [])
    calls-next = rw (add-one u.count, calls-first, ← u.at-is, ← u.buf_is, ← e)

    pub next-entries : map handed_out (u.made ++ (entry ∷ [])) ≡ map answer_and_offset (calls (u.count + 1) text 0 buf₀)
    unfolding called
    next-entries =
        rw (calls-next, map-append handed_out u.made (entry ∷ []), map-append answer_and_offset (calls u.count text 0 buf₀) (called r at buf ∷ []))
        (ap (λ (os : List (Outcome × ℕ)). os ++ ((outcome r, at) ∷ [])) u.made_are)

    pub next-at : at ≡ (last_call (end_mark 0 buf₀) (calls (u.count + 1) text 0 buf₀)).at
    unfolding called
    next-at = rw (calls-next, last_snoc)

    pub next_buf : buf ≡ (last_call (end_mark 0 buf₀) (calls (u.count + 1) text 0 buf₀)).buf
    unfolding called
    next_buf = rw (calls-next, last_snoc)

    abbrev pub upto_more : Upto
    upto_more = record {
      count = u.count + 1;
      at = at;
      buf = buf;
      made = u.made ++ (entry ∷ []);
      small = omega arith;
      made_long = length-append u.made (entry ∷ []) ∙ omega (arith, u.made_long);
      buf_long = l ∙ u.buf_long;
      made_are = next-entries;
      at-is = next-at;
      buf_is = next_buf;
    }

    pub stored_more : set (stored u) u.count entry ≡ stored upto_more
    stored_more =
        ap (λ (l : List Called). set (u.made ++ l) u.count entry) (drop-cons room u.count no_call h)
        ∙ set_at u.made (get_or room u.count no_call) (drop (suc u.count) room) entry u.count u.made_long
        ∙ sym (append_snoc u.made entry (drop (suc u.count) room))
        ∙ rw (← add-one u.count)

  -- at the end all is told
  pub upto_ran : (u : Upto) → u.count ≡ length room → Ran (book (length room) text buf₀) buf₀ (stored u) u.at u.buf
  upto_ran u h =
      let is : calls u.count text 0 buf₀ ≡ book (length room) text buf₀ = ap (λ (n : ℕ). calls n text 0 buf₀) h ∙ calls-book (length room) text buf₀ in
      record {
        calls_are = rw (drop_of_length-le room {i = u.count} (omega arith), append-nil) (u.made_are ∙ ap (map answer_and_offset) is);
        at-is = u.at-is ∙ ap (λ (cs : List Call). (last_call (end_mark 0 buf₀) cs).at) is;
        buf_is = u.buf_is ∙ ap (λ (cs : List Call). (last_call (end_mark 0 buf₀) cs).buf) is;
      }

-- ---- the last call

last-is : (c d : Call) (cs : List Call) (n : ℕ) → length cs ≡ suc n → last_call c cs ≡ get_or cs n d
unfolding last_call
last-is c d [] n h = absurd (omega arith)
last-is c d (x ∷ []) zero h = refl
last-is c d (x ∷ []) (suc n) h = absurd (omega arith)
last-is c d (x ∷ y ∷ cs) zero h = absurd (omega arith)
last-is c d (x ∷ y ∷ cs) (suc n) h = last-is x d (y ∷ cs) n (omega arith)

-- what n calls hand out tells the n-th
pub last-told : (cs : List Call) (buf : List ℕ) (n : ℕ) (es : List Called) (at : ℕ) (last : List ℕ) → 1 ≤ n → length es ≡ n → Ran cs buf es at last
    → called (get_or es (n - 1) no_call).answer (get_or es (n - 1) no_call).at last ≡ last_call (end_mark 0 buf) cs
unfolding called end_mark
last-told cs buf n es at last h l r =
    let x : Call = end_mark 0 buf in
    let k : length cs ≡ suc (n - 1) = sym (length-map cs answer_and_offset) ∙ sym (ap length r.calls_are) ∙ length-map es handed_out ∙ omega arith in
    let same : handed_out (get_or es (n - 1) no_call) ≡ answer_and_offset (last_call x cs) =
    sym (get_or-map handed_out es (n - 1) no_call) ∙ ap (λ (os : List (Outcome × ℕ)). get_or os (n - 1) (answer_and_offset x)) r.calls_are
    ∙ get_or-map answer_and_offset cs (n - 1) x ∙ ap answer_and_offset (sym (last-is x x cs (n - 1) k)) in
    λ i. record { answer = (same i).0; at = (same i).1; buf = r.buf_is i }

-- ---- the call of a number

-- no call is made for 0, and none for more than 32
pub nth-none : (n : ℕ) (text buf : List ℕ) → n ≡ 0 → called End 0 buf ≡ nth_call n text buf
unfolding nth_call last_call book play called end_mark
nth-none n text buf h = rw h

pub nth-many : (n : ℕ) (text buf : List ℕ) → 32 < n → called End 0 buf ≡ nth_call n text buf
unfolding nth_call last_call book play called end_mark
nth-many n text buf h = rw (lt-leb n 32 h)

pub nth-some : (n : ℕ) (text buf : List ℕ) → n ≤ 32 → last_call (end_mark 0 buf) (book n text buf) ≡ nth_call n text buf
unfolding nth_call
nth-some n text buf h = rw (le-leb n 32 h)
