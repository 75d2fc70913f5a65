-- `tape::check::check_nodes` meets its contract. The invariant: the nodes from `at` on are left, and what was gathered of those before. Assumes nothing.
use mathlib.Core.Path.{◌≡◌, sym, ap, subst, ◌∙◌}
use mathlib.Core.List.{List}
use mathlib.Core.Bool.{Bool, false, ◌||◌, or-false}
use native.Mathlib.Omega.{arith}
use lib.ListN.{length, get_or}
use Prim.Native.Nat.{ℕ, ◌+◌, ◌<◌, ◌≤◌}
use Rattle.tape.specs.Bytes.{part}
use Rattle.tape.specs.Tree.{encode_name}
use Rattle.tape.specs.Tape.{kind, name_of, notes_of, name_fault, walk}
use Rattle.tape.specs.Refusal.{annotated, noted, head_numbered, numbered}
use Rattle.tape.specs.Steps.{head_at}
use Rattle.tape.specs.CheckSteps.{whole, number_in, name_number_in, frame_of, notes_front}
use Rattle.tape.specs.declared.Frame.{Frame}
use Rattle.tape.specs.declared.answer.Fault.TheVariants as F
use Rattle.std.proofs.lemmas.Result.{err_from_is_err_and}
use Rattle.tape.proofs.Walking.{walk_end}
use Rattle.tape.proofs.Parts.{part_length, part-first}
use Rattle.tape.proofs.Reading.{name_sound}
use Rattle.tape.proofs.CodeReading.{notes-none}
use Rattle.tape.proofs.CodeFacts.{Ended, end_read, read_within, front-none}
use Rattle.tape.proofs.Turns.{HeadSeen, LeafSeen, TreeTurn, name-refused, notes-refused, notes-turn, end_refused, size-refused, size-turn, blob-refused, blob-turn, span-refused, span-turn, other-refused, marker_refused, marker_turn}
use Rattle.tape.proofs.CodeWalk.{Passed, passed_none, refuse, refuse_node, refuse_deep, pass, passed-all}
use Rattle.tape.proofs.Parts.{trailed}
use Rattle.tape.proofs.check.check_nodes.Reads as own
use Rattle.tape.proofs.check.+check_nodes.Lts-check_nodes as lts
use Rattle.tape.proofs.check.+check_nodes.Tie as tie
use Rattle.tape.proofs.check.behind_name.Reads as behind-name
use Rattle.tape.proofs.check.name_number.Reads as name-number
use Rattle.tape.proofs.check.notes_seen.Reads as notes-seen
use Rattle.tape.proofs.check.scalar_size.Reads as scalar_size
use Rattle.tape.proofs.check.size_fault.Reads as size-fault
use Rattle.tape.proofs.check.is_number.Reads as is_number
use Rattle.tape.proofs.check.span.Reads as span
use Rattle.tape.proofs.check.frame_of.Reads as frame-of
use Rattle.tape.proofs.check.is_free.Reads as is_free
use Rattle.tape.proofs.check.+check_nodes.Goals as goal
use Rattle.tape.proofs.check.+check_nodes.Goals.{then-tape-q-eq13+in-Some+else-front-end, else-tape-q-eq13}

abbrev callees : ℕ → lts.Claims
callees t = (
  behind-name.Asked,
  behind-name.Learnt,
  name-number.Asked,
  name-number.Learnt,
  notes-seen.Asked,
  notes-seen.Learnt,
  scalar_size.Asked,
  scalar_size.Learnt,
  size-fault.Asked,
  size-fault.Learnt,
  is_number.Asked,
  is_number.Learnt,
  span.Asked,
  span.Learnt,
  frame-of.Asked,
  frame-of.Learnt,
  goal.check_nodes-below t,
  own.Post,
  tie.Asked-check_nodes-9,
  tie.Learnt-check_nodes-9,
  tie.Asked-check_nodes-10,
  tie.Learnt-check_nodes-10,
  is_free.Asked,
  is_free.Learnt,
)

abbrev At-After-name_number : ℕ → Type 0
At-After-name_number t = lts.After-name_number (callees t) (goal.check_nodes-at t) own.Post goal.the-check_nodes-invariant-loop-at goal.the-check_nodes-decreases-loop-at (goal.the-clauses-check_nodes t)

abbrev At-Joined-tape-q-eq13 : ℕ → Type 0
At-Joined-tape-q-eq13 t = lts.Joined3 (callees t) (goal.check_nodes-at t) own.Post goal.the-check_nodes-invariant-loop-at goal.the-check_nodes-decreases-loop-at (goal.the-clauses-check_nodes t)

abbrev At-Else-n-lt2 : ℕ → Type 0
At-Else-n-lt2 t = lts.Else6 (callees t) (goal.check_nodes-at t) own.Post goal.the-check_nodes-invariant-loop-at goal.the-check_nodes-decreases-loop-at (goal.the-clauses-check_nodes t)

abbrev At-Else-n-eq0 : ℕ → Type 0
At-Else-n-eq0 t = lts.Else8 (callees t) (goal.check_nodes-at t) own.Post goal.the-check_nodes-invariant-loop-at goal.the-check_nodes-decreases-loop-at (goal.the-clauses-check_nodes t)

abbrev At-After-frame_of : ℕ → Type 0
At-After-frame_of t = lts.After-frame_of (callees t) (goal.check_nodes-at t) own.Post goal.the-check_nodes-invariant-loop-at goal.the-check_nodes-decreases-loop-at (goal.the-clauses-check_nodes t)

abbrev At-Else-n-eq0-2 : ℕ → Type 0
At-Else-n-eq0-2 t = lts.Else10 (callees t) (goal.check_nodes-at t) own.Post goal.the-check_nodes-invariant-loop-at goal.the-check_nodes-decreases-loop-at (goal.the-clauses-check_nodes t)

abbrev At-Then-is_free : ℕ → Type 0
At-Then-is_free t = lts.Then12 (callees t) (goal.check_nodes-at t) own.Post goal.the-check_nodes-invariant-loop-at goal.the-check_nodes-decreases-loop-at (goal.the-clauses-check_nodes t)

whole_is : {p q : ℕ} {m n b d : Bool} → m ≡ n → b ≡ d → p ≡ q → whole p m b ≡ whole q n d
whole_is x y z = cc

-- ---- behind a name, or where there is none

module _ (t : ℕ) (c : At-After-name_number t) where
  abbrev depth : ℕ
  depth = c.args.depth

  abbrev frame : Frame
  frame = c.args.frame

  abbrev tape : List ℕ
  tape = c.args.tape.now

  abbrev end : ℕ
  end = c.args.end

  abbrev place : ℕ
  place = c.loop-at.at

  -- what was gathered before
  abbrev notes₀ : Bool
  notes₀ = c.loop-at.noted

  abbrev numbers₀ : Bool
  numbers₀ = c.loop-at.numbered

  abbrev passed : Passed (walk depth frame (part tape c.args.from end)) (walk depth frame (part tape place end)) c.loop-at.count notes₀ numbers₀
  passed = c.loop-at.invariant.2

  abbrev behind : ℕ
  behind = c.behind_name-q.result

  opened : depth ≡ 0 → ⊥
  opened = c.if-depth-eq0.false

  left : place < end
  left = c.loop-at-test.true

  trails : end + 8 ≤ length tape
  trails = c.requires.end_in_bounds

  fits : end ≤ length tape
  fits = trailed trails

  name : Ended name_fault place behind (name_of frame (part tape place end))
  name = end_read name_fault place end _ _ c.behind_name-q.ensures c.if-q-end.false

  more : behind < end
  more =
      let e = name.place in
      let w = read_within name_fault encode_name tape place end _ _ c.loop-at.invariant.0 fits (name_sound frame (part tape place end)) name.read in
      let n = c.if-q-end.false in
      omega arith

  -- the annotations behind it, by what was gathered with the name
  -- whether there was an identifier but 0 yet, the name included
  abbrev numbers₁ : Bool
  numbers₁ = numbers₀ || c.name_number-numbered.result

  named : notes_front behind notes₀ numbers₁ (notes_of (part tape behind end)) ≡ notes_front behind notes₀ (numbers₀ || name_number_in frame (part tape place end)) (notes_of (part tape behind end))
  named = ap (λ (b : Bool). notes_front behind notes₀ b (notes_of (part tape behind end))) (ap (λ (b : Bool). numbers₀ || b) c.name_number-numbered.ensures)

-- ---- behind a head

pub record Headed (k : Frame) (s : List ℕ) (at e : ℕ) (a b : Bool) (p : ℕ) (m n : Bool) : Type 0 where
  head : HeadSeen k s at e a b p m n
  more : p < e

module _ (t : ℕ) (c : At-Joined-tape-q-eq13 t) where
  abbrev it : At-After-name_number t
  it = c.before.before

  abbrev value : ℕ
  value = c.if-tape-q-eq13.p

  headed : Headed (frame t it) (tape t it) (place t it) (end t it) (notes₀ t it) (numbers₀ t it) value c.if-tape-q-eq13.noted c.if-tape-q-eq13.numbered
  headed =
      elim c.if-tape-q-eq13.branch [
        | then-tape-q-eq13+in-Some+else-front-end w ↦ (
            let h = seen (whole_is w.noted-is w.numbered-is w.p-is ∙ sym w.in-Some.is ∙ w.notes_seen.ensures) in
            let i = h.within in
            let e = w.p-is in
            let n = w.if-front-end.false in
            record { head = h; more = omega arith })
        | else-tape-q-eq13 w ↦ (
            let f = part-first (tape t it) (behind t it) (end t it) (more t it) in
            let e = w.p-is in
            let g = more t it in
            record { head = seen (whole_is w.noted-is w.numbered-is w.p-is ∙ front-none (part (tape t it) (behind t it) (end t it)) (behind t it) (notes₀ t it) (numbers₁ t it) (notes-none _ (λ e. w.if-tape-q-eq13.false (sym f ∙ e)))); more = omega arith })
      ]
    where
      seen : whole value c.if-tape-q-eq13.noted c.if-tape-q-eq13.numbered ≡ notes_front (behind t it) (notes₀ t it) (numbers₁ t it) (notes_of (part (tape t it) (behind t it) (end t it)))
          → HeadSeen (frame t it) (tape t it) (place t it) (end t it) (notes₀ t it) (numbers₀ t it) value c.if-tape-q-eq13.noted c.if-tape-q-eq13.numbered
      seen z = notes-turn (depth t it) (frame t it) (tape t it) (place t it) (end t it) (opened t it) (left t it) (fits t it) (notes₀ t it) (numbers₀ t it) (behind t it) (name t it) _ _ _ (z ∙ named t it)

  kind-is : kind (part (tape t it) value (end t it)) ≡ get_or (tape t it) value 0
  kind-is = part-first (tape t it) value (end t it) headed.more

-- ---- a scalar, a container, the marker

module _ (t : ℕ) (c : At-Else-n-lt2 t) where
  abbrev at_leaf : At-Joined-tape-q-eq13 t
  at_leaf = c.before.before.before.before

  leaf : LeafSeen (depth t (it t at_leaf)) (frame t (it t at_leaf)) (tape t (it t at_leaf)) (place t (it t at_leaf)) (end t (it t at_leaf)) (value t at_leaf + c.scalar_size-n.result) (number_in (part (tape t (it t at_leaf)) (value t at_leaf) (end t (it t at_leaf))))
  leaf =
      let i = it t at_leaf in
      let f = kind-is t at_leaf in
      let k = c.if-k-lt10.true in
      size-turn (depth t i) (frame t i) (tape t i) (place t i) (end t i) (opened t i) (left t i) (fits t i) (headed t at_leaf).head (omega arith) _ c.scalar_size-n.ensures c.if-n-lt2.false

module _ (t : ℕ) (c : At-Else-n-eq0 t) where
  abbrev at_tree : At-Joined-tape-q-eq13 t
  at_tree = c.before.before.before.before.before

  tree : TreeTurn (depth t (it t at_tree)) (frame t (it t at_tree)) (tape t (it t at_tree)) (place t (it t at_tree)) (end t (it t at_tree)) (frame_of (kind (part (tape t (it t at_tree)) (value t at_tree) (end t (it t at_tree))))) (value t at_tree + 5) (value t at_tree + c.span-n.result)
  tree =
      let i = it t at_tree in
      let f = kind-is t at_tree in
      let k = c.if-k-lt13.true in
      let j = c.if-k-lt10.false in
      span-turn (depth t i) (frame t i) (tape t i) (place t i) (end t i) (opened t i) (left t i) (fits t i) (headed t at_tree).head (omega arith) (omega arith) _ c.span-n.ensures c.if-n-eq0.false

module _ (t : ℕ) (c : At-After-frame_of t) where
  abbrev at_body : At-Joined-tape-q-eq13 t
  at_body = c.before.before.before.before.before.before.before

  opens : TreeTurn (depth t (it t at_body)) (frame t (it t at_body)) (tape t (it t at_body)) (place t (it t at_body)) (end t (it t at_body)) c.frame_of.result (value t at_body + 5) (value t at_body + c.span-n.result)
  opens =
      let i = it t at_body in
      subst (λ (k : Frame). TreeTurn (depth t i) (frame t i) (tape t i) (place t i) (end t i) k (value t at_body + 5) (value t at_body + c.span-n.result))
      (ap frame_of (kind-is t at_body) ∙ sym c.frame_of.ensures) (tree t c.before.before)

module _ (t : ℕ) (c : At-Else-n-eq0-2 t) where
  abbrev at-blob : At-Joined-tape-q-eq13 t
  at-blob = c.before.before.before.before.before.before

  blob : LeafSeen (depth t (it t at-blob)) (frame t (it t at-blob)) (tape t (it t at-blob)) (place t (it t at-blob)) (end t (it t at-blob)) (value t at-blob + c.span-n-then-k-eq15.result) false
  blob =
      let i = it t at-blob in
      blob-turn (depth t i) (frame t i) (tape t i) (place t i) (end t i) (opened t i) (left t i) (fits t i) (headed t at-blob).head (kind-is t at-blob ∙ c.if-k-eq15.true) _ c.span-n-then-k-eq15.ensures c.if-n-eq0-2.false

module _ (t : ℕ) (c : At-Then-is_free t) where
  abbrev at_marker : At-Joined-tape-q-eq13 t
  at_marker = c.before.before.before.before.before.before.before

  marker : LeafSeen (depth t (it t at_marker)) (frame t (it t at_marker)) (tape t (it t at_marker)) (place t (it t at_marker)) (end t (it t at_marker)) (value t at_marker + 1) false
  marker =
      let i = it t at_marker in
      marker_turn (depth t i) (frame t i) (tape t i) (place t i) (end t i) (opened t i) (left t i) (fits t i) (headed t at_marker).head (kind-is t at_marker ∙ c.if-k-ne14.false) (sym c.is_free.ensures ∙ c.if-is_free.true)

-- ---- a leaf that is no identifier but 0 is passed

module _ (t : ℕ) (c : At-Joined-tape-q-eq13 t) (r : ℕ) (u : LeafSeen (depth t (it t c)) (frame t (it t c)) (tape t (it t c)) (place t (it t c)) (end t (it t c)) r false) where
  passes : (r ≤ end t (it t c)) × ((it t c).loop-at.count + 1 ≤ r)
      × Passed (walk (depth t (it t c)) (frame t (it t c)) (part (tape t (it t c)) (it t c).args.from (end t (it t c)))) (walk (depth t (it t c)) (frame t (it t c)) (part (tape t (it t c)) r (end t (it t c))))
      ((it t c).loop-at.count + 1) c.if-tape-q-eq13.noted c.if-tape-q-eq13.numbered
  passes =
      let i = it t c in
      let h = (headed t c).head in
      let hd = head_at (frame t i) (part (tape t i) (place t i) (end t i)) in
      let f = u.forth in
      let g = i.loop-at.invariant.1 in (
        u.within,
        omega arith,
        pass (passed t i) _ _ _ _ u.step _ _ h.sound u.sound
            (h.notes ∙ sym (ap (λ (b : Bool). notes₀ t i || annotated hd.1 || b) u.notes ∙ or-false _))
            (h.numbers ∙ sym (ap (λ (b : Bool). numbers₀ t i || head_numbered hd || b) u.numbers ∙ or-false _)),
      )

-- ---- the needs

pub returns-then-depth-eq0 : goal.returns-then-depth-eq0
returns-then-depth-eq0 t c =
    rw c.if-depth-eq0.true (refuse_deep _ _)

pub loop-at-init : goal.loop-at-init
loop-at-init t c =
    (c.requires.from_le_end, omega arith, passed_none _)

pub behind_name-q-requires : goal.behind_name-q-requires
behind_name-q-requires t c =
    record { at_le_end = c.loop-at.invariant.0; end_in_bounds = c.requires.end_in_bounds }

pub returns-then-q-end : goal.returns-then-q-end
returns-then-q-end t c =
    let a = c.args in
    let l = c.loop-at in
    let u = name-refused a.depth a.frame a.tape.now l.at a.end c.if-depth-eq0.false c.loop-at-test.true (trailed c.requires.end_in_bounds) l.noted l.numbered _ c.behind_name-q.ensures c.if-q-end.true in
    refuse l.invariant.2 F.BadNode u.fault

pub name_number-numbered-requires : goal.name_number-numbered-requires
name_number-numbered-requires t c =
    record { at_lt_end = c.loop-at-test.true; end_in_bounds = trailed c.requires.end_in_bounds }

pub bounds-tape-q : goal.bounds-tape-q
bounds-tape-q t c =
    let m = more t c.before.before in let f = fits t c.before.before in omega arith

pub notes_seen-requires : goal.notes_seen-requires
notes_seen-requires t c =
    let m = more t c.before.before.before in record { at_le_end = omega arith; end_in_bounds = trails t c.before.before.before }

pub returns-in_default : goal.returns-in_default
returns-in_default t c =
    let i = c.before.before.before.before.before in
    let u = notes-refused (depth t i) (frame t i) (tape t i) (place t i) (end t i) (opened t i) (left t i) (fits t i) (notes₀ t i) (numbers₀ t i) (behind t i) (name t i) (sym c.in_default.is ∙ c.notes_seen.ensures ∙ named t i) in
    refuse (passed t i) F.BadNode u.fault

pub returns-then-front-end : goal.returns-then-front-end
returns-then-front-end t c =
    let i = c.before.before.before.before.before.before.before in
    let h = notes-turn (depth t i) (frame t i) (tape t i) (place t i) (end t i) (opened t i) (left t i) (fits t i) (notes₀ t i) (numbers₀ t i) (behind t i) (name t i) _ _ _ (sym c.in-Some.is ∙ c.notes_seen.ensures ∙ named t i) in
    let u = end_refused (depth t i) (frame t i) (tape t i) (place t i) (end t i) (opened t i) (left t i) (fits t i) h c.if-front-end.true in
    refuse (passed t i) F.BadNode u.fault

pub bounds-tape-p : goal.bounds-tape-p
bounds-tape-p t c =
    let m = (headed t c.before.before).more in let f = fits t c.before.before.before.before in omega arith

pub scalar_size-n-requires : goal.scalar_size-n-requires
scalar_size-n-requires t c =
    let f = kind-is t c.before.before.before in let k = c.if-k-lt10.true in record { at_lt_end = (headed t c.before.before.before).more; end_in_bounds = trails t c.before.before.before.before.before; end_bound = omega arith }

pub returns-then-n-lt2 : goal.returns-then-n-lt2
returns-then-n-lt2 t c =
    let j = c.before.before.before.before.before.before in
    let i = it t j in
    let f = kind-is t j in
    let k = c.if-k-lt10.true in
    let u = size-refused (depth t i) (frame t i) (tape t i) (place t i) (end t i) (opened t i) (left t i) (fits t i) (headed t j).head (omega arith) _ c.scalar_size-n.ensures c.if-n-lt2.true in
    refuse (passed t i) _ (u.fault ∙ sym c.size_fault.ensures)

pub is_number-numbered-requires : goal.is_number-numbered-requires
is_number-numbered-requires t c =
    record { at_lt_end = (headed t c.before.before.before.before.before).more; end_in_bounds = fits t c.before.before.before.before.before.before.before }

pub overflow_add-count : goal.overflow_add-count
overflow_add-count t c =
    let u = leaf t c.before.before in
    let f = u.forth in
    let w = u.within in
    let g = c.loop-at.invariant.1 in
    record { fits = omega arith }

pub overflow_add-at : goal.overflow_add-at
overflow_add-at t c =
    let u = leaf t c.before.before.before in
    let w = u.within in
    let g = u.forth in
    record { fits = omega arith }

pub loop-at-smaller-then-k-lt10 : goal.loop-at-smaller-then-k-lt10
loop-at-smaller-then-k-lt10 t c =
    let u = leaf t c.before.before.before in
    let f = u.forth in
    let w = u.within in
    omega arith

pub loop-at-preserved-then-k-lt10 : goal.loop-at-preserved-then-k-lt10
loop-at-preserved-then-k-lt10 t c =
    let j = c.before.before.before.before.before.before.before in
    let i = it t j in
    let h = (headed t j).head in
    let hd = head_at (frame t i) (part (tape t i) (place t i) (end t i)) in
    let l = part (tape t i) (value t j) (end t i) in
    let u = leaf t c.before.before.before in
    let f = u.forth in
    let g = c.loop-at.invariant.1 in (
      u.within,
      omega arith,
      pass (passed t i) _ _ _ _ u.step _ _ h.sound u.sound
          (h.notes ∙ sym (ap (λ (b : Bool). notes₀ t i || annotated hd.1 || b) u.notes ∙ or-false _))
          (ap (λ (b : Bool). c.if-tape-q-eq13.numbered || b) c.is_number-numbered.ensures ∙ ap (λ (b : Bool). b || number_in l) h.numbers ∙ ap (λ (b : Bool). numbers₀ t i || head_numbered hd || b) (sym u.numbers)),
    )

pub span-n-requires : goal.span-n-requires
span-n-requires t c =
    let m = (headed t c.before.before.before.before).more in record { at_le_end = omega arith; end_in_bounds = fits t c.before.before.before.before.before.before }

pub returns-then-n-eq0 : goal.returns-then-n-eq0
returns-then-n-eq0 t c =
    let here = c.before.before.before.before.before.before in
    let i = it t here in
    let f = kind-is t here in
    let k = c.if-k-lt13.true in
    let j = c.if-k-lt10.false in
    let u = span-refused (depth t i) (frame t i) (tape t i) (place t i) (end t i) (opened t i) (left t i) (fits t i) (headed t here).head (omega arith) (omega arith) (sym c.if-n-eq0.true ∙ c.span-n.ensures) in
    refuse (passed t i) F.BadNode u.fault

pub overflow_add-p : goal.overflow_add-p
overflow_add-p t c =
    let u = tree t c.before.before in
    let w = u.within in
    let g = u.inner in
    record { fits = omega arith }

pub overflow_add-p-then-k-lt13 : goal.overflow_add-p-then-k-lt13
overflow_add-p-then-k-lt13 t c =
    let u = tree t c.before.before in
    let w = u.within in
    let g = u.inner in
    record { fits = omega arith }

pub check_nodes-requires : goal.check_nodes-requires
check_nodes-requires t c =
    let u = opens t c.before in
    let w = u.within in
    let z = c.decreases in
    let nz = c.if-depth-eq0.false in
    let y = c.requires.end_in_bounds in
    (omega arith, (u.inner, omega arith))

pub returns-in_err-inner : goal.returns-in_err-inner
returns-in_err-inner t c =
    let j = c.before.before.before.before.before.before.before.before.before.before.before.before in
    let i = it t j in
    let h = (headed t j).head in
    let u = opens t c.before.before.before.before.before in
    let r = c.in_err-inner.ensures in
    let p = err_from_is_err_and c.from_residual.result c.from_residual.ensures.1 in
    rw (p.1, p.2) (refuse_node (passed t i) _ _ _ _ u.step _ h.sound r.fault)

pub overflow_add-count-then-k-lt13 : goal.overflow_add-count-then-k-lt13
overflow_add-count-then-k-lt13 t c =
    let u = opens t c.before.before.before.before.before.before in
    let f = u.forth in
    let w = u.within in
    let g = c.loop-at.invariant.1 in
    record { fits = omega arith }

pub overflow_add-at-then-k-lt13 : goal.overflow_add-at-then-k-lt13
overflow_add-at-then-k-lt13 t c =
    let u = opens t c.before.before.before.before.before.before in
    let w = u.within in
    let g = u.forth in
    record { fits = omega arith }

pub loop-at-smaller-then-k-lt13 : goal.loop-at-smaller-then-k-lt13
loop-at-smaller-then-k-lt13 t c =
    let u = opens t c.before.before.before.before.before.before in
    let f = u.forth in
    let w = u.within in
    omega arith

pub loop-at-preserved-then-k-lt13 : goal.loop-at-preserved-then-k-lt13
unfolding noted numbered
loop-at-preserved-then-k-lt13 t c =
    let j = c.before.before.before.before.before.before.before.before.before.before.before.before.before in
    let i = it t j in
    let h = (headed t j).head in
    let hd = head_at (frame t i) (part (tape t i) (place t i) (end t i)) in
    let u = opens t c.before.before.before.before.before.before in
    let f = u.forth in
    let g = c.loop-at.invariant.1 in
    let x = c.in_ok-inner.inner in
    let r = c.in_ok-inner.ensures in
    let k = r.counts in (
      u.within,
      omega arith,
      pass (passed t i) _ _ _ _ u.step _ _ h.sound (sym r.fault)
          (ap (λ (b : Bool). b || x.noted) h.notes ∙ ap (λ (b : Bool). notes₀ t i || annotated hd.1 || b) k.noted)
          (ap (λ (b : Bool). b || x.numbered) h.numbers ∙ ap (λ (b : Bool). numbers₀ t i || head_numbered hd || b) k.numbered),
    )

pub span-n-requires-then-k-eq15 : goal.span-n-requires-then-k-eq15
span-n-requires-then-k-eq15 t c =
    let m = (headed t c.before.before.before.before.before).more in record { at_le_end = omega arith; end_in_bounds = fits t c.before.before.before.before.before.before.before }

pub returns-then-n-eq0-2 : goal.returns-then-n-eq0-2
returns-then-n-eq0-2 t c =
    let j = c.before.before.before.before.before.before.before in
    let i = it t j in
    let u = blob-refused (depth t i) (frame t i) (tape t i) (place t i) (end t i) (opened t i) (left t i) (fits t i) (headed t j).head (kind-is t j ∙ c.if-k-eq15.true) (sym c.if-n-eq0-2.true ∙ c.span-n-then-k-eq15.ensures) in
    refuse (passed t i) F.BadNode u.fault

pub overflow_add-count-then-k-eq15 : goal.overflow_add-count-then-k-eq15
overflow_add-count-then-k-eq15 t c =
    let u = blob t c.before in
    let w = u.within in
    let g = (passes t (at-blob t c.before) _ u).1 in
    record { fits = omega arith }

pub overflow_add-at-then-k-eq15 : goal.overflow_add-at-then-k-eq15
overflow_add-at-then-k-eq15 t c =
    let u = blob t c.before.before in
    let w = u.within in
    record { fits = omega arith }

pub loop-at-smaller-then-k-eq15 : goal.loop-at-smaller-then-k-eq15
loop-at-smaller-then-k-eq15 t c =
    let u = blob t c.before.before in
    let f = u.forth in
    let w = u.within in
    omega arith

pub loop-at-preserved-then-k-eq15 : goal.loop-at-preserved-then-k-eq15
loop-at-preserved-then-k-eq15 t c =
    passes t (at-blob t c.before.before) _ (blob t c.before.before)

pub returns-then-k-ne14 : goal.returns-then-k-ne14
returns-then-k-ne14 t c =
    let here = c.before.before.before.before.before.before in
    let i = it t here in
    let f = kind-is t here in
    let j = c.if-k-lt13.false in
    let u = other-refused (depth t i) (frame t i) (tape t i) (place t i) (end t i) (opened t i) (left t i) (fits t i) (headed t here).head (omega arith) (λ e. c.if-k-ne14.true (sym f ∙ e)) (λ e. c.if-k-eq15.false (sym f ∙ e)) in
    refuse (passed t i) F.BadNode u.fault

pub is_free-requires : goal.is_free-requires
is_free-requires t c =
    record { at_lt_end = left t c.before.before.before.before.before.before.before.before; end_in_bounds = fits t c.before.before.before.before.before.before.before.before }

pub overflow_add-count-then-is_free : goal.overflow_add-count-then-is_free
overflow_add-count-then-is_free t c =
    let u = marker t c.before in
    let w = u.within in
    let g = (passes t (at_marker t c.before) _ u).1 in
    record { fits = omega arith }

pub overflow_add-at-then-is_free : goal.overflow_add-at-then-is_free
overflow_add-at-then-is_free t c =
    let u = marker t c.before.before in
    let w = u.within in
    record { fits = omega arith }

pub loop-at-smaller : goal.loop-at-smaller
loop-at-smaller t c =
    let u = marker t c.before.before in
    let f = u.forth in
    let w = u.within in
    omega arith

pub loop-at-preserved : goal.loop-at-preserved
loop-at-preserved t c =
    passes t (at_marker t c.before.before) _ (marker t c.before.before)

pub returns-else-is_free : goal.returns-else-is_free
returns-else-is_free t c =
    let j = c.before.before.before.before.before.before.before.before in
    let i = it t j in
    let u = marker_refused (depth t i) (frame t i) (tape t i) (place t i) (end t i) (opened t i) (left t i) (fits t i) (headed t j).head (kind-is t j ∙ c.if-k-ne14.false) (sym c.is_free.ensures ∙ c.if-is_free.false) in
    refuse (passed t i) F.BadNode u.fault

pub returns : goal.returns
returns t c =
    let a = c.args in
    let l = c.loop-at in
    let n = part_length a.tape.now l.at a.end (trailed c.requires.end_in_bounds) in
    let z = c.loop-at-test.false in
    passed-all l.invariant.2 (walk_end a.frame a.depth _ c.if-depth-eq0.false (omega arith))
