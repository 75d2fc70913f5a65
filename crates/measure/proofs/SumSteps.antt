-- How the walk goes on from child to child: what it sums up, how far its sums grow, what it meets. Assumes nothing.
use Prim.Native.Nat.{ℕ, zero, suc, ◌+◌, ◌*◌, ◌-◌, ◌<◌, ◌≤◌}
use mathlib.Core.Path.{◌≡◌, refl, sym, ap, subst, ◌∙◌}
use mathlib.Core.List.{List, [], ◌∷◌}
use mathlib.Core.Bool.{Bool, true, false, ◌||◌}
use mathlib.Core.Option.{Option, none, some}
use native.Mathlib.Omega.{arith}
use native.Mathlib.Decide.{dec_le}
use lib.Dec.{eqb, leb}
use borrow.Author.Tests.{leb-true, eqb-false}
use lib.ListN.{length, get_or, set, drop, replicate, length-set}
use lib.Seq.{get_or-set_same, get_or-set_other, length-take-le}
use Rattle.output.specs.Logic.{if}
use Rattle.text_rules.specs.Text.{Sym}
use Rattle.tape.specs.Bytes.{part}
use Rattle.tape.specs.Tree.{Scalar, Head, Node, Nodes, scalar, nest, marker, nil, more, size, encode_scalar, encode_name, encode_notes}
use Rattle.tape.specs.Tape.{reading, kind, syms_of, name_of, notes_of, scalar_of, absent, leaf, value_of, single, free_at, syms_fault, name_fault, scalar_fault, fault, Walked, join, walk}
use Rattle.tape.specs.Steps.{head_at, size_taken}
use Rattle.tape.specs.CheckSteps.{whole, scalar_code, span_of, number_in, name_number_in, frame_of, notes_front, front_as}
use Rattle.tape.specs.Fine.{Bytes}
use Rattle.tape.specs.Refusal.{annotated, noted, noteds, syms_numbered, head_numbered, numbered, numbereds}
use Rattle.tape.specs.declared.Frame.{Frame}
use Rattle.tape.specs.declared.Frame.TheVariants.{Top, «List» as ListF, Sexp, Struct}
use Rattle.std.specs.Prelude.{Some, None}
use Rattle.tape.proofs.Numbers.{bytes_drop, bytes_take}
use Rattle.tape.proofs.Parts.{part_length, part-first, trailed}
use Rattle.tape.proofs.Reading.{if_all, Sound, something, Counted, counted, syms-count, name_sound, notes_sound, scalar_sound}
use Rattle.tape.proofs.Walking.{walk_end}
use Rattle.tape.proofs.CodeReading.{notes-none, scalar-clob, scalar-blob, value-scalar, value_marker}
use Rattle.tape.proofs.CodeChild.{child_is}
use Rattle.tape.proofs.CodeFacts.{Read, code_read, read_within, Ended, code-clob, code-blob, number-other, scalar-number, span-is}
use Rattle.tape.proofs.CodeWalk.{join-fault}
use Rattle.tape.proofs.Turns.{whole_parts, TreeTurn, HeadSeen, Refused, single_step, notes-turn, size-refused, span-refused}
use Rattle.writer.specs.Text.{scalar_text, name_text, notes_text, opening, closing, separator, broken, deeper}
use Rattle.writer.specs.Steps.{name_in, notes_in, is_nil}
use Rattle.measure.specs.Outcome.{longest}
use Rattle.measure.specs.Sums.{front_length, contents_of, contents, separator_length, separators_of, separators, lasts_of, lasts, indents_of, indents, summed, leaf_length}
use Rattle.measure.specs.Steps.{plus, last_separator, body_own, flagged, met, SumsFit, Grown}
use Rattle.measure.proofs.PartLaws.{front-both}
use Rattle.measure.proofs.Bound.{name_most, notes_most, sound_most, gap_most}

-- ---- what is left of the sums

-- the separator behind the last child so far, where none is left
abbrev pending : ℕ → Frame → Nodes → ℕ
pending c k ns = if (is_nil ns) (last_separator c k) 0

-- the total is: what is summed up, what this body has so far (n bytes of contents, c children), and what the nodes left have
pub record Left (quoted : Bool) (total sums : List ℕ) (k : Frame) (w n c : ℕ) (ns : Nodes) : Type 0 where
  pub long : length sums ≡ 4
  pub texts : get_or sums 0 0 + n + contents quoted ns ≡ get_or total 0 0
  pub gaps : get_or sums 1 0 + c * separator_length k + separators k ns ≡ get_or total 1 0
  pub ends : get_or sums 2 0 + pending c k ns + lasts k ns ≡ get_or total 2 0
  pub blanks : get_or sums 3 0 + c * w + indents w ns ≡ get_or total 3 0

gap-some : (k : Frame) → 1 ≤ separator_length k
unfolding separator
gap-some Top = omega arith
gap-some ListF = omega arith
gap-some Sexp = omega arith
gap-some Struct = omega arith

times_most : (c g : ℕ) → 1 ≤ g → c ≤ c * g
times_most zero g h = omega arith
times_most (suc c) g h = let i = times_most c g h in omega arith

pub last_some : (c : ℕ) (k : Frame) → 0 < c → last_separator c k ≡ separator_length k
last_some zero k h = absurd (omega arith)
last_some (suc c) k h = refl

pending_more : (c : ℕ) (k : Frame) (ns : Nodes) → pending (c + 1) k ns ≡ if (is_nil ns) (separator_length k) 0
pending_more c k nil = last_some (c + 1) k (omega arith)
pending_more c k (more h x ns) = refl

pending-none : (k : Frame) (ns : Nodes) → pending 0 k ns ≡ 0
pending-none k nil = refl
pending-none k (more h x ns) = refl

-- the brackets of a container
brackets : (b : ℕ) → length (opening (frame_of b)) + length (closing (frame_of b)) ≡ 2
unfolding opening closing frame_of
brackets b = go (eqb b 10) (eqb b 11)
  where
    go : (p q : Bool) → length (opening (if p ListF (if q Sexp Struct))) + length (closing (if p ListF (if q Sexp Struct))) ≡ 2
    go true q = refl
    go false true = refl
    go false false = refl

left-start : (quoted : Bool) (sums : List ℕ) (k : Frame) (w : ℕ) (ns : Nodes) → length sums ≡ 4 → Left quoted (plus sums (summed quoted k w ns)) sums k w 0 0 ns
unfolding plus summed
left-start quoted sums k w ns l = record { long = l; texts = omega arith; gaps = omega arith; ends = let p = pending-none k ns in omega arith; blanks = omega arith }

module _ {quoted : Bool} {total sums : List ℕ} {k : Frame} {w n c : ℕ} {h : Head} {x : Node} {ns : Nodes} (l : Left quoted total sums k w n c (more h x ns)) where
  more_texts : get_or sums 0 0 + n + (front_length quoted h + contents_of quoted x + contents quoted ns) ≡ get_or total 0 0
  unfolding contents
  more_texts = l.texts

  more_gaps : get_or sums 1 0 + (c + 1) * separator_length k + (separators_of x + separators k ns) ≡ get_or total 1 0
  unfolding separators
  more_gaps = omega (arith, l.gaps)

  more_ends : get_or sums 2 0 + pending (c + 1) k ns + (lasts_of x + lasts k ns) ≡ get_or total 2 0
  unfolding lasts
  more_ends = omega (arith, l.ends, pending_more c k ns)

  more_blanks : get_or sums 3 0 + (c + 1) * w + (indents_of w x + indents w ns) ≡ get_or total 3 0
  unfolding indents
  more_blanks = omega (arith, l.blanks)

-- a node without a body, of m bytes
record Single (quoted : Bool) (x : Node) (m : ℕ) : Type 0 where
  text : contents_of quoted x ≡ m
  gap : separators_of x ≡ 0
  end : lasts_of x ≡ 0
  blank : (w : ℕ) → indents_of w x ≡ 0

scalar-single : (quoted : Bool) (x : Scalar) → Single quoted (scalar x) (length (scalar_text quoted x))
unfolding contents_of separators_of lasts_of indents_of
scalar-single quoted x = record { text = refl; gap = refl; end = refl; blank = λ w. refl }

marker_single : (quoted : Bool) → Single quoted marker 8
unfolding contents_of separators_of lasts_of indents_of
marker_single quoted = record { text = refl; gap = refl; end = refl; blank = λ w. refl }

single_on : {quoted : Bool} {total sums : List ℕ} {k : Frame} {w n c : ℕ} {h : Head} {x : Node} {ns : Nodes} {m n' : ℕ} → Single quoted x m → n' ≡ n + front_length quoted h + m
    → Left quoted total sums k w n c (more h x ns) → Left quoted total sums k w n' (c + 1) ns
single_on {w = w} s e l = record {
  long = l.long;
  texts = omega (arith, more_texts l);
  gaps = omega (arith, more_gaps l);
  ends = omega (arith, more_ends l);
  blanks = omega (arith, more_blanks l, s.blank w);
}

-- the sums behind a container's body, with the blanks and the LF of its brackets
abbrev bracketed : List ℕ → ℕ → List ℕ
bracketed y w = set y 3 (get_or y 3 0 + (w + 1))

nest_on : {quoted : Bool} {total sums : List ℕ} {k : Frame} {w n c : ℕ} {h : Head} {f : Frame} {ms ns : Nodes} {n' : ℕ} {y : List ℕ} → length (opening f) + length (closing f) ≡ 2
    → y ≡ plus sums (summed quoted f (w + 2) ms) → n' ≡ n + front_length quoted h + 2 → Left quoted total sums k w n c (more h (nest f ms) ns) → Left quoted total (bracketed y w) k w n' (c + 1) ns
unfolding plus summed contents_of separators_of lasts_of indents_of broken deeper
nest_on b q e l = rw q (record {
  long = refl;
  texts = omega (arith, more_texts l);
  gaps = omega (arith, more_gaps l);
  ends = omega (arith, more_ends l);
  blanks = omega (arith, more_blanks l);
})

plus_long : (a b : List ℕ) → length (plus a b) ≡ 4
unfolding plus
plus_long a b = refl

four : {a b c d a' b' c' d' : ℕ} → a ≡ a' → b ≡ b' → c ≡ c' → d ≡ d' → ◌≡◌ {A = List ℕ} (a ∷ b ∷ c ∷ d ∷ []) (a' ∷ b' ∷ c' ∷ d' ∷ [])
four p q r s = cc

-- no child is left: the sums are the total
all-summed : (quoted : Bool) (x y sums : List ℕ) (k : Frame) (w n c : ℕ) → Left quoted (plus x y) sums k w n c nil → plus sums (body_own n c k w) ≡ plus x y
unfolding plus body_own contents separators lasts indents
all-summed quoted x y sums k w n c l = four (omega arith) (omega arith) (omega arith) (omega arith)

-- ---- how far the sums grow

last_most : (c : ℕ) (k : Frame) → last_separator c k ≤ 2
last_most zero k = omega arith
last_most (suc c) k = gap_most k

-- a child of j bytes: it leads from the sums s, with n bytes of contents beside them, to t, with m bytes beside them
record Added (j : ℕ) (s : List ℕ) (n : ℕ) (t : List ℕ) (m : ℕ) : Type 0 where
  texts : get_or t 0 0 + m ≤ get_or s 0 0 + n + 200 * j
  gaps : get_or t 1 0 + 2 ≤ get_or s 1 0 + 200 * j
  ends : get_or t 2 0 + 2 ≤ get_or s 2 0 + 200 * j
  blanks : get_or t 3 0 + 128 ≤ get_or s 3 0 + 200 * j

single_adds : {j : ℕ} {s : List ℕ} {n m : ℕ} → 1 ≤ j → m ≤ n + 200 * j → Added j s n s m
single_adds h i = record { texts = omega arith; gaps = omega arith; ends = omega arith; blanks = omega arith }

nest_adds : {i j w : ℕ} {s y : List ℕ} {n m : ℕ} → w ≤ 128 → Grown i s y → i + 5 ≤ j → m ≤ n + 200 * (j - i - 5) + 2 → length y ≡ 4 → Added j s n (bracketed y w) m
nest_adds {w = w} {y = y} u g h e l =
    let o0 : get_or (bracketed y w) 0 0 ≡ get_or y 0 0 = get_or-set_other y 3 0 _ 0 (λ e. omega arith) in
    let o1 : get_or (bracketed y w) 1 0 ≡ get_or y 1 0 = get_or-set_other y 3 1 _ 0 (λ e. omega arith) in
    let o2 : get_or (bracketed y w) 2 0 ≡ get_or y 2 0 = get_or-set_other y 3 2 _ 0 (λ e. omega arith) in
    let o3 : get_or (bracketed y w) 3 0 ≡ get_or y 3 0 + (w + 1) = get_or-set_same y 3 _ 0 (omega arith) in
    record { texts = omega arith; gaps = omega arith; ends = omega arith; blanks = omega arith }

grown_on : {a j p : ℕ} {s₀ s t : List ℕ} {n m : ℕ} (k : Frame) (w c : ℕ) → w ≤ 128 → Grown a s₀ (plus s (body_own n c k w)) → Added j s n t m → a + j ≡ p
    → Grown p s₀ (plus t (body_own m (c + 1) k w))
unfolding plus body_own
grown_on k w c u g i e =
    let x = gap_most k in
    let y = last_most (c + 1) k in
    record { contents = omega arith; separators = omega arith; lasts = omega arith; indents = omega arith }

-- what a body has of its own is left out
grown_sums : {from at q : ℕ} {s₀ s : List ℕ} (k : Frame) (w n c : ℕ) → Grown from (replicate 4 0) s₀ → Grown (at - from) s₀ (plus s (body_own n c k w)) → from ≤ at → at ≤ q
    → Grown q (replicate 4 0) s
unfolding plus body_own
grown_sums k w n c g i h l = record { contents = omega arith; separators = omega arith; lasts = omega arith; indents = omega arith }

-- sums that have grown so fit a word
grown_fit : {from p : ℕ} {s₀ s : List ℕ} → Grown from (replicate 4 0) s₀ → Grown p s₀ s → from + p ≤ 1048576 → SumsFit s
grown_fit g i h = record { contents = omega arith; separators = omega arith; lasts = omega arith; indents = omega arith }

-- ---- what is met

-- of three numbers the first two are x and y
pub record Flags (b : List ℕ) (x y : ℕ) : Type 0 where
  pub long : length b ≡ 3
  pub notes : get_or b 0 0 ≡ x
  pub numbers : get_or b 1 0 ≡ y

pub flags_are : {b : List ℕ} → length b ≡ 3 → Flags b (get_or b 0 0) (get_or b 1 0)
flags_are l = record { long = l; notes = refl; numbers = refl }

-- the first is set, as v says; the second is set if v says so
pub note-set : (b : List ℕ) {v : Bool} → length b ≡ 3 → v ≡ true → Flags (set b 0 1) (flagged (get_or b 0 0) v) (get_or b 1 0)
note-set b l v = rw v (record { long = length-set b 0 1 ∙ l; notes = get_or-set_same b 0 1 0 (omega arith); numbers = get_or-set_other b 0 1 1 0 (λ e. omega arith) })

pub number-set : {b b' : List ℕ} {x y : ℕ} {v : Bool} → Flags b x y → v ≡ true → b' ≡ set b 1 1 → Flags b' x (flagged y v)
number-set {b = b} f v e =
    let l = f.long in
    rw (v, e) (record { long = length-set b 1 1 ∙ l; notes = get_or-set_other b 1 0 1 0 (λ e. omega arith) ∙ f.notes; numbers = get_or-set_same b 1 1 0 (omega arith) })

pub number-left : {b b' : List ℕ} {x y : ℕ} {v : Bool} → Flags b x y → v ≡ false → b' ≡ b → Flags b' x (flagged y v)
number-left f v e = rw (v, e) f

flagged_or : (a : ℕ) (x y : Bool) → flagged a (x || y) ≡ flagged (flagged a x) y
flagged_or a true true = refl
flagged_or a true false = refl
flagged_or a false y = refl

-- of all nodes ns are left, c stand before them; a was met before them all, b is met before those left
pub record Met (a : List ℕ) (all : Nodes) (b : List ℕ) (c : ℕ) (ns : Nodes) : Type 0 where
  pub long : length b ≡ 3
  pub notes : flagged (get_or a 0 0) (noteds all) ≡ flagged (get_or b 0 0) (noteds ns)
  pub numbers : flagged (get_or a 1 0) (numbereds all) ≡ flagged (get_or b 1 0) (numbereds ns)
  pub sizes : size all ≡ c + size ns

met_on : {a : List ℕ} {all : Nodes} {b : List ℕ} {c : ℕ} {h : Head} {x : Node} {ns : Nodes} {b' : List ℕ} → Met a all b c (more h x ns)
    → Flags b' (flagged (flagged (get_or b 0 0) (annotated h.1)) (noted x)) (flagged (flagged (get_or b 1 0) (head_numbered h)) (numbered x)) → Met a all b' (c + 1) ns
unfolding size noteds numbereds
met_on {b = b} {h = h} {x = x} {ns = ns} m f = record {
  long = f.long;
  notes = m.notes ∙ flagged_or _ (annotated h.1 || noted x) (noteds ns) ∙ ap (λ (i : ℕ). flagged i (noteds ns)) (flagged_or _ (annotated h.1) (noted x) ∙ sym f.notes);
  numbers = m.numbers ∙ flagged_or _ (head_numbered h || numbered x) (numbereds ns) ∙ ap (λ (i : ℕ). flagged i (numbereds ns)) (flagged_or _ (head_numbered h) (numbered x) ∙ sym f.numbers);
  sizes = omega arith;
}

three-set : (b : List ℕ) (c : ℕ) → length b ≡ 3 → set b 2 c ≡ get_or b 0 0 ∷ get_or b 1 0 ∷ c ∷ []
three-set [] c l = absurd (omega arith)
three-set (x ∷ []) c l = absurd (omega arith)
three-set (x ∷ y ∷ []) c l = absurd (omega arith)
three-set (x ∷ y ∷ z ∷ []) c l = refl
three-set (x ∷ y ∷ z ∷ u ∷ b) c l = absurd (omega arith)

met_all : {a : List ℕ} {all : Nodes} {b : List ℕ} {c : ℕ} → Met a all b c nil → set b 2 c ≡ met a all
unfolding met size noteds numbereds
met_all {all = all} {b = b} {c = c} m =
    let x = m.notes in
    let y = m.numbers in
    let z : size all ≡ c = omega arith in
    three-set b c m.long ∙ cc

-- ---- heads

part_bytes : (s : List ℕ) (at e : ℕ) → Bytes s → Bytes (part s at e)
part_bytes s at e b = bytes_take (e - at) (drop at s) (bytes_drop at s b)

-- what was read is as long as its bytes
read_long : {A : Type 0} {f : A → ℕ} (enc : A → List ℕ) (l : List ℕ) {o : Option (A × ℕ)} {n : ℕ} → Bytes l → Sound enc l o → (r : Read f o n) → length (enc r.it) ≡ n
read_long enc l {n = n} b s r = go (subst (Sound enc l) r.is s)
  where
    go : Sound enc l (some (r.it, n)) → length (enc r.it) ≡ n
    go (something h t) = ap length (t b) ∙ length-take-le n l h

-- annotations that start with the kind byte 13 are some
annotated-some : (l : List ℕ) → kind l ≡ 13 → (ss : List Sym) (n : ℕ) → notes_of l ≡ some (ss, n) → annotated ss ≡ true
unfolding notes_of
annotated-some l k ss n =
    if_all P {b = eqb (kind l) 13} (λ _.
    if_all P {b = leb 1 (get_or l 1 0)} (λ h.
    if_all P {b = leb (get_or l 1 0) 16} (λ _. go (leb-true _ _ h) (syms_of (get_or l 1 0) (drop 2 l)) (syms-count (get_or l 1 0) (drop 2 l))) (λ _. nowhere)) (λ _. nowhere)) (λ e. absurd (eqb-false _ _ e k))
  where
    P : Option (List Sym × ℕ) → Type 0
    P o = o ≡ some (ss, n) → annotated ss ≡ true

    nowhere : P none
    nowhere e = let y : ◌≡◌ {A = ℕ} 0 1 = cc in absurd (omega arith)

    go : 1 ≤ get_or l 1 0 → (o : Option (List Sym × ℕ)) → Counted (get_or l 1 0) o → P (reading o none (λ ts j. some (ts, 2 + j)))
    go h none c e = nowhere e
    go h (some ([], j)) (counted c) e = absurd (omega arith)
    go h (some (x ∷ ts, j)) c e = rw (← ap (λ (o : Option (List Sym × ℕ)). reading o [] (λ v i. v)) e)

-- annotations as validation tells them, alone: they end at p; b: there is an identifier but 0 among them
pub record Noted (l : List ℕ) (q p : ℕ) (b : Bool) : Type 0 where
  pub read : Ended syms_fault q p (notes_of l)
  pub numbers : syms_numbered (notes_in l) ≡ b

pub notes-told : (l : List ℕ) (q p : ℕ) (b : Bool) → whole p true b ≡ notes_front q true false (notes_of l) → Noted l q p b
notes-told l q p b z = go (notes_of l) refl z
  where
    go : (o : Option (List Sym × ℕ)) → notes_of l ≡ o → whole p true b ≡ notes_front q true false o → Noted l q p b
    go none x z = let y : ◌≡◌ {A = ℕ} 0 1 = cc in absurd (omega arith)
    go (some (ss, n)) x z = by (syms_fault ss) refl z
      where
        by : (f : ℕ) → syms_fault ss ≡ f → whole p true b ≡ front_as f (q + n) true (syms_numbered ss) → Noted l q p b
        by zero y z = let f = whole_parts z in record { read = record { bytes = n; place = f.0; read = record { it = ss; is = x; sound = y } }; numbers = rw x (sym f.2) }
        by (suc f) y z = let u : ◌≡◌ {A = ℕ} 0 1 = cc in absurd (omega arith)

pub notes_bare : (l : List ℕ) (q : ℕ) → (kind l ≡ 13 → ⊥) → Noted l q q false
unfolding syms_fault syms_numbered
notes_bare l q h = let e = notes-none l h in record { read = record { bytes = 0; place = omega arith; read = record { it = []; is = e; sound = refl } }; numbers = rw e refl }

pub notes_bad : (q : ℕ) (a b : Bool) (o : Option (List Sym × ℕ)) → None ≡ notes_front q true false o → None ≡ notes_front q a b o
notes_bad q a b none z = refl
notes_bad q a b (some (ss, n)) z = go (syms_fault ss) z
  where
    go : (f : ℕ) → None ≡ front_as f (q + n) true (syms_numbered ss) → None ≡ front_as f (q + n) (a || annotated ss) (b || syms_numbered ss)
    go zero z = let y : ◌≡◌ {A = ℕ} 0 1 = cc in absurd (omega arith)
    go (suc f) z = refl

-- a head: it has no problem and ends at p, where a value stands. With its text n bytes of contents are m, and with what is met in it b is b'
pub record Fronted (quoted : Bool) (k : Frame) (s : List ℕ) (at e n : ℕ) (b : List ℕ) (p m : ℕ) (b' : List ℕ) : Type 0 where
  pub head : HeadSeen k s at e false false p (annotated (head_at k (part s at e)).1) (head_numbered (head_at k (part s at e)))
  pub more : p < e
  pub text : m ≡ n + front_length quoted (head_at k (part s at e))
  pub short : front_length quoted (head_at k (part s at e)) ≤ longest (p - at)
  pub flags : Flags b' (flagged (get_or b 0 0) (annotated (head_at k (part s at e)).1)) (flagged (get_or b 1 0) (head_numbered (head_at k (part s at e))))

-- behind a name, or where there is none
pub record Named (d : ℕ) (k : Frame) (s : List ℕ) (at e q : ℕ) : Type 0 where
  pub opened : d ≡ 0 → ⊥
  pub left : at < e
  pub inside : e ≤ length s
  pub bytes : Bytes s
  pub name : Ended name_fault at q (name_of k (part s at e))

module _ {d : ℕ} {k : Frame} {s : List ℕ} {at e q : ℕ} (u : Named d k s at e q) where
  pub name_there : name_of k (part s at e) ≡ some (name_in k (part s at e), size_taken (name_of k (part s at e)))
  name_there = rw u.name.read.is

  pub name-within : (at ≤ q) × (q ≤ e)
  name-within = let w = read_within name_fault encode_name s at e _ _ (omega arith) u.inside (name_sound k (part s at e)) u.name.read in (omega arith, omega arith)

  pub name_short : (quoted : Bool) → length (name_text quoted (name_in k (part s at e))) ≤ longest (q - at)
  name_short quoted =
      let l = read_long encode_name (part s at e) (part_bytes s at e u.bytes) (name_sound k (part s at e)) u.name.read in
      let m = name_most quoted u.name.read.it in
      let a : name_in k (part s at e) ≡ u.name.read.it = rw u.name.read.is in
      rw a (omega arith)

  module _ {p : ℕ} {b : Bool} (t : Noted (part s q e) q p b) where
    pub notes_short : (quoted : Bool) → length (notes_text quoted (notes_in (part s q e))) ≤ longest (p - q)
    notes_short quoted =
        let l = read_long encode_notes (part s q e) (part_bytes s q e u.bytes) (notes_sound (part s q e)) t.read.read in
        let m = notes_most quoted t.read.read.it in
        let a : notes_in (part s q e) ≡ t.read.read.it = rw t.read.read.is in
        rw a (omega arith)

    -- the head, by its name and its annotations
    told : HeadSeen k s at e false false p (annotated (notes_in (part s q e))) (name_number_in k (part s at e) || syms_numbered (notes_in (part s q e)))
    told = notes-turn d k s at e u.opened u.left u.inside false false q u.name p _ _ (rw (t.read.read.is, t.read.read.sound, t.read.place) refl)

    pub head-seen : HeadSeen k s at e false false p (annotated (head_at k (part s at e)).1) (head_numbered (head_at k (part s at e)))
    head-seen = record { place = told.place; sound = told.sound; notes = refl; numbers = refl; behind = told.behind; within = told.within }

    front-is : (quoted : Bool) → front_length quoted (head_at k (part s at e)) ≡ length (name_text quoted (name_in k (part s at e))) + length (notes_text quoted (notes_in (part s q e)))
    front-is quoted = front-both quoted k s at e q p (rw u.name.read.is (ap Some (sym u.name.place))) told.place

    -- n bytes were there before, a are in the name
    pub fronted : (quoted : Bool) {n m a v : ℕ} {b₀ b₁ b₂ : List ℕ} → v ≡ p → (p ≡ e → ⊥) → a ≡ length (name_text quoted (name_in k (part s at e))) → m ≡ n + a + length (notes_text quoted (notes_in (part s q e)))
        → Flags b₁ (get_or b₀ 0 0) (flagged (get_or b₀ 1 0) (name_number_in k (part s at e)))
        → Flags b₂ (flagged (get_or b₁ 0 0) (annotated (notes_in (part s q e)))) (flagged (get_or b₁ 1 0) b) → Fronted quoted k s at e n b₀ v m b₂
    fronted quoted {b₀ = b₀} {b₁ = b₁} c w x y f g =
        let z = front-is quoted in
        let l = name_short quoted in
        let o = notes_short quoted in
        let i = told.within in
        let j = name-within.0 in
        rw c (record {
          head = head-seen;
          more = omega arith;
          text = omega arith;
          short = omega arith;
          flags = record {
            long = g.long;
            notes = g.notes ∙ ap (λ (i : ℕ). flagged i (annotated (notes_in (part s q e)))) f.notes ∙ ap (flagged (get_or b₀ 0 0)) told.notes;
            numbers = g.numbers
                ∙ ap (λ (i : ℕ). flagged i b) f.numbers
                ∙ ap (flagged (flagged (get_or b₀ 1 0) (name_number_in k (part s at e)))) (sym t.numbers)
                ∙ sym (flagged_or (get_or b₀ 1 0) (name_number_in k (part s at e)) (syms_numbered (notes_in (part s q e))))
                ∙ ap (flagged (get_or b₀ 1 0)) told.numbers;
          };
        })

    -- the kind byte of annotations
    pub noted_here : q < e → get_or s q 0 ≡ 13 → annotated (notes_in (part s q e)) ≡ true
    noted_here w z =
        let a : notes_in (part s q e) ≡ t.read.read.it = rw t.read.read.is in
        rw a (annotated-some (part s q e) (part-first s q e w ∙ z) _ _ t.read.read.is)

  -- no annotations
  pub bare_fronted : (quoted : Bool) {n m a : ℕ} {b₀ b₁ b₂ : List ℕ} {p : ℕ} → p ≡ q → q < e → (get_or s q 0 ≡ 13 → ⊥) → a ≡ length (name_text quoted (name_in k (part s at e))) → m ≡ n + a
      → Flags b₁ (get_or b₀ 0 0) (flagged (get_or b₀ 1 0) (name_number_in k (part s at e))) → b₂ ≡ b₁ → Fronted quoted k s at e n b₀ p m b₂
  unfolding notes_text
  bare_fronted quoted i l h x y f g =
      let z : kind (part s q e) ≡ 13 → ⊥ = λ z. h (sym (part-first s q e l) ∙ z) in
      let o = notes-none (part s q e) z in
      rw g (fronted (notes_bare (part s q e) q z) quoted i (λ z. omega arith) x (rw o (omega arith)) f (rw o (flags_are f.long)))

-- ---- the walk of a body, from the place `from` to the place e, in which d bodies may be opened, this one included

-- what is asked of it
pub record Body (s : List ℕ) (from e d : ℕ) (sums₀ : List ℕ) : Type 0 where
  pub bytes : Bytes s
  pub trails : e + 8 ≤ length s
  pub most : length s ≤ 1048576
  pub opened : d ≡ 0 → ⊥
  pub low : d ≤ 65
  pub before : Grown from (replicate 4 0) sums₀

-- it is at a place: the nodes from there on are left
pub record Walking (quoted : Bool) (s : List ℕ) (from e : ℕ) (k : Frame) (d : ℕ) (sums₀ seen₀ sums seen : List ℕ) (at n c : ℕ) : Type 0 where
  pub behind : from ≤ at
  pub within : at ≤ e
  pub fault : (walk d k (part s from e)).1 ≡ (walk d k (part s at e)).1
  pub left : Left quoted (plus sums₀ (summed quoted k (130 - 2 * d) (walk d k (part s from e)).0)) sums k (130 - 2 * d) n c (walk d k (part s at e)).0
  pub grown : Grown (at - from) sums₀ (plus sums (body_own n c k (130 - 2 * d)))
  pub met : Met seen₀ (walk d k (part s from e)).0 seen c (walk d k (part s at e)).0

pub walk_start : {quoted : Bool} {s : List ℕ} {from e : ℕ} {k : Frame} {d : ℕ} {sums seen : List ℕ} → from ≤ e → length sums ≡ 4 → length seen ≡ 3 → Walking quoted s from e k d sums seen sums seen from 0 0
unfolding plus body_own
walk_start {quoted = quoted} {s = s} {from = from} {e = e} {k = k} {d = d} {sums = sums} h l m = record {
  behind = omega arith;
  within = h;
  fault = refl;
  left = left-start quoted sums k (130 - 2 * d) (walk d k (part s from e)).0 l;
  grown = record { contents = omega arith; separators = omega arith; lasts = omega arith; indents = omega arith };
  met = record { long = m; notes = refl; numbers = refl; sizes = omega arith };
}

-- no body may be opened
pub walk_deep : (k : Frame) (l : List ℕ) → (walk 0 k l).1 ≡ 3
unfolding walk
walk_deep k l = refl

module _ {quoted : Bool} {s : List ℕ} {from e : ℕ} {k : Frame} {d : ℕ} {sums₀ seen₀ sums seen : List ℕ} {at n c : ℕ} (b : Body s from e d sums₀) (v : Walking quoted s from e k d sums₀ seen₀ sums seen at n c) where
  pub sums_fit : SumsFit (plus sums (body_own n c k (130 - 2 * d)))
  sums_fit = grown_fit b.before v.grown (omega arith)

  -- no node is left
  module _ (h : e ≤ at) where
    none_left : walk d k (part s at e) ≡ (nil, 0)
    none_left = let l = part_length s at e (trailed b.trails) in walk_end k d (part s at e) b.opened (omega arith)

    pub ended : (x : List ℕ) → x ≡ plus sums (body_own n c k (130 - 2 * d))
        → (0 ≡ (walk d k (part s from e)).1)
        × (x ≡ plus sums₀ (summed quoted k (130 - 2 * d) (walk d k (part s from e)).0))
        × (set seen 2 c ≡ met seen₀ (walk d k (part s from e)).0)
        × Grown (e - from) sums₀ x
    ended x q =
        let i : at ≡ e = omega arith in (
          sym (v.fault ∙ ap (λ (u : Walked). u.1) none_left),
          q ∙ all-summed quoted _ _ _ _ _ _ _ (rw none_left at v.left),
          met_all (rw none_left at v.met),
          rw (q, ← i) v.grown,
        )

-- a child is left
pub record Child (quoted : Bool) (s : List ℕ) (from e : ℕ) (k : Frame) (d : ℕ) (sums₀ seen₀ sums seen : List ℕ) (at n c : ℕ) : Type 0 where
  pub body : Body s from e d sums₀
  pub walking : Walking quoted s from e k d sums₀ seen₀ sums seen at n c
  pub left : at < e

module _ {quoted : Bool} {s : List ℕ} {from e : ℕ} {k : Frame} {d : ℕ} {sums₀ seen₀ sums seen : List ℕ} {at n c : ℕ} (v : Child quoted s from e k d sums₀ seen₀ sums seen at n c) where
  pub end_most : e + 8 ≤ 1048576
  end_most = omega arith

  pub texts_most : n ≤ 200 * at
  unfolding plus body_own
  texts_most = omega arith

  pub children_most : c ≤ 200 * at
  unfolding plus body_own
  children_most = omega (arith, times_most c (separator_length k) (gap-some k))

  pub sums_most : {q : ℕ} → at ≤ q → Grown q (replicate 4 0) sums
  sums_most h = grown_sums k (130 - 2 * d) n c v.body.before v.walking.grown v.walking.behind h

  -- an answer that is a problem
  pub refuse : {r g : ℕ} → r ≡ g → Refused d k s at e g → r ≡ (walk d k (part s from e)).1
  refuse q u = q ∙ sym (v.walking.fault ∙ u.fault)

-- ---- a child is passed: its front is told, and its value stands at p

module _ {quoted : Bool} {s : List ℕ} {from e : ℕ} {k : Frame} {d : ℕ} {sums₀ seen₀ sums seen : List ℕ} {at n c p m : ℕ} {seen₁ : List ℕ}
    (v : Child quoted s from e k d sums₀ seen₀ sums seen at n c) (f : Fronted quoted k s at e n seen p m seen₁) where
  abbrev head : Head
  head = head_at k (part s at e)

  abbrev value : List ℕ
  value = part s p e

  -- the nodes behind it, if it ends at r
  abbrev rest : ℕ → Walked
  rest r = walk d k (part s r e)

  abbrev total : List ℕ
  total = plus sums₀ (summed quoted k (130 - 2 * d) (walk d k (part s from e)).0)

  inside : e ≤ length s
  inside = trailed v.body.trails

  kind-is : kind value ≡ get_or s p 0
  kind-is = part-first s p e f.more

  pub front_most : m ≤ 200 * p
  front_most = omega (arith, texts_most v)

  -- the value x, with the problem g, ends at r; it leads to the sums t, to u bytes of contents and to what is met, b₂
  passed : {t b₂ : List ℕ} {u g r : ℕ} (x : Node) → walk d k (part s at e) ≡ join head x g (rest r) → g ≡ 0 → at < r → r ≤ e
      → (Left quoted total sums k (130 - 2 * d) n c (more head x (rest r).0) → Left quoted total t k (130 - 2 * d) u (c + 1) (rest r).0)
      → Added (r - at) sums n t u → Flags b₂ (flagged (get_or seen₁ 0 0) (noted x)) (flagged (get_or seen₁ 1 0) (numbered x))
      → Walking quoted s from e k d sums₀ seen₀ t b₂ r u (c + 1)
  passed {r = r} x step z i j on a q = record {
    behind = omega arith;
    within = j;
    fault = v.walking.fault ∙ ap (λ (w : Walked). w.1) step ∙ rw (f.head.sound, z) refl;
    left = on (rw step at v.walking.left);
    grown = grown_on k (130 - 2 * d) c (let o = v.body.opened in omega arith) v.walking.grown a (omega arith);
    met = met_on (rw step at v.walking.met)
        (record { long = q.long; notes = q.notes ∙ ap (λ (i : ℕ). flagged i (noted x)) f.flags.notes; numbers = q.numbers ∙ ap (λ (i : ℕ). flagged i (numbered x)) f.flags.numbers });
  }

  -- a value without a body
  leaf_step : (x : Node) (j : ℕ) → 0 < j → value_of (free_at k (part s at e)) value ≡ leaf x j → walk d k (part s at e) ≡ join head x (fault x) (rest (p + j))
  leaf_step x j i q =
      let u : p - at + j ≡ p + j - at = omega arith in
      single_step d k s at e v.body.opened v.left inside x (p + j) (omega arith) (child_is k s at e p f.head.behind f.head.place (leaf x j) q ∙ ap (single head x) u)

  -- a scalar of z bytes
  module _ {z : ℕ} (code : z ≡ scalar_code (scalar_of value)) (two : 2 ≤ z) where
    read : Read scalar_fault (scalar_of value) z
    read = code_read scalar_fault (scalar_of value) z code two

    leaf-length : leaf_length quoted value ≡ length (scalar_text quoted read.it)
    leaf-length = rw read.is

    pub scalar-within : p + z ≤ e
    scalar-within = read_within scalar_fault encode_scalar s p e _ z (omega arith) inside (scalar_sound value) read

    pub scalar_short : leaf_length quoted value ≤ longest z
    scalar_short =
        let l = read_long encode_scalar value (part_bytes s p e v.body.bytes) (scalar_sound value) read in
        let o = sound_most quoted read.it read.sound in
        let y = leaf-length in
        omega arith

    -- a length that is told only where it is not 0
    pub told_most : (x : ℕ) → (2 ≤ z → 0 < x → x ≡ leaf_length quoted value) → m + x ≤ 200 * (p + z)
    told_most zero g = omega (arith, front_most)
    told_most (suc x) g = omega (arith, front_most, scalar_short, g two (omega arith))

    -- its kind is no container's, no annotation's and no marker's
    pub scalar_on : {u : ℕ} {b₂ : List ℕ} → (10 ≤ get_or s p 0 → get_or s p 0 ≡ 15) → u ≡ m + leaf_length quoted value → Flags b₂ (get_or seen₁ 0 0) (flagged (get_or seen₁ 1 0) (number_in value)) → Walking quoted s from e k d sums₀ seen₀ sums b₂ (p + z) u (c + 1)
    unfolding noted numbered
    scalar_on {b₂ = b₂} h w q =
        let y = leaf-length in
        let o = scalar_short in
        let i = kind-is in
        let g : (j : ℕ) → 10 ≤ j → j < 15 → kind value ≡ j → ⊥ = λ j a b r. omega (arith, h (omega arith)) in
        passed (scalar read.it)
        (leaf_step (scalar read.it) z (omega arith) (value-scalar (free_at k (part s at e)) value (g 10 (omega arith) (omega arith)) (g 11 (omega arith) (omega arith)) (g 12 (omega arith) (omega arith)) (g 14 (omega arith) (omega arith))
        ∙ ap (λ (o : Option (Scalar × ℕ)). reading o absent (λ x j. leaf (scalar x) j)) read.is))
        read.sound (omega arith) scalar-within (single_on (scalar-single quoted read.it) (omega arith)) (single_adds (omega arith) (omega arith))
        (subst (λ (t : Bool). Flags b₂ (get_or seen₁ 0 0) (flagged (get_or seen₁ 1 0) t)) (sym (scalar-number value read.it z read.is)) q)

  -- a node with a length, of z bytes
  pub span-room : {z : ℕ} → z ≡ span_of value → (z ≡ 0 → ⊥) → (5 ≤ z) × (p + z ≤ e)
  span-room {z = z} q nz =
      let i = span-is value z q nz in
      let l = part_length s p e inside in
      (omega (arith, i.0), omega (arith, i.0, i.1, f.more))

  -- a clob or a blob
  sized-is : 9 ≤ get_or s p 0 → (10 ≤ get_or s p 0 → get_or s p 0 ≡ 15) → span_of value ≡ scalar_code (scalar_of value)
  sized-is i j = go (dec_le (get_or s p 0) 9)
    where
      go : Dec (get_or s p 0 ≤ 9) → span_of value ≡ scalar_code (scalar_of value)
      go (yes l) = code-clob value ∙ ap scalar_code (sym (scalar-clob value (omega (arith, kind-is))))
      go (no l) = code-blob value ∙ ap scalar_code (sym (scalar-blob value (kind-is ∙ j (omega arith))))

  -- a clob or a container whose bytes are not there
  pub span_missed : 9 ≤ get_or s p 0 → get_or s p 0 < 13 → 0 ≡ span_of value → Refused d k s at e 2
  span_missed i j z = go (dec_le (get_or s p 0) 9)
    where
      go : Dec (get_or s p 0 ≤ 9) → Refused d k s at e 2
      go (yes l) = let x = kind-is in size-refused d k s at e v.body.opened v.left inside f.head (omega arith) 0 (z ∙ sized-is i (λ h. omega arith)) (omega arith)
      go (no l) = let x = kind-is in span-refused d k s at e v.body.opened v.left inside f.head (omega arith) (omega arith) z

  -- a clob or a blob of z bytes
  module _ (nine : 9 ≤ get_or s p 0) (other : 10 ≤ get_or s p 0 → get_or s p 0 ≡ 15) {z : ℕ} (span : z ≡ span_of value) (some : z ≡ 0 → ⊥) where
    pub sized-code : z ≡ scalar_code (scalar_of value)
    sized-code = span ∙ sized-is nine other

    pub sized_two : 2 ≤ z
    sized_two = omega (arith, (span-room span some).0)

    pub sized_most : m + leaf_length quoted value ≤ 200 * (p + z)
    sized_most = omega (arith, front_most, scalar_short sized-code sized_two)

    pub sized_on : {u : ℕ} → u ≡ m + leaf_length quoted value → Walking quoted s from e k d sums₀ seen₀ sums seen₁ (p + z) u (c + 1)
    sized_on w =
        let y : number_in value ≡ false = number-other value (λ q. omega (arith, kind-is)) in
        scalar_on sized-code sized_two other w (rw y (record { long = f.flags.long; notes = refl; numbers = refl }))

  -- a version marker
  module _ (is : get_or s p 0 ≡ 14) (free : free_at k (part s at e) ≡ true) where
    pub marker_on : Walking quoted s from e k d sums₀ seen₀ sums seen₁ (p + 1) (m + 8) (c + 1)
    unfolding noted numbered
    marker_on =
        passed marker (leaf_step marker 1 (omega arith) (value_marker (free_at k (part s at e)) value (kind-is ∙ is) ∙ rw free)) refl (omega arith) (omega arith)
        (single_on (marker_single quoted) (omega arith)) (single_adds (omega arith) (omega arith)) (record { long = f.flags.long; notes = refl; numbers = refl })

  -- a container of the frame g, whose body ends at r
  module _ {g : Frame} {r : ℕ} (turn : TreeTurn d k s at e g (p + 5) r) where
    abbrev inner : Walked
    inner = walk (d - 1) g (part s (p + 5) r)

    pub container_refused : (inner.1 ≡ 0 → ⊥) → Refused d k s at e inner.1
    container_refused nz = record { fault = ap (λ (w : Walked). w.1) turn.step ∙ join-fault head (nest g inner.0) inner.1 (rest r) f.head.sound nz; some = nz }

    -- y and b₂: the sums and what is met behind it
    pub container_most : {y : List ℕ} → Grown (r - (p + 5)) sums y → get_or y 3 0 ≤ 200 * r
    container_most g = omega (arith, (sums_most v f.head.behind).indents)

    pub container_on : {y b₂ : List ℕ} → g ≡ frame_of (get_or s p 0) → inner.1 ≡ 0 → y ≡ plus sums (summed quoted g (130 - 2 * (d - 1)) inner.0) → b₂ ≡ met seen₁ inner.0 → Grown (r - (p + 5)) sums y
        → Walking quoted s from e k d sums₀ seen₀ (bracketed y (130 - 2 * d)) b₂ r (m + 2) (c + 1)
    unfolding noted numbered met
    container_on {y = y} kd z q j i =
        let o = v.body.opened in
        let deeper : 130 - 2 * (d - 1) ≡ 130 - 2 * d + 2 = omega arith in
        passed (nest g inner.0) turn.step z turn.forth turn.within
        (nest_on (rw kd (brackets (get_or s p 0))) (rw deeper at q) (omega arith)) (nest_adds (omega arith) i (omega arith) (omega arith) (ap length q ∙ plus_long _ _))
        (rw j (record { long = refl; notes = refl; numbers = refl }))
