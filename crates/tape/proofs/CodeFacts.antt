-- What validation says of what was read. Assumes nothing.
use Prim.Native.Nat.{ℕ, zero, suc, ◌+◌, ◌-◌, ◌%◌, ◌<◌, ◌≤◌}
use mathlib.Core.Path.{◌≡◌, refl, sym, ap, subst, ◌∙◌}
use mathlib.Core.List.{List, [], ◌∷◌}
use mathlib.Core.Bool.{Bool, true, false, ◌||◌, not, or_assoc, or-false, or-true}
use mathlib.Core.Option.{Option, none, some}
use native.Mathlib.Nat.{not-suc-le-zero}
use native.Mathlib.Omega.{arith}
use native.Mathlib.Decide.{dec_le}
use lib.Dec.{leb, ltb, eqb}
use lib.Ieee.{nan, inf, fin}
use lib.ListN.{length, get_or, take, drop}
use lib.Seq.{take-take}
use borrow.Author.Tests.{le-leb, lt-leb, leb-true, eq-eqb, eqb-true, eqb-false}
use Rattle.output.specs.Logic.{if}
use Rattle.text_rules.specs.Text.{Sym}
use Rattle.text_rules.specs.Utf8.{valid}
use Rattle.numbers.specs.Timestamp.{well_formed}
use Rattle.floats.specs.Value.{is_whole}
use Rattle.tape.specs.Bytes.{le_number, part, first}
use Rattle.tape.specs.Tree.{Scalar, Head, null, bool, int, float, decimal, timestamp, symbol, string, clob, blob}
use Rattle.tape.specs.Tape.{reading, kind, length_of, text_of, sym_of, syms_of, name_of, notes_of, head_of, byte_of, int_of, float_as, float_of, decimal_of, timestamp_as, timestamp_of, symbol_of, sized_of, scalar_of, absent, body, open_of, value_of, text_fault, sym_fault, syms_fault, name_fault, head_fault, float_fault, scalar_fault}
use Rattle.tape.specs.Refusal.{annotated, sym_numbered, syms_numbered, name_numbered, head_numbered, scalar_numbered}
use Rattle.std.specs.Prelude.{Option as OptionC, None}
use Rattle.tape.specs.CheckSteps.{whole, coded, code_of, scalar_code, span_of, number_in, name_number_in, ends, end_of, frame_of, front_of, syms_front, notes_front}
use Rattle.tape.specs.declared.Frame.{Frame}
use Rattle.tape.specs.declared.Frame.TheVariants.{Struct}
use Rattle.tape.specs.declared.check.Front.{Front}
use Rattle.tape.proofs.Parts.{part_length, part-drop}
use Rattle.tape.proofs.Reading.{if_all, Sound, something, Long, long, sym_long, Counted, counted, syms-count}
use Rattle.tape.proofs.CodeReading.{sym_id, sym_none, timestamp-some, value-list, value_sexp, value_struct, notes-some}

-- ---- the first of problems

pub first_inner : (p r : ℕ) → (p ≡ 0 → ⊥) → first p r ≡ p
first_inner zero r nz = absurd (nz refl)
first_inner (suc p) r nz = refl

-- a problem in a head is 2
abbrev Two : ℕ → Type 0
Two p = (p ≡ 0 → ⊥) → p ≡ 2

first_two : (p r : ℕ) → Two p → Two r → Two (first p r)
first_two zero r e f = f
first_two (suc p) r e f = e

sym_two : (s : Sym) → Two (sym_fault s)
unfolding text_fault
sym_two (Sym.text s) = if_all Two {b = valid s} {x = 0} {y = 2} (λ _ nz. absurd (nz refl)) (λ _ nz. refl)
sym_two (Sym.id n) = λ nz. absurd (nz refl)

syms_two : (ss : List Sym) → Two (syms_fault ss)
unfolding syms_fault
syms_two [] = λ nz. absurd (nz refl)
syms_two (s ∷ ss) = first_two (sym_fault s) (syms_fault ss) (sym_two s) (syms_two ss)

name_two : (a : Option Sym) → Two (name_fault a)
name_two none = λ nz. absurd (nz refl)
name_two (some s) = sym_two s

pub head_two : (h : Head) → Two (head_fault h)
unfolding head_fault
head_two h = first_two (name_fault h.0) (syms_fault h.1) (name_two h.0) (syms_two h.1)

-- the bytes of a text node, on the tape
pub part_text : (s : List ℕ) (at e n : ℕ) → at + 5 + n ≤ e → take n (drop 5 (part s at e)) ≡ take n (drop (at + 5) s)
part_text s at e n h = ap (take n) (part-drop s at e 5) ∙ take-take n (e - (at + 5)) (drop (at + 5) s) (omega arith)

-- a kind that is none of 0 to 5; one below 10 and none of 8 and 9
pub six_on : (k : ℕ) → (k ≡ 0 → ⊥) → (k ≡ 1 → ⊥) → (k ≡ 2 → ⊥) → (k ≡ 3 → ⊥) → (k ≡ 4 → ⊥) → (k ≡ 5 → ⊥) → 6 ≤ k
six_on k a b c d e f = omega arith

pub to_seven : (k : ℕ) → (k ≡ 8 → ⊥) → (k ≡ 9 → ⊥) → k < 10 → k ≤ 7
to_seven k a b h = omega arith

-- ---- what was read, by the number that validation says of it

pub record Read {A : Type 0} (f : A → ℕ) (o : Option (A × ℕ)) (n : ℕ) : Type 0 where
  pub it : A
  pub is : o ≡ some (it, n)
  pub sound : f it ≡ 0

-- nothing, or something with a problem
pub data Missed {A : Type 0} (f : A → ℕ) (o : Option (A × ℕ)) : Type 0 where
  nothing : o ≡ none → Missed f o
  wrong : (a : A) (n : ℕ) → o ≡ some (a, n) → (f a ≡ 0 → ⊥) → Missed f o

coded_few : (p n : ℕ) → coded (suc p) n ≤ 1
coded_few p n = if_all (λ (i : ℕ). i ≤ 1) {b = eqb p 3} {x = 1} {y = 0} (λ _. omega arith) (λ _. omega arith)

sound_size : {A : Type 0} (enc : A → List ℕ) (l : List ℕ) (a : A) (n : ℕ) → Sound enc l (some (a, n)) → n ≤ length l
sound_size enc l a n (something h t) = h

module _ {A : Type 0} (f : A → ℕ) where
  pub code_read : (o : Option (A × ℕ)) (n : ℕ) → n ≡ code_of f o → 2 ≤ n → Read f o n
  code_read none n e h = absurd (omega arith)
  code_read (some (a, m)) n e h = go (f a) refl e
    where
      go : (p : ℕ) → f a ≡ p → n ≡ coded p m → Read f (some (a, m)) n
      go zero z e = record { it = a; is = ap (λ (j : ℕ). some (a, j)) (sym e); sound = z }
      go (suc p) z e = let c = coded_few p m in absurd (omega arith)

  code-some : ((a : A) → Two (f a)) → (o : Option (A × ℕ)) (n : ℕ) → n ≡ code_of f o → (n ≡ 0 → ⊥) → Read f o n
  code-some two none n e nz = absurd (nz e)
  code-some two (some (a, m)) n e nz = go (f a) refl (two a) e
    where
      go : (p : ℕ) → f a ≡ p → Two p → n ≡ coded p m → Read f (some (a, m)) n
      go zero z t e = record { it = a; is = ap (λ (j : ℕ). some (a, j)) (sym e); sound = z }
      go (suc p) z t e = let q : suc p ≡ 2 = t (λ y. omega arith) in absurd (nz (e ∙ ap (λ (i : ℕ). coded i m) q))

  code-none : (o : Option (A × ℕ)) → Long o → 0 ≡ code_of f o → Missed f o
  code-none none h e = nothing refl
  code-none (some (a, m)) (long h) e = go (f a) refl e
    where
      go : (p : ℕ) → f a ≡ p → 0 ≡ coded p m → Missed f (some (a, m))
      go zero z e = absurd (omega arith)
      go (suc p) z e = wrong a m refl (λ y. let q : suc p ≡ 0 = sym z ∙ y in omega arith)

  -- it ends within the part
  pub read_within : (enc : A → List ℕ) (s : List ℕ) (at e : ℕ) (o : Option (A × ℕ)) (n : ℕ) → at ≤ e → e ≤ length s → Sound enc (part s at e) o → Read f o n → at + n ≤ e
  read_within enc s at e o n h i w r =
      let g = sound_size enc (part s at e) r.it n (subst (Sound enc (part s at e)) r.is w) in
      let l = part_length s at e i in
      omega arith

-- it ends at q, by the place that validation says of it
pub record Ended {A : Type 0} (f : A → ℕ) (at q : ℕ) (o : Option (A × ℕ)) : Type 0 where
  pub bytes : ℕ
  pub place : q ≡ at + bytes
  pub read : Read f o bytes

pub data Stopped {A : Type 0} (f : A → ℕ) (at e : ℕ) (o : Option (A × ℕ)) : Type 0 where
  missed : Missed f o → Stopped f at e o
  reached : Ended f at e o → Stopped f at e o

module _ {A : Type 0} (f : A → ℕ) (at e : ℕ) where
  pub end_read : (o : Option (A × ℕ)) (q : ℕ) → q ≡ end_of f at e o → (q ≡ e → ⊥) → Ended f at q o
  end_read none q z nz = absurd (nz z)
  end_read (some (a, n)) q z nz = go (f a) refl z
    where
      go : (p : ℕ) → f a ≡ p → q ≡ ends p (at + n) e → Ended f at q (some (a, n))
      go zero y z = record { bytes = n; place = z; read = record { it = a; is = refl; sound = y } }
      go (suc p) y z = absurd (nz z)

  pub end_stopped : (o : Option (A × ℕ)) → e ≡ end_of f at e o → Stopped f at e o
  end_stopped none z = missed (nothing refl)
  end_stopped (some (a, n)) z = go (f a) refl z
    where
      go : (p : ℕ) → f a ≡ p → e ≡ ends p (at + n) e → Stopped f at e (some (a, n))
      go zero y z = reached (record { bytes = n; place = z; read = record { it = a; is = refl; sound = y } })
      go (suc p) y z = missed (wrong a n refl (λ x. let q : suc p ≡ 0 = sym y ∙ x in omega arith))

-- ---- symbols

module _ (l : List ℕ) where
  pub sym_read : (n : ℕ) → n ≡ code_of sym_fault (sym_of l) → (n ≡ 0 → ⊥) → Read sym_fault (sym_of l) n
  sym_read n e nz = code-some sym_fault sym_two (sym_of l) n e nz

  sym_missed : 0 ≡ code_of sym_fault (sym_of l) → Missed sym_fault (sym_of l)
  sym_missed e = code-none sym_fault (sym_of l) (sym_long l) e

  -- as a name
  pub name_bad : (at e : ℕ) → 0 ≡ code_of sym_fault (sym_of l) → e ≡ end_of name_fault at e (name_of Struct l)
  unfolding name_of
  name_bad at e z = go (sym_missed z)
    where
      by : (f p : ℕ) → (f ≡ 0 → ⊥) → e ≡ ends f p e
      by zero p nz = absurd (nz refl)
      by (suc f) p nz = refl

      go : Missed sym_fault (sym_of l) → e ≡ end_of name_fault at e (reading (sym_of l) none (λ s n. some (some s, n)))
      go (nothing q) = rw q
      go (wrong a n q nz) = rw q (by (sym_fault a) (at + n) nz)

  pub name_good : (at e n : ℕ) → n ≡ code_of sym_fault (sym_of l) → (n ≡ 0 → ⊥) → at + n ≡ end_of name_fault at e (name_of Struct l)
  unfolding name_of
  name_good at e n z nz = let r = sym_read n z nz in rw (r.is, r.sound)

  number_text : kind l ≡ 6 → number_in l ≡ false
  unfolding number_in sym_of
  number_text k = simp (eq-eqb _ _ k) (go (text_of l))
    where
      go : (o : Option (List ℕ × ℕ)) → reading (reading o none (λ s n. some (Sym.text s, n))) false (λ s n. sym_numbered s) ≡ false
      go none = refl
      go (some (s, n)) = refl

  pub number-none : sym_of l ≡ none → number_in l ≡ false
  unfolding number_in
  number-none e = rw e

  -- no identifier
  pub number-other : (kind l ≡ 7 → ⊥) → number_in l ≡ false
  number-other h = go (eqb (kind l) 6) refl
    where
      go : (b : Bool) → eqb (kind l) 6 ≡ b → number_in l ≡ false
      go true k = number_text (eqb-true _ _ k)
      go false k = number-none (sym_none l (eqb-false _ _ k) h)

  pub number_id : kind l ≡ 7 → 5 ≤ length l → number_in l ≡ not (eqb (length_of l) 0)
  unfolding number_in
  number_id k h = rw (sym_id l k h)

  pub number-name : number_in l ≡ name_number_in Struct l
  unfolding number_in name_number_in name_of
  number-name = go (sym_of l)
    where
      go : (o : Option (Sym × ℕ)) → reading o false (λ s n. sym_numbered s) ≡ reading (reading o none (λ s n. some (some s, n))) false (λ a n. name_numbered a)
      go none = refl
      go (some (s, n)) = refl

  number_read : (a : Sym) (n : ℕ) → sym_of l ≡ some (a, n) → number_in l ≡ sym_numbered a
  unfolding number_in
  number_read a n e = rw e

-- ---- scalars

code_map : {A B : Type 0} (f : B → ℕ) (h : A → B) (o : Option (A × ℕ)) → code_of (λ a. f (h a)) o ≡ code_of f (reading o none (λ a n. some (h a, n)))
code_map f h none = refl
code_map f h (some (a, n)) = refl

abbrev number_of : Option (Scalar × ℕ) → Bool
number_of o = reading o false (λ x n. scalar_numbered x)

module _ (l : List ℕ) where
  pub code_text : kind l ≡ 6 → code_of text_fault (text_of l) ≡ code_of sym_fault (sym_of l)
  unfolding sym_of
  code_text k = simp (eq-eqb _ _ k) (code_map sym_fault Sym.text (text_of l))

  pub code-symbol : code_of sym_fault (sym_of l) ≡ scalar_code (symbol_of l)
  unfolding symbol_of scalar_fault
  code-symbol = code_map scalar_fault symbol (sym_of l)

  pub code-string : code_of text_fault (text_of l) ≡ scalar_code (sized_of string l)
  unfolding sized_of scalar_fault
  code-string = code_map scalar_fault string (text_of l)

  code-span : (f : List ℕ → Scalar) → ((s : List ℕ) → scalar_fault (f s) ≡ 0) → span_of l ≡ scalar_code (sized_of f l)
  unfolding span_of sized_of text_of
  code-span f z = go (leb (5 + length_of l) (length l))
    where
      go : (b : Bool) → if b (5 + length_of l) 0 ≡ scalar_code (reading (if b (some (take (length_of l) (drop 5 l), 5 + length_of l)) none) none (λ s n. some (f s, n)))
      go true = sym (ap (λ (p : ℕ). coded p (5 + length_of l)) (z _))
      go false = refl

  pub code-clob : span_of l ≡ scalar_code (sized_of clob l)
  unfolding scalar_fault
  code-clob = code-span clob (λ s. refl)

  pub code-blob : span_of l ≡ scalar_code (sized_of blob l)
  unfolding scalar_fault
  code-blob = code-span blob (λ s. refl)

  pub code-timestamp : (b : Bool) → 16 ≤ length l → b ≡ well_formed (timestamp_as l) → coded (if b 0 2) 16 ≡ scalar_code (timestamp_of l)
  unfolding scalar_fault
  code-timestamp b h e = rw (timestamp-some l h, e)

  -- an identifier but 0
  symbol-number : number_of (symbol_of l) ≡ number_in l
  unfolding symbol_of number_in scalar_numbered
  symbol-number = go (sym_of l)
    where
      go : (o : Option (Sym × ℕ)) → number_of (reading o none (λ s n. some (symbol s, n))) ≡ reading o false (λ s n. sym_numbered s)
      go none = refl
      go (some (s, n)) = refl

  scalar-numbers : number_of (scalar_of l) ≡ number_in l
  unfolding scalar_of byte_of int_of float_of float_as decimal_of timestamp_of sized_of text_of scalar_numbered
  scalar-numbers =
      if_all Same {b = eqb (kind l) 0} (λ e. byte 12 null (λ b. refl) ∙ no (eqb-true _ _ e) (λ z. omega arith)) (λ _.
      if_all Same {b = eqb (kind l) 1} (λ e. byte 1 (λ b. bool (eqb b 1)) (λ b. refl) ∙ no (eqb-true _ _ e) (λ z. omega arith)) (λ _.
      if_all Same {b = eqb (kind l) 2} (λ e. if_all None {b = leb 9 (length l)} (λ _. refl) (λ _. refl) ∙ no (eqb-true _ _ e) (λ z. omega arith)) (λ _.
      if_all Same {b = eqb (kind l) 3} (λ e. if_all None {b = leb 9 (length l)} (λ _. float (le_number 8 (drop 1 l))) (λ _. refl) ∙ no (eqb-true _ _ e) (λ z. omega arith)) (λ _.
      if_all Same {b = eqb (kind l) 4} (λ e. if_all None {b = leb 14 (length l)} (λ _. if_all None {b = leb (get_or l 1 0) 1} (λ _. refl) (λ _. refl)) (λ _. refl) ∙ no (eqb-true _ _ e) (λ z. omega arith)) (λ _.
      if_all Same {b = eqb (kind l) 5} (λ e. if_all None {b = leb 16 (length l)} (λ _. refl) (λ _. refl) ∙ no (eqb-true _ _ e) (λ z. omega arith)) (λ _.
      if_all Same {b = eqb (kind l) 6} (λ e. symbol-number) (λ _.
      if_all Same {b = eqb (kind l) 7} (λ e. symbol-number) (λ n.
      if_all Same {b = eqb (kind l) 8} (λ e. sized string (λ s. refl) ∙ no (eqb-true _ _ e) (λ z. omega arith)) (λ _.
      if_all Same {b = eqb (kind l) 9} (λ e. sized clob (λ s. refl) ∙ no (eqb-true _ _ e) (λ z. omega arith)) (λ _.
      if_all Same {b = eqb (kind l) 15} (λ e. sized blob (λ s. refl) ∙ no (eqb-true _ _ e) (λ z. omega arith)) (λ _. sym (number-other l (eqb-false _ _ n)))))))))))))
    where
      Same : Option (Scalar × ℕ) → Type 0
      Same o = number_of o ≡ number_in l

      None : Option (Scalar × ℕ) → Type 0
      None o = number_of o ≡ false

      no : {k : ℕ} → kind l ≡ k → (k ≡ 7 → ⊥) → false ≡ number_in l
      no e h = sym (number-other l (λ z. h (sym e ∙ z)))

      byte : (most : ℕ) (f : ℕ → Scalar) → ((b : ℕ) → scalar_numbered (f b) ≡ false) → None (byte_of most f l)
      byte most f g = if_all None {b = leb 2 (length l)} (λ _. if_all None {b = leb (get_or l 1 0) most} (λ _. g _) (λ _. refl)) (λ _. refl)

      float : (b : ℕ) → None (float_as b)
      float b = if_all None {b = eqb b 0x7FF8_0000_0000_0000} (λ _. refl) (λ _. if_all None {b = ltb 0x7FF0_0000_0000_0000 (b % 0x8000_0000_0000_0000)} (λ _. refl) (λ _. refl))

      sized : (f : List ℕ → Scalar) → ((s : List ℕ) → scalar_numbered (f s) ≡ false) → None (sized_of f l)
      sized f g = go (text_of l)
        where
          go : (o : Option (List ℕ × ℕ)) → None (reading o none (λ s n. some (f s, n)))
          go none = refl
          go (some (s, n)) = g s

  pub scalar-number : (x : Scalar) (n : ℕ) → scalar_of l ≡ some (x, n) → scalar_numbered x ≡ number_in l
  scalar-number x n e = sym (ap number_of e) ∙ scalar-numbers

-- the problems of a scalar
pub data Problem : ℕ → Type 0 where
  no_problem : Problem 0
  problem-2 : Problem 2
  problem-4 : Problem 4

text_problem : (s : List ℕ) → Problem (text_fault s)
unfolding text_fault
text_problem s = if_all Problem {b = valid s} (λ _. no_problem) (λ _. problem-2)

pub scalar_problem : (x : Scalar) → Problem (scalar_fault x)
unfolding scalar_fault float_fault
scalar_problem (null t) = no_problem
scalar_problem (bool b) = no_problem
scalar_problem (int n) = no_problem
scalar_problem (float nan) = no_problem
scalar_problem (float (inf s)) = no_problem
scalar_problem (float (fin s m e)) = if_all Problem {b = is_whole (fin s m e)} (λ _. no_problem) (λ _. problem-4)
scalar_problem (decimal neg m e) = no_problem
scalar_problem (timestamp x) = if_all Problem {b = well_formed x} (λ _. no_problem) (λ _. problem-2)
scalar_problem (symbol (Sym.text s)) = text_problem s
scalar_problem (symbol (Sym.id n)) = no_problem
scalar_problem (string s) = text_problem s
scalar_problem (clob s) = no_problem
scalar_problem (blob s) = no_problem

-- ---- a node with a length

module _ (l : List ℕ) where
  pub span_short : length l < 5 → span_of l ≡ 0
  unfolding span_of
  span_short h = simp (lt-leb (5 + length_of l) (length l) (omega arith))

  pub span_over : length l < 5 + length_of l → span_of l ≡ 0
  unfolding span_of
  span_over h = simp (lt-leb _ _ h)

  pub span_fits : 5 + length_of l ≤ length l → span_of l ≡ 5 + length_of l
  unfolding span_of
  span_fits h = simp (le-leb _ _ h)

  pub span_none : 0 ≡ span_of l → text_of l ≡ none
  unfolding span_of text_of
  span_none e = go (leb (5 + length_of l) (length l)) e
    where
      go : (b : Bool) → 0 ≡ if b (5 + length_of l) 0 → if {A = Option (List ℕ × ℕ)} b (some (take (length_of l) (drop 5 l), 5 + length_of l)) none ≡ none
      go true e = absurd (omega arith)
      go false e = refl

  module _ (n : ℕ) (e : n ≡ span_of l) (nz : n ≡ 0 → ⊥) where
    pub span-is : (n ≡ 5 + length_of l) × (n ≤ length l)
    unfolding span_of
    span-is = go (leb (5 + length_of l) (length l)) refl e
      where
        go : (b : Bool) → leb (5 + length_of l) (length l) ≡ b → n ≡ if b (5 + length_of l) 0 → (n ≡ 5 + length_of l) × (n ≤ length l)
        go true t e = let h : 5 + length_of l ≤ length l = leb-true _ _ t in (e, omega arith)
        go false t e = absurd (nz e)

    pub span_text : text_of l ≡ some (take (n - 5) (drop 5 l), n)
    unfolding text_of
    span_text =
        let s = span-is in
        let m : 5 + length_of l ≡ n = sym s.0 in
        let i : length_of l ≡ n - 5 = omega arith in
        let h : 5 + length_of l ≤ length l = let g = s.1 in omega arith in
        simp (le-leb _ _ h) (ap (λ (j : ℕ). some (take j (drop 5 l), 5 + length_of l)) i ∙ ap (λ (j : ℕ). some (take (n - 5) (drop 5 l), j)) m)

    span_open : (k : Frame) → open_of k l ≡ body k (n - 5)
    unfolding open_of
    span_open k =
        let s = span-is in
        let m = s.0 in
        let i : length_of l ≡ n - 5 = omega arith in
        let h : 5 + length_of l ≤ length l = let g = s.1 in omega arith in
        simp (le-leb _ _ h) (ap (body k) i)

-- ---- values

pub value_open : (f : Bool) (l : List ℕ) → 10 ≤ kind l → kind l < 13 → value_of f l ≡ open_of (frame_of (kind l)) l
unfolding frame_of
value_open f l h g = go (dec_le (kind l) 10) (dec_le (kind l) 11)
  where
    go : Dec (kind l ≤ 10) → Dec (kind l ≤ 11) → value_of f l ≡ open_of (frame_of (kind l)) l
    go (yes a) b = let k : kind l ≡ 10 = omega arith in value-list f l k ∙ rw k
    go (no a) (yes b) = let k : kind l ≡ 11 = omega arith in value_sexp f l k ∙ rw k
    go (no a) (no b) = let k : kind l ≡ 12 = omega arith in value_struct f l k ∙ rw k

-- a container
module _ (f : Bool) (l : List ℕ) (h : 10 ≤ kind l) (g : kind l < 13) where
  pub value_missing : 0 ≡ span_of l → value_of f l ≡ absent
  unfolding span_of open_of
  value_missing e = value_open f l h g ∙ go (frame_of (kind l)) (leb (5 + length_of l) (length l)) e
    where
      go : (k : Frame) (b : Bool) → 0 ≡ if b (5 + length_of l) 0 → if b (body k (length_of l)) absent ≡ absent
      go k true e = absurd (omega arith)
      go k false e = refl

  pub value_body : (n : ℕ) → n ≡ span_of l → (n ≡ 0 → ⊥) → value_of f l ≡ body (frame_of (kind l)) (n - 5)
  value_body n e nz = value_open f l h g ∙ span_open l n e nz (frame_of (kind l))

-- ---- what stands before a value: j joins what was read at a place and what was read behind it

module _ {A B C : Type 0} (f : A → ℕ) (f' : B → ℕ) (f'' : C → ℕ) (m'' n'' : C → Bool) (j : A → B → C) (faults : (a : A) (x : B) → f'' (j a x) ≡ first (f a) (f' x)) where
  then_stop : (at : ℕ) (o : Option (A × ℕ)) (rest : ℕ → Option (B × ℕ)) → Missed f o
      → None ≡ front_of f'' m'' n'' at (reading o none (λ a i. reading (rest i) none (λ x k. some (j a x, i + k))))
  then_stop at o rest (nothing e) = rw e
  then_stop at o rest (wrong a i e nz) = rw e (go (f a) refl nz (rest i))
    where
      go : (q : ℕ) → f a ≡ q → (q ≡ 0 → ⊥) → (o : Option (B × ℕ)) → None ≡ front_of f'' m'' n'' at (reading o none (λ x k. some (j a x, i + k)))
      go zero y nz o = absurd (nz refl)
      go (suc q) y nz none = refl
      go (suc q) y nz (some (x, k)) = rw (faults a x, y)

  then_step : (m n : B → Bool) (at i : ℕ) (o : Option (A × ℕ)) (rest : ℕ → Option (B × ℕ)) (r : Read f o i)
      → ((x : B) → m x ≡ m'' (j r.it x)) → ((x : B) → n x ≡ n'' (j r.it x))
      → front_of f'' m'' n'' at (reading o none (λ a i. reading (rest i) none (λ x k. some (j a x, i + k)))) ≡ front_of f' m n (at + i) (rest i)
  then_step m n at i o rest r u v = rw r.is (go r.it r.sound u v (rest i))
    where
      go : (a : A) → f a ≡ 0 → ((x : B) → m x ≡ m'' (j a x)) → ((x : B) → n x ≡ n'' (j a x)) → (o : Option (B × ℕ))
          → front_of f'' m'' n'' at (reading o none (λ x k. some (j a x, i + k))) ≡ front_of f' m n (at + i) o
      go a e u v none = refl
      go a e u v (some (x, k)) = let y : at + (i + k) ≡ at + i + k = omega arith in rw (faults a x, e, y, u x, v x)

-- ---- symbols, one after another, behind an identifier but 0 if b

pub front-end : (p : ℕ) (b : Bool) (c : ℕ) (l : List ℕ) → c ≤ 0 → whole p true b ≡ syms_front p b (syms_of c l)
unfolding syms_of syms_fault syms_numbered
front-end p b zero l h = let i : p ≡ p + 0 = omega arith in let y = or-false b in cc
front-end p b (suc c) l h = absurd (not-suc-le-zero h)

module _ (s : List ℕ) (p e : ℕ) (b : Bool) where
  pub front-stop : (c : ℕ) → 0 < c → 0 ≡ code_of sym_fault (sym_of (part s p e)) → None ≡ syms_front p b (syms_of c (part s p e))
  unfolding syms_of syms_fault
  front-stop zero h z = absurd (not-suc-le-zero h)
  front-stop (suc c) h z =
      then_stop sym_fault syms_fault syms_fault (λ ss. true) (λ ss. b || syms_numbered ss) ◌∷◌ (λ a ss. refl) p (sym_of (part s p e)) (λ i. syms_of c (drop i (part s p e))) (sym_missed (part s p e) z)

  pub front-step : (c n : ℕ) → 0 < c → n ≡ code_of sym_fault (sym_of (part s p e)) → (n ≡ 0 → ⊥)
      → syms_front p b (syms_of c (part s p e)) ≡ syms_front (p + n) (b || number_in (part s p e)) (syms_of (c - 1) (part s (p + n) e))
  unfolding syms_of syms_fault syms_numbered
  front-step zero n i z nz = absurd (not-suc-le-zero i)
  front-step (suc c) n i z nz =
      let d : c ≡ suc c - 1 = omega arith in
      let h : Bool = number_in (part s p e) in
      let r = sym_read (part s p e) n z nz in
      then_step sym_fault syms_fault syms_fault (λ ss. true) (λ ss. b || syms_numbered ss) ◌∷◌ (λ a ss. refl) (λ ss. true) (λ ss. b || h || syms_numbered ss) p n (sym_of (part s p e)) (λ i. syms_of c (drop i (part s p e))) r (λ ss. refl)
      (λ ss. or_assoc b h (syms_numbered ss) ∙ ap (λ (x : Bool). b || (x || syms_numbered ss)) (number_read (part s p e) r.it n r.is))
      ∙ ap (λ (l : List ℕ). syms_front (p + n) (b || h) (syms_of c l)) (part-drop s p e n)
      ∙ ap (λ (i : ℕ). syms_front (p + n) (b || h) (syms_of i (part s (p + n) e))) d

-- ---- annotations

module _ (l : List ℕ) (at : ℕ) (m b : Bool) where
  pub front-none : notes_of l ≡ some ([], 0) → whole at m b ≡ notes_front at m b (notes_of l)
  unfolding syms_fault syms_numbered
  front-none e = let i : at + 0 ≡ at = omega arith in rw (e, i, or-false m, or-false b)

  pub front-notes : kind l ≡ 13 → 1 ≤ get_or l 1 0 → get_or l 1 0 ≤ 16 → syms_front (at + 2) b (syms_of (get_or l 1 0) (drop 2 l)) ≡ notes_front at m b (notes_of l)
  front-notes k h g = rw (notes-some l k h g) (go (syms_of (get_or l 1 0) (drop 2 l)) (syms-count (get_or l 1 0) (drop 2 l)))
    where
      go : (o : Option (List Sym × ℕ)) → Counted (get_or l 1 0) o → syms_front (at + 2) b o ≡ notes_front at m b (reading o none (λ ss n. some (ss, 2 + n)))
      go none c = refl
      go (some ([], n)) (counted c) = absurd (omega arith)
      go (some (s ∷ ss, n)) (counted c) = let i : at + (2 + n) ≡ at + 2 + n = omega arith in rw (i, or-true m)

-- ---- a head

abbrev pub head_front : ℕ → Bool → Bool → Option (Head × ℕ) → OptionC Front
head_front at m b o = front_of head_fault (λ h. m || annotated h.1) (λ h. b || head_numbered h) at o

module _ (k : Frame) (s : List ℕ) (at e : ℕ) (m b : Bool) where
  pub front_nameless : Missed name_fault (name_of k (part s at e)) → None ≡ head_front at m b (head_of k (part s at e))
  unfolding head_of head_fault
  front_nameless z =
      then_stop name_fault syms_fault head_fault (λ h. m || annotated h.1) (λ h. b || head_numbered h) (λ a ss. (a, ss)) (λ a ss. refl) at (name_of k (part s at e)) (λ i. notes_of (drop i (part s at e))) z

  pub front-head : (q : ℕ) → Ended name_fault at q (name_of k (part s at e))
      → notes_front q m (b || name_number_in k (part s at e)) (notes_of (part s q e)) ≡ head_front at m b (head_of k (part s at e))
  unfolding head_of head_fault head_numbered name_number_in
  front-head q z =
      let n = z.bytes in
      let r = z.read in
      let h : Bool = reading (name_of k (part s at e)) false (λ a n. name_numbered a) in
      let g : h ≡ name_numbered r.it = ap (λ (o : Option (Option Sym × ℕ)). reading o false (λ a n. name_numbered a)) r.is in
      ap (λ (i : ℕ). notes_front i m (b || h) (notes_of (part s i e))) z.place
      ∙ ap (λ (l : List ℕ). notes_front (at + n) m (b || h) (notes_of l)) (sym (part-drop s at e n))
      ∙ sym (then_step name_fault syms_fault head_fault (λ h. m || annotated h.1) (λ h. b || head_numbered h) (λ a ss. (a, ss)) (λ a ss. refl) (λ ss. m || annotated ss) (λ ss. b || h || syms_numbered ss) at n (name_of k (part s at e)) (λ i. notes_of (drop i (part s at e))) r
      (λ ss. refl) (λ ss. or_assoc b h (syms_numbered ss) ∙ ap (λ (x : Bool). b || (x || syms_numbered ss)) g))
