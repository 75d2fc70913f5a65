-- What is read lies within the bytes, and its encoding is the bytes that it was read from. Assumes nothing.
use Prim.Native.Nat.{ℕ, zero, suc, ◌+◌, ◌%◌, ◌<◌, ◌≤◌}
use mathlib.Core.Path.{◌≡◌, refl, sym, ap, ◌∙◌}
use mathlib.Core.List.{List, [], ◌∷◌, ◌++◌}
use mathlib.Core.Bool.{Bool, true, false}
use mathlib.Core.Option.{Option, none, some}
use native.Mathlib.Omega.{arith}
use lib.Dec.{leb, ltb, eqb}
use lib.Ieee.{Float, nan}
use lib.ListN.{length, get_or, take, drop, length-drop}
use lib.Seq.{length-take-le, take-add, drop-drop, drop-cons}
use mir.Syntax.{w16, w32, w64}
use borrow.Author.Tests.{leb-true, ltb-false, eqb-true}
use Rattle.output.specs.Logic.{if}
use Rattle.output.specs.Wrote.{le_bytes}
use Rattle.text_rules.specs.Text.{Sym}
use Rattle.tape.specs.Bytes.{le_number, signed, bits}
use Rattle.tape.specs.Tree.{Scalar, Head, Node, null, bool, int, timestamp, symbol, string, clob, blob, scalar, marker, bit, tag, float_bits, sized, encode_timestamp, encode_sym, encode_scalar, encode_syms, encode_name, encode_notes, encode_head, encode}
use Rattle.tape.specs.Tape.{reading, kind, length_of, text_of, sym_of, syms_of, name_of, notes_of, head_of, byte_of, int_of, float_as, float_of, decimal_of, timestamp_as, timestamp_of, symbol_of, sized_of, scalar_of, Value, absent, leaf, body, open_of, value_of, Child, bad, single, tree, free_at, headed_child, child_of}
use Rattle.tape.specs.Fine.{Bytes, Inner}
use Rattle.tape.specs.declared.Frame.{Frame}
use Rattle.tape.specs.declared.Frame.TheVariants.{Top, List as ListF, Sexp, Struct}
use Rattle.tape.proofs.Numbers.{bytes_drop, le_back, le_bound, bits-signed, float-bits_of, float-bits-nan}

-- what holds of either holds of the one that is picked
pub if_all : {A : Type 0} (P : A → Type 0) {b : Bool} {x y : A} → (b ≡ true → P x) → (b ≡ false → P y) → P (if b x y)
if_all P {b} {x} {y} f g = go b f g
  where
    go : (b : Bool) → (b ≡ true → P x) → (b ≡ false → P y) → P (if b x y)
    go true f g = f refl
    go false f g = g refl

-- ---- a list of bytes, a field at a time: x is n bytes from the place j on

module _ (l : List ℕ) (all : Bytes l) where
  number_back : (w j : ℕ) → j + w ≤ length l → le_bytes w (le_number w (drop j l)) ≡ take w (drop j l)
  number_back w j h = le_back w (drop j l) (bytes_drop j l all) (rw (length-drop j l) (omega arith))

  number_then : (w j n : ℕ) {x : List ℕ} → j + w ≤ length l → x ≡ take n (drop (j + w) l) → le_bytes w (le_number w (drop j l)) ++ x ≡ take (w + n) (drop j l)
  number_then w j n {x} h e =
      ap (λ (r : List ℕ). r ++ x) (number_back w j h)
      ∙ ap (λ (r : List ℕ). take w (drop j l) ++ r) (e ∙ ap (take n) (sym (drop-drop w j l)))
      ∙ sym (take-add w n (drop j l))

  byte_then : (j n : ℕ) {x : List ℕ} → j < length l → x ≡ take n (drop (suc j) l) → get_or l j 0 ∷ x ≡ take (suc n) (drop j l)
  byte_then j n {x} h e = ap (λ (r : List ℕ). get_or l j 0 ∷ r) e ∙ ap (take (suc n)) (sym (drop-cons l j 0 h))

  kind_then : (k n : ℕ) {x : List ℕ} → 1 ≤ length l → kind l ≡ k → x ≡ take n (drop 1 l) → k ∷ x ≡ take (suc n) l
  kind_then k n {x} h e f = ap (λ (i : ℕ). i ∷ x) (sym e) ∙ byte_then 0 n h f

-- a kind byte and a number
pub header_back : (k : ℕ) (l : List ℕ) → Bytes l → kind l ≡ k → 5 ≤ length l → k ∷ le_bytes 4 (length_of l) ≡ take 5 l
header_back k l b e h = kind_then l b k 4 (omega arith) e (number_back l b 4 1 h)

-- a node of text
pub text_back : (k : ℕ) (l : List ℕ) → kind l ≡ k → Bytes l → 5 + length_of l ≤ length l → k ∷ sized (take (length_of l) (drop 5 l)) ≡ take (5 + length_of l) l
unfolding sized
text_back k l e b h =
    let u : ℕ = length_of l in
    let t : List ℕ = take u (drop 5 l) in
    let n : length t ≡ u = length-take-le u (drop 5 l) (rw (length-drop 5 l) (omega arith)) in
    ap (λ (i : ℕ). k ∷ (le_bytes 4 i ++ t)) n ∙ ap (λ (r : List ℕ). r ++ t) (header_back k l b e (omega arith)) ∙ sym (take-add 5 u l)

-- ---- what is read, within the bytes, and what it stands for

pub data Sound {A : Type 0} (enc : A → List ℕ) (l : List ℕ) : Option (A × ℕ) → Type 0 where
  nothing : Sound enc l none
  something : {a : A} {n : ℕ} → n ≤ length l → (Bytes l → enc a ≡ take n l) → Sound enc l (some (a, n))

-- what is made of what is read, without more bytes
pub map_sound : {A B : Type 0} (ea : A → List ℕ) (eb : B → List ℕ) (l : List ℕ) (f : A → B) → ((a : A) → eb (f a) ≡ ea a) → (o : Option (A × ℕ)) → Sound ea l o
    → Sound eb l (reading o none (λ a n. some (f a, n)))
map_sound ea eb l f glue none s = nothing
map_sound ea eb l f glue (some (a, n)) (something h e) = something h (λ b. glue a ∙ e b)

-- one behind the other
module _ {A B C : Type 0} (ea : A → List ℕ) (eb : B → List ℕ) (ec : C → List ℕ) (l : List ℕ) (f : A → B → C) (glue : (a : A) (b : B) → ec (f a b) ≡ ea a ++ eb b) where
  then_one : (a : A) (n : ℕ) → n ≤ length l → (Bytes l → ea a ≡ take n l) → (o : Option (B × ℕ)) → Sound eb (drop n l) o
      → Sound ec l (reading o none (λ b m. some (f a b, n + m)))
  then_one a n h e none s = nothing
  then_one a n h e (some (b, m)) (something i g) =
      let d = length-drop n l in
      something {n = n + m} (omega arith) (λ k. glue a b ∙ ap (λ (r : List ℕ). r ++ eb b) (e k) ∙ ap (λ (r : List ℕ). take n l ++ r) (g (bytes_drop n l k)) ∙ sym (take-add n m l))

  pub then_sound : (o : Option (A × ℕ)) (p : ℕ → Option (B × ℕ)) → Sound ea l o → ((n : ℕ) → Sound eb (drop n l) (p n))
      → Sound ec l (reading o none (λ a n. reading (p n) none (λ b m. some (f a b, n + m))))
  then_sound none p s t = nothing
  then_sound (some (a, n)) p (something h e) t = then_one a n h e (p n) (t n)

-- ---- symbols

-- a text behind a kind byte
pub text_sound : (k : ℕ) (l : List ℕ) → kind l ≡ k → Sound (λ s. k ∷ sized s) l (text_of l)
unfolding text_of
text_sound k l e = if_all (Sound (λ s. k ∷ sized s) l) (λ h. something (leb-true _ _ h) (λ b. text_back k l e b (leb-true _ _ h))) (λ _. nothing)

pub sym_sound : (l : List ℕ) → Sound encode_sym l (sym_of l)
unfolding sym_of encode_sym
sym_sound l =
    if_all (Sound encode_sym l) (λ e. map_sound (λ s. 6 ∷ sized s) encode_sym l Sym.text (λ s. refl) (text_of l) (text_sound 6 l (eqb-true _ _ e))) (λ _.
    if_all (Sound encode_sym l) (λ e. if_all (Sound encode_sym l) (λ h. something (leb-true _ _ h) (λ b. header_back 7 l b (eqb-true _ _ e) (leb-true _ _ h))) (λ _. nothing)) (λ _. nothing))

pub syms_sound : (c : ℕ) (l : List ℕ) → Sound encode_syms l (syms_of c l)
unfolding syms_of encode_syms
syms_sound zero l = something {n = 0} (omega arith) (λ b. refl)
syms_sound (suc c) l = then_sound encode_sym encode_syms encode_syms l ◌∷◌ (λ s ss. refl) (sym_of l) (λ n. syms_of c (drop n l)) (sym_sound l) (λ n. syms_sound c (drop n l))

-- ---- heads

pub name_sound : (k : Frame) (l : List ℕ) → Sound encode_name l (name_of k l)
unfolding name_of encode_name
name_sound Top l = something {n = 0} (omega arith) (λ b. refl)
name_sound ListF l = something {n = 0} (omega arith) (λ b. refl)
name_sound Sexp l = something {n = 0} (omega arith) (λ b. refl)
name_sound Struct l = map_sound encode_sym encode_name l some (λ s. refl) (sym_of l) (sym_sound l)

-- as many as were to be read
pub data Counted (c : ℕ) : Option (List Sym × ℕ) → Type 0 where
  uncounted : Counted c none
  counted : {ss : List Sym} {n : ℕ} → length ss ≡ c → Counted c (some (ss, n))

pub syms-count : (c : ℕ) (l : List ℕ) → Counted c (syms_of c l)
unfolding syms_of
syms-count zero l = counted refl
syms-count (suc c) l = go (sym_of l) (λ m. syms-count c (drop m l))
  where
    inner : (s : Sym) (m : ℕ) (o : Option (List Sym × ℕ)) → Counted c o → Counted (suc c) (reading o none (λ ts i. some (s ∷ ts, m + i)))
    inner s m none e = uncounted
    inner s m (some (ts, i)) (counted e) = counted (ap suc e)

    go : (o : Option (Sym × ℕ)) → ((m : ℕ) → Counted c (syms_of c (drop m l))) → Counted (suc c) (reading o none (λ s m. reading (syms_of c (drop m l)) none (λ ts i. some (s ∷ ts, m + i))))
    go none r = uncounted
    go (some (s, m)) r = inner s m (syms_of c (drop m l)) (r m)

notes_back : (l : List ℕ) (ss : List Sym) (n : ℕ) → kind l ≡ 13 → length ss ≡ get_or l 1 0 → 1 ≤ get_or l 1 0 → encode_syms ss ≡ take n (drop 2 l) → encode_notes ss ≡ take (2 + n) l
unfolding encode_notes
notes_back [] ss n k c h e = let z : ◌≡◌ {A = ℕ} 0 13 = k in absurd (omega arith)
notes_back (x ∷ []) ss n k c h e = absurd (omega arith)
notes_back (x ∷ y ∷ l) [] n k c h e = absurd (omega arith)
notes_back (x ∷ y ∷ l) (s ∷ ss) n k c h e =
    ap (λ (i : ℕ). 13 ∷ i ∷ encode_syms (s ∷ ss)) c ∙ ap (λ (i : ℕ). i ∷ y ∷ encode_syms (s ∷ ss)) (sym k) ∙ ap (λ (r : List ℕ). x ∷ y ∷ r) e ∙ sym (take-add 2 n (x ∷ y ∷ l))

two : (l : List ℕ) → 1 ≤ get_or l 1 0 → 2 ≤ length l
two [] h = absurd (omega arith)
two (x ∷ []) h = absurd (omega arith)
two (x ∷ y ∷ l) h = omega arith

pub notes_sound : (l : List ℕ) → Sound encode_notes l (notes_of l)
unfolding notes_of encode_notes
notes_sound l =
    if_all (Sound encode_notes l)
    (λ k. if_all (Sound encode_notes l) (λ one. if_all (Sound encode_notes l) {b = leb (get_or l 1 0) 16} (λ e. go (eqb-true _ _ k) (leb-true _ _ one) (syms_of (get_or l 1 0) (drop 2 l)) (syms_sound (get_or l 1 0) (drop 2 l)) (syms-count (get_or l 1 0) (drop 2 l))) (λ _. nothing)) (λ _. nothing))
    (λ _. something {a = []} {n = 0} (omega arith) (λ b. refl))
  where
    go : kind l ≡ 13 → 1 ≤ get_or l 1 0 → (o : Option (List Sym × ℕ)) → Sound encode_syms (drop 2 l) o → Counted (get_or l 1 0) o → Sound encode_notes l (reading o none (λ ss n. some (ss, 2 + n)))
    go k h none s c = nothing
    go k h (some (ss, n)) (something g b) (counted c) =
        let d = length-drop 2 l in
        let t = two l h in
        something {n = 2 + n} (omega arith) (λ q. notes_back l ss n k c h (b (bytes_drop 2 l q)))

pub head_sound : (k : Frame) (l : List ℕ) → Sound encode_head l (head_of k l)
unfolding head_of encode_head
head_sound k l = then_sound encode_name encode_notes encode_head l (λ a ss. (a, ss)) (λ a ss. refl) (name_of k l) (λ n. notes_of (drop n l)) (name_sound k l) (λ n. notes_sound (drop n l))

-- ---- scalars

bit_back : (n : ℕ) → n ≤ 1 → bit (eqb n 1) ≡ n
bit_back zero h = refl
bit_back (suc zero) h = refl
bit_back (suc (suc n)) h = absurd (omega arith)

-- a byte behind the kind byte
byte_sound : (k most : ℕ) (f : ℕ → Scalar) (l : List ℕ) → kind l ≡ k → ((b : ℕ) → b ≤ most → encode_scalar (f b) ≡ k ∷ b ∷ []) → Sound encode_scalar l (byte_of most f l)
unfolding byte_of
byte_sound k most f l e g =
    if_all (Sound encode_scalar l) (λ h. if_all (Sound encode_scalar l) (λ i. let n : 2 ≤ length l = leb-true _ _ h in something n (λ b. g _ (leb-true _ _ i) ∙ kind_then l b k 1 (omega arith) e (byte_then l b 1 0 (omega arith) refl))) (λ _. nothing)) (λ _. nothing)

int_sound : (l : List ℕ) → kind l ≡ 2 → Sound encode_scalar l (int_of l)
unfolding int_of encode_scalar
int_sound l e = if_all (Sound encode_scalar l) (λ h. something (leb-true _ _ h) (λ b. whole b (leb-true _ _ h))) (λ _. nothing)
  where
    whole : Bytes l → 9 ≤ length l → 2 ∷ le_bytes 8 (bits 64 (signed 64 (le_number 8 (drop 1 l)))) ≡ take 9 l
    whole b h = rw (bits-signed w64 (le_number 8 (drop 1 l)) (le_bound 8 (drop 1 l) (bytes_drop 1 l b))) (kind_then l b 2 8 (omega arith) e (number_back l b 8 1 h))

float_sound : (l : List ℕ) → kind l ≡ 3 → Sound encode_scalar l (float_of l)
unfolding float_of float_as encode_scalar
float_sound l e =
    if_all (Sound encode_scalar l) (λ h.
    if_all (Sound encode_scalar l) (λ i. something (leb-true _ _ h) (λ b. whole b (leb-true _ _ h) nan (float-bits-nan ∙ sym (eqb-true _ _ i)))) (λ _.
    if_all (Sound encode_scalar l) (λ _. nothing) (λ i. something (leb-true _ _ h) (λ b. whole b (leb-true _ _ h) _ (float-bits_of _ (le_bound 8 (drop 1 l) (bytes_drop 1 l b)) (ltb-false _ _ i)))))) (λ _. nothing)
  where
    whole : Bytes l → 9 ≤ length l → (x : Float) → float_bits x ≡ le_number 8 (drop 1 l) → 3 ∷ le_bytes 8 (float_bits x) ≡ take 9 l
    whole b h x f = rw f (kind_then l b 3 8 (omega arith) e (number_back l b 8 1 h))

decimal_sound : (l : List ℕ) → kind l ≡ 4 → Sound encode_scalar l (decimal_of l)
unfolding decimal_of encode_scalar
decimal_sound l e = if_all (Sound encode_scalar l) (λ h. if_all (Sound encode_scalar l) (λ i. something (leb-true _ _ h) (λ b. whole b (leb-true _ _ h) (leb-true _ _ i))) (λ _. nothing)) (λ _. nothing)
  where
    whole : Bytes l → 14 ≤ length l → get_or l 1 0 ≤ 1 → 4 ∷ bit (eqb (get_or l 1 0) 1) ∷ (le_bytes 8 (le_number 8 (drop 2 l)) ++ le_bytes 4 (bits 32 (signed 32 (le_number 4 (drop 10 l))))) ≡ take 14 l
    whole b h i =
        rw (bits-signed w32 (le_number 4 (drop 10 l)) (le_bound 4 (drop 10 l) (bytes_drop 10 l b)), bit_back (get_or l 1 0) i)
        (kind_then l b 4 13 (omega arith) e (byte_then l b 1 12 (omega arith) (number_then l b 8 2 4 (omega arith) (number_back l b 4 10 h))))

timestamp_sound : (l : List ℕ) → kind l ≡ 5 → Sound encode_scalar l (timestamp_of l)
unfolding timestamp_of timestamp_as encode_scalar encode_timestamp
timestamp_sound l e = if_all (Sound encode_scalar l) (λ h. something (leb-true _ _ h) (λ b. whole b (leb-true _ _ h))) (λ _. nothing)
  where
    whole : Bytes l → 16 ≤ length l → encode_scalar (timestamp (timestamp_as l)) ≡ take 16 l
    whole b h =
        rw (bits-signed w16 (le_number 2 (drop 9 l)) (le_bound 2 (drop 9 l) (bytes_drop 9 l b)))
        (kind_then l b 5 15 (omega arith) e
        (byte_then l b 1 14 (omega arith)
        (number_then l b 2 2 12 (omega arith)
        (byte_then l b 4 11 (omega arith)
        (byte_then l b 5 10 (omega arith)
        (byte_then l b 6 9 (omega arith)
        (byte_then l b 7 8 (omega arith)
        (byte_then l b 8 7 (omega arith)
        (number_then l b 2 9 5 (omega arith)
        (byte_then l b 11 4 (omega arith)
        (number_back l b 4 12 h)))))))))))

symbol_sound : (l : List ℕ) → Sound encode_scalar l (symbol_of l)
unfolding symbol_of encode_scalar
symbol_sound l = map_sound encode_sym encode_scalar l symbol (λ s. refl) (sym_of l) (sym_sound l)

sized_sound : (k : ℕ) (f : List ℕ → Scalar) (l : List ℕ) → kind l ≡ k → ((s : List ℕ) → encode_scalar (f s) ≡ k ∷ sized s) → Sound encode_scalar l (sized_of f l)
unfolding sized_of
sized_sound k f l e g = map_sound (λ s. k ∷ sized s) encode_scalar l f g (text_of l) (text_sound k l e)

pub scalar_sound : (l : List ℕ) → Sound encode_scalar l (scalar_of l)
unfolding scalar_of encode_scalar
scalar_sound l =
    if_all (Sound encode_scalar l) (λ e. byte_sound 0 12 null l (eqb-true _ _ e) (λ b h. refl)) (λ _.
    if_all (Sound encode_scalar l) (λ e. byte_sound 1 1 (λ b. bool (eqb b 1)) l (eqb-true _ _ e) (λ b h. ap (λ (i : ℕ). 1 ∷ i ∷ []) (bit_back b h))) (λ _.
    if_all (Sound encode_scalar l) (λ e. int_sound l (eqb-true _ _ e)) (λ _.
    if_all (Sound encode_scalar l) (λ e. float_sound l (eqb-true _ _ e)) (λ _.
    if_all (Sound encode_scalar l) (λ e. decimal_sound l (eqb-true _ _ e)) (λ _.
    if_all (Sound encode_scalar l) (λ e. timestamp_sound l (eqb-true _ _ e)) (λ _.
    if_all (Sound encode_scalar l) {b = eqb (kind l) 6} (λ e. symbol_sound l) (λ _.
    if_all (Sound encode_scalar l) {b = eqb (kind l) 7} (λ e. symbol_sound l) (λ _.
    if_all (Sound encode_scalar l) (λ e. sized_sound 8 string l (eqb-true _ _ e) (λ s. refl)) (λ _.
    if_all (Sound encode_scalar l) (λ e. sized_sound 9 clob l (eqb-true _ _ e) (λ s. refl)) (λ _.
    if_all (Sound encode_scalar l) (λ e. sized_sound 15 blob l (eqb-true _ _ e) (λ s. refl)) (λ _. nothing)))))))))))

-- ---- a scalar takes two bytes at least

pub data Long {A : Type 0} : Option (A × ℕ) → Type 0 where
  no_length : Long none
  long : {a : A} {n : ℕ} → 1 < n → Long (some (a, n))

map_long : {A B : Type 0} (f : A → B) (o : Option (A × ℕ)) → Long o → Long (reading o none (λ a n. some (f a, n)))
map_long f none h = no_length
map_long f (some (a, n)) (long h) = long h

-- where there are bytes enough
if_long : {A : Type 0} (b : Bool) (a : A) (n : ℕ) → 1 < n → Long (if b (some (a, n)) none)
if_long true a n h = long h
if_long false a n h = no_length

-- and the test inside holds
if_in : {A : Type 0} (b : Bool) (o : Option (A × ℕ)) → Long o → Long (if b o none)
if_in true o h = h
if_in false o h = no_length

text_long : (l : List ℕ) → Long (text_of l)
unfolding text_of
text_long l = if_long (leb (5 + length_of l) (length l)) (take (length_of l) (drop 5 l)) (5 + length_of l) (omega arith)

pub sym_long : (l : List ℕ) → Long (sym_of l)
unfolding sym_of
sym_long l =
    if_all Long {b = eqb (kind l) 6} (λ _. map_long Sym.text (text_of l) (text_long l)) (λ _.
    if_in (eqb (kind l) 7) (if (leb 5 (length l)) (some (Sym.id (length_of l), 5)) none) (if_long (leb 5 (length l)) (Sym.id (length_of l)) 5 (omega arith)))

byte_long : (most : ℕ) (f : ℕ → Scalar) (l : List ℕ) → Long (byte_of most f l)
unfolding byte_of
byte_long most f l = if_in (leb 2 (length l)) (if (leb (get_or l 1 0) most) (some (f (get_or l 1 0), 2)) none) (if_long (leb (get_or l 1 0) most) (f (get_or l 1 0)) 2 (omega arith))

float_long : (b : ℕ) → Long (float_as b)
unfolding float_as
float_long b =
    if_all Long {b = eqb b 0x7FF8_0000_0000_0000} (λ _. long {n = 9} (omega arith)) (λ _.
    if_all Long {b = ltb 0x7FF0_0000_0000_0000 (b % 0x8000_0000_0000_0000)} (λ _. no_length) (λ _. long {n = 9} (omega arith)))

decimal_long : (l : List ℕ) → Long (decimal_of l)
unfolding decimal_of
decimal_long l =
    if_all Long {b = leb 14 (length l)} (λ _. if_all Long {b = leb (get_or l 1 0) 1} (λ _. long {n = 14} (omega arith)) (λ _. no_length)) (λ _. no_length)

pub scalar_long : (l : List ℕ) → Long (scalar_of l)
unfolding scalar_of int_of float_of timestamp_of symbol_of sized_of
scalar_long l =
    if_all Long {b = eqb (kind l) 0} (λ _. byte_long 12 null l) (λ _.
    if_all Long {b = eqb (kind l) 1} (λ _. byte_long 1 (λ b. bool (eqb b 1)) l) (λ _.
    if_all Long {b = eqb (kind l) 2} (λ _. if_long (leb 9 (length l)) (int (signed 64 (le_number 8 (drop 1 l)))) 9 (omega arith)) (λ _.
    if_all Long {b = eqb (kind l) 3} (λ _. if_in (leb 9 (length l)) (float_as (le_number 8 (drop 1 l))) (float_long (le_number 8 (drop 1 l)))) (λ _.
    if_all Long {b = eqb (kind l) 4} (λ _. decimal_long l) (λ _.
    if_all Long {b = eqb (kind l) 5} (λ _. if_long (leb 16 (length l)) (timestamp (timestamp_as l)) 16 (omega arith)) (λ _.
    if_all Long {b = eqb (kind l) 6} (λ _. map_long symbol (sym_of l) (sym_long l)) (λ _.
    if_all Long {b = eqb (kind l) 7} (λ _. map_long symbol (sym_of l) (sym_long l)) (λ _.
    if_all Long {b = eqb (kind l) 8} (λ _. map_long string (text_of l) (text_long l)) (λ _.
    if_all Long {b = eqb (kind l) 9} (λ _. map_long clob (text_of l) (text_long l)) (λ _.
    if_all Long {b = eqb (kind l) 15} (λ _. map_long blob (text_of l) (text_long l)) (λ _. no_length)))))))))))

-- ---- values

-- what holds of none, of a container, of a marker where one may stand, and of a scalar, holds of the value that l starts with
pub value-all : (P : Value → Type 0) (f : Bool) (l : List ℕ) → P absent
    → ((k : Frame) → Inner k → kind l ≡ tag k → 5 + length_of l ≤ length l → P (body k (length_of l)))
    → (kind l ≡ 14 → f ≡ true → P (leaf marker 1))
    → ((s : Scalar) (n : ℕ) → scalar_of l ≡ some (s, n) → P (leaf (scalar s) n))
    → P (value_of f l)
unfolding value_of open_of
value-all P f l lack nested marked one =
    if_all P {b = eqb (kind l) 10} (λ e. container ListF tt (eqb-true _ _ e)) (λ _.
    if_all P {b = eqb (kind l) 11} (λ e. container Sexp tt (eqb-true _ _ e)) (λ _.
    if_all P {b = eqb (kind l) 12} (λ e. container Struct tt (eqb-true _ _ e)) (λ _.
    if_all P {b = eqb (kind l) 14} (λ e. if_all P {b = f} (λ q. marked (eqb-true _ _ e) q) (λ _. lack)) (λ _. go (scalar_of l) refl))))
  where
    container : (k : Frame) → Inner k → kind l ≡ tag k → P (open_of k l)
    container k i e = if_all P {b = leb (5 + length_of l) (length l)} (λ h. nested k i e (leb-true _ _ h)) (λ _. lack)

    go : (o : Option (Scalar × ℕ)) → scalar_of l ≡ o → P (reading o absent (λ s n. leaf (scalar s) n))
    go none e = lack
    go (some (s, n)) e = one s n e

pub data SoundV (l : List ℕ) : Value → Type 0 where
  no_value : SoundV l absent
  a_leaf : {v : Node} {n : ℕ} → 0 < n → n ≤ length l → (Bytes l → encode v ≡ take n l) → SoundV l (leaf v n)
  a_body : {k : Frame} {n : ℕ} → 5 + n ≤ length l → (Bytes l → tag k ∷ le_bytes 4 n ≡ take 5 l) → SoundV l (body k n)

marker_sound : (l : List ℕ) → kind l ≡ 14 → SoundV l (leaf marker 1)
unfolding encode
marker_sound [] k = let z : ◌≡◌ {A = ℕ} 0 14 = k in absurd (omega arith)
marker_sound (x ∷ l) k = a_leaf {n = 1} (omega arith) (omega arith) (λ b. ap (λ (i : ℕ). i ∷ []) (sym k))

leaf_sound : (l : List ℕ) (s : Scalar) (n : ℕ) → Sound encode_scalar l (some (s, n)) → Long (some (s, n)) → SoundV l (leaf (scalar s) n)
unfolding encode
leaf_sound l s n (something i e) (long h) = let p : 0 < n = omega arith in a_leaf p i e

pub value_sound : (f : Bool) (l : List ℕ) → SoundV l (value_of f l)
value_sound f l =
    value-all (SoundV l) f l no_value (λ k i e h. a_body h (λ b. header_back (tag k) l b e (omega arith))) (λ e _. marker_sound l e)
    (λ s n e. leaf_sound l s n (rw e at (scalar_sound l)) (rw e at (scalar_long l)))

-- ---- children

pub data SoundC (l : List ℕ) : Child → Type 0 where
  no_child : SoundC l bad
  a-single : {h : Head} {v : Node} {n : ℕ} → 0 < n → n ≤ length l → (Bytes l → encode_head h ++ encode v ≡ take n l) → SoundC l (single h v n)
  a_tree : {h : Head} {k : Frame} {q n : ℕ} → 0 < q → q + n ≤ length l → (Bytes l → encode_head h ++ (tag k ∷ le_bytes 4 n) ≡ take q l) → SoundC l (tree h k q n)

pub child_sound : (k : Frame) (l : List ℕ) → SoundC l (child_of k l)
unfolding child_of
child_sound k l = go (head_of k l) (head_sound k l)
  where
    behind_sound : (h : Head) (n : ℕ) → n ≤ length l → (Bytes l → encode_head h ≡ take n l) → (v : Value) → SoundV (drop n l) v → SoundC l (headed_child h n v)
    behind_sound h n i e absent s = no_child
    behind_sound h n i e (leaf v m) (a_leaf p j f) =
        let d = length-drop n l in
        a-single {n = n + m} (omega arith) (omega arith) (λ b. ap (λ (r : List ℕ). r ++ encode v) (e b) ∙ ap (λ (r : List ℕ). take n l ++ r) (f (bytes_drop n l b)) ∙ sym (take-add n m l))
    behind_sound h n i e (body c m) (a_body j f) =
        let d = length-drop n l in
        a_tree {q = n + 5} {n = m} (omega arith) (omega arith) (λ b. ap (λ (r : List ℕ). r ++ (tag c ∷ le_bytes 4 m)) (e b) ∙ ap (λ (r : List ℕ). take n l ++ r) (f (bytes_drop n l b)) ∙ sym (take-add n 5 l))

    go : (o : Option (Head × ℕ)) → Sound encode_head l o → SoundC l (reading o bad (λ h n. headed_child h n (value_of (free_at k l) (drop n l))))
    go none s = no_child
    go (some (h, n)) (something i e) = behind_sound h n i e (value_of (free_at k l) (drop n l)) (value_sound (free_at k l) (drop n l))
