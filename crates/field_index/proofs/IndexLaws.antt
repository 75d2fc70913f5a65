-- The refusals of an index, a struct as it is opened, and the fields as they are stored one after the other. Assumes nothing.
use Prim.Native.Nat.{ℕ, zero, suc, ◌+◌, ◌<◌, ◌≤◌}
use mathlib.Core.Path.{◌≡◌, refl, sym, ap, ◌∙◌}
use mathlib.Core.List.{List, [], ◌∷◌, ◌++◌}
use mathlib.Core.Bool.{Bool, true, false}
use mathlib.Core.Option.{Option, none, some}
use native.Mathlib.Omega.{arith}
use native.Mathlib.Nat.{add-zero, add-suc, suc-add, zero-add}
use native.Mathlib.Numerals.{add-one}
use borrow.Author.Tests.{le-leb, lt-leb, leb-true}
use lib.Dec.{leb}
use lib.ListN.{length, get_or, set, take, drop, length-append, length-drop, take-append-drop}
use lib.Seq.{sets, sets-eq, take_at, drop_at, drop-cons, take_all}
use Rattle.std.specs.Prelude.{Ok, Err}
use Rattle.output.specs.Logic.{if, on}
use Rattle.tape.specs.Bytes.{first}
use Rattle.tape.specs.Tree.{Nodes, size}
use Rattle.tape.specs.Verdict.{verdict}
use Rattle.tape.specs.Answer.{counted, refused}
use Rattle.field_index.specs.declared.Entry.{Entry}
use Rattle.field_index.specs.declared.Refusal.{Refusal}
use Rattle.field_index.specs.declared.Refusal.TheVariants.{Misfit, BadNode, TooDeep, FiniteFloat, NoStruct, TooManyFields}
use Rattle.field_index.specs.declared.fields.Fields.{Fields}
use Rattle.field_index.specs.Names.{no_entry, before}
use Rattle.field_index.specs.Sorted.{sorted}
use Rattle.field_index.specs.Structs.{struct_at, fields_from}
use Rattle.field_index.specs.Index.{number, struct_refusal, refusal, fields_at, index_at, answered, left, IndexOf}
use Rattle.field_index.specs.IndexSteps.{children_in, Body, entry_of, next_of, Opened}
use Rattle.field_index.proofs.SortedLaws.{same_length, sorted-same}
use Rattle.field_index.proofs.FieldLaws.{body_next, one_less, some_left, fields-turn, fields-length}

-- ---- the order of the checks

module _ (t : List ℕ) (at m : ℕ) where
  pub tape-refused : (verdict t ≡ 0 → ⊥) → refusal t at m ≡ verdict t
  unfolding refusal
  tape-refused nz = go (verdict t) nz
    where
      go : (v : ℕ) → (v ≡ 0 → ⊥) → first v (struct_refusal (struct_at t at) m) ≡ v
      go zero nz = absurd (nz refl)
      go (suc v) nz = refl

  -- behind 1 to 4
  module _ (v : verdict t ≡ 0) where
    pub by_struct : refusal t at m ≡ struct_refusal (struct_at t at) m
    unfolding refusal
    by_struct = ap (λ (f : ℕ). first f (struct_refusal (struct_at t at) m)) v

    pub no_struct : struct_at t at ≡ none → refusal t at m ≡ 11
    no_struct e = by_struct ∙ ap (λ (o : Option Nodes). struct_refusal o m) e

    module _ (ns : Nodes) (e : struct_at t at ≡ some ns) where
      pub too_many : m < size ns → refusal t at m ≡ 12
      too_many h = by_struct ∙ ap (λ (o : Option Nodes). struct_refusal o m) e ∙ rw (lt-leb (size ns) m h) refl

      pub enough : size ns ≤ m → refusal t at m ≡ 0
      enough h = by_struct ∙ ap (λ (o : Option Nodes). struct_refusal o m) e ∙ rw (le-leb (size ns) m h) refl

  pub fields-of : (ns : Nodes) → struct_at t at ≡ some ns → fields_at t at ≡ fields_from (at + 5) ns
  unfolding fields_at
  fields-of ns e = ap (λ (o : Option Nodes). on o (fields_from (at + 5)) []) e

  -- where there is no refusal the tape is accepted, and a struct stands at the offset with no more fields than there are entries
  pub record Indexable : Type 0 where
    pub tape : verdict t ≡ 0
    pub nodes : Nodes
    pub struct : struct_at t at ≡ some nodes
    pub few : size nodes ≤ m

  pub no_refusal : refusal t at m ≡ 0 → Indexable
  unfolding refusal
  no_refusal z = go (verdict t) (struct_at t at) refl refl z
    where
      by : (ns : Nodes) → verdict t ≡ 0 → struct_at t at ≡ some ns → (b : Bool) → leb (size ns) m ≡ b → ◌≡◌ {A = ℕ} (if b 0 12) 0 → Indexable
      by ns v e true q z = record { tape = v; nodes = ns; struct = e; few = leb-true _ _ q }
      by ns v e false q z = absurd (omega arith)

      go : (v : ℕ) (o : Option Nodes) → verdict t ≡ v → struct_at t at ≡ o → first v (struct_refusal o m) ≡ 0 → Indexable
      go zero none p q z = absurd (omega arith)
      go zero (some ns) p q z = by ns p q (leb (size ns) m) refl z
      go (suc v) o p q z = absurd (omega arith)

  pub fields_few : refusal t at m ≡ 0 → length (fields_at t at) ≤ m
  fields_few z = let x = no_refusal z in let f = x.few in let l = ap length (fields-of x.nodes x.struct) ∙ fields-length (at + 5) x.nodes in omega arith

-- ---- opening

pub struct_opened : (t : List ℕ) (at m e n : ℕ) → verdict t ≡ 0 → Body t (at + 5) e → struct_at t at ≡ some (children_in t (at + 5) e) → n ≡ size (children_in t (at + 5) e) → n ≤ m
    → Opened t at m (record { from = at + 5; end = e; count = n })
struct_opened t at m e n v b s c h = record { accepted = enough t at m v (children_in t (at + 5) e) s (omega arith); body = b; count = sym c; room = h; fields = sym (fields-of t at m (children_in t (at + 5) e) s) }

-- ---- storing

-- one entry more, stored behind the others
stored-from : (fs ys : List Entry) (a k : ℕ) → k < length fs → set (sets ys a (take k fs)) (a + k) (get_or fs k no_entry) ≡ sets ys a (take (suc k) fs)
stored-from [] ys a k h = absurd (omega arith)
stored-from (x ∷ fs) ys a zero h = ap (λ (m : ℕ). set ys m x) (add-zero a)
stored-from (x ∷ fs) ys a (suc k) h =
    ap (λ (m : ℕ). set (sets (set ys a x) (suc a) (take k fs)) m (get_or fs k no_entry)) (add-suc a k ∙ sym (suc-add a k)) ∙ stored-from fs (set ys a x) (suc a) k (omega arith)

one_more : (fs ys : List Entry) (k : ℕ) → k < length fs → set (sets ys 0 (take k fs)) k (get_or fs k no_entry) ≡ sets ys 0 (take (k + 1) fs)
one_more fs ys k h =
    ap (λ (m : ℕ). set (sets ys 0 (take k fs)) m (get_or fs k no_entry)) (sym (zero-add k)) ∙ stored-from fs ys 0 k h ∙ ap (λ (m : ℕ). sets ys 0 (take m fs)) (sym (add-one k))

-- sorted, once all are stored
pub sorted-fields : (b : Entry → Entry → Bool) (fs ys : List Entry) (n : ℕ) → length fs ≡ n → n ≤ length ys → sorted b (take n (sets ys 0 fs)) ++ drop n (sets ys 0 fs) ≡ sorted b fs ++ drop n ys
sorted-fields b fs ys n e h =
    let all : sets ys 0 fs ≡ fs ++ drop n ys = sets-eq fs ys 0 (omega arith) ∙ ap (λ (m : ℕ). fs ++ drop m ys) (zero-add (length fs) ∙ e) in
    ap (λ (z : List Entry). sorted b (take n z) ++ drop n z) all
    ∙ ap (λ (z : List Entry). sorted b z ++ drop n (fs ++ drop n ys)) (take_at fs (drop n ys) n e)
    ∙ ap (λ (z : List Entry). sorted b fs ++ z) (drop_at fs (drop n ys) n e)

-- sorting the first of a list keeps its length
pub sorted-length : (b : Entry → Entry → Bool) (zs : List Entry) (n : ℕ) → length (sorted b (take n zs) ++ drop n zs) ≡ length zs
sorted-length b zs n =
    length-append (sorted b (take n zs)) (drop n zs) ∙ ap (λ (m : ℕ). m + length (drop n zs)) (same_length (sorted b (take n zs)) (take n zs) (sorted-same b (take n zs)))
    ∙ sym (length-append (take n zs) (drop n zs)) ∙ ap length (take-append-drop n zs)

-- ---- from field to field

-- the fields from a place to a place
abbrev pub fields_in : List ℕ → ℕ → ℕ → List Entry
fields_in t from end = fields_from from (children_in t from end)

-- k of them are stored, and the next stands at a place
pub record Filled (t : List ℕ) (f : Fields) (k at : ℕ) : Type 0 where
  pub body : Body t at f.end
  pub count : k + size (children_in t at f.end) ≡ f.count
  pub rest : drop k (fields_in t f.from f.end) ≡ fields_in t at f.end

module _ (t : List ℕ) (at m : ℕ) (f : Fields) (o : Opened t at m f) where
  pub filled_none : Filled t f 0 f.from
  filled_none = record { body = o.body; count = omega (arith, o.count); rest = refl }

  pub fields-count : length (fields_in t f.from f.end) ≡ f.count
  fields-count = fields-length f.from (children_in t f.from f.end) ∙ o.count

module _ (t : List ℕ) (f : Fields) (k at : ℕ) (s : Filled t f k at) (h : k < f.count) where
  pub there : at < f.end
  there = some_left t at f.end s.body (omega (arith, s.count))

  behind : fields_in t at f.end ≡ entry_of t at f.end ∷ fields_in t (next_of t at f.end) f.end
  behind = let b = s.body in fields-turn t at f.end b.bytes there b.inside b.fine

  inside : k < length (fields_in t f.from f.end)
  inside = omega (arith, ap length (s.rest ∙ behind), length-drop k (fields_in t f.from f.end))

  entry-is : get_or (fields_in t f.from f.end) k no_entry ≡ entry_of t at f.end
  entry-is = ap (λ (l : List Entry). get_or l 0 no_entry) (sym (drop-cons (fields_in t f.from f.end) k no_entry inside) ∙ s.rest ∙ behind)

  pub filled_next : Filled t f (k + 1) (next_of t at f.end)
  filled_next = record {
    body = body_next t at f.end s.body there;
    count = omega (arith, s.count, one_less t at f.end s.body there);
    rest = ap (λ (m : ℕ). drop m (fields_in t f.from f.end)) (add-one k) ∙ ap (drop 1) (sym (drop-cons (fields_in t f.from f.end) k no_entry inside)) ∙ ap (drop 1) (s.rest ∙ behind);
  }

  pub stored : (ys : List Entry) → set (sets ys 0 (take k (fields_in t f.from f.end))) k (entry_of t at f.end) ≡ sets ys 0 (take (k + 1) (fields_in t f.from f.end))
  stored ys = ap (λ (e : Entry). set (sets ys 0 (take k (fields_in t f.from f.end))) k e) (sym entry-is) ∙ one_more (fields_in t f.from f.end) ys k inside

-- ---- the answer

-- the first entries are sorted once all fields are stored
pub counted_told : (t : List ℕ) (at : ℕ) (f : Fields) (ys zs : List Entry) → Opened t at (length ys) f → zs ≡ sets ys 0 (take f.count (fields_in t f.from f.end))
    → IndexOf t at ys (sorted (before t) (take f.count zs) ++ drop f.count zs) (Ok f.count)
unfolding index_at
counted_told t at f ys zs o e =
    let n : f.count ≡ length (fields_at t at) = sym (fields-count t at (length ys) f o) ∙ ap length o.fields in
    let all : zs ≡ sets ys 0 (fields_in t f.from f.end) = e ∙ ap (sets ys 0) (take_all f.count (fields_in t f.from f.end) (omega (arith, fields-count t at (length ys) f o))) in
    record {
      answer = rw o.accepted (ap counted n);
      entries =
          ap (λ (l : List Entry). sorted (before t) (take f.count l) ++ drop f.count l) all
          ∙ sorted-fields (before t) (fields_in t f.from f.end) ys f.count (fields-count t at (length ys) f o) o.room
          ∙ rw o.accepted (ap (λ (l : List Entry). sorted (before t) l ++ drop f.count ys) o.fields ∙ ap (λ (k : ℕ). sorted (before t) (fields_at t at) ++ drop k ys) n);
    }

-- a refusal writes nothing
pub refused_told : (t : List ℕ) (at : ℕ) (ys : List Entry) (r : Refusal) → refusal t at (length ys) ≡ number r → IndexOf t at ys ys (Err r)
refused_told t at ys r e = record { answer = rw e (sym (answers r)); entries = rw e (sym (leaves r)) }
  where
    answers : (r : Refusal) → answered (number r) (length (fields_at t at)) ≡ refused (number r)
    answers Misfit = refl
    answers BadNode = refl
    answers TooDeep = refl
    answers FiniteFloat = refl
    answers NoStruct = refl
    answers TooManyFields = refl

    leaves : (r : Refusal) → left (number r) (index_at t at ++ drop (length (fields_at t at)) ys) ys ≡ ys
    leaves Misfit = refl
    leaves BadNode = refl
    leaves TooDeep = refl
    leaves FiniteFloat = refl
    leaves NoStruct = refl
    leaves TooManyFields = refl
