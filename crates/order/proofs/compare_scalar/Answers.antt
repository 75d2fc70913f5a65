-- `order::compare_scalar` meets its contract. Assumes nothing.
use mathlib.Core.Path.{◌≡◌, refl, sym, ◌∙◌}
use lib.ListN.{get_or}
use Prim.Native.Nat.{ℕ}
use mathlib.Core.List.{List}
use Rattle.std.specs.declared.cmp.Ordering.{Ordering}
use Rattle.tape.specs.Bytes.{part}
use Rattle.order.specs.Order.{key_of}
use Rattle.order.specs.Steps.{scalar_in, Leaf}
use Rattle.std.specs.Ordering.{nat_cmp}
use Rattle.std.proofs.lemmas.Map.Lookups.{exact_unsigned}
use Rattle.order.proofs.CodeLaws.{equal_of}
use native.Mathlib.Omega.{arith}
use Rattle.order.proofs.Leaves.{leaf_place, kind_key, keys_kind}
use Rattle.order.proofs.compare_scalar.Goals as goal

pub bounds-a-p : goal.bounds-a-p
bounds-a-p c = let x = leaf_place c.args.a.now c.args.p c.args.ea c.requires.leaf in let r = c.requires.leaf.room in omega arith

pub bounds-b-q : goal.bounds-b-q
bounds-b-q c = let x = leaf_place c.args.b.now c.args.q c.args.eb c.requires.leaf_2 in let r = c.requires.leaf_2.room in omega arith

-- what the code compares are the kinds of the keys
kinds : (s t : List ℕ) (p e q f : ℕ) (x : Leaf s p e) (y : Leaf t q f) (w : Ordering) → w ≡ nat_cmp (get_or s p 0) (get_or t q 0) → w ≡ nat_cmp (key_of (scalar_in (part s p e))).0 (key_of (scalar_in (part t q f))).0
kinds s t p e q f x y w k = rw (kind_key s p e x, kind_key t q f y) k

pub returns-then-is_ne : goal.returns-then-is_ne
returns-then-is_ne c =
    let a = c.args in
    keys_kind (key_of (scalar_in (part a.a.now a.p a.ea))) (key_of (scalar_in (part a.b.now a.q a.eb))) _ (kinds a.a.now a.b.now a.p a.ea a.q a.eb c.requires.leaf c.requires.leaf_2 _ c.cmp-by_kind.ensures) (sym c.is_ne.ensures ∙ c.if-is_ne.true)

pub compare_leaf-requires : goal.compare_leaf-requires
compare_leaf-requires c =
    let p = c.requires in
    record { leaf = p.leaf; leaf_2 = p.leaf_2; p_value = exact_unsigned _ _ (sym c.cmp-by_kind.ensures ∙ equal_of _ (sym c.is_ne.ensures ∙ c.if-is_ne.false)); x_le_p = omega arith; y_le_q = omega arith; a_value = refl }
