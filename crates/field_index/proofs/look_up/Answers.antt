-- `field_index::look_up` meets its contract. Assumes nothing.
use Rattle.std.proofs.Common.{◌≡◌, ◌∙◌, ◌+◌, ℕ, List, length, take, ap, sym, arith, rules}
use Rattle.std.proofs.Math.Option.{none}
use Rattle.std.proofs.Math.Seq.{length-take-le}
use Rattle.std.specs.Prelude.{Option, Ok, Err}
use Rattle.output.specs.Logic.{on}
use Rattle.text_rules.specs.Text.{Sym}
use Rattle.tape.specs.Fine.{Bytes}
use Rattle.field_index.specs.declared.Entry.{Entry}
use Rattle.field_index.specs.declared.Refusal.{Refusal}
use Rattle.field_index.specs.Structs.{struct_at}
use Rattle.field_index.specs.NameSteps.{meant}
use Rattle.field_index.specs.Index.{number, refusal, IndexOf}
use Rattle.field_index.specs.Lookup.{Finds, found_in, latest_field, looked_by, looked_up}
use Rattle.field_index.proofs.LookLaws.{count_few, look-told, refused_told}
use Rattle.field_index.proofs.look_up.Goals as goal

-- in 65,536 entries
module _ (t : List ℕ) (at : ℕ) (name : Sym) (l l' : List Entry) (e : length l' ≡ length l) (k : length l' ≡ 65_536) where
  all : looked_by (refusal t at (length l)) (on (struct_at t at) (latest_field name (at + 5)) none) ≡ looked_up t at name
  unfolding looked_up
  all = ap (λ (m : ℕ). looked_by (refusal t at m) (on (struct_at t at) (latest_field name (at + 5)) none)) (sym e ∙ k)

  counted_all : (n : ℕ) (f : Option ℕ) → Bytes t → IndexOf t at l l' (Ok n) → Finds t name (take n l') f → found_in l' f ≡ looked_up t at name
  counted_all n f b x g = look-told t at name l l' (Ok n) f b x g ∙ all

  refused_all : (r : Refusal) → IndexOf t at l l' (Err r) → Err (number r) ≡ looked_up t at name
  refused_all r x = refused_told t at name l l' r x ∙ all

pub slice_bounds-entries-end : goal.slice_bounds-entries-end
slice_bounds-entries-end c = omega (arith, count_few _ _ _ _ _ c.in_ok-n.ensures)

pub slice_bounds-find-end : goal.slice_bounds-find-end
slice_bounds-find-end c = sym (length-take-le _ _ (omega (arith, count_few _ _ _ _ _ c.in_ok-n.ensures)))

pub returns-in_err-n : goal.returns-in_err-n
returns-in_err-n c =
    let q : c.from_residual.result ≡ Err c.in_err-n.field-0.0 = search rules in
    rw q (refused_all c.args.tape.now c.args.at (meant c.args.name) _ _ c.index.auto.entries c.index.auto.entries _ c.in_err-n.ensures)

pub returns-in-Some : goal.returns-in-Some
returns-in-Some c =
    counted_all c.args.tape.now c.args.at (meant c.args.name) _ _ c.index.auto.entries c.index.auto.entries _ _ (λ i. (c.type_inv.tape i).fits) c.in_ok-n.ensures c.in-Some.ensures

pub returns-in-None : goal.returns-in-None
returns-in-None c =
    counted_all c.args.tape.now c.args.at (meant c.args.name) _ _ c.index.auto.entries c.index.auto.entries _ _ (λ i. (c.type_inv.tape i).fits) c.in_ok-n.ensures c.in-None.ensures
