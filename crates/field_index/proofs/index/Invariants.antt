-- `field_index::index` meets its contract. What is stored is `IndexLaws`'. Assumes nothing.
-- k fields are stored, in front of the entries that were there, and the next stands at `from`
use Rattle.std.proofs.Common.{◌≡◌, take}
use Rattle.std.proofs.Math.Seq.{sets}
use Rattle.field_index.proofs.IndexLaws.{Filled, fields_in}
use Rattle.field_index.proofs.index.Given as goal

abbrev pub invariant-loop-k : goal.invariant-loop-k
invariant-loop-k l = record {
  filled : Filled l.tape l.f l.k l.from;
  stored : l.entries ≡ sets l.initial.entries 0 (take l.k (fields_in l.tape l.f.from l.f.end));
}
