-- `order::compare_notes` meets its contract. Assumes nothing.
use Rattle.order.proofs.HeadLaws.{notes_here}
use Rattle.order.proofs.compare_notes.Goals as goal

pub compare_syms-requires : goal.compare_syms-requires
compare_syms-requires c =
    let u = notes_here c.args.a.now c.args.i c.args.ea c.requires.notes in
    let v = notes_here c.args.b.now c.args.j c.args.eb c.requires.notes_2 in
    rw (c.notes_count-c.ensures, c.notes_start-x.ensures, c.notes_count-d.ensures, c.notes_start-y.ensures) (record { symbols = u.symbols; symbols_2 = v.symbols })

pub returns : goal.returns
returns c =
    let u = notes_here c.args.a.now c.args.i c.args.ea c.requires.notes in
    let v = notes_here c.args.b.now c.args.j c.args.eb c.requires.notes_2 in
    let e = rw (c.notes_count-c.ensures, c.notes_start-x.ensures, c.notes_count-d.ensures, c.notes_start-y.ensures) at c.compare_syms.ensures in
    rw (u.notes, v.notes, u.ends, v.ends) at e
