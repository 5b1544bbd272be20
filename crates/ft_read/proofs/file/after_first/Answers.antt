use Rattle.std.proofs.Common.{rules, ◌≡◌, ◌≢◌, refl, length}
use Rattle.std.proofs.lemmas.Result.{err_from_is_err_and}
use Rattle.ft_items.specs.Lines.{last_line}
use Rattle.ft_read.proofs.Turns.{item_read, end_read, after_end, item_fault}
use Rattle.ft_read.proofs.file.after_first.Goals as goal

pub returns-then-is_empty-clause-items : goal.returns-then-is_empty-clause-items
returns-then-is_empty-clause-items c =
    let end : c.in-Some.text.now ≡ last_line = search rules in
    let none : length c.in-Some.after.now ≡ 0 = search rules in
    end_read c.args.bytes.now c.reading.rest.now c.in-Some.text.now c.in-Some.after.now c.reading.terms c.reading.stated.items c.reading.number c.reading.invariant c.in-Some.ensures.lines end none

pub returns-then-eq-clause-fault : goal.returns-then-eq-clause-fault
returns-then-eq-clause-fault c =
    let end : c.in-Some.text.now ≡ last_line = search rules in
    let some : length c.in-Some.after.now ≢ 0 = search rules in
    after_end c.args.bytes.now c.reading.rest.now c.in-Some.text.now c.in-Some.after.now c.reading.terms c.reading.stated.items c.reading.number _ c.reading.invariant c.in-Some.ensures.lines end some refl

pub returns-in_err-item_of-clause-fault : goal.returns-in_err-item_of-clause-fault
returns-in_err-item_of-clause-fault c =
    let p = err_from_is_err_and c.from_residual.result c.from_residual.ensures.1 in
    let other : c.in-Some.text.now ≢ last_line = search rules in
    rw (p.1, p.2)
    (item_fault c.args.bytes.now c.reading.rest.now c.in-Some.text.now c.in-Some.after.now c.reading.terms c.reading.stated.items c.reading.number c.in_err-item_of.field-0.0
    c.reading.invariant c.in-Some.ensures.lines other c.in_err-item_of.ensures.fault)

pub reading-preserved : goal.reading-preserved
reading-preserved c =
    item_read c.args.bytes.now c.reading.rest.now c.in-Some.text.now c.in-Some.after.now c.reading.terms c.item_of.new.terms c.reading.stated.items c.push.new.self.items c.in_ok-item_of.field-0 c.reading.number _
    c.reading.invariant c.in-Some.ensures.lines c.in-Some.ensures.shorter c.in_ok-item_of.ensures.goes_on
    c.in_ok-item_of.ensures.item.0 c.in_ok-item_of.ensures.item.1 (search rules) refl
