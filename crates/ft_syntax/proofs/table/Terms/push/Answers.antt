use Rattle.std.proofs.Common.{rules, ◌≡◌, [], ◌∷◌, ◌++◌, map, length, refl, sym, subst}
use Rattle.ft_syntax.specs.Arguments.{applied}
use Rattle.ft_syntax.specs.Chains.{spelled}
use Rattle.ft_syntax.specs.Table.{IsNew, argument_in}
use Rattle.ft_syntax.specs.Invariant.{trees_after}
use Rattle.ft_syntax.specs.declared.table.Row.{Row}
use Rattle.ft_syntax.proofs.Adding.{table_kept, table_pushed, trees_same, taken}
use Rattle.ft_syntax.proofs.Crowding.{keeps_same}
use Rattle.ft_syntax.proofs.Tables.{IsNewRow}
use Rattle.ft_syntax.proofs.table.Terms.push.Goals as goal

pub invariant_of-self-then-is_err-2 : goal.invariant_of-self-then-is_err-2
invariant_of-self-then-is_err-2 c =
    let t = c.self.inside in
    let more : c.extend_from_slice.new.self.items ≡ t.parts.items ++ c.args.args.now = search rules in
    let same : c.push.new.self.items ≡ t.rows.items = search rules in
    table_kept t.parts.items c.extend_from_slice.new.self.items c.args.args.now t.rows.items c.push.new.self.items t.index t.index t.crowded t.crowded c.args.node c.args.args.now c.args.self.now c.self.view_is more same c.self.invariant refl c.requires.new
    (keeps_same t.crowded (spelled c.args.node c.args.args.now))

pub invariant_of-self-then-is_err-3 : goal.invariant_of-self-then-is_err-3
invariant_of-self-then-is_err-3 c =
    let t = c.self.inside in
    let r : Row = record { node = c.args.node; first = c.len-first.result; end = c.len.result; depth = c.args.depth; size = c.args.size } in
    let more : c.extend_from_slice.new.self.items ≡ t.parts.items ++ c.args.args.now = search rules in
    let pushed : c.push.new.self.items ≡ t.rows.items ++ r ∷ [] = search rules in
    let many : c.push.new.self.len ≡ length c.push.new.self.items = search rules in
    let same = taken t.rows.items c.push.new.self.items c.pop.new.self.items r c.push.new.self.len pushed many c.pop.ensures.rest in
    let kept : c.note.new.index ≡ t.index = search rules in
    table_kept t.parts.items c.extend_from_slice.new.self.items c.args.args.now t.rows.items c.pop.new.self.items t.index c.note.new.index t.crowded c.note.new.crowded c.args.node c.args.args.now c.args.self.now c.self.view_is more same c.self.invariant kept c.requires.new
    c.note.ensures.others

pub returns-then-is_err-3-clause-kept : goal.returns-then-is_err-3-clause-kept
returns-then-is_err-3-clause-kept c =
    let t = c.self.inside in
    let r : Row = record { node = c.args.node; first = c.len-first.result; end = c.len.result; depth = c.args.depth; size = c.args.size } in
    let more : c.extend_from_slice.new.self.items ≡ t.parts.items ++ c.args.args.now = search rules in
    let pushed : c.push.new.self.items ≡ t.rows.items ++ r ∷ [] = search rules in
    let many : c.push.new.self.len ≡ length c.push.new.self.items = search rules in
    let same = taken t.rows.items c.push.new.self.items c.pop.new.self.items r c.push.new.self.len pushed many c.pop.ensures.rest in
    (refl, trees_same t.parts.items c.extend_from_slice.new.self.items c.args.args.now t.rows.items c.pop.new.self.items c.args.self.now c.self.view_is more same c.self.invariant.good)

pub invariant_of-self-else-is_err-3 : goal.invariant_of-self-else-is_err-3
invariant_of-self-else-is_err-3 c =
    let t = c.self.inside in
    let r : Row = record { node = c.args.node; first = c.len-first.result; end = c.len.result; depth = c.args.depth; size = c.args.size } in
    let more : c.extend_from_slice.new.self.items ≡ t.parts.items ++ c.args.args.now = search rules in
    let pushed : c.push.new.self.items ≡ t.rows.items ++ r ∷ [] = search rules in
    let new : IsNew (trees_after t.parts.items [] t.rows.items) (applied c.args.node (map (argument_in (trees_after t.parts.items [] t.rows.items)) c.args.args.now)) =
    subst (λ us. IsNew us (applied c.args.node (map (argument_in us) c.args.args.now))) (sym c.self.view_is) c.requires.new in
    let row : IsNewRow t.parts.items c.args.args.now (trees_after t.parts.items [] t.rows.items) r = search rules in
    let number : c.len-number.result ≡ length t.rows.items = search rules in
    table_pushed t.parts.items c.extend_from_slice.new.self.items c.args.args.now t.rows.items c.push.new.self.items r t.index c.note.new.index t.crowded c.note.new.crowded c.len-number.result more pushed c.self.invariant row new number (search rules) c.note.ensures.others
