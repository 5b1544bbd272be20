use Rattle.std.proofs.Common.{rules, ◌≡◌, ◌<◌, ◌∙◌, [], length, map, None, sym, ap, subst, arith}
use Rattle.ft_common.proofs.Booleans.{false_true}
use Rattle.ft_syntax.specs.Arguments.{applied}
use Rattle.ft_syntax.specs.Chains.{spelled}
use Rattle.ft_syntax.specs.Table.{tree, argument_in}
use Rattle.ft_syntax.proofs.Finding.{look_within, misses_all, misses_none, misses_past, misses_other, none_found}
use Rattle.ft_syntax.proofs.Tables.{length_trees}
use Rattle.ft_syntax.proofs.table.Terms.found.Goals as goal
use Rattle.ft_syntax.proofs.table.Terms.found.Goals.{in_default-place-via-in-Some-place+else-place-len, in_default-place-via-in_default-place}

pub is_row-requires-clause-within : goal.is_row-requires-clause-within
is_row-requires-clause-within c =
    let t = c.self.inside in let ts = c.args.self.now in
    subst (λ k. k < length ts) (sym c.at.ensures)
    (look_within t.parts.items t.rows.items t.index t.crowded ts ts c.args.mark c.in-Some.place (applied c.args.node (map (argument_in ts) c.args.args.now)) c.looking.at c.self.invariant c.self.view_is c.looking.invariant c.in-Some.is)

pub returns-then-is_row-clause-some : goal.returns-then-is_row-clause-some
returns-then-is_row-clause-some c =
    let t = c.self.inside in let ts = c.args.self.now in
    let whole = applied c.args.node (map (argument_in ts) c.args.args.now) in (
      subst (λ k. k < length ts) (sym c.at-then-is_row.ensures)
          (look_within t.parts.items t.rows.items t.index t.crowded ts ts c.args.mark c.in-Some.place whole c.looking.at c.self.invariant c.self.view_is c.looking.invariant c.in-Some.is),
      ap (tree ts) (c.at-then-is_row.ensures ∙ sym c.at.ensures) ∙ c.is_row.ensures.0 c.if-is_row.true,
    )

pub returns-then-is_empty-clause-none : goal.returns-then-is_empty-clause-none
returns-then-is_empty-clause-none c =
    let t = c.self.inside in let ts = c.args.self.now in
    let whole = applied c.args.node (map (argument_in ts) c.args.args.now) in
    let end : c.looking.at ≡ None = search rules in
    none_found t.parts.items t.rows.items t.index t.crowded ts c.args.mark c.args.node c.args.args.now c.looking.at c.self.view_is c.self.invariant c.requires.mark c.requires.below c.requires.fits c.looking.invariant end
    (misses_all ts t.crowded (spelled c.args.node c.args.args.now) whole (c.is_empty.ensures c.if-is_empty.true))

pub is_row-requires-in-Some-place-clause-within : goal.is_row-requires-in-Some-place-clause-within
is_row-requires-in-Some-place-clause-within c =
    let t = c.self.inside in
    let n : c.len.result ≡ length t.rows.items = search rules in
    omega (arith, c.at-in-Some-place.ensures, c.if-place-len.true, n, length_trees t.parts.items [] t.rows.items, ap length c.self.view_is)

pub returns-then-is_row-2-clause-some : goal.returns-then-is_row-2-clause-some
returns-then-is_row-2-clause-some c =
    let t = c.self.inside in
    let n : c.len.result ≡ length t.rows.items = search rules in (
      omega (arith, c.at-then-is_row-2.ensures, c.if-place-len.true, n, length_trees t.parts.items [] t.rows.items, ap length c.self.view_is),
      ap (tree c.args.self.now) (c.at-then-is_row-2.ensures ∙ sym c.at-in-Some-place.ensures) ∙ c.is_row-in-Some-place.ensures.0 c.if-is_row-2.true,
    )

pub returns-in-Some-place-clause-none : goal.returns-in-Some-place-clause-none
returns-in-Some-place-clause-none c =
    let t = c.self.inside in let ts = c.args.self.now in
    let whole = applied c.args.node (map (argument_in ts) c.args.args.now) in
    let end : c.looking.at ≡ None = search rules in
    let words : c.deref.result.now ≡ spelled c.args.node c.args.args.now = c.deref.ensures.value ∙ c.in_ok-spelling.ensures in
    none_found t.parts.items t.rows.items t.index t.crowded ts c.args.mark c.args.node c.args.args.now c.looking.at c.self.view_is c.self.invariant c.requires.mark c.requires.below c.requires.fits c.looking.invariant end
    (misses_other ts t.crowded (spelled c.args.node c.args.args.now) c.deref.result.now whole c.in-Some-place.place words (sym c.in-Some-place.is ∙ c.place.ensures)
    (λ u. false_true (sym c.if-is_row-2.false ∙ c.is_row-in-Some-place.ensures.1 (ap (tree ts) c.at-in-Some-place.ensures ∙ u))))

pub returns-clause-none : goal.returns-clause-none
returns-clause-none c =
    let t = c.self.inside in let ts = c.args.self.now in
    let whole = applied c.args.node (map (argument_in ts) c.args.args.now) in
    let end : c.looking.at ≡ None = search rules in
    let words : c.deref.result.now ≡ spelled c.args.node c.args.args.now = c.deref.ensures.value ∙ c.in_ok-spelling.ensures in
    let ks = spelled c.args.node c.args.args.now in
    none_found t.parts.items t.rows.items t.index t.crowded ts c.args.mark c.args.node c.args.args.now c.looking.at c.self.view_is c.self.invariant c.requires.mark c.requires.below c.requires.fits c.looking.invariant end
    (elim c.in_default-place.branch [
      | in_default-place-via-in-Some-place+else-place-len w ↦
          let n : w.len.result ≡ length t.rows.items = search rules in
          misses_past ts t.crowded ks c.deref.result.now whole w.in-Some-place.place words (sym w.in-Some-place.is ∙ c.place.ensures) (omega (arith, w.if-place-len.false, n, length_trees t.parts.items [] t.rows.items, ap length c.self.view_is))
      | in_default-place-via-in_default-place w ↦
          let none : c.place.result ≡ None = search rules in
          misses_none ts t.crowded ks c.deref.result.now whole words (sym none ∙ c.place.ensures)
    ])
