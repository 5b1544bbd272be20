use Rattle.std.proofs.Common.{◌≡◌, ◌∙◌, ◌-◌, suc, length, ap, sym, subst, arith}
use Rattle.std.specs.Prelude.{IfOk, IfErr}
use Rattle.ft_theory.specs.Expressions.{open_at}
use Rattle.ft_theory.specs.Small.{IsSmall}
use Rattle.ft_syntax.specs.Table.{tree}
use Rattle.ft_syntax.specs.declared.syntax.SynFault.TheVariants.{TooBig}
use Rattle.ft_judge.specs.Meaning.{thesis_in}
use Rattle.ft_nucleus.specs.Equating.{opened_head}
use Rattle.ft_nucleus.proofs.Equating.{no_form_head, head_opened}
use Rattle.ft_nucleus.proofs.equal_substitution.opened_head.Goals as goal

pub unreachable-requires : goal.unreachable-requires
unreachable-requires c = no_form_head c.args.x.now.form c.requires.head (sym c.head_of_form.ensures.head ∙ c.in-None.is)

pub returns-clause-tree : goal.returns-clause-tree
returns-clause-tree c =
    let ts = c.args.k.now.trees in
    let x = c.args.x.now in
    let n = length c.items.result.now - 1 in
    let e : length c.items.result.now ≡ length x.domains = ap length c.items.ensures in
    let l : suc (length c.items.result.now - 1) ≡ length x.domains = omega (arith, e, c.requires.domain) in
    subst (λ z. IfOk c.open_bound.result (λ r. tree c.open_bound.new.self.trees r ≡ z)) (head_opened ts x (tree ts c.args.by) n c.in-Some.head l (sym c.head_of_form.ensures.head ∙ c.in-Some.is)) c.open_bound.ensures.tree

pub returns-clause-too_big : goal.returns-clause-too_big
returns-clause-too_big c =
    let ts = c.args.k.now.trees in
    let x = c.args.x.now in
    let n = length c.items.result.now - 1 in
    let e : length c.items.result.now ≡ length x.domains = ap length c.items.ensures in
    let l : suc (length c.items.result.now - 1) ≡ length x.domains = omega (arith, e, c.requires.domain) in
    subst (λ z. IfErr c.open_bound.result (λ f. f ≡ TooBig → IsSmall z → ⊥)) (head_opened ts x (tree ts c.args.by) n c.in-Some.head l (sym c.head_of_form.ensures.head ∙ c.in-Some.is)) c.open_bound.ensures.too_big
