use Rattle.std.proofs.Common.{◌≡◌, ◌≤◌, ◌<◌, ◌+◌, length, refl, arith}
use Rattle.ft_theory.specs.Expressions.{rename}
use Rattle.ft_theory.specs.Small.{IsSmall}
use Rattle.ft_syntax.specs.Table.{tree}
use Rattle.ft_syntax.specs.Instances.{IsPlanted, IsNeverSmall}
use Rattle.ft_syntax.specs.declared.syntax.SynFault.TheVariants.{TooBig}
use Rattle.ft_syntax.proofs.Planting.{plug_within, plug_some, plug_refused, plug_none}
use Rattle.std.proofs.lemmas.Result.{IfOk-weaker, IfErr-weaker}
use Rattle.ft_syntax.proofs.table.Terms.plug_bound.Goals as goal

pub returns-then-i-under-clause-tree : goal.returns-then-i-under-clause-tree
returns-then-i-under-clause-tree c = plug_within c.args.self.now c.args.terms.now c.args.under c.args.i (tree c.args.self.now c.args.e) c.requires.is c.if-i-under.true

pub returns-in-Some-clause-tree : goal.returns-in-Some-clause-tree
returns-in-Some-clause-tree c =
    let past : c.args.under ≤ c.args.i = omega arith in
    let within : c.args.i < c.args.under + length c.args.terms.now = omega arith in
    IfOk-weaker c.raise.result (λ r. tree c.raise.new.self r ≡ rename (λ i. i + c.args.under) (tree c.args.self.now c.in-Some.t)) (λ r. IsPlanted c.args.self.now c.args.terms.now c.args.under (tree c.args.self.now c.args.e) (tree c.raise.new.self r))
    (λ r h. plug_some c.args.self.now c.args.terms.now c.args.under c.args.i _ c.in-Some.t c.index-terms-place.result (tree c.args.self.now c.args.e) (tree c.raise.new.self r) c.requires.is past within refl c.index-terms-place.is c.in-Some.is h) c.raise.ensures.tree

pub returns-in-Some-clause-too_big : goal.returns-in-Some-clause-too_big
returns-in-Some-clause-too_big c =
    let past : c.args.under ≤ c.args.i = omega arith in
    let within : c.args.i < c.args.under + length c.args.terms.now = omega arith in
    IfErr-weaker c.raise.result (λ f. f ≡ TooBig → IsSmall (rename (λ i. i + c.args.under) (tree c.args.self.now c.in-Some.t)) → ⊥) (λ f. f ≡ TooBig → IsNeverSmall c.args.self.now c.args.terms.now c.args.under (tree c.args.self.now c.args.e))
    (λ f h e. plug_refused c.args.self.now c.args.terms.now c.args.under c.args.i _ c.in-Some.t c.index-terms-place.result (tree c.args.self.now c.args.e) c.requires.is past within refl c.index-terms-place.is c.in-Some.is (h e)) c.raise.ensures.too_big

pub returns-in-None-clause-too_big : goal.returns-in-None-clause-too_big
returns-in-None-clause-too_big c =
    let past : c.args.under ≤ c.args.i = omega arith in
    let within : c.args.i < c.args.under + length c.args.terms.now = omega arith in
    λ _. plug_none c.args.self.now c.args.terms.now c.args.under c.args.i _ c.index-terms-place.result (tree c.args.self.now c.args.e) c.requires.is past within refl c.index-terms-place.is c.in-None.is
