use Rattle.std.proofs.Common.{rules, ◌≡◌, ◌<◌, ◌≤◌, ◌+◌, ◌-◌, Some, length, subst, refl, slice_get, arith}
use Rattle.ft_items.specs.Equal.{equal_statements}
use Rattle.ft_syntax.specs.Arguments.{arguments_of}
use Rattle.ft_syntax.specs.Table.{tree, argument_in}
use Rattle.ft_check.specs.Earlier.{declared_before}
use Rattle.ft_check.specs.Entries.{entry_in}
use Rattle.ft_check.proofs.AtSymbols.{argument_told, few_arguments, few_premises, premise_declared, rule_numbers}
use Rattle.ft_check.proofs.applications.is_argument_of_symbol.Goals as goal

pub returns-then-ms-k : goal.returns-then-ms-k
returns-then-ms-k c = λ R s a g k e t.
    let few : length c.args.rule.now.metavariables.now ≤ c.args.k = search rules in
    few_premises c.args.items.now.trees (declared_before c.args.i c.args.items.now.items) c.args.rule.now R a c.args.k (λ z. equal_statements z (entry_in c.args.items.now.trees c.args.found).statement) k few

pub returns-then-count-k : goal.returns-then-count-k
returns-then-count-k c = λ R s a g k e t.
    let T = c.args.items.now.trees in
    let few : c.count.result ≤ c.args.k = search rules in
    few_arguments R (tree T c.args.e) s a c.args.k (λ z. equal_statements z (entry_in T c.args.found).statement) e
    (subst (λ ts. length (arguments_of (tree ts c.args.e)) ≤ c.args.k) c.terms-terms.ensures (subst (λ n. n ≤ c.args.k) c.count.ensures few))

pub returns : goal.returns
returns c = λ R s a g h e t.
    let T = c.args.items.now.trees in
    let D = declared_before c.args.i c.args.items.now.items in
    let within : c.args.k < length c.args.rule.now.metavariables.now = search rules in
    let place : c.args.k + 1 - 1 ≡ c.args.k = omega arith in
    let d = premise_declared T D c.args.rule.now R c.args.k _ h within refl in
    argument_told T R (tree T c.args.e) s a c.args.k (c.args.k + 1 - 1) d.1 d.0.boundary c.arg-body.result (entry_in T c.args.found).statement c.in_ok-yes.yes d.3 e place
    (subst (λ ts. slice_get (arguments_of (tree ts c.args.e)) (c.args.k + 1 - 1) ≡ Some (argument_in ts c.arg-body.result)) c.terms-terms.ensures c.arg-body.ensures.argument)
    (c.in_ok-yes.ensures d.0 R.1.premises s a g d.2 (rule_numbers T D c.args.rule.now R h) e t)
