use Rattle.std.proofs.Common.{◌≡◌, take, zero, Some, sym, ap, ◌∙◌, subst}
use Rattle.std.specs.Prelude.{option_map}
use Rattle.std.proofs.lemmas.Option.{same_Some}
use Rattle.ft_theory.specs.Expressions.{instantiate, symbol}
use Rattle.ft_theory.specs.Statements.{map_statement}
use Rattle.ft_items.specs.Equal.{fits, is_thesis}
use Rattle.ft_syntax.specs.Instances.{instance_in}
use Rattle.ft_syntax.specs.Table.{tree}
use Rattle.ft_judge.specs.Meaning.{head_in, head_of_statement}
use Rattle.ft_check.specs.Arguing.{IsPut}
use Rattle.ft_check.specs.Entries.{entry_in}
use Rattle.ft_check.specs.Equations.{same_head}
use Rattle.ft_check.proofs.AtSymbols.{argument_filled, argument_unfit}
use Rattle.ft_check.proofs.Fits.{boundary_kind}
use Rattle.ft_check.proofs.applications.is_argument_for.Goals as goal

pub returns-then-not-branch : goal.returns-then-not-branch
returns-then-not-branch c = λ d qs s a g h n e t.
    let T = c.args.items.now.trees in
    let P = c.in_ok-put.put in
    let same : (entry_in T c.in-Some.wanted).statement ≡ d.boundary = same_Some _ _ (sym (ap (option_map (λ e. (entry_in T e).statement)) c.in-Some.is) ∙ c.boundary_named.ensures.entry d g h) in
    let kind = ap is_thesis same ∙ boundary_kind (take c.args.i c.args.items.now.items) c.args.m d g h in
    let put : IsPut P qs a = c.in_ok-put.ensures.put qs s a n (subst (λ ts. tree ts c.args.e ≡ symbol s a) (sym c.terms.ensures) e) in
    let fitting = subst (λ ts. is_thesis (entry_in ts c.args.found).statement ≡ Rattle.std.proofs.Common.true → is_thesis (entry_in ts c.in-Some.wanted).statement ≡ Rattle.std.proofs.Common.false
    → c.in_ok-fits_at.field-0 ≡ fits (entry_in ts c.args.found).statement (map_statement (λ k. instantiate (instance_in P.terms P.instance.pairs)) zero (entry_in ts c.in-Some.wanted).statement))
    c.terms-2.ensures c.in_ok-fits_at.ensures t kind in
    argument_unfit P qs a d.boundary (entry_in T c.in-Some.wanted).statement (entry_in T c.args.found).statement (head_in T c.args.body) c.in_ok-fits_at.field-0 put same kind fitting c.if-not-branch.true

pub returns : goal.returns
returns c = λ d qs s a g h n e t.
    let T = c.args.items.now.trees in
    let P = c.in_ok-put.put in
    let same : (entry_in T c.in-Some.wanted).statement ≡ d.boundary = same_Some _ _ (sym (ap (option_map (λ e. (entry_in T e).statement)) c.in-Some.is) ∙ c.boundary_named.ensures.entry d g h) in
    let kind = ap is_thesis same ∙ boundary_kind (take c.args.i c.args.items.now.items) c.args.m d g h in
    let put : IsPut P qs a = c.in_ok-put.ensures.put qs s a n (subst (λ ts. tree ts c.args.e ≡ symbol s a) (sym c.terms.ensures) e) in
    let fitting = subst (λ ts. is_thesis (entry_in ts c.args.found).statement ≡ Rattle.std.proofs.Common.true → is_thesis (entry_in ts c.in-Some.wanted).statement ≡ Rattle.std.proofs.Common.false
    → c.in_ok-fits_at.field-0 ≡ fits (entry_in ts c.args.found).statement (map_statement (λ k. instantiate (instance_in P.terms P.instance.pairs)) zero (entry_in ts c.in-Some.wanted).statement))
    c.terms-2.ensures c.in_ok-fits_at.ensures t kind in
    argument_filled P qs a d.boundary (entry_in T c.in-Some.wanted).statement (entry_in T c.args.found).statement (head_in T c.args.body) c.in_ok-fits_at.field-0 c.has_body.result put same kind fitting c.if-not-branch.false
    (subst (λ ts. c.has_body.result ≡ same_head (head_of_statement (entry_in ts c.args.found).statement) (Some (head_in ts c.args.body))) c.terms-3.ensures c.has_body.ensures)
