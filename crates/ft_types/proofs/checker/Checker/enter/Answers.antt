use Rattle.std.proofs.Common.{◌++◌, sym, ap, subst, length}
use Rattle.ft_types.specs.Types.{type_in}
use Rattle.ft_types.specs.Names.{listed}
use Rattle.ft_types.specs.Checking.{Checking, ValuesBelow, renamed}
use Rattle.ft_types.proofs.Scopes.{entered_checker, listed_parts, renamed_append}
use Rattle.ft_types.proofs.checker.Checker.enter.Goals as goal

pub invariant_of-self-2 : goal.invariant_of-self-2
invariant_of-self-2 c =
    let t = c.self.inside in
    let below = subst (λ (v : Checking). ValuesBelow (length v.types) (listed c.args.found.items)) (sym c.self.view_is) c.requires in
    rw c.in_ok-append.ensures.items (entered_checker (length t.types) t.values t.operations t.locals.items c.args.found.items c.self.invariant below)

pub returns-clause-ok : goal.returns-clause-ok
returns-clause-ok c =
    let t = c.self.inside in
    rw (c.in_ok-append.ensures.items, listed_parts t.locals.items c.args.found.items, renamed_append (type_in t.types) (listed c.args.found.items) (listed t.locals.items))
    (ap (λ (v : Checking). record v { locals = renamed (type_in v.types) (listed c.args.found.items) ++ v.locals }) c.self.view_is)
