use Rattle.std.proofs.Common.{◌≡◌, ◌≤◌, ◌-◌, ap, length, drop, [], arith}
use Rattle.ft_types.specs.Types.{type_in}
use Rattle.ft_types.specs.Names.{listed}
use Rattle.ft_types.specs.Checking.{Checking, renamed}
use Rattle.ft_types.proofs.Scopes.{left_checker, listed_take, renamed_drop, renamed_length, listed_length}
use Rattle.ft_types.proofs.checker.Checker.leave.Goals as goal

within : (c : goal.After-truncate) → c.args.count ≤ length c.self.inside.locals.items
within c =
    let t = c.self.inside in
    omega (arith, c.requires, ap (λ (v : Checking). length v.locals) c.self.view_is, renamed_length (type_in t.types) (listed t.locals.items), listed_length [] t.locals.items)

pub invariant_of-self : goal.invariant_of-self
invariant_of-self c =
    let t = c.self.inside in
    rw c.truncate.ensures.items (left_checker (length t.types) t.values t.operations t.locals.items c.args.count (within c) c.self.invariant)

pub returns : goal.returns
returns c =
    let t = c.self.inside in
    let n : length t.locals.items ≡ length (renamed (type_in t.types) (listed t.locals.items)) =
    omega (arith, renamed_length (type_in t.types) (listed t.locals.items), listed_length [] t.locals.items) in
    rw (c.truncate.ensures.items, listed_take t.locals.items c.args.count (within c), renamed_drop (type_in t.types) (length t.locals.items - c.args.count) (listed t.locals.items), n)
    (ap (λ (v : Checking). record v { locals = drop (length v.locals - c.args.count) v.locals }) c.self.view_is)
