use Rattle.std.proofs.Common.{◌∙◌, Option, length, ap, ap₂, sym, ℕ}
use Rattle.std.specs.Prelude.{option_map}
use Rattle.ft_theory.specs.Expressions.{Expression}
use Rattle.ft_theory.specs.Statements.{plain}
use Rattle.ft_items.specs.Rows as row
use Rattle.ft_judge.specs.Meaning.{goal_in}
use Rattle.ft_parts.proofs.Lines.{IsMet, met_there, met_boundary}
use Rattle.ft_parts.proofs.Declared.{bounded_is, no_type}
use Rattle.ft_parts.proofs.reading.type_of_boundary.Goals as goal

-- a type with a number
abbrev numbered : ℕ → Option Expression → Option (Expression × ℕ)
numbered n o = option_map (λ A. (A, n)) o

pub boundary_at-boundary-requires : goal.boundary_at-boundary-requires
boundary_at-boundary-requires c =
    let x = c.met.result.now in
    met_boundary c.args.k.now c.args.m x.boundary (met_there c.args.k.now c.args.m (x.name, x.boundary) c.met.ensures.good c.met.ensures.metavariable)

pub returns-in-Tm-clause-ty : goal.returns-in-Tm-clause-ty
returns-in-Tm-clause-ty c =
    let s = c.args.k.now in
    let x = c.met.result.now in
    let b = c.boundary_at-boundary.result.now in
    let M : IsMet s c.args.m x.boundary = met_there s c.args.m (x.name, x.boundary) c.met.ensures.good c.met.ensures.metavariable in
    ap₂ (λ ds g. numbered (length ds) (row.type_of_boundary (plain (goal_in s.trees g)))) c.items.ensures (sym c.in-Tm.is) ∙ bounded_is s c.args.m x.boundary b M c.boundary_at-boundary.ensures.boundary

pub returns-in_default : goal.returns-in_default
returns-in_default c =
    let s = c.args.k.now in
    let x = c.met.result.now in
    let b = c.boundary_at-boundary.result.now in
    let M : IsMet s c.args.m x.boundary = met_there s c.args.m (x.name, x.boundary) c.met.ensures.good c.met.ensures.metavariable in
    record {
      ty = ap (numbered (length b.domains)) (no_type s.trees b.goal c.in_default.not-Tm) ∙ bounded_is s c.args.m x.boundary b M c.boundary_at-boundary.ensures.boundary;
      below = tt;
    }
