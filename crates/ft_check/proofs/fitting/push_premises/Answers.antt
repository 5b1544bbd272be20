use Rattle.std.proofs.Common.{rules, take, zero, ◌≢◌, length}
use Rattle.ft_theory.specs.Statements.{map_statement}
use Rattle.ft_items.specs.Store.{store_of}
use Rattle.ft_check.proofs.Fits.{fit_other}
use Rattle.ft_check.proofs.fitting.push_premises.Goals as goal

pub returns-then-ms-ps-clause-same : goal.returns-then-ms-ps-clause-same
returns-then-ms-ps-clause-same c =
    let other : length c.args.ms.now ≢ length c.args.ps.now = search rules in
    λ ds given j g h q t. fit_other (store_of (take c.args.i c.args.items.now.items)) c.args.ms.now c.args.ps.now ds given (map_statement (λ k. j) zero) _ h q other
