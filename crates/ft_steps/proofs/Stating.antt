-- The parts of a statement.
use Rattle.std.proofs.Common.{◌≡◌, ℕ, List, sym, ap₂, subst}
use Rattle.ft_theory.specs.Expressions.{Expression}
use Rattle.ft_theory.specs.Statements.{Claim, plain}
use Rattle.ft_syntax.specs.Table.{AllBelow}
use Rattle.ft_judge.specs.Meaning.{under}
use Rattle.ft_steps.specs.Parts.{claim_in, ClaimBelow}
use Rattle.ft_steps.specs.declared.parts.Claim.{Claim as ClaimValue}

pub parts_state : (ts : List Expression) (As Bs : List ℕ) (c : ClaimValue) (d : Claim) → As ≡ Bs → claim_in ts c ≡ d → under ts As (plain (claim_in ts c)) ≡ under ts Bs (plain d)
parts_state ts As Bs c d e f = ap₂ (λ As c. under ts As (plain c)) e f

pub parts_below : (n : ℕ) (As Bs : List ℕ) (c : ClaimValue) → As ≡ Bs → AllBelow n Bs → ClaimBelow n c → AllBelow n As × ClaimBelow n c
parts_below n As Bs c e h k = (subst (AllBelow n) (sym e) h, k)
