use Rattle.std.proofs.Common.{◌≡◌, ◌∙◌, length, ap, arith}
use Rattle.std.specs.Prelude.{Some}
use Rattle.ft_rules.specs.Drafts.{Drafted}
use Rattle.ft_rules.proofs.Premises.{looked, premise_refused}
use Rattle.ft_rules.proofs.drafts.Draft.premise.Goals as goal

pub returns-in-Some-clause-premise : goal.returns-in-Some-clause-premise
returns-in-Some-clause-premise c =
    let d : Drafted = c.args.self.now in
    let old : c.self.inside.premises.items ≡ d.premises = ap (λ (d : Drafted). d.premises) c.self.view_is in
    let long : length c.self.inside.premises.items ≡ length d.premises = ap length old in
    premise_refused c.args.k.now d c.args.name.now c.args.b c.set_of.result.now _ c.in-Some.atom c.requires.boundary c.set_of.ensures
    (looked c.outside.result (Some c.in-Some.atom) c.deref.result.now c.atoms.result.now d c.set_of.result.now c.outside.ensures c.in-Some.is (c.deref.ensures.value ∙ old) c.atoms.ensures.atoms)
    (omega (arith, c.len.ensures, long))
