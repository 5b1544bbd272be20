use Rattle.std.proofs.Common.{◌∙◌, ap, refl}
use Rattle.std.specs.Prelude.{Some}
use Rattle.ft_rules.specs.Drafts.{Drafted}
use Rattle.ft_rules.proofs.Premises.{looked}
use Rattle.ft_rules.proofs.Finishing.{finish_open, stays_finitary}
use Rattle.ft_rules.proofs.drafts.Draft.declare.Goals as goal

pub returns-in-Some-clause-finishes : goal.returns-in-Some-clause-finishes
returns-in-Some-clause-finishes c =
    let d : Drafted = c.args.self.now in
    finish_open c.args.k.now d c.args.conclusion c.set_of.result.now c.in-Some.atom c.requires.conclusion c.requires.name c.set_of.ensures
    (looked c.outside.result (Some c.in-Some.atom) c.deref.result.now c.atoms.result.now d c.set_of.result.now c.outside.ensures c.in-Some.is (c.deref.ensures.value ∙ ap (λ (d : Drafted). d.premises) c.self.view_is) c.atoms.ensures.atoms)

pub returns-in-Some-clause-finitary : goal.returns-in-Some-clause-finitary
returns-in-Some-clause-finitary c = stays_finitary c.args.k.now c.args.k.now c.terms-terms.ensures.good refl
