use Rattle.std.proofs.Common.{take, ◌≡◌, true, is_some, sym, ap, ◌∙◌, subst, IfSome}
use Rattle.ft_theory.specs.Statements.{plain}
use Rattle.ft_items.specs.Equal.{equal_statements, is_object_goal}
use Rattle.ft_items.specs.Rows.{sets, statements}
use Rattle.ft_items.specs.Sets.{same_set, union, unions}
use Rattle.ft_items.specs.Store.{declared_by, premises_of}
use Rattle.ft_judge.specs.Meaning.{goal_in}
use Rattle.ft_check.specs.Arguing.{AreDeclared}
use Rattle.ft_check.specs.Entries.{entry_in}
use Rattle.ft_check.specs.Equations.{AreSides, equated}
use Rattle.ft_check.proofs.Congruent.{congruence_judged, no_object, no_sides}
use Rattle.ft_check.proofs.congruences.check_congruence.Goals as goal

pub returns-then-not-is_object : goal.returns-then-not-is_object
returns-then-not-is_object c = λ R xs ys t g k q u.
    no_object c.args.items.now.trees (declared_by (take c.args.i c.args.items.now.items)) c.args.rule.now R (statements xs) (statements ys) _ (entry_in c.args.items.now.trees c.args.found) t _ k
    (c.is_object.ensures c.args.items.now.trees) c.if-not-is_object.true

pub returns-in_default : goal.returns-in_default
returns-in_default c = λ R xs ys t g k q u.
    let d : AreDeclared (take c.args.i c.args.items.now.items) c.args.rule.now.metavariables.now k.declared = record { good = g; are = k.are } in
    no_sides c.args.items.now.trees (declared_by (take c.args.i c.args.items.now.items)) c.args.rule.now R xs ys _ (entry_in c.args.items.now.trees c.args.found) t _ _ k
    (c.is_object.ensures c.args.items.now.trees) c.if-not-is_object.false (c.in_ok-sides.ensures.are k.declared xs ys d q u) (ap is_some c.in_default.is)

pub returns : goal.returns
returns c = λ R xs ys t g k q u.
    let T = c.args.items.now.trees in
    let S = c.in-Some.sides in
    let d : AreDeclared (take c.args.i c.args.items.now.items) c.args.rule.now.metavariables.now k.declared = record { good = g; are = k.are } in
    let there : AreSides S (premises_of k.declared) (statements xs) (statements ys) =
    subst (λ o. IfSome o (λ s. AreSides s (premises_of k.declared) (statements xs) (statements ys))) c.in-Some.is (c.in_ok-sides.ensures.sides k.declared xs ys d q u) in
    let object : is_object_goal (goal_in T c.args.rule.now.goal) ≡ true = sym (c.is_object.ensures T) ∙ c.if-not-is_object.false in
    let concluded = subst (λ ts. is_object_goal (goal_in ts c.args.rule.now.goal) ≡ true → c.in_ok-is_concluded.is_concluded ≡ equal_statements (entry_in ts c.args.found).statement (plain (equated ts S c.args.rule.now)))
    c.terms.ensures c.in_ok-is_concluded.ensures object in
    congruence_judged T (declared_by (take c.args.i c.args.items.now.items)) c.args.rule.now R S xs ys (union (unions (sets xs)) (unions (sets ys))) _ (entry_in T c.args.found) t _ _ _ _ _ k
    (c.is_object.ensures T) c.if-not-is_object.false (c.in_ok-sides.ensures.are k.declared xs ys d q u) (ap is_some c.in-Some.is) there concluded
    (c.in_ok-whole.ensures xs ys q u) (c.is_same_set.ensures ∙ ap (same_set _) (c.set-stated.ensures T)) c.against_result.ensures
