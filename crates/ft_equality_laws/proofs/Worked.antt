-- Worked answers, by computation.
use Rattle.std.proofs.Common.{refl}
use Rattle.ft_theory.specs.Expressions.{act, body_or, count, put, open_at, close_at, rename, lifts, lift, pushes, push}
use Rattle.ft_equality_laws.specs.Worked.{AreShapes, AreComputationFaults, AreExtensionalityFaults, OneAndOne, NotWithoutTheRule, UnitIsTrivial, FunctionsAreExtensional, ConstantIsAnother, MetavariableAtEqualTerms, ProductsOfNumbers, OneAndOneIsNormal, BetaAtEqualTypes, LoopEnds}

pub shapes : AreShapes
shapes = (refl, refl, refl, refl, refl)

pub computation_faults : AreComputationFaults
computation_faults = (refl, refl, refl, refl)

pub extensionality_faults : AreExtensionalityFaults
extensionality_faults = (refl, refl, refl, refl)

pub one_and_one : OneAndOne
unfolding act body_or count put open_at close_at rename lifts lift pushes push
one_and_one = refl

pub not_without_the_rule : NotWithoutTheRule
unfolding act body_or count put open_at close_at rename lifts lift pushes push
not_without_the_rule = refl

pub unit_is_trivial : UnitIsTrivial
unfolding act body_or count put open_at close_at rename lifts lift pushes push
unit_is_trivial = refl

pub functions_are_extensional : FunctionsAreExtensional
unfolding act body_or count put open_at close_at rename lifts lift pushes push
functions_are_extensional = refl

pub constant_is_another : ConstantIsAnother
unfolding act body_or count put open_at close_at rename lifts lift pushes push
constant_is_another = refl

pub one_and_one_is_normal : OneAndOneIsNormal
unfolding act body_or count put open_at close_at rename lifts lift pushes push
one_and_one_is_normal = refl

pub beta_at_equal_types : BetaAtEqualTypes
unfolding act body_or count put open_at close_at rename lifts lift pushes push
beta_at_equal_types = refl

pub loop_ends : LoopEnds
unfolding act body_or count put open_at close_at rename lifts lift pushes push
loop_ends = refl

pub metavariable_at_equal_terms : MetavariableAtEqualTerms
unfolding act body_or count put open_at close_at rename lifts lift pushes push
metavariable_at_equal_terms = refl

pub products_of_numbers : ProductsOfNumbers
unfolding act body_or count put open_at close_at rename lifts lift pushes push
products_of_numbers = refl
