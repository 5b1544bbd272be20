-- The calls of the nucleus by name. Each is the answer of one step with what it names.
use Rattle.std.specs.Prelude.{ℕ, Bool, Result, List}
use Rattle.ft_theory.specs.Rules.{Rule}
use Rattle.ft_items.specs.Equal.{fits}
use Rattle.ft_items.specs.Item.{by_var, by_generic, by_meta, by_metacong, by_abs, by_subst, by_substeq, by_refl, by_sym, by_trans, by_conv, by_conveq, by_left, by_right, by_typeof, by_domain, by_boundary, by_widen, by_btype, by_bterm, by_beqty, by_beqtm, by_rule, by_rulewith, by_inst, by_cong, by_convprem, by_convback, by_arg, by_natural, by_metainst}
use Rattle.ft_items.specs.Store.{Assertion, Annotation, Declared, Declarations}
use Rattle.ft_reference.specs.Refusals.{Refusal}
use Rattle.ft_reference.specs.Calls.{answer}

-- Variables and metavariables.

-- the variable at its type
abbrev pub variable : Declarations → ℕ × Annotation → Result Assertion Refusal
variable W v = answer W (by_var v)

-- the metavariable at its bound variables, under its domains
abbrev pub generic : Declarations → ℕ × Declared → Result Assertion Refusal
generic W m = answer W (by_generic m)

-- the metavariable at the terms ts
abbrev pub meta_apply : Declarations → ℕ × Declared → List Assertion → Result Assertion Refusal
meta_apply W m ts = answer W (by_meta m ts)

-- the metavariable at the left sides of the equations es equals it at their right sides
abbrev pub meta_congruence : Declarations → ℕ × Declared → List Assertion → Result Assertion Refusal
meta_congruence W m es = answer W (by_metacong m es)

-- Structure.

-- the thesis or boundary p with the variable bound, as its first domain
abbrev pub abstract_variable : Declarations → ℕ × Annotation → Assertion → Result Assertion Refusal
abstract_variable W v p = answer W (by_abs v p)

-- the thesis or boundary p with the term t for the variable of its first domain
abbrev pub substitute : Declarations → Assertion → Assertion → Result Assertion Refusal
substitute W p t = answer W (by_subst p t)

-- the type or term p with the left side of the equation e for the variable of its first domain equals p with the right side
abbrev pub substitute_equal : Declarations → Assertion → Assertion → Result Assertion Refusal
substitute_equal W p e = answer W (by_substeq p e)

-- the thesis or boundary p with the theses xs for its metavariables ms
abbrev pub instantiate : Declarations → Assertion → List (ℕ × Declared) → List Assertion → Result Assertion Refusal
instantiate W p ms xs = answer W (by_metainst p ms xs)

-- the thesis p with the sets of p and q
abbrev pub widen : Declarations → Assertion → Assertion → Result Assertion Refusal
widen W p q = answer W (by_widen p q)

-- Equality and conversion.

-- the type or term p equals itself
abbrev pub refl : Declarations → Assertion → Result Assertion Refusal
refl W p = answer W (by_refl p)

-- the equation p with its sides exchanged
abbrev pub sym : Declarations → Assertion → Result Assertion Refusal
sym W p = answer W (by_sym p)

-- the left side of the equation p equals the right side of q
abbrev pub trans : Declarations → Assertion → Assertion → Result Assertion Refusal
trans W p q = answer W (by_trans p q)

-- the term p at the right side of the type equation e
abbrev pub convert : Declarations → Assertion → Assertion → Result Assertion Refusal
convert W p e = answer W (by_conv p e)

-- the equation of terms p at the right side of the type equation e
abbrev pub convert_equation : Declarations → Assertion → Assertion → Result Assertion Refusal
convert_equation W p e = answer W (by_conveq p e)

-- Parts.

-- the left side of p, an equation or the boundary of one, under the domains of p
abbrev pub left_side : Declarations → Assertion → Result Assertion Refusal
left_side W p = answer W (by_left p)

-- its right side, under these domains
abbrev pub right_side : Declarations → Assertion → Result Assertion Refusal
right_side W p = answer W (by_right p)

-- the type in p, a thesis or a boundary of terms, under the domains of p
abbrev pub type_part : Declarations → Assertion → Result Assertion Refusal
type_part W p = answer W (by_typeof p)

-- the first domain of p, as a plain type
abbrev pub first_domain : Declarations → Assertion → Result Assertion Refusal
first_domain W p = answer W (by_domain p)

-- the boundary of the thesis p
abbrev pub boundary : Declarations → Assertion → Result Assertion Refusal
boundary W p = answer W (by_boundary p)

-- Boundaries.

-- the boundary of a type
abbrev pub boundary_type : Declarations → Result Assertion Refusal
boundary_type W = answer W by_btype

-- the boundary of a term of the type p
abbrev pub boundary_term : Declarations → Assertion → Result Assertion Refusal
boundary_term W p = answer W (by_bterm p)

-- the boundary of an equation of the types p and q
abbrev pub boundary_eq_type : Declarations → Assertion → Assertion → Result Assertion Refusal
boundary_eq_type W p q = answer W (by_beqty p q)

-- the boundary of an equation of the terms s and t, of the type p
abbrev pub boundary_eq_term : Declarations → Assertion → Assertion → Assertion → Result Assertion Refusal
boundary_eq_term W p s t = answer W (by_beqtm p s t)

-- the test that the thesis j fits the boundary b
abbrev pub fits_boundary : Assertion → Assertion → Bool
fits_boundary j b = fits j.statement b.statement

-- Rules.

-- the conclusion of the rule at the arguments xs
abbrev pub apply : Declarations → ℕ × Rule → List Assertion → Result Assertion Refusal
apply W r xs = answer W (by_rule r xs)

-- the same, where b is the boundary of that conclusion
abbrev pub apply_with : Declarations → ℕ × Rule → Assertion → List Assertion → Result Assertion Refusal
apply_with W r b xs = answer W (by_rulewith r b xs)

-- the boundary of the premise after the arguments xs, or of the conclusion where no premise is left
abbrev pub next_boundary : Declarations → ℕ × Rule → List Assertion → Result Assertion Refusal
next_boundary W r xs = answer W (by_inst r xs)

-- the symbol of the rule at the arguments xs equals it at the right sides of the equations es
abbrev pub congruence : Declarations → ℕ × Rule → List Assertion → List Assertion → Result Assertion Refusal
congruence W r xs es = answer W (by_cong r xs es)

-- the argument y for the premise after xs, moved from the arguments xs to the right sides of the equations es
abbrev pub convert_premise : Declarations → ℕ × Rule → List Assertion → List Assertion → Assertion → Result Assertion Refusal
convert_premise W r xs es y = answer W (by_convprem r xs es y)

-- the same from the right sides to the arguments
abbrev pub convert_premise_back : Declarations → ℕ × Rule → List Assertion → List Assertion → Assertion → Result Assertion Refusal
convert_premise_back W r xs es y = answer W (by_convback r xs es y)

-- What an application tells.

-- the i-th argument of the application in p, counted from 1
abbrev pub argument : Declarations → ℕ → Assertion → Result Assertion Refusal
argument W i p = answer W (by_arg i p)

-- the type that the term p has by its declaration equals the one that it is at
abbrev pub natural : Declarations → Assertion → Result Assertion Refusal
natural W p = answer W (by_natural p)
