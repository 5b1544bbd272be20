-- The level of each step: which kinds of wide step may be needed to justify it.
-- 0 needs primitive steps alone, 1 weakening, 2 substitution, 3 sides and boundaries, 4 equal substitution, 5 instances without
-- the premise for the boundary, 6 equal instances, 7 inversion.
use Rattle.std.specs.Prelude.{ℕ, cond}
use Rattle.ft_theory.specs.Statements.{Claim, type_goal}
use Rattle.ft_items.specs.Equal.{is_plain}
use Rattle.ft_items.specs.Item.{by_var, by_generic, by_meta, by_metacong, by_abs, by_subst, by_substeq, by_refl, by_sym, by_trans, by_conv, by_conveq, by_left, by_right, by_typeof, by_domain, by_boundary, by_widen, by_btype, by_bterm, by_beqty, by_beqtm, by_rule, by_rulewith, by_inst, by_cong, by_convprem, by_convback, by_arg, by_natural, by_metainst}
use Rattle.ft_items.specs.Store.{Resolved}

-- the level of a rule at arguments, by the goal of its conclusion: the boundary of a type needs no premise
abbrev pub rule_level : Claim → ℕ
rule_level type_goal = 1
rule_level c = 5

-- the level of a step
abbrev pub level : Resolved → ℕ
level (by_var v) = 1
level (by_generic m) = 1
level (by_meta m ps) = 1
level (by_metacong m es) = 6
level (by_abs v p) = 1
level (by_subst p t) = 2
level (by_substeq p e) = 4
level (by_refl p) = cond (is_plain p.statement) 0 3
level (by_sym p) = 0
level (by_trans p q) = 1
level (by_conv p e) = 1
level (by_conveq p e) = 1
level (by_left p) = 3
level (by_right p) = 3
level (by_typeof p) = 3
level (by_domain p) = 3
level (by_boundary p) = 3
level (by_widen p q) = 1
level by_btype = 0
level (by_bterm p) = 0
level (by_beqty p q) = 1
level (by_beqtm p s t) = 1
level (by_rule r ps) = rule_level r.1.conclusion
level (by_rulewith r b ps) = 1
level (by_inst r ps) = 5
level (by_cong r ps es) = 6
level (by_convprem r ps es q) = 6
level (by_convback r ps es q) = 6
level (by_arg i p) = 7
level (by_natural p) = 7
level (by_metainst p ms qs) = 5
